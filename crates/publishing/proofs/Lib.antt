pub mod Copies
pub mod Refusing
pub mod Rows

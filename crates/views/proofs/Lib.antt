pub mod Seeing
pub mod Rows

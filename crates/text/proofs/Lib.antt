pub mod Text
pub mod Sizing
pub mod Making
pub mod Digits
pub mod Meaning
pub mod Examples

pub mod Numbering
pub mod Bytes

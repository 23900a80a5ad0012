pub mod Channels
pub mod Entries
pub mod Looking
pub mod Examples
pub mod Each

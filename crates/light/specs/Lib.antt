pub mod Light
pub mod Looks
pub mod Examples

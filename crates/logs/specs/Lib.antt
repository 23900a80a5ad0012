pub mod Log
pub mod Refused
pub mod Stored
pub mod Examples

pub mod Bytes
pub mod Valid
pub mod Same
pub mod Cases
pub mod Swreset
pub mod Profiles
pub mod Former
pub mod Answered

pub mod Calls
pub mod Operations
pub mod Tallies
pub mod Hosts
pub mod Instance
pub mod Profiles
pub mod Former

pub mod Steps
pub mod Judging
pub mod Fronts
pub mod Matches

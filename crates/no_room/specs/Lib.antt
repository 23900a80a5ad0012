pub mod Panels
pub mod Examples
pub mod Only
pub mod Kept
pub mod Functions
pub mod Promised
pub mod Impostors
pub mod Cases

pub mod Datas
pub mod Tests
pub mod Accepted
pub mod Commands
pub mod Moves
mod Passing

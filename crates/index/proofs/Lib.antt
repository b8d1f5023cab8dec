pub mod Keeping
pub mod Positions

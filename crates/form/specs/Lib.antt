pub mod Framing
pub mod Holdings
pub mod Indices
pub mod Restating
pub mod Targets
pub mod Wholes

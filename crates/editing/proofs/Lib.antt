pub mod Shapes
pub mod Places
pub mod Listed
pub mod Givens
pub mod Changes
pub mod Evaluated

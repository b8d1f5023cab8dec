pub mod Checks
pub mod Placing
pub mod Standing

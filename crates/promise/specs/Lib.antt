pub mod Runs
pub mod Commuting
pub mod Canonical
pub mod Examples

pub mod Slots
pub mod Targets
pub mod Edits
pub mod Asks
pub mod Amendments
pub mod Promise
pub mod Examples

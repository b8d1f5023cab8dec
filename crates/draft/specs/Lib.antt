pub mod Drafts
pub mod Calls
pub mod Checks
pub mod Promise

pub mod Bytes
pub mod Content
pub mod Fetch
pub mod Outcome
pub mod Refusals

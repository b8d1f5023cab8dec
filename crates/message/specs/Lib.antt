pub mod Sameness
pub mod Grammar
pub mod Promise
pub mod Meeting
pub mod Examples

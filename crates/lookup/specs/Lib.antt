pub mod Usages
pub mod Finding
pub mod Listing
pub mod Values

pub mod Keys
pub mod Laws
pub mod Limits
pub mod Rows
pub mod SameKeys

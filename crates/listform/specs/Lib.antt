pub mod Forms
pub mod Walks
pub mod Written

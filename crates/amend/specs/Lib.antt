pub mod Attachments
pub mod Changes
pub mod Cuts
pub mod Parts
pub mod Tables

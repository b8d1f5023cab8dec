pub mod Scans
pub mod Steps
pub mod TextScans
pub mod Texts

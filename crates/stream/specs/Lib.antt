pub mod Reading
pub mod Messages
pub mod Writing

pub mod Stages
pub mod Frames

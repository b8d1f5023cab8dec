pub mod Carrying
pub mod LawsOfKinds
pub mod ReadBack
pub mod Runs

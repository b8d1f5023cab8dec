pub mod Openings
pub mod Puts
pub mod Rewritten
pub mod Blank
pub mod Changing
pub mod Ends
pub mod Deciding
pub mod Loading

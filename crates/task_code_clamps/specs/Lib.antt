pub mod Clamps
pub mod Ranges
pub mod Steps

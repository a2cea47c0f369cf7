pub mod Groups
pub mod Lanes
pub mod Leaving

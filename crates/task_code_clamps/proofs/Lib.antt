pub mod Lying
pub mod Same
pub mod Stepping

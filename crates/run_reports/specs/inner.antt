pub mod Counting
pub mod Straight

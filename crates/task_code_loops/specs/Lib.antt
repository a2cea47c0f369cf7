pub mod Beginning
pub mod Bounds
pub mod Ending
pub mod Guarding
pub mod Known
pub mod Sums

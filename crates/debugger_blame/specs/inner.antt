pub mod Marked
pub mod Quiet

pub mod Evaluated
pub mod Reading
pub mod Slices
pub mod Writes
pub mod inner

pub mod StaysBytes
pub mod Putting
pub mod Words

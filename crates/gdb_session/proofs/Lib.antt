pub mod Bytes
pub mod Digits
pub mod Lines
pub mod Searches
pub mod Searching
pub mod Turns
pub mod Watching

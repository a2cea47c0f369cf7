pub mod Listing
pub mod Reaching
pub mod Reading

pub mod Held
pub mod KeptPlaces
pub mod Passing
pub mod Steps
pub mod Watching

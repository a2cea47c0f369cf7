pub mod Clearing
pub mod Counts
pub mod Marks
pub mod Places
pub mod Refusals
pub mod Stops
pub mod inner

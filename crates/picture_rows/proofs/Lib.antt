pub mod InPlace
pub mod Steps
pub mod Columns
pub mod BetweenBounds

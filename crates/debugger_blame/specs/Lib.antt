pub mod LastWrites
pub mod Marks
pub mod inner

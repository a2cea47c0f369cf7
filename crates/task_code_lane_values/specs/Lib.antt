pub mod inner
pub mod Leaving

pub mod AtOnce
pub mod Naming
pub mod Runs
pub mod inner

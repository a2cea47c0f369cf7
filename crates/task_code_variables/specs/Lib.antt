pub mod Collecting
pub mod Renaming
pub mod Splits
pub mod Statements
pub mod Tasks

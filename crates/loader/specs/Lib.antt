pub mod Fault
pub mod Image
pub mod Loading
pub mod Parts
pub mod Spelling

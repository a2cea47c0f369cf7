pub mod Dispatch
pub mod Failures

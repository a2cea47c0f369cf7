pub mod Following
pub mod Taking
pub mod Sizing

pub mod Following
pub mod Calling
pub mod Taking
pub mod Walking
pub mod Public
pub mod Sizing

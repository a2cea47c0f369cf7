pub mod Actives
pub mod Choices
pub mod Configurations
pub mod Groups
pub mod Parts
pub mod Zips
pub mod Whole

pub mod Found
pub mod Fronts
pub mod Instructions
pub mod Named
pub mod Placed
pub mod Ranges
pub mod Written

pub mod Sums
pub mod Lying
pub mod Division
pub mod Products
pub mod Operations
pub mod PixelWords
pub mod Walking
pub mod Rows

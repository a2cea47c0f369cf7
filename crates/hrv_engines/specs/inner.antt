pub mod Found
pub mod Fronts
pub mod LineCounts
pub mod MarkRows
pub mod Unended

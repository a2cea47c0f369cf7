pub mod SoFar
pub mod Kept
pub mod RunEnds

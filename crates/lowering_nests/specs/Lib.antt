pub mod Loops
pub mod Nests
pub mod LoopLanes
pub mod Runs
pub mod Sizes

pub mod Counting
pub mod Fitting
pub mod Running
pub mod Spanning
pub mod Standing
pub mod Walking

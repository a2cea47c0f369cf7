pub mod Keeping
pub mod Pairs
pub mod Trees
pub mod Folds
pub mod Seeing
pub mod Tracing
pub mod Earlier
pub mod Holding

pub mod Code
pub mod Doing
pub mod Evaluation
pub mod Faults
pub mod Fitting
pub mod Layout
pub mod Words

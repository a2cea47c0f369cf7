pub mod Differing
pub mod KeptPlans
pub mod Uses
pub mod Verdicts
pub mod Whole

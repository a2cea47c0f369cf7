pub mod ReadBack
pub mod Pushing

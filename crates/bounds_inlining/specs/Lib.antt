pub mod Inlining
pub mod Values
pub mod Laws
pub mod Passing
pub mod inner
pub mod Trees

pub mod Ranges
pub mod Expressions
pub mod Laws
pub mod Numbers
pub mod inner

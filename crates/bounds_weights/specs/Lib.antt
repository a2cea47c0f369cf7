pub mod Weight
pub mod inner

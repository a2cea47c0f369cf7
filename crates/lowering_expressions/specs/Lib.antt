pub mod Lowering
pub mod Needing
pub mod Sizing
pub mod inner

pub mod Accesses
pub mod Quiet
pub mod inner

pub mod Accesses
pub mod Operands
pub mod Operations
pub mod Vector
pub mod inner

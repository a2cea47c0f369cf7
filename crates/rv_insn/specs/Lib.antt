pub mod Encoding
pub mod Table
pub mod Trap
pub mod VectorTable

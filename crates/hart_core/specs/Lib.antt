pub mod HartState
pub mod Meanings
pub mod Scalar
pub mod Turn
pub mod VectorRows
pub mod inner

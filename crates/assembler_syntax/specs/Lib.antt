pub mod Statements
pub mod Tokens
pub mod inner

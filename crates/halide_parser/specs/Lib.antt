pub mod Expressions
pub mod Meaning
pub mod Parsing
pub mod Rules
pub mod inner

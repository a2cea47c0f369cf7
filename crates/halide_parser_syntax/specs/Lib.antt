pub mod Faults
pub mod Grammar
pub mod LineGrammar
pub mod Tokens
pub mod inner

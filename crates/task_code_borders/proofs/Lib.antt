pub mod BlindStatements
pub mod Blinding
pub mod Combining
pub mod Iterations
pub mod Meanings
pub mod Senses
pub mod Standing

pub mod Lying
pub mod Quads
pub mod Meant
pub mod WordRuns
pub mod Scattering
mod Registers

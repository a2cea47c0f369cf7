pub mod Areas
pub mod Lines
pub mod Maps
pub mod Names
pub mod Phases
pub mod Stages

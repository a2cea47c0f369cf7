pub mod PhaseRefusing
pub mod PhaseStanding
pub mod Setting
pub mod Sharing
pub mod Lengths
pub mod ProgramRefusing
pub mod ProgramStanding

pub mod Directives
pub mod Faults
pub mod Lines
pub mod Making

mod LastTurns
mod MarksMade
mod Outcomes
mod Passing
pub mod Quiet
pub mod Storing
pub mod WordsTouched
pub mod LastLeft

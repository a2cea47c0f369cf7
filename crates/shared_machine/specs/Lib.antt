pub mod Log
pub mod Refusals
pub mod Tallies
pub mod Seats
pub mod Endings
pub mod Driving
pub mod Running
pub mod inner

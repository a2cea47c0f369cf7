pub mod Laws
pub mod Callers
pub mod ConsumerLaws
pub mod Closure
pub mod Reached
pub mod Least
pub mod StandingWhere

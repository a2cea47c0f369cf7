pub mod Laws
pub mod RaceText
pub mod Races
pub mod inner

pub mod Alone
pub mod BytesPut
pub mod Framing
pub mod Resting
pub mod Stepping
pub mod TurnByTurn
pub mod Turning

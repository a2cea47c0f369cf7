pub mod Accepted
pub mod Legal
pub mod Placements
pub mod Plans
pub mod Reading
pub mod Uses

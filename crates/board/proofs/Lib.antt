pub mod Counting
pub mod Moves
pub mod Handing
pub mod Dealt

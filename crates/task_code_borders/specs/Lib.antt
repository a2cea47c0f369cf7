pub mod Blind
pub mod Borders
pub mod Parted

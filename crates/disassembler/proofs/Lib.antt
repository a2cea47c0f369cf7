mod AddressedLines
mod Comments
pub mod Digits
pub mod LinesListed
pub mod Numerals
pub mod Shown
pub mod Single
pub mod Slots
pub mod Statements
pub mod Tokens
pub mod Words

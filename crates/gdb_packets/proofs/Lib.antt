pub mod Unescaping
pub mod FrameLaws
pub mod EscapeLaws
pub mod DigitLaws
pub mod WrittenLaws
pub mod KeptLaws
pub mod Pieces

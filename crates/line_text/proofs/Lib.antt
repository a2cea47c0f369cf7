pub mod FirstFault
pub mod LineLaws
pub mod LinesBack
pub mod Numerals
pub mod ReadingLaws
pub mod SpanLaws

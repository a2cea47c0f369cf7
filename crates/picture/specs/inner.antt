pub mod Apart
pub mod Evaluation
pub mod Lines
pub mod Memos
pub mod UpdateRows
pub mod PixelRows
pub mod Together

pub mod Complete
pub mod LinesBack
pub mod Making
pub mod MakingLines
pub mod Refusals
pub mod Sound
pub mod TokenLoop
pub mod Tops

pub mod Laws
pub mod TraceText

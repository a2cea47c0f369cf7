pub mod Places
pub mod Uses
pub mod Points
pub mod RunBytes
pub mod Settings
pub mod Held
pub mod Runs
pub mod Sharing
pub mod Whole
-- of the generator, passed on
pub use Rattle.vector_codegen.specs.PhaseCode
pub use Rattle.vector_codegen.specs.Programs

pub mod PhaseCode
pub mod Sharing
pub mod Programs
pub mod inner
pub use Rattle.task_code.specs.AtOnce

pub mod Example
pub mod Faults
pub mod Tasks
pub mod inner
pub use Rattle.task_code_statements.specs.AtOnce

pub mod Uses
pub mod Alone
pub mod Paths
pub mod Groups
pub mod LaneMemory
pub mod FirstGroup
pub use Rattle.hart_core.specs.Scalar
pub use Rattle.multi_hart.specs.Run

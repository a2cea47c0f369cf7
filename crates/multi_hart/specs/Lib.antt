pub mod Parts
pub mod Run
pub mod Snapshots
pub mod TurnsInARow
pub mod inner
pub use Rattle.rv_encoding.specs.Decoding

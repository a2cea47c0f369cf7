pub mod Decoding
pub mod Formats
pub use Rattle.operation_keys.specs.Operations

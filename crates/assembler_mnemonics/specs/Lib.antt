pub mod Configuration
pub mod Forms
pub mod Named
pub mod Placing
pub mod Registers
pub mod Slots
pub mod inner

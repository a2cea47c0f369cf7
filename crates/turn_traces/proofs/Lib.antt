pub mod Lines
mod Registers

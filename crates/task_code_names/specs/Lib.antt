pub mod Alike
pub mod Copies
pub mod Names

pub mod Clamps

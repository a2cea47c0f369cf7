pub mod Capping

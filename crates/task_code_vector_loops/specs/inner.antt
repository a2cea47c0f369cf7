pub mod Far
pub mod Going
pub mod Making
pub mod Parting

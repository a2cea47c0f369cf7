pub mod Numbers
pub mod Trims
pub mod Frames
pub mod Contents
pub mod Laws
pub mod Joined

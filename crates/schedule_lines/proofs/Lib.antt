mod FrontWords
pub mod Names
pub mod Reordering
pub mod Replacing
pub mod Steps

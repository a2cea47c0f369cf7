pub mod Closing
pub mod Ending
pub mod Rule
pub mod Steps
pub mod Tokens

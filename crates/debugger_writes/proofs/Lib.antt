pub mod Laying
pub mod Marking
pub mod Outcomes
pub mod Untouched

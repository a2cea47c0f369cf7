pub mod Judging
pub mod KeptLaws
pub mod LogFields
pub mod LogLaws
pub mod RunAtLaws
pub mod RunLaws

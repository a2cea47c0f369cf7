pub mod Profile
pub mod ProfileText
pub mod inner

pub mod LogSpelling
pub mod RunAt
pub mod TurnLog
pub mod inner

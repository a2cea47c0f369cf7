pub mod ReadBack
pub mod RunsInTurn

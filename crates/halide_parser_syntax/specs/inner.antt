-- How lines are read, by a machine with a stack. What it gives is said by the grammar alone (`FollowsGrammar`), and proved on the
-- calls of `src/laws.rt`.
pub mod Algebra
pub mod LineReading
pub mod Machine
pub mod Reversed

pub mod Capping
pub mod Keeping
pub mod Labels
pub mod NextToken
pub mod OperandFronts
pub mod Pieces

pub mod Ahead
-- What the code knows of an expression while it reads its tokens. What follows from it for a line is what `Rules` and `Meaning` say of the
-- expression as it is written.
pub mod Judging
pub mod JudgedLines

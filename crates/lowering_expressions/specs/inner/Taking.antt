-- How many registers what stands for variables and for arguments needs. Words of private functions.
-- This project's own.
use Rattle.std.specs.Prelude.{◌≡◌, ◌≤◌, ℕ, ◌+◌, max, Option, Some, None}
use Rattle.halide_pipeline.specs.declared.expressions.Variable.{Variable}
use Rattle.halide_pipeline.specs.declared.expressions.Variable.TheVariants as variables
use Rattle.loop_ir.specs.declared.expressions.Expr.{Expr}
use Rattle.loop_ir.specs.declared.expressions.Expr.TheVariants as e
use Rattle.loop_ir.specs.Needs.{need}
use Rattle.lowering_expressions.specs.declared.lowering.Terms.{Terms}

-- of what stands for a variable
abbrev pub term_need : Terms → Variable → ℕ
term_need terms variables.FirstArgument = need terms.first_argument.now
term_need terms variables.SecondArgument = need terms.second_argument.now
term_need terms variables.FirstReduction = need terms.first_reduction.now
term_need terms variables.SecondReduction = need terms.second_reduction.now

-- no more than these
abbrev pub AreTaken : Terms → (Variable → ℕ) → Type 0
AreTaken terms most = (v : Variable) → term_need terms v ≤ most v

-- a second argument that needs no more, or 0 where there is none
abbrev pub IsSecond : Expr → Option ℕ → Type 0
IsSecond y None = y ≡ e.Number 0
IsSecond y (Some most) = need y ≤ most

-- a call that isn't inlined
abbrev pub call_need : ℕ → Option ℕ → ℕ
call_need left None = left
call_need left (Some right) = max left (1 + right)

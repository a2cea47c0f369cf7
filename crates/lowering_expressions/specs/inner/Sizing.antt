-- How many words what stands for variables and for arguments asks for. Words of private functions.
-- This project's own.
use Rattle.std.specs.Prelude.{◌≡◌, ℕ, ◌+◌, Option, Some, None}
use Rattle.halide_pipeline.specs.declared.expressions.Variable.{Variable}
use Rattle.halide_pipeline.specs.declared.expressions.Variable.TheVariants as variables
use Rattle.loop_ir.specs.declared.expressions.Expr.{Expr}
use Rattle.loop_ir.specs.declared.expressions.Expr.TheVariants as e
use Rattle.loop_ir.specs.Sizes.{size}
use Rattle.lowering_expressions.specs.declared.lowering.Terms.{Terms}
use Rattle.lowering_expressions.specs.Sizing.{IsGiven}

-- of what stands for a variable
abbrev pub term_size : Terms → Variable → ℕ
term_size terms variables.FirstArgument = size terms.first_argument.now
term_size terms variables.SecondArgument = size terms.second_argument.now
term_size terms variables.FirstReduction = size terms.first_reduction.now
term_size terms variables.SecondReduction = size terms.second_reduction.now

-- no more than this many nodes are given
abbrev pub AreGiven : Terms → (Variable → ℕ) → Type 0
AreGiven terms nodes = (v : Variable) → IsGiven (term_size terms v) (nodes v)

-- a second argument of this many nodes, or 0 where there is none
abbrev pub IsGivenSecond : Expr → Option ℕ → Type 0
IsGivenSecond y None = y ≡ e.Number 0
IsGivenSecond y (Some nodes) = IsGiven (size y) nodes

-- a call that isn't inlined
abbrev pub call_nodes : ℕ → Option ℕ → ℕ
call_nodes left None = 1 + left
call_nodes left (Some right) = 1 + left + right

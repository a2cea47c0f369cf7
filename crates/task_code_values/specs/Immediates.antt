-- Operations with a literal, which an instruction holds. This project's own.
use Rattle.std.specs.Prelude.{◌≡◌, ◌<◌, ℕ, ◌+◌, ◌*◌, ◌%◌, ◌^◌}
use Rattle.halide_pipeline.specs.declared.expressions.Operation.{Operation}
use Rattle.halide_pipeline.specs.Words as word
use Rattle.loop_ir.specs.declared.expressions.Expr.{Expr}
use Rattle.loop_ir.specs.declared.expressions.Expr.TheVariants as expressions
use Rattle.task_code_values.specs.declared.immediates.Immediate.{Immediate}
use Rattle.task_code_values.specs.declared.immediates.Immediate.TheVariants as immediates

-- what is made of a word
abbrev pub immediate_value : Immediate → ℕ → ℕ
immediate_value (immediates.Plus n) v = (v + n) % 2 ^ 32
immediate_value (immediates.Times n) v = (v * n) % 2 ^ 32

-- an operation with a number makes that
abbrev pub IsImmediateNumber : Operation → ℕ → Immediate → Type 0
IsImmediateNumber operation n immediate = (v : ℕ) → v < 2 ^ 32
    → word.applied operation v n ≡ immediate_value immediate v

-- so it is with an expression that is a number
pub record IsImmediate (operation : Operation) (e : Expr) (immediate : Immediate) : Type 0 where
  pub number : ℕ
  pub is : e ≡ expressions.Number number
  pub small : number < 2 ^ 32
  pub makes : IsImmediateNumber operation number immediate

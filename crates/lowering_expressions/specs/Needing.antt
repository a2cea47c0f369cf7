-- How many registers a definition needs at once, with its inlined Funcs put in place.
-- This project's own.
use Rattle.std.specs.Prelude.{ℕ, ◌+◌, max}
use Rattle.halide_pipeline.specs.declared.expressions.Expr.TheOpen.{Expr-F}
use Rattle.halide_pipeline.specs.declared.expressions.Expr.TheOpen as layer
use Rattle.bounds_inlining.specs.Inlining.{Algebra}
use Rattle.loop_ir.specs.Needs.{divisor_need}

-- as parts of a definition are weighed, but that no registers suffice for a quotient by 0
abbrev pub taken_at : Expr-F ℕ → ℕ
taken_at (layer.Number n) = 1
taken_at (layer.Variable v) = 1
taken_at (layer.Binary op a b) = max a (1 + b)
taken_at (layer.Divide a c) = max a (divisor_need c)
taken_at (layer.Remainder a c) = max a (divisor_need c)
taken_at (layer.Select c a b) = max c (max (1 + a) (2 + b))
taken_at (layer.Call1 s a) = a
taken_at (layer.Call2 s a b) = max a (1 + b)

unfoldable pub taking : Algebra ℕ
taking = record { level = taken_at; argument = λ x. x; call = λ func n x y. n }

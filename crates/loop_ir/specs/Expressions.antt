-- What expressions come to, under values of counters and where buffers hold this, and what they load.
-- This project's own.
use Rattle.std.specs.Prelude.{◌≡◌, ℕ, ◌+◌, ◌*◌, ◌%◌, ◌^◌, ◌==◌, if◌then◌else◌, List, [], ◌∷◌, ◌++◌}
use Rattle.halide_pipeline.specs.Words as word
use Rattle.halide_pipeline.specs.Pixel.{Reads}
use Rattle.halide_pipeline.specs.Points.{Point, Seen, Agree}
use Rattle.loop_ir.specs.declared.expressions.Expr.{Expr, fold-Expr, map-Expr}
use Rattle.loop_ir.specs.declared.expressions.Expr.TheOpen.{Expr-F}
use Rattle.loop_ir.specs.declared.expressions.Expr.TheOpen as layer
use Rattle.loop_ir.specs.declared.expressions.Linear.{Linear}
use Rattle.loop_ir.specs.declared.expressions.Term.{Term}
use Rattle.loop_ir.specs.Counters.{Values}

-- ---- values

-- each counter times its stride
abbrev pub sum_of : Values → List Term → ℕ
sum_of values [] = 0
sum_of values (first ∷ others) = values first.counter * first.stride + sum_of values others

unfoldable pub linear_value : Values → Linear → ℕ
linear_value values sum = (sum.number + sum_of values sum.terms) % 2 ^ 32

abbrev pub value_at : Reads → Values → Expr-F ℕ → ℕ
value_at reads values (layer.Number n) = n
value_at reads values (layer.Linear own) = linear_value values own
value_at reads values (layer.Binary operation a b) = word.applied operation a b
value_at reads values (layer.Divide a c) = word.divide a c
value_at reads values (layer.Remainder a c) = word.remainder a c
value_at reads values (layer.Select c a b) = if c == 0 then b else a
value_at reads values (layer.Load source x y) = reads source x y

unfoldable pub value : Reads → Values → Expr → ℕ
value reads values e = fold-Expr ℕ (value_at reads values) e

-- ---- loads

-- Both arms of a select are evaluated. A load is after those of its indexes.
abbrev pub loads_at : Expr-F Seen → List Point
loads_at (layer.Number n) = []
loads_at (layer.Linear own) = []
loads_at (layer.Binary operation a b) = a.points ++ b.points
loads_at (layer.Divide a c) = a.points
loads_at (layer.Remainder a c) = a.points
loads_at (layer.Select c a b) = c.points ++ (a.points ++ b.points)
loads_at (layer.Load source x y) = (x.points ++ y.points) ++ (record { source = source; x = x.value; y = y.value } ∷ [])

abbrev pub seen_at : Reads → Values → Expr-F Seen → Seen
seen_at reads values e = record { value = value_at reads values (map-Expr Seen ℕ (λ part. part.value) e); points = loads_at e }

-- an expression's value, and the points that it loads
unfoldable pub seen : Reads → Values → Expr → Seen
seen reads values e = fold-Expr Seen (seen_at reads values) e

-- every load that evaluating makes
abbrev pub loads : Reads → Values → Expr → List Point
loads reads values e = (seen reads values e).points

-- ---- what depends on loads alone

-- an expression's value is that which is seen
abbrev pub SeesValues : Type 0
SeesValues = (reads : Reads) (values : Values) (e : Expr) → (seen reads values e).value ≡ value reads values e

-- and it depends on what is loaded alone
abbrev pub ValuesDependOnLoads : Type 0
ValuesDependOnLoads = (reads other : Reads) (values : Values) (e : Expr) → Agree reads other (loads reads values e) → value other values e
    ≡ value reads values e

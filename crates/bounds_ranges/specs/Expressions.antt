-- The range of an expression with its inlined Funcs put in place, and the ranges of the points that it reads.
-- This project's own.
use Rattle.std.specs.Prelude.{ℕ, ◌+◌, ◌-◌, ◌^◌, Bool, true, false, not, ◌&&◌, ◌||◌, if◌then◌else◌, List, [], ◌∷◌, ◌++◌, Option, Some, None, slice_get}
use Rattle.std.specs.List.{AllByRecursion}
use Rattle.halide_pipeline.specs.declared.definitions.Func.{Func}
use Rattle.halide_pipeline.specs.declared.definitions.Input.{Input}
use Rattle.halide_pipeline.specs.declared.expressions.Expr.{Expr, fold-Expr, map-Expr}
use Rattle.halide_pipeline.specs.declared.expressions.Expr.TheOpen.{Expr-F}
use Rattle.halide_pipeline.specs.declared.expressions.Expr.TheOpen as layer
use Rattle.halide_pipeline.specs.declared.expressions.Source.{Source}
use Rattle.halide_pipeline.specs.declared.expressions.Source.TheVariants as sources
use Rattle.halide_pipeline.specs.declared.expressions.Variable.{Variable}
use Rattle.halide_pipeline.specs.declared.expressions.Variable.TheVariants as variables
use Rattle.halide_pipeline.specs.WellFormed.{is_own_call}
use Rattle.bounds_inlining.specs.Inlining.{Algebra, inlined, inside, through_at, flagged}
use Rattle.bounds_ranges.specs.declared.expressions.ReadRange.{ReadRange}
use Rattle.bounds_ranges.specs.declared.expressions.OwnCalls.{OwnCalls}
use Rattle.bounds_ranges.specs.declared.expressions.Variables.{Variables}
use Rattle.bounds_ranges.specs.declared.ranges.Range.{Range}
use Rattle.bounds_ranges.specs.Ranges.{no_base, IsFit, between, fit, every, literal, together, hull, divided, remainders, operated}
use Rattle.bounds_ranges.specs.Numbers.{origin}

abbrev pub pixels_of : Option Input → Range
pixels_of None = every
pixels_of (Some input) = if input.is_bytes then between origin (origin + 255) else every

-- the range of what a source answers: bytes, or any word
abbrev pub called : List Input → Source → Range
called inputs (sources.Input place) = pixels_of (slice_get inputs place)
called inputs (sources.Func place) = every

-- one level of an expression
abbrev pub range_at : List ℕ → List Input → Expr-F Range → Range
range_at lasts inputs (layer.Number n) = literal lasts n
range_at lasts inputs (layer.Variable v) = every
range_at lasts inputs (layer.Binary operation a b) = operated lasts operation a b
range_at lasts inputs (layer.Divide a c) = divided lasts a c
range_at lasts inputs (layer.Remainder a c) = remainders lasts c
range_at lasts inputs (layer.Select c a b) = together lasts hull a b
range_at lasts inputs (layer.Call1 source x) = called inputs source
range_at lasts inputs (layer.Call2 source x y) = called inputs source

-- the range of a part, and of each point that it reads: those of its indexes, of which one that isn't written is 0
pub record Ranged : Type 0 where
  pub range : Range
  pub asked : List ReadRange

abbrev pub asked_at : List ℕ → Expr-F Ranged → List ReadRange
asked_at lasts (layer.Number n) = []
asked_at lasts (layer.Variable v) = []
asked_at lasts (layer.Binary operation a b) = a.asked ++ b.asked
asked_at lasts (layer.Divide a c) = a.asked
asked_at lasts (layer.Remainder a c) = a.asked
asked_at lasts (layer.Select c a b) = c.asked ++ (a.asked ++ b.asked)
asked_at lasts (layer.Call1 source x) = x.asked ++ (record { source = source; x = x.range; y = literal lasts 0 } ∷ [])
asked_at lasts (layer.Call2 source x y) = (x.asked ++ y.asked) ++ (record { source = source; x = x.range; y = y.range } ∷ [])

abbrev pub ranged_at : List ℕ → List Input → Expr-F Ranged → Ranged
ranged_at lasts inputs e = record { range = range_at lasts inputs (map-Expr Ranged Range (λ part. part.range) e); asked = asked_at lasts e }

-- a range of which nothing is asked
abbrev pub unasked : Range → Ranged
unasked range = record { range = range; asked = [] }

abbrev pub second_asked : Option Ranged → List ReadRange
second_asked None = []
second_asked (Some y) = y.asked

-- A call of an inlined Func has the range of its expression. What its arguments read is asked once, whether or not the
-- Func uses them.
unfoldable pub ranging : List ℕ → List Input → Algebra Ranged
ranging lasts inputs = record {
  level = ranged_at lasts inputs;
  argument = λ x. unasked x.range;
  call = λ func r x y. record { range = r.range; asked = x.asked ++ (second_asked y ++ r.asked) };
}

abbrev pub unasked_variable : (Variable → Range) → Variable → Ranged
unasked_variable ranges v = unasked (ranges v)

-- of an expression, where its variables have these ranges
abbrev pub ranged : List ℕ → List Input → (ℕ → Bool) → List Func → ℕ → (Variable → Range) → Expr → Ranged
ranged lasts inputs is_inlined funcs count ranges e = inlined (ranging lasts inputs) is_inlined funcs count (unasked_variable ranges) e

-- ---- updates
--
-- In an index of a left side, or of a call of the own Func, that doesn't stand in place, each argument may be anywhere
-- from -2^24 to 2^24, also inside the calls in that index.

-- the ranges of an update's variables, where arguments may be anywhere and where not
abbrev pub ranges_where : List ℕ → (Variable → Range) → Bool → Variable → Range
ranges_where lasts ranges false v = ranges v
ranges_where lasts ranges true variables.FirstArgument = fit lasts no_base (record { low = origin - 2 ^ 24; high = origin + 2 ^ 24 })
ranges_where lasts ranges true variables.SecondArgument = fit lasts no_base (record { low = origin - 2 ^ 24; high = origin + 2 ^ 24 })
ranges_where lasts ranges true v = ranges v

-- In an index of this call arguments may be anywhere: so it is around the call, or the call is of the own Func and the
-- index doesn't stand in place.
abbrev pub is_anywhere : OwnCalls → Bool → Source → Bool → Bool
is_anywhere own_calls around source in_place = around || (is_own_call own_calls.func source && not in_place)

-- a level, each of whose parts is ranged both ways, as it is ranged where arguments may be anywhere or not
abbrev pub chosen : OwnCalls → Bool → Expr-F (Bool → Ranged) → Expr-F Ranged
chosen own_calls around (layer.Number n) = layer.Number n
chosen own_calls around (layer.Variable v) = layer.Variable v
chosen own_calls around (layer.Binary operation a b) = layer.Binary operation (a around) (b around)
chosen own_calls around (layer.Divide a c) = layer.Divide (a around) c
chosen own_calls around (layer.Remainder a c) = layer.Remainder (a around) c
chosen own_calls around (layer.Select c a b) = layer.Select (c around) (a around) (b around)
chosen own_calls around (layer.Call1 source x) = layer.Call1 source
    (x (is_anywhere own_calls around source own_calls.first_in_place))
chosen own_calls around (layer.Call2 source x y) =
    layer.Call2 source (x (is_anywhere own_calls around source own_calls.first_in_place)) (y (is_anywhere own_calls around source own_calls.second_in_place))

-- of an expression of an update, where arguments may be anywhere and where not
unfoldable pub ranged_update : List ℕ → List Input → (ℕ → Bool) → List Func → ℕ → OwnCalls → (Variable → Range) → Expr → Bool → Ranged
ranged_update lasts inputs is_inlined funcs count own_calls ranges e =
    fold-Expr (Bool → Ranged)
    (λ level around.
    through_at (ranging lasts inputs) (inside (ranging lasts inputs) is_inlined funcs count) (unasked_variable (ranges_where lasts ranges around))
    (chosen own_calls around level))
    e

-- ---- as code has them

abbrev pub range_of : Variables → Variable → Range
range_of given variables.FirstArgument = given.first_argument
range_of given variables.SecondArgument = given.second_argument
range_of given variables.FirstReduction = given.first_reduction
range_of given variables.SecondReduction = given.second_reduction

-- no range leaves the words
abbrev pub AreFit : List ℕ → Variables → Type 0
AreFit lasts given = (v : Variable) → IsFit lasts (range_of given v)

-- nor do those in which points are read
abbrev pub IsFitRead : List ℕ → ReadRange → Type 0
IsFitRead lasts read = IsFit lasts read.x × IsFit lasts read.y

unfoldable pub AreFitReads : List ℕ → List ReadRange → Type 0
AreFitReads lasts reads = AllByRecursion (IsFitRead lasts) reads

-- the flagged Funcs are inlined
abbrev pub walked : List ℕ → List Input → List Bool → List Func → ℕ → Variables → Expr → Ranged
walked lasts inputs flags funcs count given e = ranged lasts inputs (flagged flags) funcs count (range_of given) e

abbrev pub walked_update : List ℕ → List Input → List Bool → List Func → ℕ → OwnCalls → Bool → Variables → Expr → Ranged
walked_update lasts inputs flags funcs count own_calls around given e = ranged_update lasts inputs (flagged flags) funcs count own_calls (range_of given) e around

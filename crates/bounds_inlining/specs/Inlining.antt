-- What is made of an expression through its inlined Funcs: a call of one is answered by what is made of that Func's
-- pure definition, where its arguments stand for what is made of those of the call.
-- This project's own.
use Rattle.std.specs.Prelude.{ℕ, zero, suc, ◌==◌, ◌&&◌, nat_lt, Bool, true, false, not, if◌then◌else◌, List, Option, Some, None, slice_get, ◌+◌, max}
use Rattle.halide_pipeline.specs.declared.definitions.Func.{Func}
use Rattle.halide_pipeline.specs.declared.expressions.Expr.{Expr, fold-Expr}
use Rattle.halide_pipeline.specs.declared.expressions.Expr.TheOpen.{Expr-F}
use Rattle.halide_pipeline.specs.declared.expressions.Expr.TheOpen as layer
use Rattle.halide_pipeline.specs.declared.expressions.Source.{Source}
use Rattle.halide_pipeline.specs.declared.expressions.Source.TheVariants as sources
use Rattle.halide_pipeline.specs.declared.expressions.Variable.{Variable}
use Rattle.halide_pipeline.specs.declared.expressions.Variable.TheVariants as variables
use Rattle.halide_pipeline.specs.Expressions.{nodes_at, uses}

pub record Algebra (A : Type 0) : Type 0 where
  -- what is made of a level from what is made of its parts
  pub level : Expr-F A → A
  -- what stands for an argument in the definition of an inlined Func, by what is made of that argument
  pub argument : A → A
  -- what is made of a call of an inlined Func, from what is made of its definition, of the first argument, and of the
  -- second one where there are two
  pub call : Func → A → A → Option A → A

-- what stands for an argument that isn't there
abbrev pub none : {A : Type 0} → Algebra A → A
none algebra = algebra.level (layer.Number 0)

abbrev pub second_of : {A : Type 0} → A → Option A → A
second_of missing None = missing
second_of missing (Some y) = y

-- what stands for the variables of a pure definition
abbrev pub arguments : {A : Type 0} → A → A → A → Variable → A
arguments other x y variables.FirstArgument = x
arguments other x y variables.SecondArgument = y
arguments other x y variables.FirstReduction = other
arguments other x y variables.SecondReduction = other

-- what answers calls of the Func at each place, where that is inlined
abbrev pub Inside : Type 0 → Type 0
Inside A = ℕ → Option (A → Option A → A)

abbrev pub answer : {A : Type 0} → Inside A → Source → Option (A → Option A → A)
answer inside (sources.Input place) = None
answer inside (sources.Func place) = inside place

-- a call that isn't inlined is the other
abbrev pub answered : {A : Type 0} → A → A → Option A → Option (A → Option A → A) → A
answered other x y None = other
answered other x y (Some inlined) = inlined x y

abbrev pub through_at : {A : Type 0} → Algebra A → Inside A → (Variable → A) → Expr-F A → A
through_at algebra inside variables (layer.Number n) = algebra.level (layer.Number n)
through_at algebra inside variables (layer.Variable v) = variables v
through_at algebra inside variables (layer.Binary op a b) = algebra.level (layer.Binary op a b)
through_at algebra inside variables (layer.Divide a c) = algebra.level (layer.Divide a c)
through_at algebra inside variables (layer.Remainder a c) = algebra.level (layer.Remainder a c)
through_at algebra inside variables (layer.Select c a b) = algebra.level (layer.Select c a b)
through_at algebra inside variables (layer.Call1 s x) = answered (algebra.level (layer.Call1 s x)) x None (answer inside s)
through_at algebra inside variables (layer.Call2 s x y) = answered (algebra.level (layer.Call2 s x y)) x (Some y) (answer inside s)

-- what is made of an expression, where its variables stand for these
unfoldable pub through : {A : Type 0} → Algebra A → Inside A → (Variable → A) → Expr → A
through {A} algebra inside variables e = fold-Expr A (through_at algebra inside variables) e

abbrev pub made_of : {A : Type 0} → Algebra A → Inside A → Func → A → Option A → A
made_of algebra inside func x y =
    algebra.call func (through algebra inside (arguments (none algebra) (algebra.argument x) (algebra.argument (second_of (none algebra) y))) func.pure) x y

abbrev pub made_in : {A : Type 0} → Algebra A → Inside A → Option Func → Option (A → Option A → A)
made_in algebra inside None = None
made_in algebra inside (Some func) = Some (made_of algebra inside func)

-- the first this many Funcs, of which these are inlined
unfoldable pub inside : {A : Type 0} → Algebra A → (ℕ → Bool) → List Func → ℕ → Inside A
inside algebra is_inlined funcs zero place = None
inside algebra is_inlined funcs (suc count) place =
    if is_inlined place && place == count then made_in algebra (inside algebra is_inlined funcs count) (slice_get funcs count)
    else inside algebra is_inlined funcs count place

-- what is made of an expression that calls the first this many Funcs
abbrev pub inlined : {A : Type 0} → Algebra A → (ℕ → Bool) → List Func → ℕ → (Variable → A) → Expr → A
inlined algebra is_inlined funcs count variables e = through algebra (inside algebra is_inlined funcs count) variables e

-- ---- which Funcs are inlined

abbrev pub flag_of : Option Bool → Bool
flag_of None = false
flag_of (Some own) = own

-- the Funcs whose flags are set
abbrev pub flagged : List Bool → ℕ → Bool
flagged flags func_index = flag_of (slice_get flags func_index)

-- an input, or a Func that isn't inlined
abbrev pub is_computed : (ℕ → Bool) → Source → Bool
is_computed is_inlined (sources.Input place) = true
is_computed is_inlined (sources.Func place) = not (is_inlined place)

-- the Func at a place, if it is one of the first this many and is inlined
abbrev pub func_in : List Func → (ℕ → Bool) → ℕ → ℕ → Option Func
func_in funcs is_inlined count func_index = if nat_lt func_index count && is_inlined func_index then slice_get funcs
    func_index else None

-- ---- How many nodes an expression has with its inlined Funcs put in place, and how many registers its parts need at once.

-- an argument that isn't used counts once
abbrev pub dropped : Bool → ℕ → ℕ
dropped is_used n = if is_used then 0 else n

abbrev pub dropped_second : Bool → Option ℕ → ℕ
dropped_second is_used None = 0
dropped_second is_used (Some n) = dropped is_used n

-- A clamp counts as its minimum and maximum, `-a` as `0 - a`, a divisor as a number. Each argument of an inlined Func
-- counts wherever it is used, and once where it isn't.
unfoldable pub counting : Algebra ℕ
counting = record {
  level = nodes_at;
  argument = λ x. x;
  call = λ func n x y. n + dropped (uses variables.FirstArgument func.pure) x + dropped_second (uses variables.SecondArgument func.pure) y;
}

-- A number or variable needs 1. Of several parts the second waits for the first, and the third for both. A divisor is
-- a second part that needs 1.
abbrev pub need_at : Expr-F ℕ → ℕ
need_at (layer.Number n) = 1
need_at (layer.Variable v) = 1
need_at (layer.Binary op a b) = max a (1 + b)
need_at (layer.Divide a c) = max a 2
need_at (layer.Remainder a c) = max a 2
need_at (layer.Select c a b) = max c (max (1 + a) (2 + b))
need_at (layer.Call1 s a) = a
need_at (layer.Call2 s a b) = max a (1 + b)

-- an argument that isn't used needs nothing
unfoldable pub needing : Algebra ℕ
needing = record { level = need_at; argument = λ x. x; call = λ func n x y. n }

-- What inlining keeps.
-- This project's own.
use Rattle.std.specs.Prelude.{◌≡◌, ℕ, suc, Bool, true, false, List, [], length, slice_get, Option, Some, None}
use Rattle.halide_pipeline.specs.declared.definitions.Func.{Func}
use Rattle.halide_pipeline.specs.declared.definitions.Input.{Input}
use Rattle.halide_pipeline.specs.declared.expressions.Expr.{Expr, map-Expr}
use Rattle.halide_pipeline.specs.declared.expressions.Expr.TheOpen.{Expr-F}
use Rattle.halide_pipeline.specs.declared.expressions.Source.{Source}
use Rattle.halide_pipeline.specs.declared.expressions.Source.TheVariants as sources
use Rattle.halide_pipeline.specs.declared.expressions.Variable.{Variable}
use Rattle.halide_pipeline.specs.WellFormed.{keeps, keeps_at, is_read, IsFunc}
use Rattle.halide_pipeline.specs.declared.environments.Environment.{Environment}
use Rattle.halide_pipeline.specs.Pixel.{Plane, Planes, Reads, value, variable, reads_of, with_plane, pixels}
use Rattle.halide_pipeline.specs.Points.{Agree, Seen}
use Rattle.halide_pipeline.specs.Levels.{Both, left_of, right_of}
use Rattle.bounds_inlining.specs.Inlining.{Algebra, inlined, is_computed}
use Rattle.bounds_inlining.specs.Values.{values, seeing}

-- the Funcs of a pipeline
abbrev pub AreFuncs : List Input → List Func → Type 0
AreFuncs inputs funcs = (func_index : ℕ) (func : Func) → slice_get funcs func_index ≡ Some func
    → IsFunc inputs funcs func_index func

-- a Func that is inlined has no updates
abbrev pub AreSimple : (ℕ → Bool) → List Func → Type 0
AreSimple is_inlined funcs = (func_index : ℕ) (func : Func) → slice_get funcs func_index ≡ Some func → is_inlined func_index ≡ true → length func.updates ≡ 0

-- ---- two folds

-- At each level that isn't a variable or a call of an inlined Func, two algebras make related things of related
-- things. Numbers and divisors are those of a pipeline.
abbrev pub RelatesLevels : {A B : Type 0} → (A → B → Type 0) → (ℕ → Bool) → Algebra A → Algebra B → Type 0
RelatesLevels {A} {B} R is_inlined p q = (level : Expr-F (Both R))
    → keeps_at (λ s n. is_computed is_inlined s) (λ v. false) (map-Expr (Both R) Bool (λ part. true) level) ≡ true
    → R (p.level (left_of R level)) (q.level (right_of R level))

abbrev pub RelatesSeconds : {A B : Type 0} → (A → B → Type 0) → Option A → Option B → Type 0
RelatesSeconds R None None = Unit {0}
RelatesSeconds R None (Some z) = ⊥
RelatesSeconds R (Some y) None = ⊥
RelatesSeconds R (Some y) (Some z) = R y z

abbrev pub RelatesCalls : {A B : Type 0} → (A → B → Type 0) → Algebra A → Algebra B → Type 0
RelatesCalls {A} {B} R p q = (func : Func) (v x : A) (y : Option A) (w z : B) (u : Option B)
    → R v w → R x z → RelatesSeconds R y u → R (p.call func v x y) (q.call func w z u)

abbrev pub RelatesArguments : {A B : Type 0} → (A → B → Type 0) → Algebra A → Algebra B → Type 0
RelatesArguments {A} {B} R p q = (x : A) (z : B) → R x z → R (p.argument x) (q.argument z)

-- They then make related things of each expression of a pipeline, whose variables stand for related things.
abbrev pub FoldsAreRelated : {A B : Type 0} → (A → B → Type 0) → Type 0
FoldsAreRelated {A} {B} R = (p : Algebra A) (q : Algebra B) (is_inlined : ℕ → Bool) (inputs : List Input) (funcs : List Func) → AreFuncs inputs funcs
    → RelatesLevels R is_inlined p q → RelatesArguments R p q → RelatesCalls R p q
    → (count : ℕ) (has : Variable → Bool) (left : Variable → A) (right : Variable → B) → ((v : Variable) → has v ≡ true → R (left v) (right v))
    → (e : Expr) → keeps (is_read inputs funcs count) has e ≡ true → R (inlined p is_inlined funcs count left e) (inlined q is_inlined funcs count right e)

-- ---- values

-- The inputs and those of the first this many Funcs that are computed answer by their pixels.
abbrev pub AnswerPixels : Reads → (ℕ → Bool) → List Input → List Func → Planes → ℕ → Type 0
AnswerPixels reads is_inlined inputs funcs planes count = (s : Source) (n x y : ℕ) → is_computed is_inlined s ≡ true → is_read inputs funcs count s n ≡ true
    → reads s x y ≡ reads_of planes (pixels funcs planes count) s x y

-- Inlining changes no value: where inputs and computed Funcs answer by their pixels, an expression's value through
-- inlined Funcs is its value where all Funcs answer so.
abbrev pub InliningKeepsValues : Type 0
InliningKeepsValues = (reads : Reads) (is_inlined : ℕ → Bool) (inputs : List Input) (funcs : List Func) (planes : Planes) → AreFuncs inputs funcs
    → AreSimple is_inlined funcs
    → (count : ℕ) → AnswerPixels reads is_inlined inputs funcs planes count
    → (has : Variable → Bool) (environment : Environment) (e : Expr) → keeps (is_read inputs funcs count) has e ≡ true
    → inlined (values reads) is_inlined funcs count (variable environment) e ≡ value (reads_of planes (pixels funcs planes count)) environment e

-- So it is in an update, whose Func answers by what is there.
abbrev pub InliningKeepsUpdates : Type 0
InliningKeepsUpdates = (reads : Reads) (is_inlined : ℕ → Bool) (inputs : List Input) (funcs : List Func) (planes : Planes) → AreFuncs inputs funcs
    → AreSimple is_inlined funcs
    → (func_index : ℕ) (plane : Plane) → is_inlined func_index ≡ false
    → AnswerPixels reads is_inlined inputs funcs planes func_index
    → ((x y : ℕ) → reads (sources.Func func_index) x y ≡ plane x y)
    → (has : Variable → Bool) (environment : Environment) (e : Expr) → keeps (is_read inputs funcs (suc func_index)) has e ≡ true
    → inlined (values reads) is_inlined funcs (suc func_index) (variable environment) e
    ≡ value (reads_of planes (with_plane func_index plane (pixels funcs planes func_index))) environment e

-- ---- reads

abbrev pub seen_variable : Environment → Variable → Seen
seen_variable environment v = record { value = variable environment v; points = [] }

-- Reads that agree at the points that an expression reads through inlined Funcs give it one value.
abbrev pub InlinedValuesDependOnReads : Type 0
InlinedValuesDependOnReads = (reads other : Reads) (is_inlined : ℕ → Bool) (funcs : List Func) (count : ℕ) (environment : Environment) (e : Expr)
    → Agree reads other (inlined (seeing reads) is_inlined funcs count (seen_variable environment) e).points
    → inlined (values other) is_inlined funcs count (variable environment) e ≡ inlined (values reads) is_inlined funcs count (variable environment) e

-- The value that is seen through inlined Funcs is the expression's.
abbrev pub SeesInlinedValues : Type 0
SeesInlinedValues = (reads : Reads) (is_inlined : ℕ → Bool) (funcs : List Func) (count : ℕ) (environment : Environment) (e : Expr)
    → (inlined (seeing reads) is_inlined funcs count (seen_variable environment) e).value
    ≡ inlined (values reads) is_inlined funcs count (variable environment) e

-- The same of expressions of a pipeline: the levels are those of one.
use Rattle.std.proofs.Common.{◌≡◌, ℕ, zero, suc, ◌<◌, Bool, true, false, List, Option, None, Some, refl, subst, arith, inl, inr}
use Rattle.std.specs.Prelude.{◌==◌, nat_lt, slice_get}
use Rattle.std.proofs.lemmas.Bool.{and_parts, ltb-true, cases_eq}
use Rattle.std.proofs.lemmas.Bool.Decides.{nat_tests}
use Rattle.halide_pipeline.specs.declared.definitions.Func.{Func}
use Rattle.halide_pipeline.specs.declared.definitions.Input.{Input}
use Rattle.halide_pipeline.specs.declared.expressions.Expr.{Expr}
use Rattle.halide_pipeline.specs.declared.expressions.Expr.TheOpen.{Expr-F}
use Rattle.halide_pipeline.specs.declared.expressions.Expr.TheOpen as layer
use Rattle.halide_pipeline.specs.declared.expressions.Source.{Source}
use Rattle.halide_pipeline.specs.declared.expressions.Source.TheVariants as sources
use Rattle.halide_pipeline.specs.declared.expressions.Variable.{Variable}
use Rattle.halide_pipeline.specs.WellFormed.{dimensions, keeps, is_read, is_func_of, is_argument}
use Rattle.bounds_inlining.specs.Inlining.{Algebra, none, second_of, arguments, answer, answered, through, through_at, inside, made_in, inlined, is_computed}
use Rattle.bounds_inlining.specs.Laws.{AreFuncs, RelatesLevels, RelatesSeconds, RelatesArguments, RelatesCalls, FoldsAreRelated}
use Rattle.bounds_inlining.proofs.KeptFolds.{KeptLevels, kept_folds_related}
use Rattle.bounds_inlining.proofs.Through.{arguments_related, seconds_related}

-- a Func that isn't inlined
pub inside_computed : {A : Type 0} → (algebra : Algebra A) (is_inlined : ℕ → Bool) (funcs : List Func) (count func_index : ℕ) → is_inlined func_index ≡ false
    → inside algebra is_inlined funcs count func_index ≡ None
unfolding inside
inside_computed algebra is_inlined funcs zero func_index is = refl
inside_computed algebra is_inlined funcs (suc count) func_index is = rw is (inside_computed algebra is_inlined funcs count func_index is)

module _ {A B : Type 0} (R : A → B → Type 0) (p : Algebra A) (q : Algebra B) (is_inlined : ℕ → Bool) (inputs : List Input) (funcs : List Func)
    (are : AreFuncs inputs funcs)
    (levels : RelatesLevels R is_inlined p q) (args : RelatesArguments R p q) (calls : RelatesCalls R p q) where
  abbrev Related : ℕ → Type 0
  Related count = (has : Variable → Bool) (va : Variable → A) (vb : Variable → B) → ((v : Variable) → has v ≡ true → R (va v) (vb v))
      → (e : Expr) → keeps (is_read inputs funcs count) has e ≡ true → R (inlined p is_inlined funcs count va e) (inlined q is_inlined funcs count vb e)

  -- what answers calls of a Func that is there and inlined
  abbrev Made : Option (A → Option A → A) → Option (B → Option B → B) → Type 0
  Made None g = ⊥
  Made (Some f) None = ⊥
  Made (Some f) (Some g) = (x : A) (y : Option A) (z : B) (u : Option B) → R x z → RelatesSeconds R y u → R (f x y) (g z u)

  abbrev MadeBelow : ℕ → Type 0
  MadeBelow count = (func_index n : ℕ) → func_index < count → is_func_of (slice_get funcs func_index) n ≡ true → is_inlined func_index ≡ true
      → Made (inside p is_inlined funcs count func_index) (inside q is_inlined funcs count func_index)

  made_answers : (f : Option (A → Option A → A)) (g : Option (B → Option B → B)) → Made f g
      → (a x : A) (y : Option A) (b z : B) (u : Option B) → R x z → RelatesSeconds R y u → R (answered a x y f) (answered b z u g)
  made_answers None g made a x y b z u rx ry = absurd made
  made_answers (Some f) None made a x y b z u rx ry = absurd made
  made_answers (Some f) (Some g) made a x y b z u rx ry = made x y z u rx ry

  module _ (count : ℕ) (made : MadeBelow count) where
    place_related : (test : Bool) (func_index n : ℕ) → is_inlined func_index ≡ test → func_index < count → is_func_of (slice_get funcs func_index) n ≡ true
        → (a x : A) (y : Option A) (b z : B) (u : Option B) → (test ≡ false → R a b) → R x z → RelatesSeconds R y u
        → R (answered a x y (inside p is_inlined funcs count func_index)) (answered b z u (inside q is_inlined funcs count func_index))
    place_related false func_index n flag below ok a x y b z u other rx ry =
        rw (inside_computed p is_inlined funcs count func_index flag) (rw (inside_computed q is_inlined funcs count func_index flag) (other refl))
    place_related true func_index n flag below ok a x y b z u other rx ry =
        made_answers (inside p is_inlined funcs count func_index) (inside q is_inlined funcs count func_index) (made func_index n below ok flag) a x y b z u rx ry

    source_related : (s : Source) (n : ℕ) → is_read inputs funcs count s n ≡ true
        → (a x : A) (y : Option A) (b z : B) (u : Option B) → (is_computed is_inlined s ≡ true → R a b) → R x z → RelatesSeconds R y u
        → R (answered a x y (answer (inside p is_inlined funcs count) s)) (answered b z u (answer (inside q is_inlined funcs count) s))
    source_related (sources.Input func_index) n read a x y b z u other rx ry = other refl
    source_related (sources.Func func_index) n read a x y b z u other rx ry =
        let k = and_parts (nat_lt func_index count) (is_func_of (slice_get funcs func_index) n) read in
        place_related (is_inlined func_index) func_index n refl (ltb-true func_index count k.0) k.1 a x y b z u (λ e. other (rw e refl)) rx ry

    module _ (has : Variable → Bool) (va : Variable → A) (vb : Variable → B) (vars : (v : Variable) → has v ≡ true → R (va v) (vb v)) where
      through_levels : KeptLevels R (is_read inputs funcs count) has (through_at p (inside p is_inlined funcs count) va)
          (through_at q (inside q is_inlined funcs count) vb)
      through_levels (layer.Number n) kept = levels (layer.Number n) kept
      through_levels (layer.Variable v) kept = vars v kept
      through_levels (layer.Binary op a b) kept = levels (layer.Binary op a b) refl
      through_levels (layer.Divide a n) kept = levels (layer.Divide a n) kept
      through_levels (layer.Remainder a n) kept = levels (layer.Remainder a n) kept
      through_levels (layer.Select t a b) kept = levels (layer.Select t a b) refl
      through_levels (layer.Call1 s a) kept = source_related s 1 kept _ a.left None _ a.right None (λ is. levels (layer.Call1 s a) is) a.is tt
      through_levels (layer.Call2 s a b) kept = source_related s 2 kept _ a.left (Some b.left) _ a.right (Some b.right) (λ is. levels (layer.Call2 s a b) is)
          a.is b.is

    from_made : Related count
    unfolding through
    from_made has va vb vars e kept =
        kept_folds_related R (is_read inputs funcs count) has (through_at p (inside p is_inlined funcs count) va)
        (through_at q (inside q is_inlined funcs count) vb) (through_levels has va vb vars) e kept

  func_related : (func_index n : ℕ) (func : Option Func) → slice_get funcs func_index ≡ func → is_func_of func n ≡ true → Related func_index
      → Made (made_in p (inside p is_inlined funcs func_index) func)
      (made_in q (inside q is_inlined funcs func_index) func)
  func_related func_index n None is ok inner = absurd cc
  func_related func_index n (Some func) is ok inner = λ x y z u rx ry.
      let rn : R (none p) (none q) = levels (layer.Number 0) refl in
      calls func _ x y _ z u
      (inner (is_argument (dimensions func)) (arguments (none p) (p.argument x) (p.argument (second_of (none p) y))) (arguments (none q) (q.argument z)
      (q.argument (second_of (none q) u)))
      (λ v has. arguments_related R (none p) (p.argument x) (p.argument (second_of (none p) y)) (none q) (q.argument z) (q.argument (second_of (none q) u)) rn
      (args x z rx) (args (second_of (none p) y) (second_of (none q) u) (seconds_related R (none p) y (none q) u rn ry)) v) func.pure (are func_index func is).pure)
      rx ry

  made_below : (count : ℕ) → MadeBelow count
  unfolding inside
  made_below zero func_index n below ok flag = absurd (omega (arith, below))
  made_below (suc count) func_index n below ok flag = elim (cases_eq func_index count) [
    | inl same ↦
        let test : (func_index == count) ≡ true = grind (arith, nat_tests) in
        rw flag (rw test (func_related count n (slice_get funcs count) refl (subst (λ (at : ℕ). is_func_of (slice_get funcs at) n ≡ true) same ok)
        (from_made count (made_below count))))
    | inr other ↦
        let test : (func_index == count) ≡ false = grind (arith, nat_tests, other) in
        rw flag (rw test (made_below count func_index n (omega (arith, other, below)) ok flag))
  ]

  -- the levels, through inlined Funcs
  pub levels_related : (count : ℕ) (has : Variable → Bool) (va : Variable → A) (vb : Variable → B) → ((v : Variable) → has v ≡ true → R (va v) (vb v))
      → KeptLevels R (is_read inputs funcs count) has (through_at p (inside p is_inlined funcs count) va) (through_at q (inside q is_inlined funcs count) vb)
  levels_related count has va vb vars = through_levels count (made_below count) has va vb vars

  pub kept_related : (count : ℕ) → Related count
  kept_related count = from_made count (made_below count)

pub folds_are_related : {A B : Type 0} → (R : A → B → Type 0) → FoldsAreRelated R
folds_are_related R p q is_inlined inputs funcs are levels args calls count has left right vars e kept = kept_related R p q is_inlined inputs funcs are levels
    args calls count has left right vars e kept

-- What two algebras make of an expression through inlined Funcs is related if it is at each level and each call.
use Rattle.std.proofs.Common.{◌≡◌, ℕ, zero, suc, Bool, true, false, List, Option, None, Some, refl}
use Rattle.std.specs.Prelude.{◌==◌, ◌&&◌, cond, slice_get}
use Rattle.halide_pipeline.specs.declared.definitions.Func.{Func}
use Rattle.halide_pipeline.specs.declared.expressions.Expr.{Expr}
use Rattle.halide_pipeline.specs.declared.expressions.Expr.TheOpen.{Expr-F}
use Rattle.halide_pipeline.specs.declared.expressions.Expr.TheOpen as layer
use Rattle.halide_pipeline.specs.declared.expressions.Source.{Source}
use Rattle.halide_pipeline.specs.declared.expressions.Source.TheVariants as sources
use Rattle.halide_pipeline.specs.declared.expressions.Variable.{Variable}
use Rattle.halide_pipeline.specs.declared.expressions.Variable.TheVariants as variables
use Rattle.halide_pipeline.specs.Levels.{Both, left_of, right_of}
use Rattle.halide_pipeline.proofs.Folds.{folds_related}
use Rattle.bounds_inlining.specs.Inlining.{Algebra, Inside, none, second_of, arguments, answer, answered, through, through_at, made_of, inside, made_in}
use Rattle.bounds_inlining.specs.Inlining.{inlined}
use Rattle.bounds_inlining.specs.Laws.{RelatesSeconds, RelatesArguments, RelatesCalls}

abbrev pub is_no_variable : {A : Type 0} → Expr-F A → Bool
is_no_variable (layer.Variable v) = false
is_no_variable _ = true

module _ {A B : Type 0} (R : A → B → Type 0) where
  -- At each level that isn't a variable, two algebras make related things of related things.
  abbrev pub RelatesAllLevels : Algebra A → Algebra B → Type 0
  RelatesAllLevels p q = (y : Expr-F (Both R)) → is_no_variable y ≡ true → R (p.level (left_of R y)) (q.level (right_of R y))

  -- what answers calls on both sides
  abbrev pub Answers : Option (A → Option A → A) → Option (B → Option B → B) → Type 0
  Answers None None = Unit {0}
  Answers None (Some g) = ⊥
  Answers (Some f) None = ⊥
  Answers (Some f) (Some g) = (x : A) (y : Option A) (z : B) (u : Option B) → R x z → RelatesSeconds R y u → R (f x y) (g z u)

  pub answered_related : (f : Option (A → Option A → A)) (g : Option (B → Option B → B)) → Answers f g
      → (a x : A) (y : Option A) (b z : B) (u : Option B) → R a b → R x z → RelatesSeconds R y u → R (answered a x y f) (answered b z u g)
  answered_related None None fg a x y b z u r rx ry = r
  answered_related None (Some g) fg a x y b z u r rx ry = absurd fg
  answered_related (Some f) None fg a x y b z u r rx ry = absurd fg
  answered_related (Some f) (Some g) fg a x y b z u r rx ry = fg x y z u rx ry

  pub arguments_related : (n x y : A) (m z w : B) → R n m → R x z → R y w → (v : Variable) → R (arguments n x y v) (arguments m z w v)
  arguments_related n x y m z w rn rx ry variables.FirstArgument = rx
  arguments_related n x y m z w rn rx ry variables.SecondArgument = ry
  arguments_related n x y m z w rn rx ry variables.FirstReduction = rn
  arguments_related n x y m z w rn rx ry variables.SecondReduction = rn

  pub seconds_related : (n : A) (y : Option A) (m : B) (u : Option B) → R n m → RelatesSeconds R y u → R (second_of n y) (second_of m u)
  seconds_related n None m None rn ry = rn
  seconds_related n None m (Some z) rn ry = absurd ry
  seconds_related n (Some y) m None rn ry = absurd ry
  seconds_related n (Some y) m (Some z) rn ry = ry

  module _ (p : Algebra A) (q : Algebra B) (levels : RelatesAllLevels p q) where
    abbrev pub AnswersAll : Inside A → Inside B → Type 0
    AnswersAll left right = (func_index : ℕ) → Answers (left func_index) (right func_index)

    module _ (left : Inside A) (right : Inside B) (answers : AnswersAll left right) where
      source_answers : (s : Source) → Answers (answer left s) (answer right s)
      source_answers (sources.Input func_index) = tt
      source_answers (sources.Func func_index) = answers func_index

      module _ (va : Variable → A) (vb : Variable → B) (vars : (v : Variable) → R (va v) (vb v)) where
        through_levels : (y : Expr-F (Both R)) → R (through_at p left va (left_of R y)) (through_at q right vb (right_of R y))
        through_levels (layer.Number n) = levels (layer.Number n) refl
        through_levels (layer.Variable v) = vars v
        through_levels (layer.Binary op a b) = levels (layer.Binary op a b) refl
        through_levels (layer.Divide a n) = levels (layer.Divide a n) refl
        through_levels (layer.Remainder a n) = levels (layer.Remainder a n) refl
        through_levels (layer.Select t a b) = levels (layer.Select t a b) refl
        through_levels (layer.Call1 s a) = answered_related (answer left s) (answer right s) (source_answers s) _ a.left None _ a.right None
            (levels (layer.Call1 s a) refl) a.is tt
        through_levels (layer.Call2 s a b) = answered_related (answer left s) (answer right s) (source_answers s) _ a.left (Some b.left) _ a.right
            (Some b.right) (levels (layer.Call2 s a b) refl) a.is b.is

        pub through_related : (e : Expr) → R (through p left va e) (through q right vb e)
        unfolding through
        through_related e = folds_related R (through_at p left va) (through_at q right vb) through_levels e

    -- what is made of a Func on both sides, where what answers the calls in it is related
    abbrev pub RelatesMade : Type 0
    RelatesMade = (left : Inside A) (right : Inside B) → AnswersAll left right → (func : Func)
        → Answers (Some (made_of p left func)) (Some (made_of q right func))

    -- so it is if arguments and calls are
    pub made_related : RelatesArguments R p q → RelatesCalls R p q → RelatesMade
    made_related args calls left right answers func = λ x y z u rx ry.
        let rn = levels (layer.Number 0) refl in
        calls func _ x y _ z u
        (through_related left right answers (arguments (none p) (p.argument x) (p.argument (second_of (none p) y))) (arguments (none q) (q.argument z)
        (q.argument (second_of (none q) u)))
        (arguments_related (none p) (p.argument x) (p.argument (second_of (none p) y)) (none q) (q.argument z) (q.argument (second_of (none q) u)) rn
        (args x z rx) (args (second_of (none p) y) (second_of (none q) u) (seconds_related (none p) y (none q) u rn ry))) func.pure)
        rx ry

    module _ (relates_made : RelatesMade) where
      made_answers : (left : Inside A) (right : Inside B) → AnswersAll left right → (func : Option Func) → Answers (made_in p left func) (made_in q right func)
      made_answers left right answers None = tt
      made_answers left right answers (Some func) = relates_made left right answers func

      either : (test : Bool) (f : Option (A → Option A → A)) (g : Option (B → Option B → B)) (h : Option (A → Option A → A)) (k : Option (B → Option B → B))
          → Answers f g → Answers h k → Answers (cond test f h) (cond test g k)
      either true f g h k fg hk = fg
      either false f g h k fg hk = hk

      pub inside_related : (is_inlined : ℕ → Bool) (funcs : List Func) (count : ℕ)
          → AnswersAll (inside p is_inlined funcs count) (inside q is_inlined funcs count)
      unfolding inside
      inside_related is_inlined funcs zero func_index = tt
      inside_related is_inlined funcs (suc count) func_index =
          let before = inside_related is_inlined funcs count in
          either (is_inlined func_index && func_index == count) _ _ _ _ (made_answers (inside p is_inlined funcs count) (inside q is_inlined funcs count) before
          (slice_get funcs count)) (before func_index)

      pub inlined_related : (is_inlined : ℕ → Bool) (funcs : List Func) (count : ℕ) (va : Variable → A) (vb : Variable → B) → ((v : Variable) → R (va v) (vb v))
          → (e : Expr) → R (inlined p is_inlined funcs count va e) (inlined q is_inlined funcs count vb e)
      inlined_related is_inlined funcs count va vb vars e =
          through_related (inside p is_inlined funcs count) (inside q is_inlined funcs count) (inside_related is_inlined funcs count) va vb vars e

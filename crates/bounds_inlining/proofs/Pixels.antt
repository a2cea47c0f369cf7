-- Inlining changes no value.
use Rattle.std.proofs.Common.{◌≡◌, ℕ, zero, suc, ◌<◌, ◌≤◌, Bool, true, false, List, Option, None, Some, refl, sym, ap, subst, ◌∙◌, arith, inl, inr}
use Rattle.std.specs.Prelude.{◌==◌, cond, nat_lt, slice_get, length}
use Rattle.std.proofs.lemmas.Bool.{and_parts, and_from, ltb-true, lt-ltb, cases_eq}
use Rattle.std.proofs.lemmas.Bool.Decides.{nat_tests}
use Rattle.halide_pipeline.specs.declared.definitions.Func.{Func}
use Rattle.halide_pipeline.specs.declared.definitions.Input.{Input}
use Rattle.halide_pipeline.specs.declared.expressions.Expr.{Expr}
use Rattle.halide_pipeline.specs.declared.expressions.Expr.TheOpen.{Expr-F}
use Rattle.halide_pipeline.specs.declared.expressions.Expr.TheOpen as layer
use Rattle.halide_pipeline.specs.declared.expressions.Source.{Source}
use Rattle.halide_pipeline.specs.declared.expressions.Source.TheVariants as sources
use Rattle.halide_pipeline.specs.declared.expressions.Variable.{Variable}
use Rattle.halide_pipeline.specs.declared.expressions.Variable.TheVariants as variables
use Rattle.halide_pipeline.specs.WellFormed.{dimensions, keeps, is_read, is_func_of, is_argument}
use Rattle.halide_pipeline.specs.Words as word
use Rattle.halide_pipeline.specs.declared.environments.Environment.{Environment}
use Rattle.halide_pipeline.specs.Pixel.{Plane, Planes, Reads, value, value_at, variable, reads_of, with_plane, at_point, pixels, func_plane, stage}
use Rattle.halide_pipeline.proofs.Earlier.{pixels_before, pixels_fewer}
use Rattle.bounds_inlining.specs.Inlining.{none, second_of, arguments, answer, answered, through, through_at, inside, made_in, inlined, is_computed}
use Rattle.bounds_inlining.specs.Values.{values}
use Rattle.bounds_inlining.specs.Laws.{AreFuncs, AreSimple, InliningKeepsValues, InliningKeepsUpdates}
use Rattle.bounds_inlining.proofs.KeptFolds.{KeptLevels, kept_folds_related}
use Rattle.bounds_inlining.proofs.Kept.{inside_computed}

abbrev Same : ℕ → ℕ → Type 0
Same a b = a ≡ b

module _ (reads : Reads) (is_inlined : ℕ → Bool) (inputs : List Input) (funcs : List Func) (planes : Planes) (are : AreFuncs inputs funcs)
    (simple : AreSimple is_inlined funcs) where
  -- inlined Funcs that are there answer so
  abbrev Answers : ℕ → (ℕ → Plane) → Type 0
  Answers count found = (place n : ℕ) → place < count → is_func_of (slice_get funcs place) n ≡ true → is_inlined place ≡ true
      → (a x : ℕ) (y : Option ℕ) → answered a x y (inside (values reads) is_inlined funcs count place) ≡ found place x (second_of 0 y)

  -- computed ones answer as the reads
  abbrev Agrees : ℕ → Reads → Type 0
  Agrees count other = (s : Source) (n x y : ℕ) → is_computed is_inlined s ≡ true → is_read inputs funcs count s n ≡ true → reads s x y ≡ other s x y

  module _ (count : ℕ) (other : Reads) (answers : Answers count (λ place. other (sources.Func place))) (agrees : Agrees count other) where
    place_is : (test : Bool) (place n : ℕ) → is_inlined place ≡ test → place < count → is_func_of (slice_get funcs place) n ≡ true → (a x : ℕ) (y : Option ℕ)
        → (test ≡ false → a ≡ other (sources.Func place) x (second_of 0 y)) → answered a x y (inside (values reads) is_inlined funcs count place)
        ≡ other (sources.Func place) x (second_of 0 y)
    place_is false place n flag below ok a x y is = rw (inside_computed (values reads) is_inlined funcs count place flag) (is refl)
    place_is true place n flag below ok a x y is = answers place n below ok flag a x y

    source_is : (s : Source) (n : ℕ) → is_read inputs funcs count s n ≡ true → (a x : ℕ) (y : Option ℕ)
        → (is_computed is_inlined s ≡ true → a ≡ other s x (second_of 0 y)) → answered a x y (answer (inside (values reads) is_inlined funcs count) s)
        ≡ other s x (second_of 0 y)
    source_is (sources.Input place) n read a x y is = is refl
    source_is (sources.Func place) n read a x y is =
        let k = and_parts (nat_lt place count) (is_func_of (slice_get funcs place) n) read in
        place_is (is_inlined place) place n refl (ltb-true place count k.0) k.1 a x y (λ e. is (rw e refl))

    module _ (has : Variable → Bool) (vars : Variable → ℕ) (environment : Environment) (are_vars : (v : Variable) → has v ≡ true
        → vars v ≡ variable environment v) where
      levels : KeptLevels Same (is_read inputs funcs count) has (through_at (values reads) (inside (values reads) is_inlined funcs count) vars)
          (value_at other environment)
      unfolding values
      levels (layer.Number n) kept = refl
      levels (layer.Variable v) kept = are_vars v kept
      levels (layer.Binary op a b) kept = ap (λ (x : ℕ). word.applied op x b.left) a.is ∙ ap (λ (x : ℕ). word.applied op a.right x) b.is
      levels (layer.Divide a n) kept = ap (λ (x : ℕ). word.divide x n) a.is
      levels (layer.Remainder a n) kept = ap (λ (x : ℕ). word.remainder x n) a.is
      levels (layer.Select t a b) kept =
          ap (λ (x : ℕ). cond (x == 0) b.left a.left) t.is ∙ ap (λ (x : ℕ). cond (t.right == 0) b.left x) a.is
          ∙ ap (λ (x : ℕ). cond (t.right == 0) x a.right) b.is
      levels (layer.Call1 s a) kept = source_is s 1 kept (reads s a.left 0) a.left None (λ is. agrees s 1 a.left 0 is kept) ∙ ap (λ (x : ℕ). other s x 0) a.is
      levels (layer.Call2 s a b) kept =
          source_is s 2 kept (reads s a.left b.left) a.left (Some b.left) (λ is. agrees s 2 a.left b.left is kept) ∙ ap (λ (x : ℕ). other s x b.left) a.is
          ∙ ap (λ (x : ℕ). other s a.right x) b.is

      pub fits : (e : Expr) → keeps (is_read inputs funcs count) has e ≡ true → inlined (values reads) is_inlined funcs count vars e ≡ value other environment e
      unfolding through value
      fits e kept =
          kept_folds_related Same (is_read inputs funcs count) has (through_at (values reads) (inside (values reads) is_inlined funcs count) vars)
          (value_at other environment) levels e kept

  -- what calls of the first this many Funcs find
  abbrev found : ℕ → Reads
  found count = reads_of planes (pixels funcs planes count)

  arguments_are : (x y : ℕ) (v : Variable) → arguments (none (values reads)) x y v ≡ variable (at_point x y) v
  unfolding values
  arguments_are x y variables.FirstArgument = refl
  arguments_are x y variables.SecondArgument = refl
  arguments_are x y variables.FirstReduction = refl
  arguments_are x y variables.SecondReduction = refl

  -- a Func without updates
  pub pure_only : (place : ℕ) (func : Func) (x y updates : ℕ) → updates ≡ 0 → stage place func planes (pixels funcs planes place) updates x y
      ≡ value (found place) (at_point x y) func.pure
  unfolding stage
  pure_only place func x y zero none = refl
  pure_only place func x y (suc updates) none = absurd (omega (arith, none))

  func_is : (place n : ℕ) (is : Option Func) → slice_get funcs place ≡ is → is_func_of is n ≡ true → is_inlined place ≡ true
      → Answers place (pixels funcs planes place) → Agrees place (found place)
      → (a x : ℕ) (y : Option ℕ) → answered a x y (made_in (values reads) (inside (values reads) is_inlined funcs place) is)
      ≡ func_plane place is planes (pixels funcs planes place) x (second_of 0 y)
  unfolding values
  func_is place n None is ok flag answers agrees a x y = absurd cc
  func_is place n (Some func) is ok flag answers agrees a x y =
      fits place (found place) answers agrees (is_argument (dimensions func)) (arguments (none (values reads)) x (second_of 0 y)) (at_point x (second_of 0 y))
      (λ v has. arguments_are x (second_of 0 y) v) func.pure (are place func is).pure
      ∙ sym (pure_only place func x (second_of 0 y) (length func.updates) (simple place func is flag))

  -- what answers for the Funcs before a place answers for fewer
  pub fewer : (count place : ℕ) → place ≤ count → Agrees count (found count) → Agrees place (found place)
  fewer count place few agrees (sources.Input at) n x y is read = agrees (sources.Input at) n x y is read
  fewer count place few agrees (sources.Func at) n x y is read =
      let k = and_parts (nat_lt at place) (is_func_of (slice_get funcs at) n) read in
      let b = ltb-true at place k.0 in
      agrees (sources.Func at) n x y is (and_from (nat_lt at count) (is_func_of (slice_get funcs at) n) (lt-ltb at count (omega (arith, few, b))) k.1)
      ∙ pixels_fewer funcs planes count place at x y b few

  answers_at : (count : ℕ) → Agrees count (found count) → Answers count (pixels funcs planes count)
  unfolding inside
  answers_at zero agrees place n below ok flag a x y = absurd (omega (arith, below))
  answers_at (suc count) agrees place n below ok flag a x y = elim (cases_eq place count) [
    | inl same ↦
        let test : (place == count) ≡ true = grind (arith, nat_tests) in
        let before = fewer (suc count) count (omega arith) agrees in
        let is : answered a x y (made_in (values reads) (inside (values reads) is_inlined funcs count) (slice_get funcs count))
        ≡ func_plane count (slice_get funcs count) planes (pixels funcs planes count) x (second_of 0 y) =
        func_is count n (slice_get funcs count) refl (subst (λ (at : ℕ). is_func_of (slice_get funcs at) n ≡ true) same ok) (subst (λ (at : ℕ). is_inlined at
        ≡ true) same flag) (answers_at count before) before a x y in
        let pixel : pixels funcs planes (suc count) place x (second_of 0 y) ≡ func_plane count (slice_get funcs count) planes (pixels funcs planes count) x
        (second_of 0 y) =
        ap (λ (at : ℕ). pixels funcs planes (suc count) at x (second_of 0 y)) same ∙ pixels_before funcs planes (suc count) count x (second_of 0 y)
        (omega arith) in
        rw flag (rw test (is ∙ sym pixel))
    | inr other ↦
        let test : (place == count) ≡ false = grind (arith, nat_tests, other) in
        let less : place < count = omega (arith, other, below) in
        rw flag (rw test (answers_at count (fewer (suc count) count (omega arith) agrees) place n less ok flag a x y
        ∙ sym (pixels_fewer funcs planes (suc count) count place x (second_of 0 y) less (omega arith))))
  ]

  keeps_values : (count : ℕ) → Agrees count (found count) → (has : Variable → Bool) (environment : Environment) (e : Expr)
      → keeps (is_read inputs funcs count) has e ≡ true
      → inlined (values reads) is_inlined funcs count (variable environment) e ≡ value (found count) environment e
  keeps_values count agrees has environment e kept = fits count (found count) (answers_at count agrees) agrees has (variable environment) environment
      (λ v held. refl) e kept

  -- ---- in an update

  module _ (func_index : ℕ) (plane : Plane) (computed : is_inlined func_index ≡ false) (agrees : Agrees func_index (found func_index)) (stands : (x y : ℕ)
      → reads (sources.Func func_index) x y ≡ plane x y) where
    abbrev standing : Reads
    standing = reads_of planes (with_plane func_index plane (pixels funcs planes func_index))

    other_place : (place : ℕ) → is_inlined place ≡ true → place ≡ func_index → ⊥
    other_place place flag same = let e : is_inlined func_index ≡ true = subst (λ (at : ℕ). is_inlined at ≡ true) same flag in absurd cc

    own_answers : Answers (suc func_index) (λ place. standing (sources.Func place))
    unfolding inside
    own_answers place n below ok flag a x y =
        let no = other_place place flag in
        let test : (place == func_index) ≡ false = grind (arith, nat_tests, no) in
        rw flag (rw test (answers_at func_index agrees place n (omega (arith, no, below)) ok flag a x y))

    pub own_agrees : Agrees (suc func_index) standing
    own_agrees (sources.Input at) n x y is read = agrees (sources.Input at) n x y is read
    own_agrees (sources.Func at) n x y is read = elim (cases_eq at func_index) [
      | inl same ↦
          let test : (at == func_index) ≡ true = grind (arith, nat_tests) in
          rw test (subst (λ (place : ℕ). reads (sources.Func place) x y ≡ plane x y) (sym same) (stands x y))
      | inr other ↦
          let test : (at == func_index) ≡ false = grind (arith, nat_tests, other) in
          let k = and_parts (nat_lt at (suc func_index)) (is_func_of (slice_get funcs at) n) read in
          let b = ltb-true at (suc func_index) k.0 in
          rw test (agrees (sources.Func at) n x y is (and_from (nat_lt at func_index) (is_func_of (slice_get funcs at) n) (lt-ltb at func_index (omega (arith, other, b)))
          k.1))
    ]

    keeps_updates : (has : Variable → Bool) (environment : Environment) (e : Expr) → keeps (is_read inputs funcs (suc func_index)) has e ≡ true
        → inlined (values reads) is_inlined funcs (suc func_index) (variable environment) e ≡ value standing environment
        e
    keeps_updates has environment e kept = fits (suc func_index) standing own_answers own_agrees has (variable environment) environment (λ v held. refl) e kept

pub inlining_keeps_values : InliningKeepsValues
inlining_keeps_values reads is_inlined inputs funcs planes are simple count answers has environment e kept = keeps_values reads is_inlined inputs funcs planes
    are simple count answers has environment e kept

pub inlining_keeps_updates : InliningKeepsUpdates
inlining_keeps_updates reads is_inlined inputs funcs planes are simple own plane computed answers stands has environment e kept =
    keeps_updates reads is_inlined inputs funcs planes are simple own plane computed answers stands has environment e kept

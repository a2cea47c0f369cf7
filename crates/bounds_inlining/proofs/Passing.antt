-- What is read in the text passes where what is seen through inlined Funcs does.
use Rattle.std.proofs.Common.{◌≡◌, ℕ, zero, suc, ◌<◌, ◌≤◌, Bool, true, false, List, [], ◌∷◌, ◌++◌, Option, None, Some, refl, sym, ap, subst, ◌∙◌, arith, inl}
use Rattle.std.proofs.Common.{inr}
use Rattle.std.specs.Prelude.{◌==◌, cond, not, nat_lt, slice_get, length}
use Rattle.std.specs.List.{AllByRecursion, list_all}
use Rattle.std.proofs.lemmas.Bool.{and_parts, and_from, ltb-true, cases_eq}
use Rattle.std.proofs.lemmas.Bool.Decides.{nat_tests}
use Rattle.halide_pipeline.specs.declared.definitions.Func.{Func}
use Rattle.halide_pipeline.specs.declared.definitions.Input.{Input}
use Rattle.halide_pipeline.specs.declared.expressions.Expr.{Expr}
use Rattle.halide_pipeline.specs.declared.expressions.Expr.TheOpen.{Expr-F}
use Rattle.halide_pipeline.specs.declared.expressions.Expr.TheOpen as layer
use Rattle.halide_pipeline.specs.declared.expressions.Source.{Source}
use Rattle.halide_pipeline.specs.declared.expressions.Source.TheVariants as sources
use Rattle.halide_pipeline.specs.declared.expressions.Variable.{Variable}
use Rattle.halide_pipeline.specs.declared.expressions.Variable.TheVariants as variables
use Rattle.halide_pipeline.specs.WellFormed.{dimensions, keeps, is_read, is_func_of, is_argument}
use Rattle.halide_pipeline.specs.Words as word
use Rattle.halide_pipeline.specs.declared.environments.Environment.{Environment}
use Rattle.halide_pipeline.specs.Pixel.{Plane, Planes, Reads, value, variable, reads_of, with_plane, at_point, pixels, func_plane}
use Rattle.halide_pipeline.specs.Points.{Point, Seen, Hold, seen, seen_at, points_read, untraced, stage_trace, func_trace}
use Rattle.halide_pipeline.proofs.Holding.{traced_alone}
use Rattle.halide_pipeline.proofs.Earlier.{pixels_before}
use Rattle.halide_pipeline.proofs.Seeing.{all_parts, all_both, values_are_seen}
use Rattle.bounds_inlining.specs.Inlining.{none, second_of, arguments, answer, answered, through, through_at, inside, made_in, inlined, is_computed}
use Rattle.bounds_inlining.specs.Values.{seeing, unread, second_points}
use Rattle.bounds_inlining.specs.Laws.{AreFuncs, AreSimple, seen_variable}
use Rattle.bounds_inlining.specs.Passing.{passes_in, passes, ComputedPointsAreTested, SeenPointsPass, SeenPointsPassInUpdates, PassingIsClosed}
use Rattle.bounds_inlining.proofs.KeptFolds.{KeptLevels, kept_folds_related}
use Rattle.bounds_inlining.proofs.Kept.{inside_computed}
use Rattle.bounds_inlining.proofs.Pixels.{pure_only, fewer, own_agrees}
use Rattle.bounds_inlining.proofs.Steps.{inside_before}

-- ---- all points of a list

hold_all : (test : Point → Bool) (points : List Point) → list_all test points ≡ true → Hold test points
hold_all test [] all = tt
hold_all test (point ∷ points) all = let k = and_parts (test point) (list_all test points) all in (k.0, hold_all test points k.1)

all_hold : (test : Point → Bool) (points : List Point) → Hold test points → list_all test points ≡ true
all_hold test [] all = refl
all_hold test (point ∷ points) all = and_from (test point) (list_all test points) all.0 (all_hold test points all.1)

-- a point of an input or of one of the first this many Funcs
abbrev IsBelow : ℕ → Source → Type 0
IsBelow count (sources.Input place) = Unit {0}
IsBelow count (sources.Func place) = place < count

abbrev AreBelow : ℕ → List Point → Type 0
AreBelow count points = AllByRecursion (λ (point : Point). IsBelow count point.source) points

abbrev point_at : Source → ℕ → ℕ → Point
point_at s x y = record { source = s; x = x; y = y }

-- ---- an expression reads what it may call

module _ (inputs : List Input) (funcs : List Func) (count : ℕ) (reads : Reads) (environment : Environment) (has : Variable → Bool) where
  abbrev ReadsBelow : Seen → Unit {0} → Type 0
  ReadsBelow s u = AreBelow count s.points

  is_below : (s : Source) (n : ℕ) → is_read inputs funcs count s n ≡ true → IsBelow count s
  is_below (sources.Input place) n read = tt
  is_below (sources.Func place) n read = ltb-true place count (and_parts (nat_lt place count) (is_func_of (slice_get funcs place) n) read).0

  one_below : (s : Source) (n : ℕ) → is_read inputs funcs count s n ≡ true → (points : List Point) (x y : ℕ) → AreBelow count points
      → AreBelow count (points ++ (point_at s x y ∷ []))
  one_below s n read points x y all = all_both (λ (point : Point). IsBelow count point.source) points (point_at s x y ∷ []) all (is_below s n read, tt)

  both_below : (a b : List Point) → AreBelow count a → AreBelow count b → AreBelow count (a ++ b)
  both_below a b first second = all_both (λ (point : Point). IsBelow count point.source) a b first second

  below_levels : KeptLevels ReadsBelow (is_read inputs funcs count) has (seen_at reads environment) (λ level. tt)
  below_levels (layer.Number n) kept = tt
  below_levels (layer.Variable v) kept = tt
  below_levels (layer.Binary op a b) kept = both_below a.left.points b.left.points a.is b.is
  below_levels (layer.Divide a n) kept = a.is
  below_levels (layer.Remainder a n) kept = a.is
  below_levels (layer.Select c a b) kept = both_below c.left.points (a.left.points ++ b.left.points) c.is (both_below a.left.points b.left.points a.is b.is)
  below_levels (layer.Call1 s a) kept = one_below s 1 kept a.left.points a.left.value 0 a.is
  below_levels (layer.Call2 s a b) kept = one_below s 2 kept (a.left.points ++ b.left.points) a.left.value b.left.value (both_below a.left.points b.left.points
      a.is b.is)

  points_below : (e : Expr) → keeps (is_read inputs funcs count) has e ≡ true → AreBelow count (points_read reads environment e)
  unfolding seen
  points_below e kept = kept_folds_related ReadsBelow (is_read inputs funcs count) has (seen_at reads environment) (λ level. tt) below_levels e kept

-- ---- which points pass

module _ (test : Point → Bool) (is_inlined : ℕ → Bool) (funcs : List Func) (planes : Planes) where
  abbrev passing : ℕ → Point → Bool
  passing count = passes test is_inlined funcs planes count

  -- all that the definition at a place reads
  abbrev passing_in : ℕ → ℕ → ℕ → Bool
  passing_in func_index x y = passes_in (passing func_index) planes (pixels funcs planes func_index)
      (slice_get funcs func_index) x y

  passes_input : (count func_index x y : ℕ) → passing count (point_at (sources.Input func_index) x y) ≡ test (point_at (sources.Input func_index) x y)
  unfolding passes
  passes_input zero func_index x y = refl
  passes_input (suc count) func_index x y = passes_input count func_index x y

  passes_computed : (count func_index x y : ℕ) → is_inlined func_index ≡ false
      → passing count (point_at (sources.Func func_index) x y)
      ≡ test (point_at (sources.Func func_index) x y)
  unfolding passes
  passes_computed zero func_index x y is = refl
  passes_computed (suc count) func_index x y is = rw is (passes_computed count func_index x y is)

  pub passes_tested : (count : ℕ) (s : Source) (x y : ℕ) → is_computed is_inlined s ≡ true → passing count (point_at s x y) ≡ test (point_at s x y)
  passes_tested count (sources.Input func_index) x y is = passes_input count func_index x y
  passes_tested count (sources.Func func_index) x y is = by_flag (is_inlined func_index) refl is
    where
      by_flag : (flag : Bool) → is_inlined func_index ≡ flag → not flag ≡ true → passing count (point_at (sources.Func func_index) x y)
          ≡ test (point_at (sources.Func func_index) x y)
      by_flag true f n = absurd cc
      by_flag false f n = passes_computed count func_index x y f

  pub passes_before : (count func_index x y : ℕ) → func_index < count → is_inlined func_index ≡ true → passing count (point_at (sources.Func func_index) x y) ≡ passing_in func_index x y
  unfolding passes
  passes_before zero func_index x y before is = absurd (omega (arith, before))
  passes_before (suc count) func_index x y before is = elim (cases_eq func_index count) [
    | inl same ↦
        let here : (func_index == count) ≡ true = grind (arith, nat_tests) in
        rw is (rw here (ap (λ (at : ℕ). passing_in at x y) (sym same)))
    | inr other ↦
        let here : (func_index == count) ≡ false = grind (arith, nat_tests, other) in
        rw is (rw here (passes_before count func_index x y (omega (arith, other, before)) is))
  ]

  passes_more : (count more : ℕ) → count ≤ more → (point : Point) → IsBelow count point.source → passing count point ≡ true → passing more point ≡ true
  passes_more count more few point below passed = by_source point.source refl below
    where
      by_flag : (func_index : ℕ) (flag : Bool) → is_inlined func_index ≡ flag → point.source ≡ sources.Func func_index → func_index < count → passing more point ≡ true
      by_flag func_index true f is before =
          let here : point ≡ point_at (sources.Func func_index) point.x point.y = ap (λ (s : Source). point_at s point.x point.y) is in
          ap (passing more) here ∙ passes_before more func_index point.x point.y (omega (arith, few, before)) f
          ∙ sym (passes_before count func_index point.x point.y before f) ∙ sym (ap (passing count) here) ∙ passed
      by_flag func_index false f is before =
          let here : point ≡ point_at (sources.Func func_index) point.x point.y = ap (λ (s : Source). point_at s point.x point.y) is in
          ap (passing more) here ∙ passes_computed more func_index point.x point.y f ∙ sym (passes_computed count func_index point.x point.y f)
          ∙ sym (ap (passing count) here) ∙ passed

      by_source : (s : Source) → point.source ≡ s → IsBelow count s → passing more point ≡ true
      by_source (sources.Input func_index) is before =
          let here : point ≡ point_at (sources.Input func_index) point.x point.y = ap (λ (s : Source). point_at s point.x point.y) is in
          ap (passing more) here ∙ passes_input more func_index point.x point.y ∙ sym (passes_input count func_index point.x point.y) ∙ sym (ap (passing count) here)
          ∙ passed
      by_source (sources.Func func_index) is before = by_flag func_index (is_inlined func_index) refl is before

  pub pass_more : (count more : ℕ) → count ≤ more → (points : List Point) → AreBelow count points → Hold (passing count) points → Hold (passing more) points
  pass_more count more few [] below passed = tt
  pass_more count more few (point ∷ points) below passed = (passes_more count more few point below.0 passed.0, pass_more count more few points below.1 passed.1)

-- ---- what is seen, and what is read in the text

module _ (test : Point → Bool) (reads : Reads) (is_inlined : ℕ → Bool) (inputs : List Input) (funcs : List Func) (planes : Planes) (are : AreFuncs inputs funcs)
    (simple : AreSimple is_inlined funcs) where
  abbrev found : ℕ → Reads
  found count = reads_of planes (pixels funcs planes count)

  abbrev holding : ℕ → Point → Bool
  holding count = passes test is_inlined funcs planes count

  abbrev pixel : ℕ → ℕ → ℕ → ℕ
  pixel func_index x y = func_plane func_index (slice_get funcs func_index) planes (pixels funcs planes func_index) x y

  -- one value; and what is read passes where what is seen holds
  abbrev Meets : ℕ → Seen → Seen → Type 0
  Meets count s t = (s.value ≡ t.value) × (Hold test s.points → Hold (holding count) t.points)

  -- computed sources answer so
  abbrev Agrees : ℕ → Reads → Type 0
  Agrees count other = (s : Source) (n x y : ℕ) → is_computed is_inlined s ≡ true → is_read inputs funcs count s n ≡ true → reads s x y ≡ other s x y

  -- and inlined Funcs by their pixels
  abbrev Finds : ℕ → Reads → Type 0
  Finds count other = (func_index x y : ℕ) → func_index < count → is_inlined func_index ≡ true → other (sources.Func func_index) x y ≡ pixel func_index x y

  abbrev second_value : Option Seen → ℕ
  second_value y = (second_of (none (seeing reads)) y).value

  -- what a call answers by a function of its arguments
  abbrev Answers : (Seen → Option Seen → Seen) → ℕ → Type 0
  Answers made func_index = (x : Seen) (y : Option Seen) → ((made x y).value ≡ pixel func_index x.value
      (second_value y))
      × (Hold test (made x y).points → (Hold test x.points × Hold test (second_points y)) × (passes_in (holding func_index) planes (pixels funcs planes func_index)
      (slice_get funcs func_index) x.value (second_value y) ≡ true))

  abbrev AnswersIn : Option (Seen → Option Seen → Seen) → ℕ → Type 0
  AnswersIn None func_index = ⊥
  AnswersIn (Some made) func_index = Answers made func_index

  abbrev CallsBelow : ℕ → Type 0
  CallsBelow count = (func_index n : ℕ) → func_index < count → is_func_of (slice_get funcs func_index) n ≡ true → is_inlined func_index ≡ true
      → AnswersIn (made_in (seeing reads) (inside (seeing reads) is_inlined funcs func_index)
      (slice_get funcs func_index)) func_index

  module _ (count : ℕ) (other : Reads) (made : CallsBelow count) (agrees : Agrees count other) (finds : Finds count other) where
    -- what a call reads beside its indexes, and answers
    abbrev Reaches : Source → Seen → Option Seen → Seen → Type 0
    Reaches s x y r = (r.value ≡ other s x.value (second_value y))
        × (Hold test r.points → (Hold test x.points × Hold test (second_points y)) × (holding count (point_at s x.value (second_value y)) ≡ true))

    -- where nothing is inlined
    abbrev Stands : Source → Seen → Option Seen → Seen → Type 0
    Stands s x y a = (a.value ≡ reads s x.value (second_value y))
        × (Hold test a.points → (Hold test x.points × Hold test (second_points y)) × (test (point_at s x.value (second_value y)) ≡ true))

    computed_reaches : (s : Source) (n : ℕ) → is_computed is_inlined s ≡ true → is_read inputs funcs count s n ≡ true → (x : Seen) (y : Option Seen) (a : Seen)
        → Stands s x y a → Reaches s x y a
    computed_reaches s n is read x y a stands = (
      stands.0 ∙ agrees s n x.value (second_value y) is read,
      λ held. let k = stands.1 held in (k.0, passes_tested test is_inlined funcs planes count s x.value (second_value y) is ∙ k.1),
    )

    inlined_reaches : (func_index : ℕ) → func_index < count → is_inlined func_index ≡ true → (f : Option (Seen → Option Seen → Seen)) → AnswersIn f func_index
        → (x : Seen) (y : Option Seen) (a : Seen) → Reaches (sources.Func func_index) x y (answered a x y f)
    inlined_reaches func_index before flag None answers x y a = absurd answers
    inlined_reaches func_index before flag (Some f) answers x y a =
        let k = answers x y in (
          k.0 ∙ sym (finds func_index x.value (second_value y) before flag),
          λ held. let m = k.1 held in (m.0, passes_before test is_inlined funcs planes count func_index x.value (second_value y) before flag ∙ m.1),
        )

    place_reaches : (flag : Bool) (func_index n : ℕ) → is_inlined func_index ≡ flag → is_read inputs funcs count (sources.Func func_index) n ≡ true
        → (x : Seen) (y : Option Seen) (a : Seen) → Stands (sources.Func func_index) x y a
        → Reaches (sources.Func func_index) x y (answered a x y
        (inside (seeing reads) is_inlined funcs count func_index))
    place_reaches false func_index n flag read x y a stands =
        rw (inside_computed (seeing reads) is_inlined funcs count func_index flag) (computed_reaches (sources.Func func_index) n (ap not flag) read x y a stands)
    place_reaches true func_index n flag read x y a stands =
        let k = and_parts (nat_lt func_index count) (is_func_of (slice_get funcs func_index) n) read in
        let before = ltb-true func_index count k.0 in
        rw (inside_before (seeing reads) is_inlined funcs count func_index before flag)
        (inlined_reaches func_index before flag (made_in (seeing reads) (inside (seeing reads) is_inlined funcs func_index) (slice_get funcs func_index))
        (made func_index n before k.1 flag) x y a)

    reaches : (s : Source) (n : ℕ) → is_read inputs funcs count s n ≡ true → (x : Seen) (y : Option Seen) (a : Seen) → Stands s x y a
        → Reaches s x y (answered a x y (answer (inside (seeing reads) is_inlined funcs count) s))
    reaches (sources.Input func_index) n read x y a stands = computed_reaches (sources.Input func_index) n refl read x y
        a stands
    reaches (sources.Func func_index) n read x y a stands = place_reaches (is_inlined func_index) func_index n refl read
        x y a stands

    module _ (has : Variable → Bool) (vars : Variable → Seen) (environment : Environment) (are_vars : (v : Variable) → has v ≡ true
        → (vars v).value ≡ variable environment v) where
      both_hold : (a b c d : List Point) → (Hold test a → Hold (holding count) c) → (Hold test b → Hold (holding count) d) → Hold test (a ++ b)
          → Hold (holding count) (c ++ d)
      both_hold a b c d f g held =
          let k = all_parts (λ (point : Point). test point ≡ true) a b held in
          all_both (λ (point : Point). holding count point ≡ true) c d (f k.0) (g k.1)

      -- a call whose indexes meet
      call1 : (s : Source) (a b r : Seen) → Meets count a b → Reaches s a None r
          → Meets count r (record { value = other s b.value 0; points = b.points ++ (point_at s b.value 0 ∷ []) })
      unfolding seeing
      call1 s a b r m k = (
        k.0 ∙ ap (λ (x : ℕ). other s x 0) m.0,
        λ held. let h = k.1 held in
            all_both (λ (point : Point). holding count point ≡ true) b.points (point_at s b.value 0 ∷ []) (m.1 h.0.0)
            (subst (λ (x : ℕ). holding count (point_at s x 0) ≡ true) m.0 h.1, tt),
      )

      call2 : (s : Source) (a b c d r : Seen) → Meets count a b → Meets count c d → Reaches s a (Some c) r
          → Meets count r (record { value = other s b.value d.value; points = (b.points ++ d.points) ++ (point_at s b.value d.value ∷ []) })
      call2 s a b c d r m n k = (
        k.0 ∙ ap (λ (x : ℕ). other s x c.value) m.0 ∙ ap (λ (y : ℕ). other s b.value y) n.0,
        λ held. let h = k.1 held in
            all_both (λ (point : Point). holding count point ≡ true) (b.points ++ d.points) (point_at s b.value d.value ∷ [])
            (all_both (λ (point : Point). holding count point ≡ true) b.points d.points (m.1 h.0.0) (n.1 h.0.1))
            (subst (λ (y : ℕ). holding count (point_at s b.value y) ≡ true) n.0 (subst (λ (x : ℕ). holding count (point_at s x c.value) ≡ true) m.0 h.1), tt),
      )

      stands1 : (s : Source) (a : Seen) → Stands s a None (record { value = reads s a.value 0; points = a.points ++ (point_at s a.value 0 ∷ []) })
      unfolding seeing
      stands1 s a = (refl, λ held. let k = all_parts (λ (point : Point). test point ≡ true) a.points (point_at s a.value 0 ∷ []) held in ((k.0, tt), k.1.0))

      stands2 : (s : Source) (a b : Seen) → Stands s a (Some b) (record {
        value = reads s a.value b.value;
        points = (a.points ++ b.points)
            ++ (point_at s a.value b.value ∷ []);
      })
      stands2 s a b = (
        refl,
        λ held.
            let k = all_parts (λ (point : Point). test point ≡ true) (a.points ++ b.points) (point_at s a.value b.value ∷ []) held in
            let m = all_parts (λ (point : Point). test point ≡ true) a.points b.points k.0 in
            ((m.0, m.1), k.1.0),
      )

      levels : KeptLevels (Meets count) (is_read inputs funcs count) has (through_at (seeing reads) (inside (seeing reads) is_inlined funcs count) vars)
          (seen_at other environment)
      unfolding seeing
      levels (layer.Number n) kept = (refl, λ held. tt)
      levels (layer.Variable v) kept = (are_vars v kept, λ held. tt)
      levels (layer.Binary op a b) kept = (
        ap (λ (x : ℕ). word.applied op x b.left.value) a.is.0 ∙ ap (λ (x : ℕ). word.applied op a.right.value x) b.is.0,
        both_hold a.left.points b.left.points a.right.points b.right.points a.is.1 b.is.1,
      )
      levels (layer.Divide a n) kept = (ap (λ (x : ℕ). word.divide x n) a.is.0, a.is.1)
      levels (layer.Remainder a n) kept = (ap (λ (x : ℕ). word.remainder x n) a.is.0, a.is.1)
      levels (layer.Select t a b) kept = (
        ap (λ (x : ℕ). cond (x == 0) b.left.value a.left.value) t.is.0 ∙ ap (λ (x : ℕ). cond (t.right.value == 0) b.left.value x) a.is.0
            ∙ ap (λ (x : ℕ). cond (t.right.value == 0) x a.right.value) b.is.0,
        both_hold t.left.points (a.left.points ++ b.left.points) t.right.points (a.right.points ++ b.right.points) t.is.1
            (both_hold a.left.points b.left.points a.right.points b.right.points a.is.1 b.is.1),
      )
      levels (layer.Call1 s a) kept = call1 s a.left a.right _ a.is (reaches s 1 kept a.left None _ (stands1 s a.left))
      levels (layer.Call2 s a b) kept = call2 s a.left a.right b.left b.right _ a.is b.is (reaches s 2 kept a.left (Some b.left) _ (stands2 s a.left b.left))

      meets : (e : Expr) → keeps (is_read inputs funcs count) has e ≡ true
          → Meets count (inlined (seeing reads) is_inlined funcs count vars e) (seen other environment e)
      unfolding through seen
      meets e kept =
          kept_folds_related (Meets count) (is_read inputs funcs count) has (through_at (seeing reads) (inside (seeing reads) is_inlined funcs count) vars)
          (seen_at other environment) levels e kept

  -- ---- inlined Funcs

  arguments_are : (x y : Seen) (v : Variable) → (arguments (none (seeing reads)) (unread x) (unread y) v).value ≡ variable (at_point x.value y.value) v
  unfolding seeing
  arguments_are x y variables.FirstArgument = refl
  arguments_are x y variables.SecondArgument = refl
  arguments_are x y variables.FirstReduction = refl
  arguments_are x y variables.SecondReduction = refl

  -- what is seen of expressions that call the first this many Funcs
  abbrev Within : ℕ → Type 0
  Within count = (has : Variable → Bool) (vars : Variable → Seen) (environment : Environment) → ((v : Variable) → has v ≡ true
      → (vars v).value ≡ variable environment v)
      → (e : Expr) → keeps (is_read inputs funcs count) has e ≡ true
      → Meets count (inlined (seeing reads) is_inlined funcs count vars e) (seen (found count) environment e)

  func_at : (func_index n : ℕ) (own : Option Func) → slice_get funcs func_index ≡ own → is_func_of own n ≡ true → is_inlined func_index ≡ true → Within func_index
      → AnswersIn (made_in (seeing reads) (inside (seeing reads) is_inlined funcs func_index) own) func_index
  unfolding seeing
  func_at func_index n None is ok flag inner = absurd cc
  func_at func_index n (Some func) is ok flag inner = λ x y.
      let second = second_of (none (seeing reads)) y in
      let point = at_point x.value second.value in
      let m = inner (is_argument (dimensions func)) (arguments (none (seeing reads)) (unread x) (unread second)) point (λ v has. arguments_are x second v)
      func.pure (are func_index func is).pure in
      let here : pixel func_index x.value second.value ≡ value (found func_index) point func.pure =
      ap (λ (f : Option Func). func_plane func_index f planes (pixels funcs planes func_index) x.value second.value) is
      ∙ pure_only reads is_inlined inputs funcs planes are simple func_index func x.value second.value (length func.updates) (simple func_index func is flag) in (
        m.0 ∙ values_are_seen (found func_index) point func.pure ∙ sym here,
        λ held.
            let k = all_parts (λ (p : Point). test p ≡ true) x.points _ held in
            let l = all_parts (λ (p : Point). test p ≡ true) (second_points y) _ k.1 in (
              (k.0, l.0),
              ap (λ (f : Option Func). passes_in (holding func_index) planes (pixels funcs planes func_index) f x.value second.value) is
                  ∙ all_hold (holding func_index) (points_read (found func_index) point func.pure) (m.1 l.1),
            ),
      )

  finds_pixels : (count : ℕ) → Finds count (found count)
  finds_pixels count func_index x y before flag = pixels_before funcs planes count func_index x y before

  within : (bound count : ℕ) → count ≤ bound → Agrees count (found count) → Within count
  within zero count few agrees = meets count (found count) (λ func_index n before ok flag. absurd (omega (arith, few, before))) agrees (finds_pixels count)
  within (suc bound) count few agrees =
      meets count (found count)
      (λ func_index n before ok flag.
      func_at func_index n (slice_get funcs func_index) refl ok flag
      (within bound func_index (omega (arith, few, before)) (fewer reads is_inlined inputs funcs planes are simple count func_index (omega (arith, before)) agrees)))
      agrees (finds_pixels count)

  -- ---- in an update

  module _ (own : ℕ) (plane : Plane) (computed : is_inlined own ≡ false) (agrees : Agrees own (found own)) (stands : (x y : ℕ)
      → reads (sources.Func own) x y ≡ plane x y) where
    abbrev standing : Reads
    standing = reads_of planes (with_plane own plane (pixels funcs planes own))

    other_place : (func_index : ℕ) → is_inlined func_index ≡ true → func_index ≡ own → ⊥
    other_place func_index flag same = let e : is_inlined own ≡ true = subst (λ (at : ℕ). is_inlined at ≡ true) same flag in absurd cc

    finds_standing : Finds (suc own) standing
    finds_standing func_index x y before flag =
        let no = other_place func_index flag in
        let here : (func_index == own) ≡ false = grind (arith, nat_tests, no) in
        rw here (pixels_before funcs planes own func_index x y (omega (arith, no, before)))

    within_update : (has : Variable → Bool) (environment : Environment) (e : Expr) → keeps (is_read inputs funcs (suc own)) has e ≡ true
        → Meets (suc own) (inlined (seeing reads) is_inlined funcs (suc own) (seen_variable environment) e) (seen standing environment e)
    within_update has environment e kept =
        meets (suc own) standing
        (λ func_index n before ok flag.
        func_at func_index n (slice_get funcs func_index) refl ok flag
        (within own func_index (omega (arith, before)) (fewer reads is_inlined inputs funcs planes are simple own func_index (omega (arith, before)) agrees)))
        (own_agrees reads is_inlined inputs funcs planes are simple own plane computed agrees stands) finds_standing
        has (seen_variable environment) environment (λ v held. refl) e kept

-- ---- the laws

pub computed_points_are_tested : ComputedPointsAreTested
computed_points_are_tested test is_inlined funcs planes count point is = passes_tested test is_inlined funcs planes count point.source point.x point.y is

pub seen_points_pass : SeenPointsPass
seen_points_pass test reads is_inlined inputs funcs planes are simple count answers has environment e kept held more few =
    pass_more test is_inlined funcs planes count more few (points_read (reads_of planes (pixels funcs planes count)) environment e)
    (points_below inputs funcs count (reads_of planes (pixels funcs planes count)) environment has e kept)
    ((within test reads is_inlined inputs funcs planes are simple count count (omega arith) answers has (seen_variable environment) environment (λ v held. refl)
    e kept).1 held)

pub seen_points_pass_in_updates : SeenPointsPassInUpdates
seen_points_pass_in_updates test reads is_inlined inputs funcs planes are simple own plane computed answers stands has environment e kept held more few =
    pass_more test is_inlined funcs planes (suc own) more few (points_read (reads_of planes (with_plane own plane (pixels funcs planes own))) environment e)
    (points_below inputs funcs (suc own) (reads_of planes (with_plane own plane (pixels funcs planes own))) environment has e kept)
    ((within_update test reads is_inlined inputs funcs planes are simple own plane computed answers stands has environment e kept).1 held)

pub passing_is_closed : PassingIsClosed
unfolding stage_trace
passing_is_closed test is_inlined inputs funcs planes are simple more place x y before flag passed =
    by_func (slice_get funcs place) refl (sym (passes_before test is_inlined funcs planes more place x y before flag) ∙ passed)
  where
    pure_trace : (func : Func) (updates : ℕ) → updates ≡ 0
        → Hold (passes test is_inlined funcs planes more) (points_read (reads_of planes (pixels funcs planes place)) (at_point x y) func.pure)
        → Hold (passes test is_inlined funcs planes more) (stage_trace place func planes (pixels funcs planes place) untraced updates x y)
    pure_trace func zero none held = traced_alone (passes test is_inlined funcs planes more) (points_read (reads_of planes (pixels funcs planes place))
        (at_point x y) func.pure) held
    pure_trace func (suc updates) none held = absurd (omega (arith, none))

    by_func : (own_func : Option Func) → slice_get funcs place ≡ own_func → passes_in (passes test is_inlined funcs planes place) planes (pixels funcs planes place)
        (slice_get funcs place) x y ≡ true
        → Hold (passes test is_inlined funcs planes more) (func_trace place (slice_get funcs place) planes (pixels funcs planes place) untraced x y)
    by_func None is holds = rw is tt
    by_func (Some func) is holds =
        let read = points_read (reads_of planes (pixels funcs planes place)) (at_point x y) func.pure in
        let all : list_all (passes test is_inlined funcs planes place) read ≡ true =
        sym (ap (λ (f : Option Func). passes_in (passes test is_inlined funcs planes place) planes (pixels funcs planes place) f x y) is) ∙ holds in
        let below = points_below inputs funcs place (reads_of planes (pixels funcs planes place)) (at_point x y) (is_argument (dimensions func)) func.pure
        (are place func is).pure in
        rw is (pure_trace func (length func.updates) (simple place func is flag)
        (pass_more test is_inlined funcs planes place more (omega (arith, before)) read below (hold_all (passes test is_inlined funcs planes place) read all)))

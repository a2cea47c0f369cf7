-- What is read is of Funcs that the reader calls, also through inlined ones.
use Rattle.std.proofs.Common.{◌≡◌, ℕ, zero, suc, ◌<◌, ◌≤◌, Bool, true, false, List, [], ◌∷◌, ◌++◌, Option, None, Some, ◌⊎◌, refl, sym, ap, subst, ◌∙◌, arith}
use Rattle.std.proofs.Common.{inl, inr, true≢false}
use Rattle.std.specs.Prelude.{◌==◌, ◌||◌, nat_lt, slice_get, is_some}
use Rattle.std.specs.List.{AllByRecursion}
use Rattle.std.proofs.lemmas.Bool.{and_parts, ltb-true, cases_eq, cases_lt, eq-eqb}
use Rattle.halide_pipeline.specs.declared.definitions.Func.{Func}
use Rattle.halide_pipeline.specs.declared.definitions.Input.{Input}
use Rattle.halide_pipeline.specs.declared.definitions.Update.{Update}
use Rattle.halide_pipeline.specs.declared.expressions.Expr.{Expr, fold-Expr, map-Expr}
use Rattle.halide_pipeline.specs.declared.expressions.Expr.TheOpen.{Expr-F}
use Rattle.halide_pipeline.specs.declared.expressions.Expr.TheOpen as layer
use Rattle.halide_pipeline.specs.declared.expressions.Source.{Source}
use Rattle.halide_pipeline.specs.declared.expressions.Source.TheVariants as sources
use Rattle.halide_pipeline.specs.declared.expressions.Variable.{Variable}
use Rattle.halide_pipeline.specs.declared.expressions.Variable.TheVariants as variables
use Rattle.halide_pipeline.specs.WellFormed.{dimensions, keeps, keeps_index, is_read, is_input_of, is_func_of, is_argument, is_update_variable, IsWellFormed}
use Rattle.halide_pipeline.specs.WellFormed.{IsUpdate}
use Rattle.halide_pipeline.specs.Pipelines.{Pipeline}
use Rattle.halide_pipeline.specs.declared.environments.Environment.{Environment}
use Rattle.halide_pipeline.specs.Pixel.{Reads, at_point, at_reduction}
use Rattle.halide_pipeline.specs.Points.{Point, Seen}
use Rattle.halide_pipeline.proofs.Seeing.{all_both}
use Rattle.schedule.specs.declared.placements.FuncPlacement.{FuncPlacement}
use Rattle.schedule.specs.Placements.{is_func, calls, calls_at, second_calls, update_calls, updates_call, func_calls, place_calls, place_calls_of}
use Rattle.bounds_inlining.specs.Inlining.{none, second_of, arguments, answer, answered, through, through_at, inside, made_in, inlined, flagged}
use Rattle.bounds_inlining.specs.Laws.{seen_variable}
use Rattle.bounds_inlining.specs.Values.{seeing, unread, second_points}
use Rattle.bounds_inlining.proofs.Kept.{inside_computed}
use Rattle.bounds_inlining.proofs.KeptFolds.{KeptLevels, kept_folds_related}
use Rattle.bounds_inlining.proofs.Steps.{inside_before}
use Rattle.bounds_weights.specs.Weight.{flags_of}
use Rattle.bounds_laws.specs.Callers.{ReadsThrough, Calls, Through, IsReadThrough, AreReadThrough, PurePointsAreReadThrough, UpdatePointsAreReadThrough}
use Rattle.bounds_laws.specs.Laws.{seen_in, second_seen}

pub or_left : (a b : Bool) → a ≡ true → (a || b) ≡ true
or_left true b e = refl
or_left false b e = cc

pub or_right : (a b : Bool) → b ≡ true → (a || b) ≡ true
or_right true b e = refl
or_right false b e = e

-- ---- calls of all Funcs at once

abbrev pub callers_at : Expr-F (ℕ → Bool) → ℕ → Bool
callers_at level func = calls_at func (map-Expr (ℕ → Bool) Bool (λ f. f func) level)

abbrev pub callers : Expr → ℕ → Bool
callers e = fold-Expr (ℕ → Bool) callers_at e

module _ (reads : Source → ℕ → Bool) (has : Variable → Bool) (func : ℕ) where
  abbrev Same : (ℕ → Bool) → Bool → Type 0
  Same f b = f func ≡ b

  either : (a b c d : Bool) → a ≡ c → b ≡ d → (a || b) ≡ (c || d)
  either a b c d e f = ap (λ (t : Bool). t || b) e ∙ ap (λ (t : Bool). c || t) f

  same_levels : KeptLevels Same reads has callers_at (calls_at func)
  same_levels (layer.Number n) kept = refl
  same_levels (layer.Variable v) kept = refl
  same_levels (layer.Binary op a b) kept = either (a.left func) (b.left func) a.right b.right a.is b.is
  same_levels (layer.Divide a n) kept = a.is
  same_levels (layer.Remainder a n) kept = a.is
  same_levels (layer.Select c a b) kept = either (c.left func || a.left func) (b.left func) (c.right || a.right) b.right (either (c.left func) (a.left func)
      c.right a.right c.is a.is) b.is
  same_levels (layer.Call1 s a) kept = ap (λ (t : Bool). is_func func s || t) a.is
  same_levels (layer.Call2 s a b) kept = either (is_func func s || a.left func) (b.left func) (is_func func s || a.right) b.right
      (ap (λ (t : Bool). is_func func s || t) a.is) b.is

  pub callers_are : (e : Expr) → keeps reads has e ≡ true → callers e func ≡ calls func e
  unfolding calls
  callers_are e kept = kept_folds_related Same reads has callers_at (calls_at func) same_levels e kept

-- ---- what an expression of a Func reads

module _ (pipeline : Pipeline) (standings : List FuncPlacement) (rules : IsWellFormed pipeline) (reads : Reads) where
  abbrev is_inlined : ℕ → Bool
  is_inlined = flagged (flags_of standings)

  abbrev Good : ℕ → ℕ → Point → Type 0
  Good reader count point = IsReadThrough pipeline standings reader count point.source

  abbrev AllGood : ℕ → ℕ → List Point → Type 0
  AllGood reader count points = AllByRecursion (Good reader count) points

  both_good : (reader count : ℕ) (a b : List Point) → AllGood reader count a → AllGood reader count b → AllGood reader count (a ++ b)
  both_good reader count a b f g = all_both (Good reader count) a b f g

  -- what an inlined Func reads that the reader calls, the reader reads
  lifted : (reader count func_index : ℕ) → func_index < count → func_index < reader → is_inlined func_index ≡ true → place_calls pipeline reader func_index ≡ true → (s : Source)
      → IsReadThrough pipeline standings func_index func_index s
      → IsReadThrough pipeline standings reader count s
  lifted reader count func_index few before flag called (sources.Input other) good = good
  lifted reader count func_index few before flag called (sources.Func other) (plain, (below, inl e)) = absurd (omega (arith, e, below))
  lifted reader count func_index few before flag called (sources.Func other) (plain, (below, inr r)) =
      (plain, (omega (arith, few, below), inr (Through reader func_index other before flag called r)))

  all_lifted : (reader count func_index : ℕ) → func_index < count → func_index < reader → is_inlined func_index ≡ true → place_calls pipeline reader func_index ≡ true
      → (points : List Point) → AllGood func_index func_index points → AllGood reader count points
  all_lifted reader count func_index few before flag called [] good = tt
  all_lifted reader count func_index few before flag called (point ∷ points) good =
      (lifted reader count func_index few before flag called point.source good.0, all_lifted reader count func_index few before flag called points good.1)

  more_good : (reader : ℕ) (points : List Point) → AllGood reader reader points → AllGood reader (suc reader) points
  more_good reader [] good = tt
  more_good reader (point ∷ points) good = (by_source point.source good.0, more_good reader points good.1)
    where
      by_source : (s : Source) → IsReadThrough pipeline standings reader reader s → IsReadThrough pipeline standings reader (suc reader) s
      by_source (sources.Input func_index) read = read
      by_source (sources.Func func_index) read = (read.0, (omega (arith, read.1.0), read.1.1))

  input_some : (input : Option Input) (n : ℕ) → is_input_of input n ≡ true → is_some input ≡ true
  input_some None n e = absurd cc
  input_some (Some input) n e = refl

  abbrev Claim : ℕ → ℕ → Type 0
  Claim reader count =
      (vars : Variable → Seen) → ((v : Variable) → AllGood reader count (vars v).points) → (has : Variable → Bool) (e : Expr)
      → keeps (is_read pipeline.inputs pipeline.funcs count) has e ≡ true
      → ((func : ℕ) → calls func e ≡ true → place_calls pipeline reader func ≡ true)
      → AllGood reader count (through (seeing reads) (inside (seeing reads) is_inlined pipeline.funcs count) vars e).points

  -- no inlined Func among the first this many is the reader
  abbrev Precede : ℕ → ℕ → Type 0
  Precede count reader = (func_index : ℕ) → func_index < count → is_inlined func_index ≡ true → func_index < reader

  made_good : (reader count func_index : ℕ) → func_index < count → func_index < reader → is_inlined func_index ≡ true → place_calls pipeline reader func_index ≡ true → Claim func_index func_index
      → (found_func : Option Func) → slice_get pipeline.funcs func_index ≡ found_func → (n : ℕ) → is_func_of found_func n ≡ true → (a x : Seen) (y : Option Seen)
      → AllGood reader count x.points → AllGood reader count (second_points y)
      → AllGood reader count (answered a x y (made_in (seeing reads) (inside (seeing reads) is_inlined pipeline.funcs func_index) found_func)).points
  unfolding seeing place_calls func_calls
  made_good reader count func_index few before flag called claim None is n some a x y gx gy = absurd cc
  made_good reader count func_index few before flag called claim (Some func) is n some a x y gx gy =
      let vars = arguments (none (seeing reads)) (unread x) (unread (second_of (none (seeing reads)) y)) in
      let v = through (seeing reads) (inside (seeing reads) is_inlined pipeline.funcs func_index) vars func.pure in
      both_good reader count x.points (second_points y ++ v.points) gx
      (both_good reader count (second_points y) v.points gy
      (all_lifted reader count func_index few before flag called v.points (claim vars nothing (is_argument (dimensions func)) func.pure
      (rules.funcs func_index func is).pure calling)))
    where
      nothing : (v : Variable) → AllGood func_index func_index (arguments (none (seeing reads)) (unread x) (unread (second_of (none (seeing reads)) y)) v).points
      nothing variables.FirstArgument = tt
      nothing variables.SecondArgument = tt
      nothing variables.FirstReduction = tt
      nothing variables.SecondReduction = tt

      calling : (other : ℕ) → calls other func.pure ≡ true → place_calls pipeline func_index other ≡ true
      calling other e = ap (place_calls_of other) is ∙ or_left (calls other func.pure) (updates_call other func.updates) e

  module _ (reader count : ℕ) (few : count ≤ suc reader) (precede : Precede count reader) (claims : (func_index : ℕ) → func_index < count → is_inlined func_index ≡ true
      → Claim func_index func_index) where
    answered_good : (s : Source) (n : ℕ) → is_read pipeline.inputs pipeline.funcs count s n ≡ true → ((func : ℕ) → is_func func s ≡ true
        → place_calls pipeline reader func ≡ true)
        → (a x : Seen) (y : Option Seen) → (IsReadThrough pipeline standings reader count s → AllGood reader count a.points) → AllGood reader count x.points
        → AllGood reader count (second_points y)
        → AllGood reader count (answered a x y (answer (inside (seeing reads) is_inlined pipeline.funcs count) s)).points
    answered_good (sources.Input func_index) n read called a x y ga gx gy = ga (input_some (slice_get pipeline.inputs func_index) n read)
    answered_good (sources.Func func_index) n read called a x y ga gx gy = by_flag (is_inlined func_index) refl
      where
        parts : (nat_lt func_index count ≡ true) × (is_func_of (slice_get pipeline.funcs func_index) n ≡ true)
        parts = and_parts (nat_lt func_index count) (is_func_of (slice_get pipeline.funcs func_index) n) read

        before : func_index < count
        before = ltb-true func_index count parts.0

        own_call : place_calls pipeline reader func_index ≡ true
        own_call = called func_index (eq-eqb func_index func_index refl)

        by_place : (func_index ≡ reader) ⊎ ReadsThrough pipeline standings reader func_index
        by_place = elim (cases_lt func_index reader) [
          | inl l ↦ inr (Calls reader func_index l own_call)
          | inr l ↦ inl (omega (arith, l, before, few))
        ]

        own_read : is_inlined func_index ≡ false → IsReadThrough pipeline standings reader count
            (sources.Func func_index)
        own_read flag = (flag, (before, by_place))

        by_flag : (flag : Bool) → is_inlined func_index ≡ flag
            → AllGood reader count (answered a x y (inside (seeing reads) is_inlined pipeline.funcs count
            func_index)).points
        by_flag false f = rw (inside_computed (seeing reads) is_inlined pipeline.funcs count func_index f)
            (ga (own_read f))
        by_flag true f =
            rw (inside_before (seeing reads) is_inlined pipeline.funcs count func_index before f)
            (made_good reader count func_index before (precede func_index before f) f own_call (claims func_index before f) (slice_get pipeline.funcs func_index) refl n parts.1 a x
            y gx gy)

    abbrev Reach : (ℕ → Bool) → Seen → Type 0
    Reach f s = ((func : ℕ) → f func ≡ true → place_calls pipeline reader func ≡ true) → AllGood reader count s.points

    module _ (vars : Variable → Seen) (quiet : (v : Variable) → AllGood reader count (vars v).points) (has : Variable → Bool) where
      levels : KeptLevels Reach (is_read pipeline.inputs pipeline.funcs count) has callers_at (through_at (seeing reads) (inside (seeing reads) is_inlined
          pipeline.funcs count) vars)
      unfolding seeing
      levels (layer.Number n) kept = λ called. tt
      levels (layer.Variable v) kept = λ called. quiet v
      levels (layer.Binary op a b) kept = λ called.
          both_good reader count a.right.points b.right.points (a.is (λ f e. called f (or_left (a.left f) (b.left f) e)))
          (b.is (λ f e. called f (or_right (a.left f) (b.left f) e)))
      levels (layer.Divide a n) kept = λ called. a.is called
      levels (layer.Remainder a n) kept = λ called. a.is called
      levels (layer.Select c a b) kept = λ called.
          both_good reader count c.right.points (a.right.points ++ b.right.points)
          (c.is (λ f e. called f (or_left (c.left f || a.left f) (b.left f) (or_left (c.left f) (a.left f) e))))
          (both_good reader count a.right.points b.right.points
          (a.is (λ f e. called f (or_left (c.left f || a.left f) (b.left f) (or_right (c.left f) (a.left f) e))))
          (b.is (λ f e. called f (or_right (c.left f || a.left f) (b.left f) e))))
      levels (layer.Call1 s a) kept = λ called.
          let ga = a.is (λ f e. called f (or_right (is_func f s) (a.left f) e)) in
          answered_good s 1 kept (λ f e. called f (or_left (is_func f s) (a.left f) e)) _ a.right None (λ input. both_good reader count a.right.points _ ga
          (input, tt)) ga tt
      levels (layer.Call2 s a b) kept = λ called.
          let ga = a.is (λ f e. called f (or_left (is_func f s || a.left f) (b.left f) (or_right (is_func f s) (a.left f) e))) in
          let gb = b.is (λ f e. called f (or_right (is_func f s || a.left f) (b.left f) e)) in
          answered_good s 2 kept (λ f e. called f (or_left (is_func f s || a.left f) (b.left f) (or_left (is_func f s) (a.left f) e))) _ a.right (Some b.right)
          (λ input. both_good reader count (a.right.points ++ b.right.points) _ (both_good reader count a.right.points b.right.points ga gb) (input, tt)) ga gb

      claimed : (e : Expr) → keeps (is_read pipeline.inputs pipeline.funcs count) has e ≡ true → ((func : ℕ) → calls func e ≡ true
          → place_calls pipeline reader func ≡ true)
          → AllGood reader count (through (seeing reads) (inside (seeing reads) is_inlined pipeline.funcs count) vars e).points
      unfolding through
      claimed e kept called =
          kept_folds_related Reach (is_read pipeline.inputs pipeline.funcs count) has callers_at (through_at (seeing reads) (inside (seeing reads) is_inlined
          pipeline.funcs count) vars) levels e kept
          (λ f is. called f (sym (callers_are (is_read pipeline.inputs pipeline.funcs count) has f e kept) ∙ is))

  -- of all Funcs before a place
  claims_below : (most func_index : ℕ) → func_index < most → Claim func_index func_index
  claims_below zero func_index below = absurd (omega (arith, below))
  claims_below (suc most) func_index below =
      claimed func_index func_index (omega arith) (λ other before flag. before) (λ other before flag. claims_below most other (omega (arith, before, below)))

  pub expression_good : (reader count : ℕ) → count ≤ suc reader → Precede count reader → (environment : Environment) (has : Variable → Bool) (e : Expr)
      → keeps (is_read pipeline.inputs pipeline.funcs count) has e ≡ true
      → ((func : ℕ) → calls func e ≡ true → place_calls pipeline reader func ≡ true)
      → AllGood reader count (inlined (seeing reads) is_inlined pipeline.funcs count (seen_variable environment) e).points
  expression_good reader count few precede environment has e kept called =
      claimed reader count few precede (λ func_index before flag. claims_below (suc func_index) func_index (omega arith)) (seen_variable environment) (λ v. tt) has e kept
      called

pub pure_points_are_read_through : PurePointsAreReadThrough
unfolding place_calls func_calls
pure_points_are_read_through pipeline schedule rules reader func func_is reads x y =
    expression_good pipeline schedule.standings rules reads reader reader (omega arith) (λ place before flag. before) (at_point x y)
    (is_argument (dimensions func)) func.pure (rules.funcs reader func func_is).pure calling
  where
    calling : (other : ℕ) → calls other func.pure ≡ true → place_calls pipeline reader other ≡ true
    calling other e = ap (place_calls_of other) func_is ∙ or_left (calls other func.pure) (updates_call other func.updates) e

-- ---- updates

pub updates_one : (func : ℕ) (updates : List Update) (at : ℕ) (update : Update) → slice_get updates at ≡ Some update → update_calls func update ≡ true
    → updates_call func updates ≡ true
updates_one func [] at update is e = absurd cc
updates_one func (first ∷ others) zero update is e =
    or_left (update_calls func first) (updates_call func others) (ap (update_calls func) (first_is first update is) ∙ e)
  where
    first_is : (a b : Update) → Some a ≡ Some b → a ≡ b
    first_is a b s = cc
updates_one func (first ∷ others) (suc at) update is e = or_right (update_calls func first) (updates_call func others) (updates_one func others at update is e)

pub update_points_are_read_through : UpdatePointsAreReadThrough
unfolding place_calls func_calls
update_points_are_read_through pipeline schedule rules reader func func_is plain at update update_is reads number x y =
    both_good pipeline schedule.standings rules reads reader (suc reader) (seen_in pipeline schedule reads reader point update.left_x).points
    _ (more_good pipeline schedule.standings rules reads reader (seen_in pipeline schedule reads reader point update.left_x).points left_x)
    (both_good pipeline schedule.standings rules reads reader (suc reader) (second_seen pipeline schedule reads reader point update.left_y).points
    _ (more_good pipeline schedule.standings rules reads reader (second_seen pipeline schedule reads reader point update.left_y).points
    (second update.left_y refl formed.left_y))
    ((plain, (omega arith, inl refl)), right))
  where
    point : Environment
    point = at_reduction update number x y

    formed : IsUpdate pipeline.inputs pipeline.funcs reader (dimensions func) update
    formed = (rules.funcs reader func func_is).updates at update update_is

    has : Variable → Bool
    has = is_update_variable (dimensions func) update.second

    calling : (other : ℕ) → update_calls other update ≡ true → place_calls pipeline reader other ≡ true
    calling other e = ap (place_calls_of other) func_is ∙ or_right (calls other func.pure) (updates_call other func.updates) (updates_one other func.updates at
        update update_is e)

    left_x : AreReadThrough pipeline schedule.standings reader reader (seen_in pipeline schedule reads reader point update.left_x).points
    left_x =
        expression_good pipeline schedule.standings rules reads reader reader (omega arith) (λ func_index before flag. before) point has update.left_x formed.left_x
        (λ other e. calling other (or_left (calls other update.left_x || second_calls other update.left_y) (calls other update.right)
        (or_left (calls other update.left_x) (second_calls other update.left_y) e)))

    second : (index : Option Expr) → index ≡ update.left_y → keeps_index (is_read pipeline.inputs pipeline.funcs reader) has (dimensions func) index ≡ true
        → AreReadThrough pipeline schedule.standings reader reader (second_seen pipeline schedule reads reader point index).points
    second None is kept = tt
    second (Some index) is kept =
        expression_good pipeline schedule.standings rules reads reader reader (omega arith) (λ func_index before flag. before) point has index
        (and_parts (dimensions func == 2) (keeps (is_read pipeline.inputs pipeline.funcs reader) has index) kept).1
        (λ other e. calling other (or_left (calls other update.left_x || second_calls other update.left_y) (calls other update.right)
        (or_right (calls other update.left_x) (second_calls other update.left_y) (ap (second_calls other) (sym is) ∙ e))))

    precede : (func_index : ℕ) → func_index < suc reader → flagged (flags_of schedule.standings) func_index ≡ true
        → func_index < reader
    precede func_index below flag = elim (cases_eq func_index reader) [
      | inl e ↦ let wrong : flagged (flags_of schedule.standings) reader ≡ true = subst (λ (n : ℕ). flagged (flags_of schedule.standings) n ≡ true) e flag in
          absurd (true≢false (sym wrong ∙ plain))
      | inr d ↦ omega (arith, d, below)
    ]

    right : AreReadThrough pipeline schedule.standings reader (suc reader) (seen_in pipeline schedule reads (suc reader) point update.right).points
    right =
        expression_good pipeline schedule.standings rules reads reader (suc reader) (omega arith) precede point has update.right formed.right
        (λ other e. calling other (or_right (calls other update.left_x || second_calls other update.left_y) (calls other update.right) e))

-- What holds of the bases of all variables holds of the bases of all that is made of them, and of all that is asked: where it holds of
-- no base and operations on bases keep it.
use Rattle.std.proofs.Common.{◌≡◌, ℕ, suc, ◌+◌, ◌-◌, ◌^◌, Bool, true, false, cond, List, [], ◌∷◌, ◌++◌, Option, None, Some, ◌==◌, sym, ap, ◌∙◌, arith}
use Rattle.std.specs.Prelude.{◌&&◌, nat_le, slice_get}
use Rattle.std.specs.List.{AllByRecursion}
use Rattle.std.proofs.lemmas.Bool.{and_parts}
use Rattle.halide_pipeline.specs.declared.definitions.Func.{Func}
use Rattle.halide_pipeline.specs.declared.definitions.Input.{Input}
use Rattle.halide_pipeline.specs.declared.definitions.Reduction.{Reduction}
use Rattle.halide_pipeline.specs.declared.definitions.Update.{Update}
use Rattle.halide_pipeline.specs.declared.expressions.Expr.{Expr}
use Rattle.halide_pipeline.specs.declared.expressions.Expr.TheOpen as layer
use Rattle.halide_pipeline.specs.declared.expressions.Operation.{Operation}
use Rattle.halide_pipeline.specs.declared.expressions.Operation.TheVariants as op
use Rattle.halide_pipeline.specs.declared.expressions.Source.{Source}
use Rattle.halide_pipeline.specs.declared.expressions.Source.TheVariants as sources
use Rattle.halide_pipeline.specs.declared.expressions.Variable.{Variable}
use Rattle.halide_pipeline.specs.declared.expressions.Variable.TheVariants as variables
use Rattle.halide_pipeline.specs.WellFormed.{dimensions, IsWellFormed, IsUpdate, is_argument, is_update_variable, keeps, keeps_index, is_read}
use Rattle.halide_pipeline.specs.Pipelines.{Pipeline}
use Rattle.halide_pipeline.proofs.Seeing.{all_both}
use Rattle.halide_pipeline.specs.Levels.{Both}
use Rattle.bounds_inlining.specs.Inlining.{Algebra, Inside, inside, through_at, flagged}
use Rattle.bounds_inlining.specs.Laws.{AreFuncs, RelatesLevels, RelatesArguments, RelatesSeconds, RelatesCalls}
use Rattle.bounds_inlining.proofs.Kept.{levels_related, kept_related}
use Rattle.bounds_inlining.proofs.KeptFolds.{KeptLevels, kept_folds_related}
use Rattle.bounds_ranges.specs.declared.bases.Multiple.{Multiple}
use Rattle.bounds_ranges.specs.declared.expressions.ReadRange.{ReadRange}
use Rattle.bounds_ranges.specs.declared.expressions.OwnCalls.{OwnCalls}
use Rattle.bounds_ranges.specs.declared.ranges.CommonBase.{CommonBase}
use Rattle.bounds_ranges.specs.declared.ranges.Ends.{Ends}
use Rattle.bounds_ranges.specs.declared.ranges.Range.{Range}
use Rattle.bounds_ranges.specs.Ranges.{no_base, add_base, negated, times_base, same_base, more_sum, less_sum, between, every, ends_of, fit, widened, added}
use Rattle.bounds_ranges.specs.Ranges.{subtracted, aligned, together, lesser, greater, hull, operated, crossed, times_end, ordered, scaled_base, scaled}
use Rattle.bounds_ranges.specs.Ranges.{is_number, multiplied, divided_ends, divided, remainders, literal}
use Rattle.bounds_ranges.specs.Numbers.{origin, spot, least, greatest}
use Rattle.bounds_ranges.specs.Expressions.{Ranged, ranging, second_asked, unasked_variable, pixels_of, called, ranges_where, is_anywhere, chosen, ranged}
use Rattle.bounds_ranges.specs.Expressions.{ranged_update, range_of, walked}
use Rattle.bounds.specs.declared.boxes.SourceBox.{SourceBox}
use Rattle.bounds.specs.Inference.{second_range, pure_variables, update_variables, own_calls, left, second_left, right, update_asked, updates_asked, func_asked}
use Rattle.bounds.specs.Inference.{unplaced}
use Rattle.bounds.specs.Boxes.{no_loops}

pub record IsClosed (Holds : List Multiple → Type 0) : Type 0 where
  pub none : Holds no_base
  pub added : (a b : List Multiple) → Holds a → Holds b → Holds (add_base a b)
  pub opposite : (a : List Multiple) → Holds a → Holds (negated a)
  pub times : (n : ℕ) (a : List Multiple) → Holds a → Holds (times_base n a)

abbrev pub AreHeld : (List Multiple → Type 0) → List ReadRange → Type 0
AreHeld Holds asked = AllByRecursion (λ (read : ReadRange). Holds read.x.base × Holds read.y.base) asked

-- ---- operations

module _ (Holds : List Multiple → Type 0) (closed : IsClosed Holds) (lasts : List ℕ) where
  fit_by : (test : Bool) (base : List Multiple) (ends : Ends) → Holds base
      → Holds (cond test (record { base = base; low = ends.low; high = ends.high }) every).base
  fit_by true base ends e = e
  fit_by false base ends e = closed.none

  pub fit_held : (base : List Multiple) (ends : Ends) → Holds base → Holds (fit lasts base ends).base
  fit_held base ends e = fit_by (nat_le (least + less_sum base lasts) ends.low && nat_le (ends.high + more_sum base lasts) greatest) base ends e

  added_held : (a b : Range) → Holds a.base → Holds b.base → Holds (added lasts a b).base
  added_held a b ea eb =
      fit_held (add_base a.base b.base) (record { low = a.low + b.low - origin; high = a.high + b.high - origin })
      (closed.added a.base b.base ea eb)

  subtracted_held : (a b : Range) → Holds a.base → Holds b.base → Holds (subtracted lasts a b).base
  subtracted_held a b ea eb =
      fit_held (add_base a.base (negated b.base)) (record { low = a.low + origin - b.high; high = a.high + origin - b.low })
      (closed.added a.base (negated b.base) ea (closed.opposite b.base eb))

  common_base : (test : Bool) (a b : Range) → Holds a.base
      → Holds (cond {A = CommonBase} test (record { base = a.base; first = ends_of a; second = ends_of b }) (record {
        base = no_base;
        first =
            widened lasts a;
        second = widened lasts b;
      })).base
  common_base true a b ea = ea
  common_base false a b ea = closed.none

  together_held : (ends : Ends → Ends → Ends) (a b : Range) → Holds a.base → Holds (together lasts ends a b).base
  together_held ends a b ea =
      let both = aligned lasts a b in
      fit_held both.base (ends both.first both.second) (common_base (same_base a.base b.base) a b ea)

  scaled_by : (test : Bool) (n m : ℕ) (base : List Multiple) → Holds base → Holds (cond test (times_base n base) (times_base m (negated base)))
  scaled_by true n m base e = closed.times n base e
  scaled_by false n m base e = closed.times m (negated base) (closed.opposite base e)

  scaled_held : (a : Range) (c : ℕ) → Holds a.base → Holds (scaled lasts a c).base
  scaled_held a c ea = fit_held (scaled_base c a.base) (ordered (times_end a.low c) (times_end a.high c)) (scaled_by (nat_le origin c) (c - origin) (origin - c)
      a.base ea)

  one_of : (test : Bool) (a b : Range) → Holds a.base → Holds b.base → Holds (cond test a b).base
  one_of true a b ea eb = ea
  one_of false a b ea eb = eb

  multiplied_held : (a b : Range) → Holds a.base → Holds b.base → Holds (multiplied lasts a b).base
  multiplied_held a b ea eb =
      one_of (is_number b) (scaled lasts a b.low) (cond (is_number a) (scaled lasts b a.low) (fit lasts no_base (crossed (widened lasts a) (widened lasts b))))
      (scaled_held a b.low ea)
      (one_of (is_number a) (scaled lasts b a.low) (fit lasts no_base (crossed (widened lasts a) (widened lasts b))) (scaled_held b a.low eb)
      (fit_held no_base (crossed (widened lasts a) (widened lasts b)) closed.none))

  divided_held : (a : Range) (c : ℕ) → Holds (divided lasts a c).base
  divided_held a c = one_of (c == 0) every (fit lasts no_base (divided_ends (widened lasts a) c)) closed.none (fit_held no_base (divided_ends (widened lasts a)
      c) closed.none)

  remainders_held : (c : ℕ) → Holds (remainders lasts c).base
  remainders_held c =
      one_of (c == 0) every (fit lasts no_base (record { low = origin; high = origin + c - 1 })) closed.none
      (fit_held no_base (record { low = origin; high = origin + c - 1 }) closed.none)

  pub literal_held : (n : ℕ) → Holds (literal lasts n).base
  literal_held n = fit_held no_base (record { low = origin + n; high = origin + n }) closed.none

  operated_held : (operation : Operation) (a b : Range) → Holds a.base → Holds b.base → Holds (operated lasts operation a b).base
  operated_held op.Add a b ea eb = added_held a b ea eb
  operated_held op.Subtract a b ea eb = subtracted_held a b ea eb
  operated_held op.Multiply a b ea eb = multiplied_held a b ea eb
  operated_held op.Minimum a b ea eb = together_held lesser a b ea
  operated_held op.Maximum a b ea eb = together_held greater a b ea
  operated_held op.Less a b ea eb = closed.none
  operated_held op.LessOrEqual a b ea eb = closed.none
  operated_held op.Greater a b ea eb = closed.none
  operated_held op.GreaterOrEqual a b ea eb = closed.none
  operated_held op.Equal a b ea eb = closed.none
  operated_held op.NotEqual a b ea eb = closed.none

  -- ---- expressions

  abbrev pub Held : Ranged → Unit {0} → Type 0
  Held r u = Holds r.range.base × AreHeld Holds r.asked

  abbrev nothing : Algebra (Unit {0})
  nothing = record { level = λ level. tt; argument = λ x. tt; call = λ func v x y. tt }

  abbrev Reads : ReadRange → Type 0
  Reads read = Holds read.x.base × Holds read.y.base

  both_held : (a b : List ReadRange) → AreHeld Holds a → AreHeld Holds b → AreHeld Holds (a ++ b)
  both_held a b pa pb = all_both Reads a b pa pb

  module _ (inputs : List Input) (is_inlined : ℕ → Bool) where
    pixels_held : (own : Option Input) → Holds (pixels_of own).base
    pixels_held None = closed.none
    pixels_held (Some input) = one_of input.is_bytes (between origin (origin + 255)) every closed.none closed.none

    called_held : (s : Source) → Holds (called inputs s).base
    called_held (sources.Input place) = pixels_held (slice_get inputs place)
    called_held (sources.Func place) = closed.none

    levels : RelatesLevels Held is_inlined (ranging lasts inputs) nothing
    unfolding ranging
    levels (layer.Number n) kept = (literal_held n, tt)
    levels (layer.Variable v) kept = (closed.none, tt)
    levels (layer.Binary operation a b) kept = (
      operated_held operation a.left.range b.left.range a.is.0 b.is.0,
      both_held a.left.asked b.left.asked a.is.1
          b.is.1,
    )
    levels (layer.Divide a n) kept = (divided_held a.left.range n, a.is.1)
    levels (layer.Remainder a n) kept = (remainders_held n, a.is.1)
    levels (layer.Select c a b) kept = (
      together_held hull a.left.range b.left.range a.is.0,
      both_held c.left.asked (a.left.asked ++ b.left.asked) c.is.1 (both_held a.left.asked b.left.asked a.is.1 b.is.1),
    )
    levels (layer.Call1 s a) kept = (
      called_held s,
      both_held a.left.asked (record { source = s; x = a.left.range; y = literal lasts 0 } ∷ []) a.is.1 ((a.is.0, literal_held 0), tt),
    )
    levels (layer.Call2 s a b) kept = (
      called_held s,
      both_held (a.left.asked ++ b.left.asked) (record { source = s; x = a.left.range; y = b.left.range } ∷ []) (both_held a.left.asked b.left.asked a.is.1
          b.is.1) ((a.is.0, b.is.0), tt),
    )

    args : RelatesArguments Held (ranging lasts inputs) nothing
    unfolding ranging
    args x z r = (r.0, tt)

    seconds : (y : Option Ranged) (u : Option (Unit {0})) → RelatesSeconds Held y u → AreHeld Holds (second_asked y)
    seconds None u r = tt
    seconds (Some y) None r = absurd r
    seconds (Some y) (Some z) r = r.1

    calls : RelatesCalls Held (ranging lasts inputs) nothing
    unfolding ranging
    calls func v x y w z u r s t = (r.0, both_held x.asked (second_asked y ++ v.asked) s.1 (both_held (second_asked y) v.asked (seconds y u t) r.1))

    -- ---- an update

    module _ (funcs : List Func) (are : AreFuncs inputs funcs) (count : ℕ) (has : Variable → Bool) (ranges : Variable → Range) (held_so : (v : Variable)
        → Holds (ranges v).base) where
      abbrev BothWays : (Bool → Ranged) → Unit {0} → Type 0
      BothWays r u = (around : Bool) → Held (r around) u

      abbrev within : Inside Ranged
      within = inside (ranging lasts inputs) is_inlined funcs count

      abbrev at : Bool → Both BothWays → Both Held
      at around part = record { left = part.left around; right = part.right; is = part.is around }

      where_held : (around : Bool) (v : Variable) → Holds (ranges_where lasts ranges around v).base
      where_held false v = held_so v
      where_held true variables.FirstArgument = fit_held no_base (record { low = origin - 2 ^ 24; high = origin + 2 ^ 24 }) closed.none
      where_held true variables.SecondArgument = fit_held no_base (record { low = origin - 2 ^ 24; high = origin + 2 ^ 24 }) closed.none
      where_held true variables.FirstReduction = held_so variables.FirstReduction
      where_held true variables.SecondReduction = held_so variables.SecondReduction

      one_way : (around : Bool) → KeptLevels Held (is_read inputs funcs count) has
          (through_at (ranging lasts inputs) within (unasked_variable (ranges_where lasts ranges around)))
          (through_at nothing (inside nothing is_inlined funcs count) (λ v. tt))
      one_way around =
          levels_related Held (ranging lasts inputs) nothing is_inlined inputs funcs are levels args calls count has
          (unasked_variable (ranges_where lasts ranges around)) (λ v. tt)
          (λ v held. (where_held around v, tt))

      both_ways : (own : OwnCalls) → KeptLevels BothWays (is_read inputs funcs count) has
          (λ level around. through_at (ranging lasts inputs) within (unasked_variable (ranges_where lasts ranges around)) (chosen own around level))
          (through_at nothing (inside nothing is_inlined funcs count) (λ v. tt))
      both_ways own (layer.Number n) kept around = one_way around (layer.Number n) kept
      both_ways own (layer.Variable v) kept around = one_way around (layer.Variable v) kept
      both_ways own (layer.Binary operation a b) kept around = one_way around (layer.Binary operation (at around a) (at around b)) kept
      both_ways own (layer.Divide a n) kept around = one_way around (layer.Divide (at around a) n) kept
      both_ways own (layer.Remainder a n) kept around = one_way around (layer.Remainder (at around a) n) kept
      both_ways own (layer.Select c a b) kept around = one_way around (layer.Select (at around c) (at around a) (at around b)) kept
      both_ways own (layer.Call1 s a) kept around = one_way around (layer.Call1 s (at (is_anywhere own around s own.first_in_place) a)) kept
      both_ways own (layer.Call2 s a b) kept around =
          one_way around (layer.Call2 s (at (is_anywhere own around s own.first_in_place) a) (at (is_anywhere own around s own.second_in_place) b)) kept

      pub update_held : (own : OwnCalls) (e : Expr) → keeps (is_read inputs funcs count) has e ≡ true → (around : Bool)
          → Held (ranged_update lasts inputs is_inlined funcs count own ranges e around) tt
      unfolding ranged_update
      update_held own e kept around =
          kept_folds_related BothWays (is_read inputs funcs count) has
          (λ level around. through_at (ranging lasts inputs) within (unasked_variable (ranges_where lasts ranges around)) (chosen own around level))
          (through_at nothing (inside nothing is_inlined funcs count) (λ v. tt)) (both_ways own) e kept around

      pub pure_held : (e : Expr) → keeps (is_read inputs funcs count) has e ≡ true → Held (ranged lasts inputs is_inlined funcs count ranges e) tt
      pure_held e kept =
          kept_related Held (ranging lasts inputs) nothing is_inlined inputs funcs are levels args calls count has (unasked_variable ranges) (λ v. tt)
          (λ v is. (held_so v, tt)) e kept

-- ---- what a Func asks

module _ (Holds : List Multiple → Type 0) (closed : IsClosed Holds) (pipeline : Pipeline) (flags : List Bool) (rules : IsWellFormed pipeline) (func_index : ℕ)
    (func : Func)
    (func_is : slice_get pipeline.funcs func_index ≡ Some func) (view : SourceBox) (first : Holds view.x.base) (second : Holds view.y.base) where
  abbrev IsHeld : ReadRange → Type 0
  IsHeld read = Holds read.x.base × Holds read.y.base

  module _ (at : ℕ) (update : Update) (update_is : slice_get func.updates at ≡ Some update) where
    formed_so : IsUpdate pipeline.inputs pipeline.funcs func_index (dimensions func) update
    formed_so = (rules.funcs func_index func func_is).updates at update update_is

    abbrev has : Variable → Bool
    has = is_update_variable (dimensions func) update.second

    second_held : (reduction : Option Reduction) → Holds (second_range view.lasts reduction).base
    second_held None = literal_held Holds closed view.lasts 0
    second_held (Some reduction) = fit_held Holds closed view.lasts no_base (record { low = spot reduction.minimum; high = spot reduction.minimum + (reduction.extent - 1) })
        closed.none

    variables_held : (v : Variable) → Holds (range_of (update_variables view update) v).base
    variables_held variables.FirstArgument = first
    variables_held variables.SecondArgument = second
    variables_held variables.FirstReduction = second_held (Some update.first)
    variables_held variables.SecondReduction = second_held update.second

    left_held : (e : Expr) → keeps (is_read pipeline.inputs pipeline.funcs func_index) has e ≡ true
        → Holds (left pipeline.inputs pipeline.funcs flags func_index view update e).range.base × AreHeld Holds (left pipeline.inputs pipeline.funcs flags func_index view
        update e).asked
    unfolding left
    left_held e kept =
        update_held Holds closed view.lasts pipeline.inputs (flagged flags) pipeline.funcs rules.funcs func_index has (range_of (update_variables view update))
        variables_held
        (own_calls func_index update) e kept true

    index_held : (index : Option Expr) → keeps_index (is_read pipeline.inputs pipeline.funcs func_index) has (dimensions func) index ≡ true
        → Holds (second_left pipeline.inputs pipeline.funcs flags func_index view update index).range.base
        × AreHeld Holds (second_left pipeline.inputs pipeline.funcs flags func_index view update index).asked
    index_held None kept = (literal_held Holds closed view.lasts 0, tt)
    index_held (Some index) kept = left_held index (and_parts (dimensions func == 2) (keeps (is_read pipeline.inputs pipeline.funcs func_index) has index) kept).1

    right_held : AreHeld Holds (right pipeline.inputs pipeline.funcs flags func_index view update).asked
    unfolding right
    right_held =
        (update_held Holds closed view.lasts pipeline.inputs (flagged flags) pipeline.funcs rules.funcs (suc func_index)
        has
        (range_of (update_variables view update)) variables_held
        (own_calls func_index update) update.right formed_so.right false).1

    pub asked_held : AreHeld Holds (update_asked pipeline.inputs pipeline.funcs flags func_index view update)
    unfolding update_asked
    asked_held =
        let one = left_held update.left_x formed_so.left_x in
        let other = index_held update.left_y formed_so.left_y in
        all_both IsHeld (left pipeline.inputs pipeline.funcs flags func_index view update update.left_x).asked _ one.1
        (all_both IsHeld (second_left pipeline.inputs pipeline.funcs flags func_index view update update.left_y).asked _ other.1 ((one.0, other.0), right_held))

  arguments_held : (v : Variable) → Holds (range_of (pure_variables view) v).base
  arguments_held variables.FirstArgument = first
  arguments_held variables.SecondArgument = second
  arguments_held variables.FirstReduction = literal_held Holds closed view.lasts 0
  arguments_held variables.SecondReduction = literal_held Holds closed view.lasts 0

  updates_held : (updates : List Update) (before : ℕ) → ((k : ℕ) → slice_get func.updates (before + k) ≡ slice_get updates k)
      → AreHeld Holds (updates_asked pipeline.inputs pipeline.funcs flags func_index view updates)
  updates_held [] before from = tt
  updates_held (update ∷ others) before from =
      let here : before + 0 ≡ before = omega arith in
      let next : (k : ℕ) → before + 1 + k ≡ before + suc k = λ k. omega arith in
      all_both IsHeld (update_asked pipeline.inputs pipeline.funcs flags func_index view update) (updates_asked pipeline.inputs pipeline.funcs flags func_index view
      others)
      (asked_held before update (ap (λ (n : ℕ). slice_get func.updates n) (sym here) ∙ from 0))
      (updates_held others (before + 1) (λ k. ap (λ (n : ℕ). slice_get func.updates n) (next k) ∙ from (suc k)))

  pub func_held : AreHeld Holds (func_asked pipeline.inputs pipeline.funcs flags func_index view func)
  unfolding func_asked
  func_held =
      let here : (k : ℕ) → 0 + k ≡ k = λ k. omega arith in
      all_both IsHeld (walked view.lasts pipeline.inputs flags pipeline.funcs func_index (pure_variables view) func.pure).asked (updates_asked pipeline.inputs
      pipeline.funcs flags func_index view func.updates)
      (pure_held Holds closed view.lasts pipeline.inputs (flagged flags) pipeline.funcs rules.funcs func_index (is_argument (dimensions func))
      (range_of (pure_variables view)) arguments_held
      func.pure (rules.funcs func_index func func_is).pure).1
      (updates_held func.updates 0 (λ k. ap (λ (n : ℕ). slice_get func.updates n) (here k)))

-- also of an update whose arguments may be anywhere
pub unplaced_held : (Holds : List Multiple → Type 0) (closed : IsClosed Holds) (pipeline : Pipeline) (flags : List Bool) → IsWellFormed pipeline
    → (func_index : ℕ) (func : Func) → slice_get pipeline.funcs func_index ≡ Some func → (at : ℕ) (update : Update) → slice_get func.updates at ≡ Some update
    → AreHeld Holds (update_asked pipeline.inputs pipeline.funcs flags func_index unplaced update)
unplaced_held Holds closed pipeline flags rules func_index func func_is at update update_is =
    let anywhere = fit_held Holds closed no_loops no_base (record { low = origin - 2 ^ 24; high = origin + 2 ^ 24 }) closed.none in
    asked_held Holds closed pipeline flags rules func_index func func_is unplaced anywhere anywhere at update update_is

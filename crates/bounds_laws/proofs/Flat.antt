-- The box of a Func of one dimension has one row.
use Rattle.std.proofs.Common.{◌≡◌, ℕ, zero, suc, ◌+◌, ◌-◌, ◌<◌, Bool, true, false, cond, List, [], ◌∷◌, ◌++◌, Option, None, Some, refl, sym, ap, ◌∙◌, arith}
use Rattle.std.proofs.Common.{inl, inr}
use Rattle.std.specs.Prelude.{◌==◌, ◌&&◌, not, nat_lt, nat_le, slice_get}
use Rattle.std.specs.List.{AllByRecursion}
use Rattle.std.proofs.lemmas.Bool.{and_parts, ltb-true, eqb-true, or_cases}
use Rattle.halide_pipeline.specs.declared.definitions.Func.{Func}
use Rattle.halide_pipeline.specs.declared.definitions.Input.{Input}
use Rattle.halide_pipeline.specs.declared.definitions.Update.{Update}
use Rattle.halide_pipeline.specs.declared.expressions.Expr.{Expr}
use Rattle.halide_pipeline.specs.declared.expressions.Expr.TheOpen.{Expr-F}
use Rattle.halide_pipeline.specs.declared.expressions.Expr.TheOpen as layer
use Rattle.halide_pipeline.specs.declared.expressions.Source.{Source}
use Rattle.halide_pipeline.specs.declared.expressions.Source.TheVariants as sources
use Rattle.halide_pipeline.specs.declared.expressions.Variable.{Variable}
use Rattle.halide_pipeline.specs.declared.expressions.Variable.TheVariants as variables
use Rattle.halide_pipeline.specs.WellFormed.{dimensions, is_first_in_place, is_second_in_place, keeps, keeps_index, is_read, is_input_of, is_func_of}
use Rattle.halide_pipeline.specs.WellFormed.{is_argument, is_update_variable, are_dimensions, IsWellFormed, IsUpdate}
use Rattle.halide_pipeline.specs.Pipelines.{Pipeline}
use Rattle.halide_pipeline.proofs.Seeing.{all_both}
use Rattle.schedule.specs.declared.schedules.Schedule.{Schedule}
use Rattle.bounds_inlining.specs.Inlining.{none, second_of, arguments, answer, answered, through, through_at, inside, made_in, flagged}
use Rattle.bounds_inlining.proofs.Kept.{inside_computed}
use Rattle.bounds_inlining.proofs.KeptFolds.{KeptLevels, kept_folds_related}
use Rattle.bounds_inlining.proofs.Steps.{inside_before}
use Rattle.bounds_ranges.specs.declared.expressions.ReadRange.{ReadRange}
use Rattle.bounds_ranges.specs.declared.expressions.OwnCalls.{OwnCalls}
use Rattle.bounds_ranges.specs.declared.ranges.Range.{Range}
use Rattle.bounds_ranges.specs.Ranges.{no_base, more_sum, less_sum, every, fit, literal, together, hull}
use Rattle.bounds_ranges.specs.Expressions.{Ranged, ranging, second_asked, unasked, unasked_variable, ranges_where, is_anywhere, chosen, ranged_update}
use Rattle.bounds_ranges.specs.Expressions.{range_of, walked}
use Rattle.bounds_ranges.specs.Numbers.{origin, least, greatest}
use Rattle.bounds_ranges.proofs.Sums.{no_more, no_less}
use Rattle.halide_pipeline.specs.Levels.{Both}
use Rattle.bounds_weights.specs.Weight.{flags_of}
use Rattle.bounds.specs.declared.boxes.ConsumerLoop.{ConsumerLoop}
use Rattle.bounds.specs.declared.boxes.SourceBox.{SourceBox}
use Rattle.bounds.specs.declared.boxes.Spread.{Spread}
use Rattle.bounds.specs.Inference.{pure_variables, update_variables, own_calls, left, second_left, right, left_read, update_asked, updates_asked, func_asked}
use Rattle.bounds.specs.Inference.{unplaced, pixels_range, wanted, own_update, own_updates, read_in, read_of, read_by_box, read_from, computed_box}
use Rattle.bounds.specs.Boxes.{no_loops, lasts_of, taken, with_range, joined, with_read, gathered, box_of, same_source}
use Rattle.bounds_laws.specs.Closure.{flat, OneRowBoxes}
use Rattle.bounds.specs.Views.{view_of}
use Rattle.bounds_laws.specs.Laws.{consumer_in}
use Rattle.bounds_laws.proofs.BoxFacts.{has_box}
use Rattle.bounds_laws.proofs.Found.{got}
use Rattle.bounds_laws.proofs.OwnReads.{gathered_at}

-- ---- ranges

fit_by : (a b : ℕ) → a ≡ 0 → b ≡ 0 → cond (nat_le (least + a) origin && nat_le (origin + b) greatest) flat every ≡ flat
fit_by a b e f =
    ap (λ (n : ℕ). cond (nat_le (least + n) origin && nat_le (origin + b) greatest) flat every) e
    ∙ ap (λ (n : ℕ). cond (nat_le (least + 0) origin && nat_le (origin + n) greatest) flat every) f

fit_flat : (lasts : List ℕ) → fit lasts no_base (record { low = origin; high = origin }) ≡ flat
fit_flat lasts = fit_by (less_sum no_base lasts) (more_sum no_base lasts) (no_less lasts) (no_more lasts)

pub literal_flat : (lasts : List ℕ) → literal lasts 0 ≡ flat
literal_flat lasts = fit_flat lasts

row_flat : (lasts : List ℕ) → pixels_range lasts 1 ≡ flat
row_flat lasts = fit_flat lasts

taken_flat : (consumer : Option ConsumerLoop) (lasts : List ℕ) → taken consumer lasts flat ≡ flat
taken_flat None lasts =
    ap (λ (n : ℕ). fit no_loops no_base (record { low = origin - n; high = origin + more_sum no_base lasts })) (no_less lasts)
    ∙ ap (λ (n : ℕ). fit no_loops no_base (record { low = origin - 0; high = origin + n })) (no_more lasts)
    ∙ fit_flat no_loops
taken_flat (Some consumer) lasts = fit_flat consumer.lasts

together_flat : (lasts : List ℕ) → together lasts hull flat flat ≡ flat
together_flat lasts = fit_flat lasts

-- ---- sources of one dimension

module _ (pipeline : Pipeline) where
  abbrev pub is_one : Source → Bool
  is_one (sources.Input func_index) = is_input_of (slice_get pipeline.inputs func_index) 1
  is_one (sources.Func func_index) = is_func_of (slice_get pipeline.funcs func_index) 1

  one_input : (own : Option Input) → is_input_of own 1 ≡ true → is_input_of own 2 ≡ true → ⊥
  one_input None e f = cc
  one_input (Some own) e f = let a = eqb-true own.dimensions 1 e in let b = eqb-true own.dimensions 2 f in omega (arith, a, b)

  one_func : (own : Option Func) → is_func_of own 1 ≡ true → is_func_of own 2 ≡ true → ⊥
  one_func None e f = cc
  one_func (Some own) e f = let a = eqb-true (dimensions own) 1 e in let b = eqb-true (dimensions own) 2 f in omega (arith, a, b)

  not_two : (count : ℕ) (s : Source) → is_read pipeline.inputs pipeline.funcs count s 2 ≡ true → is_one s ≡ true → ⊥
  not_two count (sources.Input func_index) e f = one_input (slice_get pipeline.inputs func_index) f e
  not_two count (sources.Func func_index) e f = one_func (slice_get pipeline.funcs func_index) f
      (and_parts (nat_lt func_index count)
      (is_func_of (slice_get pipeline.funcs func_index) 2) e).1

  -- what is asked of such a source is asked of its row
  abbrev pub IsFlat : ReadRange → Type 0
  IsFlat read = is_one read.source ≡ true → read.y ≡ flat

  abbrev pub AreFlat : List ReadRange → Type 0
  AreFlat asked = AllByRecursion IsFlat asked

  pub both_flat : (a b : List ReadRange) → AreFlat a → AreFlat b → AreFlat (a ++ b)
  both_flat a b f g = all_both IsFlat a b f g

  module _ (rules : IsWellFormed pipeline) (flags : List Bool) (lasts : List ℕ) where
    abbrev within : ℕ → ℕ → Option (Ranged → Option Ranged → Ranged)
    within count = inside (ranging lasts pipeline.inputs) (flagged flags) pipeline.funcs count

    abbrev Claim : ℕ → Type 0
    Claim count =
        (vars : Variable → Ranged) → ((v : Variable) → AreFlat (vars v).asked) → (has : Variable → Bool) (e : Expr)
        → keeps (is_read pipeline.inputs pipeline.funcs count) has e ≡ true
        → AreFlat (through (ranging lasts pipeline.inputs) (within count) vars e).asked

    made_flat : (func_index : ℕ) → Claim func_index → (found_func : Option Func) → slice_get pipeline.funcs func_index ≡ found_func → (n : ℕ) → is_func_of found_func n ≡ true
        → (a x : Ranged) (y : Option Ranged) → AreFlat x.asked → AreFlat (second_asked y)
        → AreFlat (answered a x y (made_in (ranging lasts pipeline.inputs) (within func_index) found_func)).asked
    unfolding ranging
    made_flat func_index claim None is n some a x y fx fy = absurd cc
    made_flat func_index claim (Some func) is n some a x y fx fy =
        let vars = arguments (none (ranging lasts pipeline.inputs)) (unasked x.range) (unasked (second_of (none (ranging lasts pipeline.inputs)) y).range) in
        let v = through (ranging lasts pipeline.inputs) (within func_index) vars func.pure in
        both_flat x.asked (second_asked y ++ v.asked) fx
        (both_flat (second_asked y) v.asked fy (claim vars nothing (is_argument (dimensions func)) func.pure (rules.funcs func_index func is).pure))
      where
        nothing : (v : Variable) → AreFlat (arguments (none (ranging lasts pipeline.inputs)) (unasked x.range)
            (unasked (second_of (none (ranging lasts pipeline.inputs)) y).range) v).asked
        nothing variables.FirstArgument = tt
        nothing variables.SecondArgument = tt
        nothing variables.FirstReduction = tt
        nothing variables.SecondReduction = tt

    module _ (count : ℕ) (claims : (func_index : ℕ) → func_index < count → Claim func_index) where
      answered_flat : (s : Source) (n : ℕ) → is_read pipeline.inputs pipeline.funcs count s n ≡ true → (a x : Ranged) (y : Option Ranged) → AreFlat a.asked
          → AreFlat x.asked → AreFlat (second_asked y)
          → AreFlat (answered a x y (answer (within count) s)).asked
      answered_flat (sources.Input func_index) n read a x y fa fx fy = fa
      answered_flat (sources.Func func_index) n read a x y fa fx fy = by_flag (flagged flags func_index) refl
        where
          parts : (nat_lt func_index count ≡ true) × (is_func_of (slice_get pipeline.funcs func_index) n ≡ true)
          parts = and_parts (nat_lt func_index count) (is_func_of (slice_get pipeline.funcs func_index) n) read

          before : func_index < count
          before = ltb-true func_index count parts.0

          by_flag : (flag : Bool) → flagged flags func_index ≡ flag → AreFlat
              (answered a x y (within count func_index)).asked
          by_flag false f = rw (inside_computed (ranging lasts pipeline.inputs) (flagged flags) pipeline.funcs count func_index f) fa
          by_flag true f =
              rw (inside_before (ranging lasts pipeline.inputs) (flagged flags) pipeline.funcs count func_index before
              f)
              (made_flat func_index (claims func_index before) (slice_get pipeline.funcs func_index) refl n parts.1 a x
              y fx fy)

      abbrev Flat : Ranged → Unit {0} → Type 0
      Flat r u = AreFlat r.asked

      module _ (vars : Variable → Ranged) (quiet : (v : Variable) → AreFlat (vars v).asked) (has : Variable → Bool) where
        pub flat_levels : KeptLevels Flat (is_read pipeline.inputs pipeline.funcs count) has (through_at (ranging lasts pipeline.inputs) (within count) vars)
            (λ level. tt)
        unfolding ranging
        flat_levels (layer.Number n) kept = tt
        flat_levels (layer.Variable v) kept = quiet v
        flat_levels (layer.Binary op a b) kept = both_flat a.left.asked b.left.asked a.is b.is
        flat_levels (layer.Divide a n) kept = a.is
        flat_levels (layer.Remainder a n) kept = a.is
        flat_levels (layer.Select c a b) kept = both_flat c.left.asked (a.left.asked ++ b.left.asked) c.is (both_flat a.left.asked b.left.asked a.is b.is)
        flat_levels (layer.Call1 s a) kept =
            answered_flat s 1 kept _ a.left None (both_flat a.left.asked _ a.is (λ one. literal_flat lasts, tt)) a.is tt
        flat_levels (layer.Call2 s a b) kept =
            answered_flat s 2 kept _ a.left (Some b.left)
            (both_flat (a.left.asked ++ b.left.asked) _ (both_flat a.left.asked b.left.asked a.is b.is) (λ one. absurd (not_two count s kept one), tt)) a.is
            b.is

        claimed : (e : Expr) → keeps (is_read pipeline.inputs pipeline.funcs count) has e ≡ true
            → AreFlat (through (ranging lasts pipeline.inputs) (within count) vars e).asked
        unfolding through
        claimed e kept = kept_folds_related Flat (is_read pipeline.inputs pipeline.funcs count) has (through_at (ranging lasts pipeline.inputs) (within count)
            vars) (λ level. tt) flat_levels e kept

    claims_below : (most func_index : ℕ) → func_index < most → Claim func_index
    claims_below zero func_index below = absurd (omega (arith, below))
    claims_below (suc most) func_index below = claimed func_index (λ other before. claims_below most other (omega (arith, before, below)))

    pub all_claims : (count : ℕ) (func_index : ℕ) → func_index < count → Claim func_index
    all_claims count func_index before = claims_below count func_index before

    pub claim_at : (count : ℕ) → Claim count
    claim_at count = claims_below (suc count) count (omega arith)

    -- ---- updates

    module _ (count : ℕ) (own : OwnCalls) (has : Variable → Bool) (ranges : Variable → Range) where
      abbrev BothWays : (Bool → Ranged) → Unit {0} → Type 0
      BothWays r u = (around : Bool) → AreFlat (r around).asked

      abbrev at : Bool → Both BothWays → Both (Flat count (all_claims count))
      at around part = record { left = part.left around; right = tt; is = part.is around }

      one_way : (around : Bool) → KeptLevels (Flat count (all_claims count)) (is_read pipeline.inputs pipeline.funcs count) has
          (through_at (ranging lasts pipeline.inputs) (within count) (unasked_variable (ranges_where lasts ranges around))) (λ level. tt)
      one_way around = flat_levels count (all_claims count) (unasked_variable (ranges_where lasts ranges around)) (λ v. tt) has

      both_ways : KeptLevels BothWays (is_read pipeline.inputs pipeline.funcs count) has
          (λ level around. through_at (ranging lasts pipeline.inputs) (within count) (unasked_variable (ranges_where lasts ranges around))
          (chosen own around level)) (λ level. tt)
      both_ways (layer.Number n) kept around = one_way around (layer.Number n) kept
      both_ways (layer.Variable v) kept around = one_way around (layer.Variable v) kept
      both_ways (layer.Binary op a b) kept around = one_way around (layer.Binary op (at around a) (at around b)) kept
      both_ways (layer.Divide a n) kept around = one_way around (layer.Divide (at around a) n) kept
      both_ways (layer.Remainder a n) kept around = one_way around (layer.Remainder (at around a) n) kept
      both_ways (layer.Select c a b) kept around = one_way around (layer.Select (at around c) (at around a) (at around b)) kept
      both_ways (layer.Call1 s a) kept around = one_way around (layer.Call1 s (at (is_anywhere own around s own.first_in_place) a)) kept
      both_ways (layer.Call2 s a b) kept around =
          one_way around (layer.Call2 s (at (is_anywhere own around s own.first_in_place) a) (at (is_anywhere own around s own.second_in_place) b)) kept

      pub update_flat : (e : Expr) → keeps (is_read pipeline.inputs pipeline.funcs count) has e ≡ true → (around : Bool)
          → AreFlat (ranged_update lasts pipeline.inputs (flagged flags) pipeline.funcs count own ranges e around).asked
      unfolding ranged_update
      update_flat e kept around =
          kept_folds_related BothWays (is_read pipeline.inputs pipeline.funcs count) has
          (λ level around. through_at (ranging lasts pipeline.inputs) (within count) (unasked_variable (ranges_where lasts ranges around))
          (chosen own around level)) (λ level. tt) both_ways e kept around

  -- ---- a Func

  module _ (rules : IsWellFormed pipeline) (flags : List Bool) (func_index : ℕ) (func : Func) (func_is : slice_get pipeline.funcs func_index ≡ Some func)
      (view : SourceBox) where
    one_update : (at : ℕ) (update : Update) → slice_get func.updates at ≡ Some update
        → AreFlat (update_asked pipeline.inputs pipeline.funcs flags func_index view update)
    unfolding update_asked left right
    one_update at update is =
        both_flat (left pipeline.inputs pipeline.funcs flags func_index view update update.left_x).asked
        ((second_left pipeline.inputs pipeline.funcs flags func_index view update update.left_y).asked ++ (left_read pipeline.inputs pipeline.funcs flags func_index view
        update ∷ (right pipeline.inputs pipeline.funcs flags func_index view update).asked))
        (update_flat rules flags view.lasts func_index (own_calls func_index update) (is_update_variable (dimensions func) update.second)
        (range_of (update_variables view update)) update.left_x formed.left_x true)
        (both_flat (second_left pipeline.inputs pipeline.funcs flags func_index view update update.left_y).asked (left_read pipeline.inputs pipeline.funcs flags
        func_index view update ∷ (right pipeline.inputs pipeline.funcs flags func_index view update).asked)
        (second update.left_y formed.left_y).0 (
          (second update.left_y formed.left_y).1,
          update_flat rules flags view.lasts (suc func_index) (own_calls func_index update) (is_update_variable (dimensions func) update.second)
              (range_of (update_variables view update)) update.right formed.right false,
        ))
      where
        formed : IsUpdate pipeline.inputs pipeline.funcs func_index (dimensions func) update
        formed = (rules.funcs func_index func func_is).updates at update is

        own_one : is_one (sources.Func func_index) ≡ true → (dimensions func == 1) ≡ true
        own_one e = sym (ap (λ (f : Option Func). is_func_of f 1) func_is) ∙ e

        second : (index : Option Expr) → keeps_index (is_read pipeline.inputs pipeline.funcs func_index) (is_update_variable (dimensions func) update.second)
            (dimensions func) index ≡ true
            → AreFlat (second_left pipeline.inputs pipeline.funcs flags func_index view update index).asked
            × (is_one (sources.Func func_index) ≡ true → (second_left pipeline.inputs pipeline.funcs flags func_index view update index).range ≡ flat)
        second None kept = (tt, λ one. literal_flat view.lasts)
        second (Some index) kept =
            let k = and_parts (dimensions func == 2) (keeps (is_read pipeline.inputs pipeline.funcs func_index) (is_update_variable (dimensions func) update.second)
            index) kept in (
              update_flat rules flags view.lasts func_index (own_calls func_index update) (is_update_variable (dimensions func) update.second)
                  (range_of (update_variables view update)) index k.1 true,
              λ one. let a = eqb-true (dimensions func) 1 (own_one one) in let b = eqb-true (dimensions func) 2 k.0 in absurd (omega (arith, a, b)),
            )

    some_updates : (updates : List Update) (before : ℕ) → ((k : ℕ) → slice_get func.updates (before + k) ≡ slice_get updates k)
        → AreFlat (updates_asked pipeline.inputs pipeline.funcs flags func_index view updates)
    some_updates [] before from = tt
    some_updates (update ∷ others) before from =
        let here : before + 0 ≡ before = omega arith in
        let next : (k : ℕ) → before + 1 + k ≡ before + suc k = λ k. omega arith in
        both_flat (update_asked pipeline.inputs pipeline.funcs flags func_index view update) (updates_asked pipeline.inputs pipeline.funcs flags func_index view others)
        (one_update before update (ap (λ (n : ℕ). slice_get func.updates n) (sym here) ∙ from 0))
        (some_updates others (before + 1) (λ k. ap (λ (n : ℕ). slice_get func.updates n) (next k) ∙ from (suc k)))

    pub func_flat : AreFlat (func_asked pipeline.inputs pipeline.funcs flags func_index view func)
    unfolding func_asked
    func_flat =
        let here : (k : ℕ) → 0 + k ≡ k = λ k. omega arith in
        both_flat (walked view.lasts pipeline.inputs flags pipeline.funcs func_index (pure_variables view) func.pure).asked (updates_asked pipeline.inputs
        pipeline.funcs flags func_index view func.updates)
        (claim_at rules flags view.lasts func_index (unasked_variable (range_of (pure_variables view))) (λ v. tt) (is_argument (dimensions func)) func.pure
        (rules.funcs func_index func func_is).pure)
        (some_updates func.updates 0 (λ k. ap (λ (n : ℕ). slice_get func.updates n) (here k)))

    pub own_flat : (at : ℕ) (update : Update) → slice_get func.updates at ≡ Some update
        → AreFlat (update_asked pipeline.inputs pipeline.funcs flags func_index view update)
    own_flat at update is = one_update at update is

  -- ---- what is gathered

  abbrev pub IsFlatOrNone : Option Range → Type 0
  IsFlatOrNone None = Unit {0}
  IsFlatOrNone (Some range) = range ≡ flat

  same_is : (a b : Source) → same_source a b ≡ true → a ≡ b
  same_is (sources.Input a) (sources.Input b) e = ap (λ (n : ℕ). sources.Input n) (eqb-true a b e)
  same_is (sources.Input a) (sources.Func b) e = absurd cc
  same_is (sources.Func a) (sources.Input b) e = absurd cc
  same_is (sources.Func a) (sources.Func b) e = ap (λ (n : ℕ). sources.Func n) (eqb-true a b e)

  module _ (consumer : Option ConsumerLoop) (source : Source) (one : is_one source ≡ true) where
    with_flat : (own : Option Range) (range : Range) → IsFlatOrNone own → range ≡ flat → with_range (lasts_of consumer) own range ≡ flat
    with_flat None range flat_own is = is
    with_flat (Some own) range flat_own is = ap (λ (r : Range). together (lasts_of consumer) hull own r) is
        ∙ ap (λ (r : Range). together (lasts_of consumer) hull r flat) flat_own ∙ together_flat (lasts_of consumer)

    joined_flat : (counts : Bool) (own : Option Range) (range : Range) → IsFlatOrNone own → range ≡ flat
        → IsFlatOrNone (joined (lasts_of consumer) counts own range)
    joined_flat true own range flat_own is = with_flat own range flat_own is
    joined_flat false own range flat_own is = flat_own

    one_more : (lasts : List ℕ) (first second : Bool) (spread : Spread) (read : ReadRange) → IsFlat read → IsFlatOrNone spread.y → (test : Bool)
        → same_source read.source source ≡ test
        → IsFlatOrNone (cond test (with_read consumer lasts first second spread read) spread).y
    one_more lasts first second spread read is begun true e =
        let flat_read = is (ap is_one (same_is read.source source e) ∙ one) in
        joined_flat second spread.y (taken consumer lasts read.y) begun (ap (λ (r : Range). taken consumer lasts r) flat_read ∙ taken_flat consumer lasts)
    one_more lasts first second spread read is begun false e = begun

    gathered_flat : (lasts : List ℕ) (first second : Bool) (spread : Spread) (asked : List ReadRange) → AreFlat asked → IsFlatOrNone spread.y
        → IsFlatOrNone (gathered consumer lasts source first second spread asked).y
    gathered_flat lasts first second spread [] all begun = begun
    gathered_flat lasts first second spread (read ∷ others) all begun =
        gathered_flat lasts first second (cond (same_source read.source source) (with_read consumer lasts first second spread read) spread) others all.1
        (one_more lasts first second spread read all.0 begun (same_source read.source source) refl)

    module _ (rules : IsWellFormed pipeline) (schedule : Schedule) (flags : List Bool) where
      of_flat : (at : ℕ) (view : SourceBox) (spread : Spread) (func : Option Func) → slice_get pipeline.funcs at ≡ func → IsFlatOrNone spread.y
          → IsFlatOrNone (read_of pipeline flags at view consumer source spread func).y
      unfolding read_in
      of_flat at view spread None is begun = begun
      of_flat at view spread (Some func) is begun =
          gathered_flat view.lasts true true spread (func_asked pipeline.inputs pipeline.funcs flags at view func) (func_flat rules flags at func is view) begun

      box_flat : (at : ℕ) (own : Option SourceBox) (spread : Spread) → IsFlatOrNone spread.y
          → IsFlatOrNone (read_by_box pipeline schedule flags at own consumer source spread).y
      box_flat at None spread begun = begun
      box_flat at (Some own) spread begun = of_flat at (view_of (slice_get schedule.funcs at) (slice_get schedule.standings at) own consumer) spread
          (slice_get pipeline.funcs at) refl begun

      pub from_flat : (at : ℕ) (boxes : List (Option SourceBox)) (spread : Spread) → IsFlatOrNone spread.y
          → IsFlatOrNone (read_from pipeline schedule flags at consumer source boxes spread).y
      from_flat at [] spread begun = begun
      from_flat at (own ∷ boxes) spread begun = from_flat (at + 1) boxes (read_by_box pipeline schedule flags at own consumer source spread)
          (box_flat at own spread begun)

  module _ (rules : IsWellFormed pipeline) (flags : List Bool) (consumer : Option ConsumerLoop) (func_index : ℕ) (func : Func) (func_is : slice_get pipeline.funcs
      func_index ≡ Some func) (one : is_one (sources.Func func_index) ≡ true) where
    updates_flat : (updates : List Update) (before : ℕ) → ((k : ℕ) → slice_get func.updates (before + k) ≡ slice_get updates k) → (spread : Spread)
        → IsFlatOrNone spread.y
        → IsFlatOrNone (own_updates pipeline flags func_index consumer spread updates).y
    unfolding own_update
    updates_flat [] before from spread begun = begun
    updates_flat (update ∷ others) before from spread begun =
        let here : before + 0 ≡ before = omega arith in
        let next : (k : ℕ) → before + 1 + k ≡ before + suc k = λ k. omega arith in
        updates_flat others (before + 1) (λ k. ap (λ (n : ℕ). slice_get func.updates n) (next k)
        ∙ from (suc k)) (own_update pipeline flags func_index consumer spread update)
        (gathered_flat consumer (sources.Func func_index) one no_loops (not (is_first_in_place update)) (not (is_second_in_place update)) spread
        (update_asked pipeline.inputs pipeline.funcs flags func_index unplaced update)
        (own_flat rules flags func_index func func_is unplaced before update (ap (λ (n : ℕ). slice_get func.updates n) (sym here) ∙ from 0)) begun)

    one_row : (count height : ℕ) → count ≡ 1 → are_dimensions count height ≡ true → height ≡ 1
    one_row count height e are = elim (or_cases (count == 1 && height == 1) (count == 2) are) [
      | inl both ↦ eqb-true height 1 (and_parts (count == 1) (height == 1) both).1
      | inr two ↦ let t = eqb-true count 2 two in absurd (omega (arith, e, t))
    ]

    wanted_by : (test : Bool) → (func_index == pipeline.output.func) ≡ test → IsFlatOrNone (wanted pipeline.output func_index consumer).y
    wanted_by false e = rw e tt
    wanted_by true e =
        let same = eqb-true func_index pipeline.output.func e in
        let drawn : is_func_of (Some func) pipeline.output.dimensions ≡ true = ap (λ (f : Option Func). is_func_of f pipeline.output.dimensions)
        (sym (ap (λ (n : ℕ). slice_get pipeline.funcs n) (sym same) ∙ func_is)) ∙ rules.drawn in
        let dims = eqb-true (dimensions func) pipeline.output.dimensions drawn in
        let own = eqb-true (dimensions func) 1 (sym (ap (λ (f : Option Func). is_func_of f 1) func_is) ∙ one) in
        let height = one_row pipeline.output.dimensions pipeline.output.height (sym dims ∙ own) rules.dimensions in
        rw e (ap (λ (n : ℕ). pixels_range (lasts_of consumer) n) height ∙ row_flat (lasts_of consumer))

    pub computed_flat : (schedule : Schedule) (later_boxes : List (Option SourceBox)) (own : SourceBox)
        → Some own ≡ computed_box pipeline schedule flags func_index func later_boxes consumer → own.y ≡ flat
    computed_flat schedule later_boxes own e =
        let here : (k : ℕ) → 0 + k ≡ k = λ k. omega arith in
        let begun = wanted pipeline.output func_index consumer in
        let owns = own_updates pipeline flags func_index consumer begun func.updates in
        let spread = read_from pipeline schedule flags (func_index + 1) consumer (sources.Func func_index) later_boxes
        owns in
        by_parts (lasts_of consumer) spread.x spread.y own (sym e)
        (from_flat consumer (sources.Func func_index) one rules schedule flags (func_index + 1) later_boxes owns
        (updates_flat func.updates 0 (λ k. ap (λ (n : ℕ). slice_get func.updates n) (here k)) begun (wanted_by (func_index == pipeline.output.func) refl)))
      where
        by_parts : (lasts : List ℕ) (x y : Option Range) (box : SourceBox) → box_of lasts x y ≡ Some box → IsFlatOrNone y → box.y ≡ flat
        by_parts lasts None y box e f = absurd cc
        by_parts lasts (Some x) None box e f = absurd cc
        by_parts lasts (Some x) (Some y) box e f = sym (ap (λ (b : SourceBox). b.y) (got (record { x = x; y = y; lasts = lasts }) box e)) ∙ f

pub one_row_boxes : OneRowBoxes
one_row_boxes pipeline schedule boxes rules accepted is place func own func_is dims there =
    let box = has_box pipeline schedule boxes accepted is place own there in
    let consumer = consumer_in schedule boxes.funcs box.standing.place in
    let g = gathered_at pipeline schedule boxes is place box.standing box.there.standing box.there.reached box.computed consumer refl (Some own) there in
    let one : is_one pipeline (sources.Func place) ≡ true = ap (λ (f : Option Func). is_func_of f 1) g.func_is
    ∙ ap (λ (f : Func). dimensions f == 1) (got g.func func (sym g.func_is ∙ func_is)) ∙ ap (λ (n : ℕ). n == 1) dims in
    computed_flat pipeline rules (flags_of schedule.standings) consumer place g.func g.func_is one schedule g.behind own g.box_is

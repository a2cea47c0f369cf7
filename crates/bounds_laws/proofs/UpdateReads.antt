-- What updates read lies in what is asked.
use Rattle.std.proofs.Common.{◌≡◌, ℕ, suc, ◌+◌, ◌-◌, ◌*◌, ◌/◌, ◌%◌, ◌^◌, ◌<◌, ◌≤◌, Bool, true, false, List, [], ◌∷◌, ◌++◌, Option, Some, None, refl, arith, inl}
use Rattle.std.proofs.Common.{inr}
use Rattle.std.specs.Prelude.{◌&&◌, ◌==◌, nat_le, slice_get}
use Rattle.std.proofs.lemmas.Bool.{and_parts, or_cases, leb-true}
use Rattle.std.proofs.Math.Nat.{mod-lt, div-lt_iff_lt-mul}
use Rattle.halide_pipeline.specs.declared.definitions.Func.{Func}
use Rattle.halide_pipeline.specs.declared.definitions.Reduction.{Reduction}
use Rattle.halide_pipeline.specs.declared.definitions.Update.{Update}
use Rattle.halide_pipeline.specs.declared.expressions.Expr.{Expr}
use Rattle.halide_pipeline.specs.declared.expressions.Source.TheVariants as sources
use Rattle.halide_pipeline.specs.declared.expressions.Variable.{Variable}
use Rattle.halide_pipeline.specs.declared.expressions.Variable.TheVariants as variables
use Rattle.halide_pipeline.specs.WellFormed.{dimensions, IsWellFormed, IsFunc, IsUpdate, is_update_variable, is_minimum, is_width, is_box, is_height}
use Rattle.halide_pipeline.specs.WellFormed.{most_extent, most_points, is_second_minimum, keeps, keeps_index, is_read}
use Rattle.halide_pipeline.specs.Pipelines.{Pipeline}
use Rattle.halide_pipeline.specs.WellFormed as formed
use Rattle.halide_pipeline.specs.Words.{add}
use Rattle.halide_pipeline.specs.declared.environments.Environment.{Environment}
use Rattle.halide_pipeline.specs.Pixel.{Reads, at_reduction, points, variable, second_extent, second_value}
use Rattle.halide_pipeline.specs.Points.{Point}
use Rattle.schedule.specs.declared.schedules.Schedule.{Schedule}
use Rattle.bounds_inlining.specs.Inlining.{flagged}
use Rattle.bounds_ranges.specs.declared.expressions.ReadRange.{ReadRange}
use Rattle.bounds_ranges.specs.Expressions.{range_of, ranges_where}
use Rattle.bounds_ranges.specs.Laws.{Below, Lies, AllLie, Covers, AnswerWords}
use Rattle.bounds_ranges.specs.Ranges.{literal}
use Rattle.bounds_ranges.specs.Numbers.{origin, spot}
use Rattle.bounds_ranges.proofs.Division.{literal_lies}
use Rattle.bounds_ranges.proofs.Lying.{plain_lies}
use Rattle.bounds_ranges.proofs.Operations.{update_ranges_cover}
use Rattle.bounds_weights.specs.Weight.{flags_of}
use Rattle.bounds.specs.declared.boxes.SourceBox.{SourceBox}
use Rattle.bounds.specs.Inference.{reduction_range, second_range, update_variables, own_calls, left, second_left, right, left_read, update_asked}
use Rattle.bounds_laws.specs.Laws.{LiesIn, IsNear, seen_in, second_seen, points_at}

-- ---- lists of points, one after the other

pub both_lie : (lasts values : List ℕ) (asked more : List ReadRange) (points others : List Point) → AllLie lasts values asked points
    → AllLie lasts values more others → AllLie lasts values (asked ++ more) (points ++ others)
both_lie lasts values [] more [] others some all = all
both_lie lasts values [] more (point ∷ points) others some all = absurd some
both_lie lasts values (read ∷ asked) more [] others some all = absurd some
both_lie lasts values (read ∷ asked) more (point ∷ points) others some all = (some.0, both_lie lasts values asked more points others some.1 all)

-- ---- reduction variables

spot_near : (m step : ℕ) → is_minimum m ≡ true → step < 65536 → spot ((m + step) % 2 ^ 32) ≡ spot m + step
spot_near m step is few = elim (or_cases (nat_le m 0x1000000) (nat_le 0xff000000 m && nat_le m 0xffffffff) is) [
  | inl small ↦ omega (arith, leb-true m 0x1000000 small, few)
  | inr great ↦
      let parts = and_parts (nat_le 0xff000000 m) (nat_le m 0xffffffff) great in
      omega (arith, leb-true 0xff000000 m parts.0, leb-true m 0xffffffff parts.1, few)
]

module _ (lasts values : List ℕ) (below : Below values lasts) where
  reduction_lies : (reduction : Reduction) (step : ℕ) → is_minimum reduction.minimum ≡ true
      → reduction.extent ≤ 65536 → step < reduction.extent
      → Lies lasts values (reduction_range lasts reduction) (add reduction.minimum step)
  unfolding add
  reduction_lies reduction step is few inside =
      let s = spot_near reduction.minimum step is (omega (arith, few, inside)) in
      plain_lies lasts values below (record { low = spot reduction.minimum; high = spot reduction.minimum + (reduction.extent - 1) }) ((reduction.minimum + step) % 2 ^ 32)
      (omega arith)
      (λ l h. (omega (arith, s), omega (arith, s, inside)))

  second_lies : (second : Option Reduction) (step : ℕ) → is_second_minimum second ≡ true → formed.second_extent second ≤ 65536 → step < second_extent second
      → Lies lasts values (second_range lasts second) (second_value second step)
  second_lies None step is few inside = literal_lies lasts values below 0 (omega arith)
  second_lies (Some reduction) step is few inside = reduction_lies reduction step is few inside

  anywhere_lies : (x : ℕ) → x < 2 ^ 32 → IsNear x → Lies lasts values (ranges_where lasts (λ v. literal lasts 0) true variables.FirstArgument) x
  anywhere_lies x word near =
      plain_lies lasts values below (record { low = origin - 2 ^ 24; high = origin + 2 ^ 24 }) x word (λ l h. (near.low, near.high))

few_steps : (update : Update) → is_box update ≡ true → (update.first.extent ≤ 65536) × (formed.second_extent update.second ≤ 65536)
few_steps update is =
    let parts = and_parts (is_width update.first.extent) (is_height update.first.extent (formed.second_extent update.second)) is in
    let high = and_parts (nat_le 1 (formed.second_extent update.second) && nat_le (formed.second_extent update.second) most_extent)
    (nat_le (update.first.extent * formed.second_extent update.second) most_points) parts.1 in (
      leb-true update.first.extent most_extent (and_parts (nat_le 1 update.first.extent) (nat_le update.first.extent most_extent) parts.0).1,
      leb-true (formed.second_extent update.second) most_extent (and_parts (nat_le 1 (formed.second_extent update.second))
          (nat_le (formed.second_extent update.second) most_extent) high.0).1,
    )

some_steps : (update : Update) → is_box update ≡ true → 1 ≤ update.first.extent
some_steps update is =
    let parts = and_parts (is_width update.first.extent) (is_height update.first.extent (formed.second_extent update.second)) is in
    leb-true 1 update.first.extent (and_parts (nat_le 1 update.first.extent) (nat_le update.first.extent most_extent) parts.0).0

-- ---- an update

module _ (pipeline : Pipeline) (schedule : Schedule) (rules : IsWellFormed pipeline) (reads : Reads) (words : AnswerWords pipeline.inputs reads) (reader : ℕ)
    (func : Func) (func_is : slice_get pipeline.funcs reader ≡ Some func)
    (at : ℕ) (update : Update) (update_is : slice_get func.updates at ≡ Some update) (view : SourceBox) (values : List ℕ) (below : Below values view.lasts)
    (x y : ℕ) (lies : LiesIn values view x y) (near_x : IsNear x) (near_y : IsNear y) (number : ℕ) (few : number < points update) where
  flags : List Bool
  flags = flags_of schedule.standings

  formed_so : IsUpdate pipeline.inputs pipeline.funcs reader (dimensions func) update
  formed_so = (rules.funcs reader func func_is).updates at update update_is

  point : Environment
  point = at_reduction update number x y

  first_lies : Lies view.lasts values (reduction_range view.lasts update.first) point.first_reduction
  unfolding point
  first_lies =
      reduction_lies view.lasts values below update.first (number % update.first.extent) formed_so.minimum (few_steps update formed_so.box).0
      (mod-lt number (some_steps update formed_so.box))

  outer_lies : Lies view.lasts values (second_range view.lasts update.second) point.second_reduction
  unfolding point
  outer_lies =
      second_lies view.lasts values below update.second (number / update.first.extent) formed_so.second_minimum (few_steps update formed_so.box).1
      ((div-lt_iff_lt-mul {k = update.first.extent} {x = number} {y = second_extent update.second} (some_steps update formed_so.box)).1 (omega (arith, few)))

  by_variable : (around : Bool) (v : Variable) → is_update_variable (dimensions func) update.second v ≡ true
      → Lies view.lasts values (ranges_where view.lasts (range_of (update_variables view update)) around v) (variable point v)
  unfolding point
  by_variable false variables.FirstArgument has = lies.first
  by_variable false variables.SecondArgument has = lies.second
  by_variable false variables.FirstReduction has = first_lies
  by_variable false variables.SecondReduction has = outer_lies
  by_variable true variables.FirstArgument has = anywhere_lies view.lasts values below x lies.first.word near_x
  by_variable true variables.SecondArgument has = anywhere_lies view.lasts values below y lies.second.word near_y
  by_variable true variables.FirstReduction has = first_lies
  by_variable true variables.SecondReduction has = outer_lies

  left_covers : (e : Expr) → keeps (is_read pipeline.inputs pipeline.funcs reader) (is_update_variable (dimensions func) update.second) e ≡ true
      → Covers view.lasts values (left pipeline.inputs pipeline.funcs flags reader view update e) (seen_in pipeline schedule reads reader point e)
  unfolding left flags
  left_covers e kept =
      update_ranges_cover view.lasts values below reads pipeline.inputs words (flagged flags) pipeline.funcs rules.funcs reader (own_calls reader update)
      (is_update_variable (dimensions func) update.second)
      (range_of (update_variables view update)) point by_variable e kept true

  right_covers : Covers view.lasts values (right pipeline.inputs pipeline.funcs flags reader view update) (seen_in pipeline schedule reads (suc reader) point
      update.right)
  unfolding right flags
  right_covers =
      update_ranges_cover view.lasts values below reads pipeline.inputs words (flagged flags) pipeline.funcs rules.funcs (suc reader) (own_calls reader update)
      (is_update_variable (dimensions func) update.second)
      (range_of (update_variables view update)) point by_variable update.right formed_so.right false

  second_covers : (index : Option Expr) → keeps_index (is_read pipeline.inputs pipeline.funcs reader) (is_update_variable (dimensions func) update.second)
      (dimensions func) index ≡ true
      → Covers view.lasts values (second_left pipeline.inputs pipeline.funcs flags reader view update index) (second_seen pipeline schedule reads reader point
      index)
  second_covers None kept = record { value = literal_lies view.lasts values below 0 (omega arith); points = tt }
  second_covers (Some index) kept =
      left_covers index (and_parts (dimensions func == 2) (keeps (is_read pipeline.inputs pipeline.funcs reader) (is_update_variable (dimensions func)
      update.second) index) kept).1

  pub update_lies : AllLie view.lasts values (update_asked pipeline.inputs pipeline.funcs (flags_of schedule.standings) reader view update)
      (points_at pipeline schedule reads reader update (at_reduction update number x y))
  unfolding update_asked flags point
  update_lies =
      let first = left_covers update.left_x formed_so.left_x in
      let second = second_covers update.left_y formed_so.left_y in
      both_lie view.lasts values (left pipeline.inputs pipeline.funcs flags reader view update update.left_x).asked
      ((second_left pipeline.inputs pipeline.funcs flags reader view update update.left_y).asked ++ (left_read pipeline.inputs pipeline.funcs flags reader view
      update ∷ (right pipeline.inputs pipeline.funcs flags reader view update).asked))
      (seen_in pipeline schedule reads reader point update.left_x).points
      ((second_seen pipeline schedule reads reader point update.left_y).points
      ++ (record {
        source = sources.Func reader;
        x = (seen_in pipeline schedule reads reader point update.left_x).value;
        y =
            (second_seen pipeline schedule reads reader point update.left_y).value;
      } ∷ (seen_in pipeline schedule reads (suc reader) point update.right).points))
      first.points
      (both_lie view.lasts values (second_left pipeline.inputs pipeline.funcs flags reader view update update.left_y).asked
      (left_read pipeline.inputs pipeline.funcs flags reader view update ∷ (right pipeline.inputs pipeline.funcs flags reader view update).asked)
      (second_seen pipeline schedule reads reader point update.left_y).points
      (record {
        source = sources.Func reader;
        x = (seen_in pipeline schedule reads reader point update.left_x).value;
        y =
            (second_seen pipeline schedule reads reader point update.left_y).value;
      } ∷ (seen_in pipeline schedule reads (suc reader) point update.right).points)
      second.points (record { source = refl; x = first.value; y = second.value }, right_covers.points))

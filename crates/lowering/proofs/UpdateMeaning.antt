-- What an update means, as its inlined Funcs are put in place and its reads are answered.
use Rattle.std.proofs.Common.{◌≡◌, ℕ, suc, ◌<◌, Bool, true, false, not, cond, ◌∷◌, ◌++◌, Option, Some, None, refl, sym, ap, subst, ◌∙◌, arith, inl, inr}
use Rattle.std.specs.Prelude.{◌&&◌, ◌||◌, ◌==◌, nat_lt, slice_get}
use Rattle.std.specs.List.{AllByRecursion}
use Rattle.std.proofs.lemmas.Bool.{and_parts, cases_lt, ltb-true, eq-eqb, ne_eqb}
use Rattle.halide_pipeline.specs.declared.definitions.Func.{Func}
use Rattle.halide_pipeline.specs.declared.definitions.Update.{Update}
use Rattle.halide_pipeline.specs.declared.expressions.Expr.{Expr}
use Rattle.halide_pipeline.specs.declared.expressions.Source.{Source}
use Rattle.halide_pipeline.specs.declared.expressions.Source.TheVariants as sources
use Rattle.halide_pipeline.specs.declared.expressions.Variable.{Variable}
use Rattle.halide_pipeline.specs.declared.expressions.Variable.TheVariants as variables
use Rattle.halide_pipeline.specs.WellFormed.{dimensions, is_first_in_place, is_second_in_place, keeps, keeps_index, is_read, is_func_of, is_update_variable}
use Rattle.halide_pipeline.specs.WellFormed.{is_used, is_used_in, IsWellFormed, IsUpdate}
use Rattle.halide_pipeline.specs.Expressions.{uses}
use Rattle.halide_pipeline.specs.Pipelines.{Pipeline}
use Rattle.halide_pipeline.specs.declared.environments.Environment.{Environment}
use Rattle.halide_pipeline.specs.Pixel.{Plane, Planes, Reads, value, variable, reads_of, with_plane, index_value, pixels, stage, after, at_reduction}
use Rattle.halide_pipeline.specs.Points.{Point, Seen, AgreeAt, Agree}
use Rattle.halide_pipeline.proofs.Seeing.{all_parts}
use Rattle.schedule.specs.declared.schedules.Schedule.{Schedule}
use Rattle.schedule.specs.declared.placements.ComputeLevel.{ComputeLevel}
use Rattle.schedule.specs.declared.placements.ComputeLevel.TheVariants as places
use Rattle.schedule.specs.declared.placements.FuncPlacement.{FuncPlacement}
use Rattle.schedule.specs.Accepted.{IsAccepted}
use Rattle.schedule.specs.Placements.{calls, second_calls, update_calls, updates_call, func_calls, place_calls, place_calls_of}
use Rattle.schedule.specs.Legal.{is_inlined}
use Rattle.schedule.specs.Uses.{IsReached}
use Rattle.bounds_inlining.specs.Inlining.{inlined, is_computed}
use Rattle.bounds_inlining.specs.Values.{values as valuing}
use Rattle.bounds_inlining.proofs.Pixels.{inlining_keeps_values, inlining_keeps_updates}
use Rattle.bounds_inlining.proofs.Seeing.{sees_inlined_values, inlined_values_depend_on_reads}
use Rattle.bounds_ranges.specs.Laws.{AnswerWords}
use Rattle.bounds_ranges.proofs.PixelWords.{pixels_are_words, stages_are_words, with_words}
use Rattle.bounds_laws.specs.Closure.{is_put_in}
use Rattle.bounds_laws.specs.Laws.{IsComputed, update_points, seen_in, second_seen}
use Rattle.bounds.specs.Boxes.{same_source}
use Rattle.bounds_laws.proofs.Callers.{or_left, or_right, updates_one}
use Rattle.bounds_laws.proofs.PutIn.{put, flags, reached, same_seen, put_simple, reaching}
use Rattle.lowering.specs.Updates.{index_of}
use Rattle.lowering.proofs.Used.{same_value}

-- a Func that is computed isn't inlined
not_inlined : (func : ℕ) (level : ComputeLevel) → IsComputed func level → is_inlined level ≡ false
not_inlined func places.Root c = refl
not_inlined func (places.At at) c = refl
not_inlined func places.Inlined c = absurd c
not_inlined func places.Nowhere c = absurd c

-- ---- an argument that isn't in place isn't used

used_in_place : (in_place used : Bool) → (in_place || not used) ≡ true → used ≡ true → in_place ≡ true
used_in_place true used rule is = refl
used_in_place false true rule is = absurd cc
used_in_place false false rule is = absurd cc

module _ (update : Update) (first_rule : (is_first_in_place update || not (is_used variables.FirstArgument update)) ≡ true)
    (second_rule : (is_second_in_place update || not (is_used variables.SecondArgument update)) ≡ true)
    (number x y i j : ℕ) (first : is_first_in_place update ≡ true → i ≡ x) (second : is_second_in_place update ≡ true → j ≡ y) where
  variables_same : (v : Variable) → is_used v update ≡ true → variable (at_reduction update number i j) v ≡ variable (at_reduction update number x y) v
  variables_same variables.FirstArgument used = first (used_in_place (is_first_in_place update) (is_used variables.FirstArgument update) first_rule used)
  variables_same variables.SecondArgument used = second (used_in_place (is_second_in_place update) (is_used variables.SecondArgument update) second_rule used)
  variables_same variables.FirstReduction used = refl
  variables_same variables.SecondReduction used = refl

  pub left_same : (reads : Reads) → value reads (at_reduction update number i j) update.left_x ≡ value reads (at_reduction update number x y) update.left_x
  left_same reads =
      same_value reads (at_reduction update number i j) (at_reduction update number x y) update.left_x
      (λ v e. variables_same v (or_left (uses v update.left_x || is_used_in v update.left_y) (uses v update.right) (or_left (uses v update.left_x)
      (is_used_in v update.left_y) e)))

  index_same : (reads : Reads) (index : Option Expr) → index ≡ update.left_y → index_value reads (at_reduction update number i j) index
      ≡ index_value reads (at_reduction update number x y) index
  index_same reads None is = refl
  index_same reads (Some index) is =
      same_value reads (at_reduction update number i j) (at_reduction update number x y) index
      (λ v e. variables_same v (or_left (uses v update.left_x || is_used_in v update.left_y) (uses v update.right) (or_right (uses v update.left_x)
      (is_used_in v update.left_y) (ap (is_used_in v) (sym is) ∙ e))))

  pub row_same : (reads : Reads) → index_value reads (at_reduction update number i j) update.left_y ≡ index_value reads (at_reduction update number x y)
      update.left_y
  row_same reads = index_same reads update.left_y refl

  pub right_same : (reads : Reads) → value reads (at_reduction update number i j) update.right ≡ value reads (at_reduction update number x y) update.right
  right_same reads =
      same_value reads (at_reduction update number i j) (at_reduction update number x y) update.right
      (λ v e. variables_same v (or_right (uses v update.left_x || is_used_in v update.left_y) (uses v update.right) e))

-- ---- the update of a Func

module _ (pipeline : Pipeline) (schedule : Schedule) (rules : IsWellFormed pipeline) (accepted : IsAccepted pipeline schedule)
    (func_index : ℕ) (func : Func) (func_is : slice_get pipeline.funcs func_index ≡ Some func) (placement : FuncPlacement) (there : IsReached schedule.standings func_index placement)
    (computed : IsComputed func_index placement.place)
    (at : ℕ) (update : Update) (update_is : slice_get func.updates at ≡ Some update)
    (inputs : Planes) (begun : AnswerWords pipeline.inputs (reads_of inputs (pixels pipeline.funcs inputs 0))) where
  abbrev pub earlier : Planes
  earlier = pixels pipeline.funcs inputs func_index

  -- what is after this many points of the update
  abbrev pub stands : ℕ → Plane
  stands = after func_index update inputs earlier (stage func_index func inputs earlier at)

  -- what reads are answered by then
  abbrev pub wanted : ℕ → Reads
  wanted number = reads_of inputs (with_plane func_index (stands number) earlier)

  pub formed : IsUpdate pipeline.inputs pipeline.funcs func_index (dimensions func) update
  formed = (rules.funcs func_index func func_is).updates at update update_is

  words : AnswerWords pipeline.inputs (reads_of inputs earlier)
  words = pixels_are_words pipeline.inputs pipeline.funcs inputs rules.funcs begun func_index

  pub wanted_words : (number : ℕ) → AnswerWords pipeline.inputs (wanted number)
  wanted_words number =
      with_words pipeline.inputs pipeline.funcs rules.funcs inputs func_index (stands number) earlier
      (λ a b la lb. stages_are_words pipeline.inputs pipeline.funcs inputs rules.funcs func_index func func_is words at update update_is number a b la lb) words

  plain : put pipeline schedule func_index ≡ false
  plain = ap is_put_in there.standing ∙ (ap (λ (b : Bool). b && is_inlined placement.place) there.reached ∙ not_inlined func_index placement.place computed)

  reached_here : reached pipeline schedule func_index ≡ true
  reached_here = rw there.standing there.reached

  calling : (other : ℕ) → update_calls other update ≡ true → place_calls pipeline func_index other ≡ true
  unfolding place_calls func_calls
  calling other e =
      ap (place_calls_of other) func_is ∙ or_right (calls other func.pure) (updates_call other func.updates) (updates_one other func.updates at update update_is
      e)

  -- sources other than the Func itself
  pub other_answers : (number : ℕ) (s : Source) (a b : ℕ) → same_source s (sources.Func func_index) ≡ false → wanted number s a b ≡ reads_of inputs earlier s a b
  other_answers number (sources.Input other) a b differs = refl
  other_answers number (sources.Func other) a b differs = ap (λ (t : Bool). cond t (stands number) (earlier other) a b) differs

  pub own_answers : (number a b : ℕ) → wanted number (sources.Func func_index) a b ≡ stands number a b
  own_answers number a b = ap (λ (t : Bool). cond t (stands number) (earlier func_index) a b)
      (eq-eqb func_index func_index refl)

  answers : (number : ℕ) (s : Source) (n a b : ℕ) → is_computed (put pipeline schedule) s ≡ true → is_read pipeline.inputs pipeline.funcs func_index s n ≡ true
      → wanted number s a b ≡ reads_of inputs earlier s a b
  answers number (sources.Input other) n a b computed_so read = refl
  answers number (sources.Func other) n a b computed_so read =
      let before : other < func_index = ltb-true other func_index (and_parts (nat_lt other func_index) (is_func_of (slice_get pipeline.funcs other) n) read).0 in
      ap (λ (t : Bool). cond t (stands number) (earlier other) a b) (ne_eqb other func_index (λ (e : other ≡ func_index). omega (arith, e, before)))

  abbrev has : Variable → Bool
  has = is_update_variable (dimensions func) update.second

  -- ---- values, with inlined Funcs put in place

  index_comes : (number : ℕ) (point : Environment) (e : Expr) → keeps (is_read pipeline.inputs pipeline.funcs func_index) has e ≡ true
      → ((other : ℕ) → calls other e ≡ true → update_calls other update ≡ true)
      → inlined (valuing (wanted number)) (flags pipeline schedule) pipeline.funcs func_index (variable point) e ≡ value (reads_of inputs earlier) point e
  index_comes number point e kept called =
      sym (sees_inlined_values (wanted number) (flags pipeline schedule) pipeline.funcs func_index point e)
      ∙ ap (λ (s : Seen). s.value)
      (same_seen pipeline schedule rules accepted (wanted number) func_index point has e kept (reaching pipeline schedule rules accepted (wanted number) func_index
      reached_here e (λ other c. calling other (called other c))))
      ∙ sees_inlined_values (wanted number) (put pipeline schedule) pipeline.funcs func_index point e
      ∙ inlining_keeps_values (wanted number) (put pipeline schedule) pipeline.inputs pipeline.funcs inputs rules.funcs (put_simple pipeline schedule accepted)
      func_index (answers number) has point e kept

  pub left_comes : (number : ℕ) (point : Environment) → inlined (valuing (wanted number)) (flags pipeline schedule) pipeline.funcs func_index (variable point)
      update.left_x ≡ value (reads_of inputs earlier) point update.left_x
  left_comes number point =
      index_comes number point update.left_x formed.left_x
      (λ other c. or_left (calls other update.left_x || second_calls other update.left_y) (calls other update.right) (or_left (calls other update.left_x)
      (second_calls other update.left_y) c))

  row_by : (number : ℕ) (point : Environment) (index : Option Expr) → index ≡ update.left_y
      → keeps_index (is_read pipeline.inputs pipeline.funcs func_index) has (dimensions func) index ≡ true
      → index_of (inlined (valuing (wanted number)) (flags pipeline schedule) pipeline.funcs func_index (variable point)) index
      ≡ index_value (reads_of inputs earlier) point index
  row_by number point None is kept = refl
  row_by number point (Some index) is kept =
      index_comes number point index (and_parts (dimensions func == 2) (keeps (is_read pipeline.inputs pipeline.funcs func_index) has index) kept).1
      (λ other c. or_left (calls other update.left_x || second_calls other update.left_y) (calls other update.right)
      (or_right (calls other update.left_x) (second_calls other update.left_y) (ap (second_calls other) (sym is) ∙ c)))

  pub row_comes : (number : ℕ) (point : Environment)
      → index_of (inlined (valuing (wanted number)) (flags pipeline schedule) pipeline.funcs func_index (variable point)) update.left_y
      ≡ index_value (reads_of inputs earlier) point update.left_y
  row_comes number point = row_by number point update.left_y refl formed.left_y

  reaching_right : (number other : ℕ) → other < suc func_index → calls other update.right ≡ true → reached pipeline schedule other ≡ true
  reaching_right number other below c = elim (cases_lt other func_index) [
    | inl l ↦
        reaching pipeline schedule rules accepted (wanted number) func_index reached_here update.right
        (λ o e. calling o (or_right (calls o update.left_x || second_calls o update.left_y) (calls o update.right) e)) other l c
    | inr l ↦ let same : other ≡ func_index = omega (arith, l, below) in ap (reached pipeline schedule) same ∙
        reached_here
  ]

  pub right_comes : (number : ℕ) (point : Environment) → inlined (valuing (wanted number)) (flags pipeline schedule) pipeline.funcs (suc func_index) (variable point)
      update.right ≡ value (wanted number) point update.right
  right_comes number point =
      sym (sees_inlined_values (wanted number) (flags pipeline schedule) pipeline.funcs (suc func_index) point
      update.right)
      ∙ ap (λ (s : Seen). s.value) (same_seen pipeline schedule rules accepted (wanted number) (suc func_index) point has update.right formed.right
      (reaching_right number))
      ∙ sees_inlined_values (wanted number) (put pipeline schedule) pipeline.funcs (suc func_index) point update.right
      ∙ inlining_keeps_updates (wanted number) (put pipeline schedule) pipeline.inputs pipeline.funcs inputs rules.funcs (put_simple pipeline schedule accepted)
      func_index (stands number) plain (answers number) (own_answers number) has
      point update.right formed.right

  -- ---- what is written, by whom reads are answered as wanted

  module _ (number x y : ℕ) where
    abbrev pub point : Environment
    point = at_reduction update number x y

    abbrev pub column : ℕ
    column = value (reads_of inputs earlier) point update.left_x

    abbrev pub row : ℕ
    row = index_value (reads_of inputs earlier) point update.left_y

    abbrev pub right : ℕ
    right = value (wanted number) point update.right

    column_seen : (seen_in pipeline schedule (wanted number) func_index point update.left_x).value ≡ column
    column_seen = sees_inlined_values (wanted number) (flags pipeline schedule) pipeline.funcs func_index point update.left_x ∙ left_comes number point

    row_seen_by : (index : Option Expr) → (second_seen pipeline schedule (wanted number) func_index point index).value
        ≡ index_of (inlined (valuing (wanted number)) (flags pipeline schedule) pipeline.funcs func_index (variable point)) index
    row_seen_by None = refl
    row_seen_by (Some index) = sees_inlined_values (wanted number) (flags pipeline schedule) pipeline.funcs func_index point index

    row_seen : (second_seen pipeline schedule (wanted number) func_index point update.left_y).value ≡ row
    row_seen = row_seen_by update.left_y ∙ row_comes number point

    -- what holds of all that is read holds of the point that the left side names
    pub of_target : (P : Point → Type 0) → AllByRecursion P (update_points pipeline schedule (wanted number) func_index update number x y)
        → P (record { source = sources.Func func_index; x = column; y = row })
    of_target P all =
        let a = all_parts P (seen_in pipeline schedule (wanted number) func_index point update.left_x).points _ all in
        let b = all_parts P (second_seen pipeline schedule (wanted number) func_index point update.left_y).points _ a.1
        in
        subst (λ (n : ℕ). P (record { source = sources.Func func_index; x = n; y = row })) column_seen
        (subst (λ (n : ℕ). P (record { source = sources.Func func_index; x = (seen_in pipeline schedule (wanted number) func_index point update.left_x).value; y = n }))
        row_seen b.1.0)

    module _ (found_reads : Reads) (agree : Agree (wanted number) found_reads (update_points pipeline schedule (wanted number) func_index update number x y)) where
      first_part : AllByRecursion (AgreeAt (wanted number) found_reads) (seen_in pipeline schedule (wanted number) func_index point update.left_x).points
          × AllByRecursion (AgreeAt (wanted number) found_reads)
          ((second_seen pipeline schedule (wanted number) func_index point update.left_y).points
          ++ (record {
            source = sources.Func func_index;
            x = (seen_in pipeline schedule (wanted number) func_index point update.left_x).value;
            y = (second_seen pipeline schedule (wanted number) func_index point update.left_y).value;
          } ∷ (seen_in pipeline schedule (wanted number) (suc func_index) point update.right).points))
      first_part = all_parts (AgreeAt (wanted number) found_reads) (seen_in pipeline schedule (wanted number) func_index point update.left_x).points _ agree

      second_part : AllByRecursion (AgreeAt (wanted number) found_reads) (second_seen pipeline schedule (wanted number) func_index point update.left_y).points
          × AllByRecursion (AgreeAt (wanted number) found_reads)
          (record {
            source = sources.Func func_index;
            x = (seen_in pipeline schedule (wanted number) func_index point update.left_x).value;
            y = (second_seen pipeline schedule (wanted number) func_index point update.left_y).value;
          } ∷ (seen_in pipeline schedule (wanted number) (suc func_index) point update.right).points)
      second_part = all_parts (AgreeAt (wanted number) found_reads) (second_seen pipeline schedule (wanted number) func_index point update.left_y).points _ first_part.1

      pub column_found : inlined (valuing found_reads) (flags pipeline schedule) pipeline.funcs func_index (variable point) update.left_x ≡ column
      column_found = inlined_values_depend_on_reads (wanted number) found_reads (flags pipeline schedule) pipeline.funcs func_index point update.left_x first_part.0
          ∙ left_comes number point

      row_found_by : (index : Option Expr) → AllByRecursion (AgreeAt (wanted number) found_reads) (second_seen pipeline schedule (wanted number) func_index point
          index).points
          → index_of (inlined (valuing found_reads) (flags pipeline schedule) pipeline.funcs func_index
          (variable point)) index
          ≡ index_of (inlined (valuing (wanted number)) (flags pipeline schedule) pipeline.funcs func_index (variable point)) index
      row_found_by None all = refl
      row_found_by (Some index) all = inlined_values_depend_on_reads (wanted number) found_reads (flags pipeline schedule) pipeline.funcs func_index point index all

      pub row_found : index_of (inlined (valuing found_reads) (flags pipeline schedule) pipeline.funcs func_index (variable point)) update.left_y ≡ row
      row_found = row_found_by update.left_y second_part.0 ∙ row_comes number point

      pub right_found : inlined (valuing found_reads) (flags pipeline schedule) pipeline.funcs (suc func_index) (variable point) update.right ≡ right
      right_found = inlined_values_depend_on_reads (wanted number) found_reads (flags pipeline schedule) pipeline.funcs (suc func_index) point update.right second_part.1.1
          ∙ right_comes number point

    -- ---- what is after one more point, in the slice

    pub one_more : (i j : ℕ) → (is_first_in_place update ≡ true → i ≡ x) → (is_second_in_place update ≡ true → j ≡ y)
        → stands (suc number) i j ≡ cond (column == i && row == j) right (stands number i j)
    unfolding after
    one_more i j first second =
        ap (λ (n : ℕ). cond (n == i && index_value (reads_of inputs earlier) (at_reduction update number i j) update.left_y == j)
        (value (wanted number) (at_reduction update number i j) update.right) (stands number i j))
        (left_same update formed.first_argument formed.second_argument number x y i j first second (reads_of inputs earlier))
        ∙ ap (λ (n : ℕ). cond (column == i && n == j) (value (wanted number) (at_reduction update number i j) update.right) (stands number i j))
        (row_same update formed.first_argument formed.second_argument number x y i j first second (reads_of inputs earlier))
        ∙ ap (λ (n : ℕ). cond (column == i && row == j) n (stands number i j)) (right_same update formed.first_argument formed.second_argument number x y i j
        first second (wanted number))

-- In lanes in which an argument in place occurs elsewhere, an update's store loads no point of its own Func at which another lane stores.
use Rattle.std.proofs.Common.{◌≡◌, ℕ, suc, Bool, true, false, not, List, [], ◌∷◌, ◌++◌, ◌⊎◌, inl, inr, Option, Some, None, refl, sym, ap, subst, ◌∙◌, arith}
use Rattle.std.specs.Prelude.{◌==◌, ◌&&◌, slice_get}
use Rattle.std.specs.List.{AllByRecursion}
use Rattle.std.proofs.lemmas.Bool.{eq-eqb, eqb-true, ne_eqb}
use Rattle.halide_pipeline.specs.declared.definitions.Func.{Func}
use Rattle.halide_pipeline.specs.declared.definitions.Update.{Update}
use Rattle.halide_pipeline.specs.declared.expressions.Expr.{Expr}
use Rattle.halide_pipeline.specs.declared.expressions.Source.{Source}
use Rattle.halide_pipeline.specs.declared.expressions.Source.TheVariants as sources
use Rattle.halide_pipeline.specs.declared.expressions.Variable.TheVariants as variables
use Rattle.halide_pipeline.specs.WellFormed.{is_first_in_place, is_second_in_place, IsWellFormed}
use Rattle.halide_pipeline.specs.Pipelines.{Pipeline}
use Rattle.halide_pipeline.specs.Words as word
use Rattle.halide_pipeline.specs.declared.environments.Environment.{Environment}
use Rattle.halide_pipeline.specs.Pixel.{Reads, variable, at_reduction}
use Rattle.halide_pipeline.specs.Points.{Point, Hold}
use Rattle.halide_pipeline.proofs.Seeing.{all_parts}
use Rattle.schedule.specs.declared.schedules.Schedule.{Schedule}
use Rattle.bounds_inlining.specs.Inlining.{inlined}
use Rattle.bounds_inlining.specs.Laws.{seen_variable}
use Rattle.bounds_inlining.specs.Values.{values as valuing, seeing}
use Rattle.bounds_inlining.proofs.Seeing.{sees_inlined_values}
use Rattle.bounds.specs.Boxes.{same_source}
use Rattle.bounds_laws.specs.ConsumerLaws.{IsInPlace}
use Rattle.bounds_laws.specs.Laws.{update_points, seen_in, second_seen}
use Rattle.bounds_laws.proofs.PutIn.{flags}
use Rattle.bounds_laws.proofs.StayingReads.{own_reads_stay}
use Rattle.loop_ir.specs.declared.statements.Stmt.{Stmt}
use Rattle.loop_ir.specs.Counters.{Values}
use Rattle.loop_ir.specs.Expressions.{linear_value}
use Rattle.loop_ir.specs.LoopLanes.{everywhere, all_points, all_but, is_source_of}
use Rattle.loop_ir.specs.Soundness.{is_sound}
use Rattle.lowering_nests.specs.LoopLanes.{LoadsNoneOf}
use Rattle.lowering_expressions.specs.declared.calls.Corner.{Corner}
use Rattle.lowering_expressions.specs.Lowering as places
use Rattle.lowering_expressions.specs.Lowering.{placed, place as place_in}
use Rattle.lowering.specs.PurePhases.{whole_at}
use Rattle.lowering.specs.Updates.{IsSoundUpdate, index_of, points_of_index, visited_point}
use Rattle.lowering.proofs.Begins.{on_back}
use Rattle.lowering.proofs.Offsets.{add_swapped}
use Rattle.lowering.proofs.UpdateStoring.{linear_small}

-- ---- where points lie

-- Points of the own Func are counted from its corner.
abbrev pub AreCounted : List Corner → ℕ → Corner → Type 0
AreCounted corners func_index corner =
    (values : Values) (a b : ℕ) → place_in corners values (record { source = sources.Func func_index; x = a; y = b })
    ≡ record { source = sources.Func func_index; x = word.subtract a (linear_value values corner.x); y = word.subtract b (linear_value values corner.y) }

pub source_stays : (corners : List Corner) (values : Values) (s : Source) (a b : ℕ) → (place_in corners values (record { source = s; x = a; y = b })).source ≡ s
source_stays corners values s a b = by_corner (places.corner_of corners s)
  where
    by_corner : (corner : Option Corner) → (places.from_corner values corner a b s).source ≡ s
    by_corner None = refl
    by_corner (Some corner) = refl

pub all_hold : (test : Point → Bool) → ((point : Point) → test point ≡ true) → (list : List Point) → Hold test list
all_hold test each [] = tt
all_hold test each (first ∷ list) = (each first, all_hold test each list)

-- another source's point is none of the own Func
pub missed_elsewhere : (func_index sx sy : ℕ) (point : Point) → is_source_of func_index point.source ≡ false → all_but point func_index sx sy ≡ true
missed_elsewhere func_index sx sy point e = ap (λ (b : Bool). not (b && (point.x == sx && point.y == sy))) e

missed_column : (func_index sx sy : ℕ) (point : Point) → (point.x ≡ sx → ⊥) → all_but point func_index sx sy ≡ true
missed_column func_index sx sy point other = ap (λ (b : Bool). not (is_source_of func_index point.source && (b && point.y == sy))) (ne_eqb point.x sx other)
    ∙ by_test (is_source_of func_index point.source)
  where
    by_test : (b : Bool) → not (b && false) ≡ true
    by_test true = refl
    by_test false = refl

missed_row : (func_index sx sy : ℕ) (point : Point) → (point.y ≡ sy → ⊥) → all_but point func_index sx sy ≡ true
missed_row func_index sx sy point other = ap (λ (b : Bool). not (is_source_of func_index point.source && (point.x == sx && b))) (ne_eqb point.y sy other)
    ∙ by_tests (is_source_of func_index point.source) (point.x == sx)
  where
    by_tests : (b c : Bool) → not (b && (c && false)) ≡ true
    by_tests true true = refl
    by_tests true false = refl
    by_tests false c = refl

pub other_source : (func_index : ℕ) (s : Source) → same_source s (sources.Func func_index) ≡ false
    → is_source_of func_index s ≡ false
other_source func_index (sources.Input k) e = refl
other_source func_index (sources.Func k) e = e

module _ (pipeline : Pipeline) (schedule : Schedule) (rules : IsWellFormed pipeline) (func_index : ℕ) (func : Func) (func_is : slice_get pipeline.funcs func_index
    ≡ Some func)
    (at : ℕ) (update : Update) (update_is : slice_get func.updates at ≡ Some update) (corners : List Corner) (corner : Corner) (counted : AreCounted corners
    func_index corner)
    (store : Stmt) (sound : IsSoundUpdate corners (flags pipeline schedule) pipeline.funcs func_index corner update store) (reads : Reads) where
  -- ---- while counters stand so

  abbrev pub column : Values → ℕ
  column now = whole_at now func_index variables.FirstArgument

  abbrev pub row : Values → ℕ
  row now = whole_at now func_index variables.SecondArgument

  abbrev x : Values → ℕ
  x now = word.add (column now) (linear_value now corner.x)

  abbrev y : Values → ℕ
  y now = word.add (row now) (linear_value now corner.y)

  -- the variables stand for the point of a visit with this number
  abbrev pub IsAt : Values → ℕ → Type 0
  IsAt now number = visited_point now func_index corner update ≡ at_reduction update number (word.add (whole_at now func_index variables.FirstArgument)
      (linear_value now corner.x)) (word.add (whole_at now func_index variables.SecondArgument)
      (linear_value now corner.y))

  back_column : (now : Values) → word.subtract (x now) (linear_value now corner.x) ≡ column now
  back_column now =
      ap (λ (n : ℕ). word.subtract n (linear_value now corner.x)) (add_swapped (column now) (linear_value now corner.x))
      ∙ on_back (linear_value now corner.x) (column now) (omega arith) (linear_small now corner.x)

  back_row : (now : Values) → word.subtract (y now) (linear_value now corner.y) ≡ row now
  back_row now =
      ap (λ (n : ℕ). word.subtract n (linear_value now corner.y)) (add_swapped (row now) (linear_value now corner.y))
      ∙ on_back (linear_value now corner.y) (row now) (omega arith) (linear_small now corner.y)

  module _ (now : Values) (number : ℕ) (is : IsAt now number) where
    abbrev answers : Reads
    answers = placed corners now reads

    abbrev point : Environment
    point = at_reduction update number (x now) (y now)

    abbrev all_read : List Point
    all_read = update_points pipeline schedule answers func_index update number (x now) (y now)

    abbrev Stays : Point → Type 0
    Stays own = same_source own.source (sources.Func func_index) ≡ true → IsInPlace update (x now) (y now) own

    all_stay : AllByRecursion Stays all_read
    all_stay = own_reads_stay pipeline schedule rules func_index func func_is at update update_is answers number (x now) (y now)

    abbrev left : List Point
    left = (seen_in pipeline schedule answers func_index point update.left_x).points

    abbrev second : List Point
    second = (second_seen pipeline schedule answers func_index point update.left_y).points

    abbrev target : Point
    target = record {
      source = sources.Func func_index;
      x = (seen_in pipeline schedule answers func_index point update.left_x).value;
      y =
          (second_seen pipeline schedule answers func_index point update.left_y).value;
    }

    abbrev right : List Point
    right = (seen_in pipeline schedule answers (suc func_index) point update.right).points

    behind_left : (P : Point → Type 0) → AllByRecursion P all_read → AllByRecursion P left × (AllByRecursion P second × (P target × AllByRecursion P right))
    behind_left P all =
        let p = all_parts P left (second ++ (target ∷ right)) all in
        let q = all_parts P second (target ∷ right) p.1 in
        (p.0, (q.0, q.1))

    row_is : (index : Option Expr) → (second_seen pipeline schedule answers func_index point index).value
        ≡ index_of (inlined (valuing answers) (flags pipeline schedule) pipeline.funcs func_index (variable point))
        index
    row_is None = refl
    row_is (Some index) = sees_inlined_values answers (flags pipeline schedule) pipeline.funcs func_index point index

    index_points : (index : Option Expr) → (second_seen pipeline schedule answers func_index point index).points
        ≡ points_of_index (λ e. (inlined (seeing answers) (flags pipeline schedule) pipeline.funcs func_index (seen_variable point) e).points) index
    index_points None = refl
    index_points (Some index) = refl

    -- where it stores
    abbrev stored_column : ℕ
    stored_column = word.subtract (inlined (valuing answers) (flags pipeline schedule) pipeline.funcs func_index (variable (visited_point now func_index corner update))
        update.left_x) (linear_value now corner.x)

    abbrev stored_row : ℕ
    stored_row = word.subtract (index_of (inlined (valuing answers) (flags pipeline schedule) pipeline.funcs func_index
        (variable (visited_point now func_index corner update))) update.left_y) (linear_value now corner.y)

    target_stays : IsInPlace update (x now) (y now) target
    target_stays = (behind_left Stays all_stay).1.1.0 (eq-eqb func_index func_index refl)

    column_is : is_first_in_place update ≡ true → stored_column ≡ column now
    column_is e =
        ap (λ (p : Environment). word.subtract (inlined (valuing answers) (flags pipeline schedule) pipeline.funcs func_index (variable p) update.left_x)
        (linear_value now corner.x)) is
        ∙ ap (λ (n : ℕ). word.subtract n (linear_value now corner.x)) (sym (sees_inlined_values answers (flags pipeline schedule) pipeline.funcs func_index point
        update.left_x) ∙ target_stays.first e)
        ∙ back_column now

    row_of : is_second_in_place update ≡ true → stored_row ≡ row now
    row_of e =
        ap (λ (p : Environment). word.subtract (index_of (inlined (valuing answers) (flags pipeline schedule) pipeline.funcs func_index (variable p)) update.left_y)
        (linear_value now corner.y)) is
        ∙ ap (λ (n : ℕ). word.subtract n (linear_value now corner.y)) (sym (row_is update.left_y) ∙ target_stays.second e)
        ∙ back_row now

    -- its loads pass a test, where all that it reads does
    abbrev Passes : (Point → Bool) → Point → Type 0
    Passes loaded own = loaded (place_in corners now own) ≡ true

    sound_where : (written : ℕ → ℕ → ℕ → Bool) (loaded : Point → Bool) → written func_index stored_column stored_row ≡ true → AllByRecursion (Passes loaded) all_read
        → is_sound reads written loaded store now ≡ true
    sound_where written loaded writes all =
        let back = sym is in
        let parts = behind_left (Passes loaded) all in
        sound reads written loaded now writes
        (subst (λ (p : Environment). Hold (λ own. loaded (place_in corners now own)) (inlined (seeing answers) (flags pipeline schedule) pipeline.funcs func_index
        (seen_variable p) update.left_x).points) back parts.0)
        (subst (λ (p : Environment). Hold (λ own. loaded (place_in corners now own))
        (points_of_index (λ (e : Expr). (inlined (seeing answers) (flags pipeline schedule) pipeline.funcs func_index (seen_variable p) e).points)
        update.left_y)) back
        (subst (Hold (λ own. loaded (place_in corners now own))) (index_points update.left_y) parts.1.0))
        (subst (λ (p : Environment). Hold (λ own. loaded (place_in corners now own)) (inlined (seeing answers) (flags pipeline schedule) pipeline.funcs
        (suc func_index) (seen_variable p) update.right).points) back parts.1.1.1)

  -- ---- two lanes

  -- an argument in place occurs elsewhere
  abbrev pub Differ : Values → Values → Type 0
  Differ one other =
      ((is_first_in_place update ≡ true) × (whole_at other func_index variables.FirstArgument ≡ whole_at one func_index variables.FirstArgument → ⊥))
      ⊎ ((is_second_in_place update ≡ true) × (whole_at other func_index variables.SecondArgument ≡ whole_at one func_index variables.SecondArgument → ⊥))

  module _ (earlier later : Values) (first second : ℕ) (earlier_is : IsAt earlier first) (later_is : IsAt later second) (differ : Differ earlier later) where
    abbrev passes : Point → Bool
    passes point = is_sound reads (all_but point) all_points store earlier

    missed : (point : Point) → all_but point func_index (stored_column earlier first earlier_is) (stored_row earlier first earlier_is) ≡ true → passes point ≡ true
    missed point e =
        sound_where earlier first earlier_is (all_but point) all_points e
        (every (update_points pipeline schedule (placed corners earlier reads) func_index update first (x earlier) (y earlier)))
      where
        every : (list : List Point) → AllByRecursion (λ own. all_points (place_in corners earlier own) ≡ true) list
        every [] = tt
        every (own ∷ list) = (refl, every list)

    own_missed : (a b : ℕ) → IsInPlace update (x later) (y later)
        (record { source = sources.Func func_index; x = a; y = b })
        → passes (place_in corners later (record { source = sources.Func func_index; x = a; y = b })) ≡ true
    own_missed a b stays = ap passes (counted later a b) ∙ elim differ [
      | inl d ↦
          missed (record { source = sources.Func func_index; x = word.subtract a (linear_value later corner.x); y = word.subtract b (linear_value later corner.y) })
          (missed_column func_index (stored_column earlier first earlier_is) (stored_row earlier first earlier_is)
          (record { source = sources.Func func_index; x = word.subtract a (linear_value later corner.x); y = word.subtract b (linear_value later corner.y) })
          (λ e. d.1 (sym (ap (λ (n : ℕ). word.subtract n (linear_value later corner.x)) (stays.first d.0) ∙ back_column later) ∙ e
          ∙ column_is earlier first earlier_is d.0)))
      | inr d ↦
          missed (record { source = sources.Func func_index; x = word.subtract a (linear_value later corner.x); y = word.subtract b (linear_value later corner.y) })
          (missed_row func_index (stored_column earlier first earlier_is) (stored_row earlier first earlier_is)
          (record { source = sources.Func func_index; x = word.subtract a (linear_value later corner.x); y = word.subtract b (linear_value later corner.y) })
          (λ e. d.1 (sym (ap (λ (n : ℕ). word.subtract n (linear_value later corner.y)) (stays.second d.0) ∙ back_row later) ∙ e
          ∙ row_of earlier first earlier_is d.0)))
    ]

    one_missed : (s : Source) (a b : ℕ) (test : Bool) → same_source s (sources.Func func_index) ≡ test
        → (test ≡ true → IsInPlace update (x later) (y later) (record { source = s; x = a; y = b }))
        → passes (place_in corners later (record { source = s; x = a; y = b })) ≡ true
    one_missed s a b false differs stays =
        missed (place_in corners later (record { source = s; x = a; y = b }))
        (missed_elsewhere func_index (stored_column earlier first earlier_is) (stored_row earlier first earlier_is) (place_in corners later (record {
          source = s;
          x =
              a;
          y = b;
        }))
        (ap (is_source_of func_index) (source_stays corners later s a b) ∙ other_source func_index s differs))
    one_missed (sources.Input k) a b true same stays = absurd cc
    one_missed (sources.Func k) a b true same stays =
        let p = stays refl in
        subst (λ (n : ℕ). passes (place_in corners later (record { source = sources.Func n; x = a; y = b })) ≡ true) (sym (eqb-true k func_index same))
        (own_missed a b (record { first = p.first; second = p.second }))

    all_missed : (list : List Point) → AllByRecursion (λ own. same_source own.source (sources.Func func_index) ≡ true
        → IsInPlace update (x later) (y later) own) list
        → AllByRecursion (λ own. passes (place_in corners later own) ≡ true) list
    all_missed [] stay = tt
    all_missed (own ∷ list) stay = (
      one_missed own.source own.x own.y (same_source own.source (sources.Func func_index)) refl (λ e. let p = stay.0 e in record {
        first = p.first;
        second =
            p.second;
      }),
      all_missed list stay.1,
    )

    pub loads_none : LoadsNoneOf reads store earlier later
    loads_none =
        sound_where later second later_is everywhere passes refl
        (all_missed (update_points pipeline schedule (placed corners later reads) func_index update second (x later) (y later)) (all_stay later second later_is))

-- What is known of a vectorized loop of a stage: it has as many lanes as its split has a factor, each lane takes its variable further, and
-- loops of updates take it as far in each iteration.
use Rattle.std.proofs.Common.{◌≡◌, ℕ, zero, suc, ◌*◌, ◌≤◌, Bool, true, false, not, cond, List, [], ◌∷◌, ◌++◌, length, Option, Some, None, refl, sym, ap, subst}
use Rattle.std.proofs.Common.{◌∙◌, arith, eq-eqb, true≢false}
use Rattle.std.specs.Prelude.{◌==◌, ◌&&◌, ◌||◌, nat_le, is_some}
use Rattle.std.specs.List.{AllByRecursion}
use Rattle.std.proofs.lemmas.Bool.{and_parts, and_from, eqb-true, leb-true, le-leb}
use Rattle.halide_pipeline.specs.declared.definitions.Func.{Func}
use Rattle.halide_pipeline.specs.declared.definitions.Reduction.{Reduction}
use Rattle.halide_pipeline.specs.declared.definitions.Update.{Update}
use Rattle.halide_pipeline.specs.declared.expressions.Variable.{Variable}
use Rattle.halide_pipeline.specs.declared.expressions.Variable.TheVariants as variables
use Rattle.halide_pipeline.specs.Expressions.{same_variable}
use Rattle.halide_pipeline.specs.WellFormed.{is_first_in_place, is_second_in_place}
use Rattle.schedule_lines.specs.declared.lines.SplitLine.{SplitLine}
use Rattle.schedule_lines.specs.declared.stages.Loop.{Loop}
use Rattle.schedule_lines.specs.declared.stages.LoopId.{LoopId}
use Rattle.schedule_lines.specs.declared.stages.LoopId.TheVariants as ids
use Rattle.schedule_lines.specs.declared.stages.Split.{Split}
use Rattle.schedule_lines.specs.declared.stages.Stage.{Stage}
use Rattle.schedule_lines.specs.Directives.{is_shift, parts, is_reduction, same_id}
use Rattle.schedule_lines.specs.Making.{IsSplit, total}
use Rattle.schedule.specs.declared.legality.LoopRule.TheVariants as rules_of
use Rattle.schedule.specs.Accepted.{keeps}
use Rattle.schedule.specs.Plans.{with_loop, with_second, with_reduction, reduction_loops, with_first_in_place}
use Rattle.schedule.specs.Legal.{is_vector_length, is_empty, breaks}
use Rattle.schedule_loops.specs.declared.extents.Extents.{Extents}
use Rattle.schedule_loops.specs.Visits.{Values, counts, more_counts, whole_counts, strides, more_strides, whole_strides, is_uneven, more_uneven}
use Rattle.schedule_loops.specs.Stages.{IsStageOf, KeepsRules, first_loops, has_variable}
use Rattle.schedule_loops.proofs.FirstLoops.{plain, sound}
use Rattle.schedule_loops.proofs.Ids.{is_old, same_variable-self, old_apart, inner_new, outer_new, same_id-self}
use Rattle.schedule_loops.proofs.Linear.{uneven-more, strides-more}
use Rattle.schedule_loops.proofs.Making.{Sound, Stays, by_making, sound_stays, split_by, total-append, total_parts, bare_total, counts-more}
use Rattle.schedule_loops.proofs.Nesting.{has_id, has_same}
use Rattle.bounds_laws.proofs.Callers.{or_right}
use Rattle.schedule_loops.proofs.Selecting.{Unique}
use Rattle.loop_ir.specs.LoopLanes.{is_lane_count}
use Rattle.schedule_loops.specs.Runs.{is_vectorized_loop}

-- ---- what is asked of loops

-- an inner loop has as many iterations as the factor of its split
abbrev pub fits : Values → Loop → Option ℕ → Bool
fits counted stage_loop None = true
fits counted stage_loop (Some factor) = counted stage_loop.id == factor

abbrev pub is_fine : Values → Values → List Loop → Loop → Bool
is_fine strided counted start stage_loop = nat_le 1 (strided stage_loop.id) && (fits counted stage_loop stage_loop.inner_of && has_variable stage_loop.variable start)

abbrev pub flaw : Values → Values → List Loop → Loop → ℕ
flaw strided counted start stage_loop = cond (is_fine strided counted start stage_loop) 0 1

same_total : (f g : Loop → ℕ) (loops : List Loop) → ((stage_loop : Loop) → 1 ≤ total (has_id stage_loop.id) loops → f stage_loop ≡ g stage_loop) → total f loops ≡ total g loops
same_total f g [] each = refl
same_total f g (stage_loop ∷ others) each = omega (arith, each stage_loop (omega (arith, has_same stage_loop)), same_total f g others (λ o there. each o (omega (arith, there))))

same_fits : (one other : Values) (stage_loop : Loop) (factor : Option ℕ) → one stage_loop.id ≡ other stage_loop.id → fits one stage_loop factor ≡ fits other stage_loop factor
same_fits one other stage_loop None e = refl
same_fits one other stage_loop (Some factor) e = ap (λ (n : ℕ). n == factor) e

module _ (extents : Extents) (is_update : Bool) (start : List Loop) where
  abbrev counted : List Split → Values
  counted splits = counts extents splits

  pub record Fine (loops : List Loop) (splits : List Split) : Type 0 where
    pub is_sound : Sound loops splits
    pub flawless : total (flaw (strides splits) (counted splits) start) loops ≡ 0
    pub even : is_update ≡ true → (id : LoopId) → is_uneven splits id ≡ false

  -- ---- one more split

  module _ (before : List Loop) (stage_loop : Loop) (after : List Loop) (splits : List Split) (line : SplitLine) (is : IsSplit is_update line) (begun : Sound start [])
      (fine : Fine (before ++ stage_loop ∷ after) splits) where
    abbrev place : ℕ
    place = length splits

    abbrev new : Split
    new = split_by stage_loop line

    abbrev more : List Split
    more = splits ++ new ∷ []

    strides_are : strides more ≡ more_strides (strides splits) place new
    strides_are = strides-more splits whole_strides 0 place new (omega arith)

    counts_are : counted more ≡ more_counts (counted splits) place new
    counts_are = counts-more splits (whole_counts extents) 0 place new (omega arith)

    uneven_is : is_uneven more ≡ more_uneven (is_uneven splits) place new
    uneven_is = uneven-more splits (λ id. false) 0 place new (omega arith)

    module _ (id : LoopId) (old : is_old place id ≡ true) where
      no_inner : same_id id (ids.Inner place) ≡ false
      no_inner = old_apart place id (ids.Inner place) old (inner_new place)

      no_outer : same_id id (ids.Outer place) ≡ false
      no_outer = old_apart place id (ids.Outer place) old (outer_new place)

      old_stride : strides more id ≡ strides splits id
      old_stride = ap (λ (v : Values). v id) strides_are ∙ rw (no_inner, no_outer) refl

      old_count : counted more id ≡ counted splits id
      old_count = ap (λ (v : Values). v id) counts_are ∙ rw (no_inner, no_outer) refl

    old_flaw : (other : Loop) → is_old place other.id ≡ true → flaw (strides more) (counted more) start other ≡ flaw (strides splits) (counted splits) start
        other
    old_flaw other old =
        ap (λ (n : ℕ). cond {A = ℕ} (nat_le 1 n && (fits (counted more) other other.inner_of && has_variable other.variable start)) 0 1)
        (old_stride other.id old)
        ∙ ap (λ (b : Bool). cond {A = ℕ} (nat_le 1 (strides splits other.id) && (b && has_variable other.variable start)) 0 1) (same_fits (counted more)
        (counted splits) other other.inner_of (old_count other.id old))

    old_total : total (flaw (strides more) (counted more) start) (before ++ stage_loop ∷ after) ≡ 0
    old_total =
        same_total (flaw (strides more) (counted more) start) (flaw (strides splits) (counted splits) start) (before ++ stage_loop ∷ after) (λ other there. old_flaw
        other (fine.is_sound.old other.id there))
        ∙ fine.flawless

    own_there : 1 ≤ total (has_id stage_loop.id) (before ++ stage_loop ∷ after)
    own_there = omega (arith, total-append (has_id stage_loop.id) before (stage_loop ∷ after), has_same stage_loop)

    own_fine : is_fine (strides splits) (counted splits) start stage_loop ≡ true
    own_fine = by_test (is_fine (strides splits) (counted splits) start stage_loop) refl
      where
        by_test : (b : Bool) → is_fine (strides splits) (counted splits) start stage_loop ≡ b → b ≡ true
        by_test true e = refl
        by_test false e =
            let one : flaw (strides splits) (counted splits) start stage_loop ≡ 1 = ap
            (λ (t : Bool). cond {A = ℕ} t 0 1) e in
            absurd (omega (arith, fine.flawless, one, total-append (flaw (strides splits) (counted splits) start) before (stage_loop ∷ after)))

    own_parts : (1 ≤ strides splits stage_loop.id) × (has_variable stage_loop.variable start ≡ true)
    own_parts =
        let p = and_parts (nat_le 1 (strides splits stage_loop.id)) (fits (counted splits) stage_loop stage_loop.inner_of && has_variable stage_loop.variable start) own_fine in
        (leb-true 1 (strides splits stage_loop.id) p.0, (and_parts (fits (counted splits) stage_loop stage_loop.inner_of) (has_variable stage_loop.variable start) p.1).1)

    abbrev inner : Loop
    inner = record {
      id = ids.Inner place;
      name = line.inner;
      variable = stage_loop.variable;
      inner_of = Some line.factor;
      is_from_shift = stage_loop.is_from_shift
          || is_shift line.tail;
      marked = None;
    }

    abbrev outer : Loop
    outer = record {
      id = ids.Outer place;
      name = line.outer;
      variable = stage_loop.variable;
      inner_of = None;
      is_from_shift = stage_loop.is_from_shift
          || is_shift line.tail;
      marked = None;
    }

    inner_stride : strides more (ids.Inner place) ≡ strides splits stage_loop.id
    inner_stride = ap (λ (v : Values). v (ids.Inner place)) strides_are ∙ rw (same_id-self (ids.Inner place)) refl

    inner_count : counted more (ids.Inner place) ≡ line.factor
    inner_count = ap (λ (v : Values). v (ids.Inner place)) counts_are ∙ rw (same_id-self (ids.Inner place)) refl

    outer_stride : strides more (ids.Outer place) ≡ strides splits stage_loop.id * line.factor
    outer_stride = ap (λ (v : Values). v (ids.Outer place)) strides_are ∙ rw (same_id-self (ids.Outer place)) refl

    fine_by : (b : Bool) → b ≡ true → cond {A = ℕ} b 0 1 ≡ 0
    fine_by b e = ap (λ (t : Bool). cond {A = ℕ} t 0 1) e

    inner_flaw : flaw (strides more) (counted more) start inner ≡ 0
    inner_flaw =
        fine_by (is_fine (strides more) (counted more) start inner)
        (and_from (nat_le 1 (strides more (ids.Inner place))) (counted more (ids.Inner place) == line.factor && has_variable stage_loop.variable start)
        (le-leb 1 (strides more (ids.Inner place)) (omega (arith, own_parts.0, inner_stride)))
        (and_from (counted more (ids.Inner place) == line.factor) (has_variable stage_loop.variable start) (eq-eqb (counted more (ids.Inner place)) line.factor
        inner_count) own_parts.1))

    product_some : (a b : ℕ) → 1 ≤ a → 1 ≤ b → 1 ≤ a * b
    product_some zero b l m = absurd (omega (arith, l))
    product_some (suc a) zero l m = absurd (omega (arith, m))
    product_some (suc a) (suc b) l m = omega arith

    outer_flaw : flaw (strides more) (counted more) start outer ≡ 0
    outer_flaw =
        fine_by (is_fine (strides more) (counted more) start outer)
        (and_from (nat_le 1 (strides more (ids.Outer place))) (true && has_variable stage_loop.variable start)
        (le-leb 1 (strides more (ids.Outer place)) (omega (arith, product_some (strides splits stage_loop.id) line.factor own_parts.0 is.some, outer_stride)))
        own_parts.1)

    more_fine : Fine (before ++ (parts stage_loop (length splits) line ++ after))
        (splits ++ split_by stage_loop line ∷ [])
    more_fine = record {
      is_sound = (sound_stays is_update start begun).parted before stage_loop after splits line is fine.is_sound;
      flawless = omega (arith, total_parts (flaw (strides more) (counted more) start) before stage_loop after place line, old_total, inner_flaw, outer_flaw);
      even = λ update id. ap (λ (u : LoopId → Bool). u id) uneven_is ∙ even_by update (same_id id (ids.Inner place)) (same_id id (ids.Outer place)) id;
    }
      where
        even_by : is_update ≡ true → (a b : Bool) (id : LoopId)
            → cond a (is_uneven splits stage_loop.id) (cond b (is_uneven splits stage_loop.id || is_shift line.tail) (is_uneven splits id)) ≡ false
        even_by update true b id = fine.even update stage_loop.id
        even_by update false true id = rw (fine.even update stage_loop.id) (ap (λ (u : Bool). u && is_shift line.tail) (sym update) ∙ is.unshifted)
        even_by update false false id = fine.even update id

  fine_stays : Fine start [] → Stays is_update start Fine
  fine_stays begun = record {
    begun = begun;
    parted = λ before stage_loop after splits line is fine. more_fine before stage_loop after splits line is
        begun.is_sound fine;
    marked = λ loops new splits same fine. record {
      is_sound = (sound_stays is_update start begun.is_sound).marked loops new splits same fine.is_sound;
      flawless = bare_total (flaw (strides splits) (counted splits) start) (λ stage_loop. refl) new loops same ∙
          fine.flawless;
      even = fine.even;
    };
    moved = λ loops new splits same order fine. record {
      is_sound = (sound_stays is_update start begun.is_sound).moved loops new splits same order fine.is_sound;
      flawless = same (flaw (strides splits) (counted splits) start) ∙ fine.flawless;
      even = fine.even;
    };
  }

-- ---- first loops

AreBare : List Loop → Type 0
AreBare loops = AllByRecursion (λ own. (own.id ≡ ids.Whole own.variable) × (own.inner_of ≡ None)) loops

loop_bare : (loops : List Loop) (name : List ℕ) (v : Variable) → AreBare loops → AreBare (with_loop loops name v)
unfolding AreBare
loop_bare [] name v are = ((refl, refl), tt)
loop_bare (own ∷ loops) name v are = (are.0, loop_bare loops name v are.1)

second_bare : (loops : List Loop) (name : Option (List ℕ)) (v : Variable) → AreBare loops → AreBare (with_second loops name v)
second_bare loops None v are = are
second_bare loops (Some name) v are = loop_bare loops name v are

reduction_bare : (loops : List Loop) (second : Option Reduction) → AreBare loops → AreBare (with_reduction loops second)
reduction_bare loops None are = are
reduction_bare loops (Some second) are = loop_bare loops second.name variables.SecondReduction are

none_bare : AreBare []
unfolding AreBare
none_bare = tt

by_test_bare : (test : Bool) (one other : List Loop) → AreBare one → AreBare other → AreBare (cond test one other)
by_test_bare true one other are there = are
by_test_bare false one other are there = there

first_bare : (func : Func) (update : Option Update) → AreBare (first_loops func update)
first_bare func None = second_bare (with_loop [] func.first_argument variables.FirstArgument) func.second_argument variables.SecondArgument
    (loop_bare [] func.first_argument variables.FirstArgument none_bare)
first_bare func (Some update) =
    let reductions = reduction_bare (with_loop [] update.first.name variables.FirstReduction) update.second (loop_bare [] update.first.name
    variables.FirstReduction none_bare) in
    let first = by_test_bare (is_first_in_place update) (with_loop (reduction_loops update) func.first_argument variables.FirstArgument)
    (reduction_loops update)
    (loop_bare (reduction_loops update) func.first_argument variables.FirstArgument reductions) reductions in
    let before = with_first_in_place func update (reduction_loops update) in
    by_test_bare (is_second_in_place update) (with_second before func.second_argument variables.SecondArgument) before (second_bare before func.second_argument
    variables.SecondArgument first) first

module _ (extents : Extents) (start : List Loop) where
  one_begun : (stage_loop : Loop) → stage_loop.id ≡ ids.Whole stage_loop.variable → stage_loop.inner_of ≡ None → has_variable stage_loop.variable start ≡ true
      → flaw (strides []) (counts extents []) start stage_loop ≡ 0
  one_begun stage_loop id_is inner_is there =
      ap (λ (i : LoopId). cond {A = ℕ} (nat_le 1 (strides [] i) && (fits (counts extents []) stage_loop stage_loop.inner_of && has_variable stage_loop.variable start)) 0 1) id_is
      ∙ ap (λ (o : Option ℕ). cond {A = ℕ} (fits (counts extents []) stage_loop o && has_variable stage_loop.variable start) 0 1) inner_is
      ∙ ap (λ (b : Bool). cond {A = ℕ} b 0 1) there

  all_begun : (loops : List Loop) → AreBare loops → ((v : Variable) → has_variable v loops ≡ true → has_variable v start ≡ true)
      → total (flaw (strides []) (counts extents []) start) loops ≡ 0
  unfolding AreBare
  all_begun [] are there = refl
  all_begun (stage_loop ∷ loops) are there =
      let one = one_begun stage_loop are.0.0 are.0.1 (there stage_loop.variable (ap (λ (b : Bool). b || has_variable stage_loop.variable loops) (same_variable-self stage_loop.variable)))
      in
      omega (arith, one, all_begun loops are.1 (λ v e. there v (or_right (same_variable stage_loop.variable v) (has_variable v loops) e)))

-- ---- loops of stages

module _ (func : Func) (update : Option Update) (extents : Extents) (stage : Stage) (is : IsStageOf func update stage) where
  abbrev pub start : List Loop
  start = first_loops func update

  stage_fine : Fine extents (is_some update) start stage.loops stage.splits
  stage_fine =
      by_making (Fine extents (is_some update) start)
      (fine_stays extents (is_some update) start
      (record {
        is_sound = sound start (plain func update);
        flawless = all_begun extents start start (first_bare func update) (λ v e. e);
        even =
            λ e id. refl;
      }))
      is.made

  pub stage_flawless : total (flaw (strides stage.splits) (counts extents stage.splits) start) stage.loops ≡ 0
  stage_flawless = stage_fine.flawless

  pub all_even : is_some update ≡ true → (id : LoopId) → is_uneven stage.splits id ≡ false
  all_even = stage_fine.even

  pub unique_loops : Unique stage.loops
  unique_loops = stage_fine.is_sound.unique

  pub record IsVectorized (stage_loop : Loop) (outside : List Loop) : Type 0 where
    pub count : is_lane_count (counts extents stage.splits stage_loop.id) ≡ true
    pub stride : 1 ≤ strides stage.splits stage_loop.id
    pub argument : is_reduction stage_loop.variable ≡ false
    pub there : has_variable stage_loop.variable start ≡ true

  -- outside of the innermost loop, none is vectorized
  none_outside : (at_root : Bool) (outside : List Loop) → keeps rules_of.VectorizedInnermost at_root false outside ≡ true
      → AllByRecursion (λ other. is_vectorized_loop other ≡ false) outside
  none_outside at_root [] kept = tt
  none_outside at_root (stage_loop ∷ outside) kept =
      let p = and_parts (not (breaks rules_of.VectorizedInnermost at_root false (is_empty outside) stage_loop)) (keeps rules_of.VectorizedInnermost at_root false
      outside) kept in
      (by_test (is_vectorized_loop stage_loop) p.0, none_outside at_root outside p.1)
    where
      by_test : (b : Bool) → not (b && true) ≡ true → b ≡ false
      by_test true e = cc
      by_test false e = refl

  module _ (rules : KeepsRules stage) (stage_loop : Loop) (outside : List Loop)
      (loops_are : stage.loops ≡ stage_loop ∷ outside) where
    kept : keeps rules_of.VectorizedInnermost rules.0 true (stage_loop ∷ outside) ≡ true
    kept = subst (λ (ls : List Loop). keeps rules_of.VectorizedInnermost rules.0 true ls ≡ true) loops_are (rules.1 rules_of.VectorizedInnermost)

    pub others_are : AllByRecursion (λ other. is_vectorized_loop other ≡ false) outside
    others_are = none_outside rules.0 outside (and_parts (not (breaks rules_of.VectorizedInnermost rules.0 true (is_empty outside) stage_loop))
        (keeps rules_of.VectorizedInnermost rules.0 false outside) kept).1

    own_is : is_fine (strides stage.splits) (counts extents stage.splits) start stage_loop ≡ true
    own_is = by_test (is_fine (strides stage.splits) (counts extents stage.splits) start stage_loop) refl
      where
        by_test : (b : Bool) → is_fine (strides stage.splits) (counts extents stage.splits) start stage_loop ≡ b
            → b ≡ true
        by_test true e = refl
        by_test false e =
            let one : flaw (strides stage.splits) (counts extents stage.splits) start stage_loop ≡ 1 = ap (λ (t : Bool). cond {A = ℕ} t 0 1) e in
            let all : total (flaw (strides stage.splits) (counts extents stage.splits) start) (stage_loop ∷ outside) ≡ 0
            =
            subst (λ (ls : List Loop). total (flaw (strides stage.splits) (counts extents stage.splits) start) ls ≡ 0) loops_are stage_fine.flawless in
            absurd (omega (arith, all, one))

    vector_by : (b r : Bool) → is_vectorized_loop stage_loop ≡ true → not (is_vectorized_loop stage_loop && (false || not b || r)) ≡ true → (b ≡ true) × (r ≡ false)
    vector_by true false e k = (refl, refl)
    vector_by true true e k = absurd (true≢false (sym k ∙ ap (λ (t : Bool). not (t && true)) e))
    vector_by false r e k = absurd (true≢false (sym k ∙ ap (λ (t : Bool). not (t && true)) e))

    count_by : (factor : Option ℕ) → is_vector_length factor ≡ true → fits (counts extents stage.splits) stage_loop factor ≡ true
        → is_lane_count (counts extents stage.splits stage_loop.id) ≡ true
    count_by None long fit = cc
    count_by (Some factor) long fit = ap is_lane_count (eqb-true (counts extents stage.splits stage_loop.id) factor fit)
        ∙ swapped (factor == 4) (factor == 8) (factor == 16) long
      where
        swapped : (a b c : Bool) → (a || b || c) ≡ true → (a || (b || c)) ≡ true
        swapped true b c e = refl
        swapped false true c e = refl
        swapped false false c e = e

    pub vectorized : is_vectorized_loop stage_loop ≡ true → IsVectorized stage_loop outside
    vectorized e =
        let k = vector_by (is_vector_length stage_loop.inner_of) (is_reduction stage_loop.variable) e
        (and_parts (not (breaks rules_of.VectorizedInnermost rules.0 true (is_empty outside) stage_loop)) (keeps rules_of.VectorizedInnermost rules.0 false outside)
        kept).0 in
        let p = and_parts (nat_le 1 (strides stage.splits stage_loop.id)) (fits (counts extents stage.splits) stage_loop stage_loop.inner_of && has_variable stage_loop.variable start)
        own_is in
        let q = and_parts (fits (counts extents stage.splits) stage_loop stage_loop.inner_of)
        (has_variable stage_loop.variable start) p.1 in
        record { count = count_by stage_loop.inner_of k.0 q.0; stride = leb-true 1 (strides stage.splits stage_loop.id) p.0; argument = k.1; there = q.1 }

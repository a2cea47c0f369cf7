-- Where uneven loops are in the same iterations, the values of a variable differ as what its loops add.
use Rattle.std.proofs.Common.{◌≡◌, ℕ, ◌+◌, ◌*◌, ◌<◌, ◌≤◌, Bool, true, false, cond, List, [], ◌∷◌, ◌++◌, length, Option, refl, sym, ap, subst, ◌∙◌, arith, inl}
use Rattle.std.proofs.Common.{inr}
use Rattle.std.specs.Prelude.{◌||◌, nat_lt}
use Rattle.std.proofs.lemmas.Bool.{ltb-true}
use Rattle.halide_pipeline.specs.declared.definitions.Func.{Func}
use Rattle.halide_pipeline.specs.declared.definitions.Update.{Update}
use Rattle.halide_pipeline.specs.declared.expressions.Variable.{Variable}
use Rattle.halide_pipeline.specs.Expressions.{same_variable}
use Rattle.schedule_lines.specs.declared.lines.SplitLine.{SplitLine}
use Rattle.schedule_lines.specs.declared.stages.Loop.{Loop}
use Rattle.schedule_lines.specs.declared.stages.LoopId.{LoopId}
use Rattle.schedule_lines.specs.declared.stages.LoopId.TheVariants as ids
use Rattle.schedule_lines.specs.declared.stages.Split.{Split}
use Rattle.schedule_lines.specs.declared.stages.Stage.{Stage}
use Rattle.schedule_lines.specs.Directives.{same_id, parts, is_shift}
use Rattle.schedule_lines.specs.Making.{total, IsSplit, IsMade}
use Rattle.schedule_loops.specs.declared.extents.Extents.{Extents}
use Rattle.schedule_loops.specs.Visits.{Values, with, whole_counts, more_counts, counts_from, counts, whole_strides, more_strides, strides_from, more_uneven}
use Rattle.schedule_loops.specs.Visits.{uneven_from, is_uneven, begin_of, whole_of, split_body, split_bodies, over_loops}
use Rattle.schedule_loops.specs.Reach.{base, AgreeWhereUneven}
use Rattle.schedule_loops.specs.Runs.{AreIterations}
use Rattle.schedule_loops.specs.Stages.{has_variable, first_loops, IsStageOf}
use Rattle.schedule_loops.proofs.Ids.{is_old, old_apart, inner_new, outer_new, cases_id, with_same, with_other, same_of, other_of, swapped_id}
use Rattle.schedule_loops.proofs.Ids.{same_variable-true}
use Rattle.schedule_loops.proofs.Nesting.{has_id, has_other, InRange}
use Rattle.schedule_loops.proofs.Making.{Stays, by_making, Sound, sound_stays, split_by, total-append, parts_inner, parts_outer, total_parts, counts-more}
use Rattle.schedule_loops.proofs.Making.{bodies-more, bare_total, own_apart, apart_from}
use Rattle.schedule_loops.proofs.Order.{whole_in_range, inner_part, outer_part}
use Rattle.schedule_loops.proofs.FirstLoops.{Plain, plain, sound, once_sum}
use Rattle.schedule_loops.proofs.Starts.{is_loop_invariant, invariant_passed_on}
use Rattle.schedule_loops.proofs.Linear.{even, strides-more, uneven-more, total_apart, times_sum, times_factor, begin_guard}
use Rattle.schedule_loops.proofs.Bounded.{in_iterations}

-- what a loop over the variable adds
abbrev pub part : Variable → Values → Values → Loop → ℕ
part v strides values stage_loop = cond (same_variable stage_loop.variable v)
    (strides stage_loop.id * values stage_loop.id) 0

some_of : {A : Type 0} (test : Bool) (xs : List A) (x : A) → cond test xs [] ≡ x ∷ [] → (test ≡ true) × (xs ≡ x ∷ [])
some_of true xs x e = (refl, e)
some_of false xs x e = cc

-- what the loops of a split add in one iteration and in another, beside what the loop added that is split
parts_step : (same odd : Bool) (s f o p i j b c : ℕ) → (odd ≡ true → (o ≡ p) × (b ≡ c)) → (odd ≡ false → (b ≡ o * f) × (c ≡ p * f))
    → cond {A = ℕ} same (s * i) 0 + cond {A = ℕ} same (s * f * o) 0 + cond {A = ℕ} same (s * (c + j)) 0 ≡ cond {A = ℕ} same (s * j) 0 + cond {A = ℕ} same
    (s * f * p) 0 + cond {A = ℕ} same (s * (b + i)) 0
parts_step false odd s f o p i j b c uneven guard = refl
parts_step true true s f o p i j b c uneven guard =
    let u = uneven refl in
    omega (arith, times_sum s c j, times_sum s b i, ap (λ (n : ℕ). s * f * n) u.0, ap (λ (n : ℕ). s * n) u.1)
parts_step true false s f o p i j b c uneven guard =
    let g = guard refl in
    omega (arith, times_sum s c j, times_sum s b i, ap (λ (n : ℕ). s * n) g.0, ap (λ (n : ℕ). s * n) g.1, times_factor s o f, times_factor s p f)

sums_step : (one other bb ab ba aa pb pa ib ob ia oa : ℕ) → one + (bb + (pb + ab)) ≡ other + (ba + (pa + aa)) → ia + oa + pb ≡ ib + ob + pa
    → one + (bb + (ib + (ob + ab))) ≡ other + (ba + (ia + (oa + aa)))
sums_step one other bb ab ba aa pb pa ib ob ia oa e f = omega arith

or_false : (a b : Bool) → (a || b) ≡ false → b ≡ false
or_false true b e = cc
or_false false b e = e

or_first : (a b : Bool) → a ≡ true → (a || b) ≡ true
or_first true b e = refl
or_first false b e = cc

module _ (extents : Values) (v : Variable) where
  abbrev counts_of : List Split → Values
  counts_of splits = counts_from extents 0 splits

  abbrev strides_of : List Split → Values
  strides_of splits = strides_from whole_strides 0 splits

  abbrev uneven_of : List Split → LoopId → Bool
  uneven_of splits = uneven_from even 0 splits

  abbrev listed : List Split → Values → List Values
  listed splits values = split_bodies extents 0 splits (λ whole. whole ∷ []) values

  pub record Steps (loops : List Loop) (splits : List Split) : Type 0 where
    pub sound : Sound loops splits
    pub step : (a b : Values) → InRange (counts_of splits) loops a → InRange (counts_of splits) loops b
        → ((id : LoopId) → 1 ≤ total (has_id id) loops → uneven_of splits id ≡ true → a id ≡ b id)
        → (one other : Values) → listed splits a ≡ one ∷ [] → listed splits b ≡ other ∷ []
        → one (ids.Whole v) + total (part v (strides_of splits) b) loops ≡ other (ids.Whole v) + total (part v (strides_of splits) a) loops

  module _ (is_update : Bool) (before : List Loop) (stage_loop : Loop) (after : List Loop) (splits : List Split) (line : SplitLine) (is : IsSplit is_update line)
      (steps : Steps (before ++ stage_loop ∷ after) splits) where
    abbrev place : ℕ
    place = length splits

    abbrev split : Split
    split = split_by stage_loop line

    abbrev cs : Values
    cs = counts_of splits

    abbrev st : Values
    st = strides_of splits

    abbrev un : LoopId → Bool
    un = uneven_of splits

    abbrev new_cs : Values
    new_cs = more_counts cs place split

    abbrev new_st : Values
    new_st = more_strides st place split

    abbrev new_un : LoopId → Bool
    new_un = more_uneven un place split

    abbrev new_loops : List Loop
    new_loops = before ++ (parts stage_loop (length splits) line ++ after)

    abbrev w : Values → ℕ
    w values = whole_of cs place split values

    abbrev begin : Values → ℕ
    begin values = begin_of line.tail line.factor (cs stage_loop.id) (values (ids.Outer place))

    snd : Sound (before ++ stage_loop ∷ after) splits
    snd = steps.sound

    inner_there : 1 ≤ total (has_id (ids.Inner place)) new_loops
    inner_there = omega (
      arith,
      total-append (has_id (ids.Inner place)) before (parts stage_loop place line ++ after),
      total-append (has_id (ids.Inner place))
          (parts stage_loop place line) after,
      parts_inner stage_loop place line,
    )

    outer_there : 1 ≤ total (has_id (ids.Outer place)) new_loops
    outer_there = omega (
      arith,
      total-append (has_id (ids.Outer place)) before (parts stage_loop place line ++ after),
      total-append (has_id (ids.Outer place))
          (parts stage_loop place line) after,
      parts_outer stage_loop place line,
    )

    uneven_inner : new_un (ids.Inner place) ≡ un stage_loop.id
    uneven_inner = same_of (ids.Inner place) (un stage_loop.id)
        (with (ids.Outer place) (un stage_loop.id || is_shift line.tail) un)

    uneven_outer : new_un (ids.Outer place) ≡ (un stage_loop.id || is_shift line.tail)
    uneven_outer = same_of (ids.Outer place) (un stage_loop.id || is_shift line.tail) un

    part_old : (values : Values) (l : Loop) → is_old place l.id ≡ true → same_id l.id stage_loop.id ≡ false → part v st (with stage_loop.id (w values) values) l
        ≡ part v new_st values l
    part_old values l old d =
        ap (λ (n : ℕ). cond (same_variable l.variable v) (st l.id * n) 0)
        (with_other stage_loop.id (w values) values l.id d)
        ∙ ap (λ (n : ℕ). cond (same_variable l.variable v) (n * values l.id) 0)
        (sym (other_of (ids.Inner place) (st stage_loop.id) (with (ids.Outer place) (st stage_loop.id * line.factor) st) l.id (old_apart place l.id (ids.Inner place) old
        (inner_new place))
        ∙ other_of (ids.Outer place) (st stage_loop.id * line.factor) st l.id (old_apart place l.id (ids.Outer place) old (outer_new place))))

    part_own : (values : Values) → part v st (with stage_loop.id (w values) values) stage_loop ≡ cond (same_variable stage_loop.variable v) (st stage_loop.id * w values) 0
    part_own values = ap (λ (n : ℕ). cond (same_variable stage_loop.variable v) (st stage_loop.id * n) 0) (with_same stage_loop.id (w values) values)

    part_inner : (values : Values) → part v new_st values (inner_part stage_loop place line) ≡ cond (same_variable stage_loop.variable v)
        (st stage_loop.id * values (ids.Inner place)) 0
    part_inner values = ap (λ (n : ℕ). cond (same_variable stage_loop.variable v) (n * values (ids.Inner place)) 0) (same_of (ids.Inner place) (st stage_loop.id)
        (with (ids.Outer place) (st stage_loop.id * line.factor) st))

    part_outer : (values : Values) → part v new_st values (outer_part stage_loop place line) ≡ cond (same_variable stage_loop.variable v) (st stage_loop.id * line.factor * values
        (ids.Outer place)) 0
    part_outer values = ap (λ (n : ℕ). cond (same_variable stage_loop.variable v) (n * values (ids.Outer place)) 0) (same_of (ids.Outer place)
        (st stage_loop.id * line.factor) st)

    old_sum : (values : Values) → total (part v st (with stage_loop.id (w values) values))
        (before ++ stage_loop ∷ after)
        ≡ total (part v new_st values) before + (cond (same_variable stage_loop.variable v) (st stage_loop.id * w values) 0 + total (part v new_st values) after)
    old_sum values =
        let none = own_apart before stage_loop after snd.unique in
        let apart_before = apart_from (length splits) stage_loop.id before (λ id there. snd.old id (omega (
          arith,
          there,
          total-append (has_id id) before (stage_loop
              ∷ after),
        ))) (omega (arith, none)) in
        let apart_after = apart_from (length splits) stage_loop.id after (λ id there. snd.old id (omega (arith, there, total-append (has_id id) before (stage_loop ∷ after))))
        (omega (arith, none)) in
        omega (
          arith,
          total-append (part v st (with stage_loop.id (w values) values)) before (stage_loop ∷ after),
          part_own values,
          total_apart (length splits) stage_loop.id (part v st (with stage_loop.id (w values) values)) (part v new_st values) before (part_old values) apart_before,
          total_apart (length splits) stage_loop.id (part v st (with stage_loop.id (w values) values)) (part v new_st values) after (part_old values) apart_after,
        )

    new_sum : (values : Values) → total (part v new_st values) new_loops
        ≡ total (part v new_st values) before + (cond (same_variable stage_loop.variable v) (st stage_loop.id * values (ids.Inner place)) 0
        + (cond (same_variable stage_loop.variable v) (st stage_loop.id * line.factor * values (ids.Outer place)) 0 + total (part v new_st values) after))
    new_sum values = omega (arith, total-append (part v new_st values) before (parts stage_loop (length splits) line ++ after), part_inner values, part_outer values)

    module _ (a b : Values) (in_a : InRange new_cs new_loops a) (in_b : InRange new_cs new_loops b) (agree : (id : LoopId) → 1 ≤ total (has_id id) new_loops
        → new_un id ≡ true → a id ≡ b id) where
      same_outer : (un stage_loop.id || is_shift line.tail) ≡ true → a (ids.Outer place) ≡ b (ids.Outer place)
      same_outer e = agree (ids.Outer place) outer_there (uneven_outer ∙ e)

      same_inner : un stage_loop.id ≡ true → a (ids.Inner place) ≡ b (ids.Inner place)
      same_inner e = agree (ids.Inner place) inner_there (uneven_inner ∙ e)

      same_whole : un stage_loop.id ≡ true → w a ≡ w b
      same_whole e =
          ap (λ (n : ℕ). begin_of line.tail line.factor (cs stage_loop.id) n + a (ids.Inner place)) (same_outer (or_first (un stage_loop.id) (is_shift line.tail) e))
          ∙ ap (λ (n : ℕ). begin b + n) (same_inner e)

      old_agree : (id : LoopId) → 1 ≤ total (has_id id) (before ++ stage_loop ∷ after) → un id ≡ true → with stage_loop.id (w a) a id ≡ with stage_loop.id (w b) b id
      old_agree id there e = elim (cases_id id stage_loop.id) [
        | inl s ↦
            let u : un stage_loop.id ≡ true = ap un (sym s) ∙ e in
            subst (λ (i : LoopId). with stage_loop.id (w a) a i ≡ with stage_loop.id (w b) b i) (sym s) (with_same stage_loop.id (w a) a ∙ same_whole u
            ∙ sym (with_same stage_loop.id (w b) b))
        | inr d ↦
            let old : is_old place id ≡ true = snd.old id there in
            let same_un : new_un id ≡ un id =
            other_of (ids.Inner place) (un stage_loop.id) (with (ids.Outer place) (un stage_loop.id || is_shift line.tail) un) id (old_apart place id (ids.Inner place) old
            (inner_new place))
            ∙ other_of (ids.Outer place) (un stage_loop.id || is_shift line.tail) un id (old_apart place id (ids.Outer place) old (outer_new place)) in
            let l : 1 ≤ total (has_id id) new_loops = omega (
              arith,
              there,
              total_parts (has_id id) before stage_loop after place line,
              has_other id stage_loop
                  (swapped_id id stage_loop.id d),
            ) in
            with_other stage_loop.id (w a) a id d ∙ agree id l (same_un ∙ e) ∙ sym
            (with_other stage_loop.id (w b) b id d)
      ]

      step_at : (odd : Bool) → (un stage_loop.id || is_shift line.tail) ≡ odd
          → cond {A = ℕ} (same_variable stage_loop.variable v) (st stage_loop.id * a (ids.Inner place)) 0 + cond {A = ℕ} (same_variable stage_loop.variable v)
          (st stage_loop.id * line.factor * a (ids.Outer place)) 0 + cond {A = ℕ} (same_variable stage_loop.variable v) (st stage_loop.id * w b) 0
          ≡ cond {A = ℕ} (same_variable stage_loop.variable v) (st stage_loop.id * b (ids.Inner place)) 0 + cond {A = ℕ} (same_variable stage_loop.variable v)
          (st stage_loop.id * line.factor * b (ids.Outer place)) 0 + cond {A = ℕ} (same_variable stage_loop.variable v) (st stage_loop.id * w a) 0
      step_at odd e =
          parts_step (same_variable stage_loop.variable v) odd (st stage_loop.id) line.factor (a (ids.Outer place)) (b (ids.Outer place)) (a (ids.Inner place))
          (b (ids.Inner place)) (begin a) (begin b)
          (λ o. let s = same_outer (e ∙ o) in (
            s,
            ap (λ (n : ℕ). begin_of line.tail line.factor (cs stage_loop.id) n)
                s,
          ))
          (λ o. let g : is_shift line.tail ≡ false = or_false (un stage_loop.id) (is_shift line.tail) (e ∙ o) in
          (begin_guard line.tail line.factor (cs stage_loop.id) (a (ids.Outer place)) g, begin_guard line.tail line.factor (cs stage_loop.id) (b (ids.Outer place)) g))

      step_parted : (one other : Values) → split_body cs place split (split_bodies extents 0 splits (λ whole. whole ∷ [])) a ≡ one ∷ []
          → split_body cs place split (split_bodies extents 0 splits (λ whole. whole ∷ [])) b ≡ other ∷ []
          → one (ids.Whole v) + total (part v new_st b) new_loops ≡ other (ids.Whole v) + total (part v new_st a) new_loops
      step_parted one other ea eb =
          let pa = some_of (nat_lt (w a) (cs stage_loop.id)) (listed splits (with stage_loop.id (w a) a)) one ea in
          let pb = some_of (nat_lt (w b) (cs stage_loop.id)) (listed splits (with stage_loop.id (w b) b)) other eb in
          let la : w a < cs stage_loop.id = ltb-true (w a) (cs stage_loop.id) pa.0 in
          let lb : w b < cs stage_loop.id = ltb-true (w b) (cs stage_loop.id) pb.0 in
          let ra = whole_in_range Values extents (λ z. z) (λ n. true) is_update is_loop_invariant (invariant_passed_on is_update) before stage_loop after splits line is snd a
          in_a la in
          let rb = whole_in_range Values extents (λ z. z) (λ n. true) is_update is_loop_invariant (invariant_passed_on is_update) before stage_loop after splits line is snd b
          in_b lb in
          let h = steps.step (with stage_loop.id (w a) a) (with stage_loop.id (w b) b) ra rb old_agree one other pa.1
          pb.1 in
          let g = sums_step (one (ids.Whole v)) (other (ids.Whole v)) (total (part v new_st b) before) (total (part v new_st b) after) (total (part v new_st a)
          before) (total (part v new_st a) after)
          (cond (same_variable stage_loop.variable v) (st stage_loop.id * w b) 0) (cond (same_variable stage_loop.variable v) (st stage_loop.id * w a) 0)
          (cond (same_variable stage_loop.variable v) (st stage_loop.id * b (ids.Inner place)) 0) (cond (same_variable stage_loop.variable v) (st stage_loop.id * line.factor * b
          (ids.Outer place)) 0)
          (cond (same_variable stage_loop.variable v) (st stage_loop.id * a (ids.Inner place)) 0) (cond (same_variable stage_loop.variable v) (st stage_loop.id * line.factor * a
          (ids.Outer place)) 0)
          (omega (arith, h, old_sum a, old_sum b)) (step_at (un stage_loop.id || is_shift line.tail) refl) in
          omega (arith, g, new_sum a, new_sum b)

  steps_stays : (is_update : Bool) (start : List Loop) → Steps start [] → Stays is_update start Steps
  steps_stays is_update start begun = record {
    begun = begun;
    parted = λ before stage_loop after splits line is steps. record {
      sound = (sound_stays is_update start begun.sound).parted before stage_loop after splits line is steps.sound;
      step =
          let counts_are : counts_of (splits ++ split_by stage_loop line ∷ []) ≡ more_counts (counts_of splits) (length splits) (split_by stage_loop line) =
          counts-more splits extents 0 (length splits) (split_by stage_loop line) (omega arith) in
          let strides_are : strides_of (splits ++ split_by stage_loop line ∷ []) ≡ more_strides (strides_of splits) (length splits) (split_by stage_loop line) =
          strides-more splits whole_strides 0 (length splits) (split_by stage_loop line) (omega arith) in
          let uneven_are : uneven_of (splits ++ split_by stage_loop line ∷ []) ≡ more_uneven (uneven_of splits) (length splits) (split_by stage_loop line) =
          uneven-more splits even 0 (length splits) (split_by stage_loop line) (omega arith) in
          let bodies_are : split_bodies extents 0 (splits ++ split_by stage_loop line ∷ []) (λ whole. whole ∷ []) ≡ split_body (counts_of splits) (length splits)
          (split_by stage_loop line) (split_bodies extents 0 splits (λ whole. whole ∷ [])) = bodies-more splits extents 0 (length splits) (split_by stage_loop line)
          (λ whole. whole ∷ []) (omega arith) in
          rw (counts_are, strides_are, uneven_are, bodies_are) (step_parted is_update before stage_loop after splits line is steps);
    };
    marked = λ loops new splits same steps. record {
      sound = (sound_stays is_update start begun.sound).marked loops new splits same steps.sound;
      step = λ a b in_a in_b agree one other ea eb.
          let has : (id : LoopId) → total (has_id id) new ≡ total (has_id id) loops = λ id. bare_total (has_id id) (λ stage_loop. refl) new loops same in
          let h = steps.step a b (λ id l. in_a id (omega (arith, has id))) (λ id l. in_b id (omega (arith, has id))) (λ id l e. agree id (omega (arith, has id))
          e) one other ea eb in
          omega (
            arith,
            h,
            bare_total (part v (strides_of splits) a) (λ stage_loop. refl) new loops same,
            bare_total (part v (strides_of splits) b) (λ stage_loop. refl) new
                loops same,
          );
    };
    moved = λ loops new splits same order steps. record {
      sound = (sound_stays is_update start begun.sound).moved loops new splits same order steps.sound;
      step = λ a b in_a in_b agree one other ea eb.
          let h = steps.step a b (λ id l. in_a id (omega (arith, same (has_id id)))) (λ id l. in_b id (omega (arith, same (has_id id))))
          (λ id l e. agree id (omega (arith, same (has_id id))) e) one other ea eb in
          omega (arith, h, same (part v (strides_of splits) a), same (part v (strides_of splits) b));
    };
  }

  -- ---- before any line

  whole_part : (values : Values) (l : Loop) → l.id ≡ ids.Whole l.variable → same_variable l.variable v ≡ true
      → part v whole_strides values l ≡ values (ids.Whole v)
  whole_part values l plain same =
      let u : l.id ≡ ids.Whole v = plain ∙ ap (λ (x : Variable). ids.Whole x) (same_variable-true l.variable v same) in
      let one : 1 * values (ids.Whole v) ≡ values (ids.Whole v) = omega arith in
      ap (λ (b : Bool). cond b (whole_strides l.id * values l.id) 0) same ∙ ap (λ (i : LoopId). whole_strides i * values i) u ∙ one

  whole_sum : (start : List Loop) → Plain start → has_variable v start ≡ true → (values : Values) → total (part v whole_strides values) start
      ≡ values (ids.Whole v)
  whole_sum start plain some values =
      once_sum v (part v whole_strides values) (values (ids.Whole v))
      (record { own = λ l p e. whole_part values l p e; others = λ l e. ap (λ (b : Bool). cond b (whole_strides l.id * values l.id) 0) e }) start plain some

  head_is : (one other : Values) → one ∷ [] ≡ other ∷ [] → one ≡ other
  head_is one other e = cc

  begun : (start : List Loop) → Plain start → has_variable v start ≡ true → Steps start []
  begun start plain some = record {
    sound = sound start plain;
    step = λ a b in_a in_b agree one other ea eb.
        let sa : a (ids.Whole v) ≡ one (ids.Whole v) = ap (λ (z : Values). z (ids.Whole v)) (head_is a one ea) in
        let sb : b (ids.Whole v) ≡ other (ids.Whole v) = ap (λ (z : Values). z (ids.Whole v)) (head_is b other eb) in
        omega (arith, sa, sb, whole_sum start plain some a, whole_sum start plain some b);
  }

  pub steps_in : {is_update : Bool} {start loops : List Loop} {splits : List Split} → Plain start → has_variable v start ≡ true
      → IsMade is_update start loops splits → Steps loops splits
  steps_in {is_update} {start} plain some made = by_making Steps (steps_stays is_update start (begun start plain some)) made

-- ---- the loops of a stage

agree_at : (splits : List Split) (loops : List Loop) (a b : Values) → AgreeWhereUneven splits loops a b → (id : LoopId) → 1 ≤ total (has_id id) loops
    → is_uneven splits id ≡ true → a id ≡ b id
agree_at splits [] a b agree id l e = absurd (omega arith)
agree_at splits (own ∷ others) a b agree id l e = elim (cases_id own.id id) [
  | inl s ↦ subst (λ (i : LoopId). a i ≡ b i) s (agree.0 (ap (is_uneven splits) s ∙ e))
  | inr d ↦ agree_at splits others a b agree.1 id (omega (arith, has_other id own d)) e
]

pub stepped : (func : Func) (update : Option Update) (extents : Extents) (stage : Stage) (variable : Variable) (one_iterations other_iterations one other : Values)
    → IsStageOf func update stage
    → has_variable variable (first_loops func update) ≡ true
    → AreIterations (counts extents stage.splits) stage.loops one_iterations → AreIterations (counts extents stage.splits) stage.loops other_iterations
    → AgreeWhereUneven stage.splits stage.loops one_iterations other_iterations
    → over_loops extents stage.splits (λ whole. whole ∷ []) one_iterations ≡ one ∷ [] → over_loops extents stage.splits (λ whole. whole ∷ []) other_iterations ≡ other
    ∷ []
    → one (ids.Whole variable) + base stage.splits variable other_iterations stage.loops ≡ other (ids.Whole variable) + base stage.splits variable one_iterations
    stage.loops
stepped func update extents stage variable one_iterations other_iterations one other is some are_one are_other agree e_one e_other =
    (steps_in (whole_counts extents) variable (plain func update) some is.made).step one_iterations other_iterations
    (in_iterations (counts extents stage.splits) stage.loops one_iterations are_one) (in_iterations (counts extents stage.splits) stage.loops other_iterations are_other)
    (agree_at stage.splits stage.loops one_iterations other_iterations agree) one other e_one e_other

-- The value of a variable in a nest is a sum over its loops.
use Rattle.std.proofs.Common.{◌≡◌, ℕ, zero, suc, ◌+◌, ◌-◌, ◌*◌, ◌<◌, ◌≤◌, Bool, true, false, not, cond, List, [], ◌∷◌, ◌++◌, length, refl, sym, ap, ◌∙◌, arith}
use Rattle.std.specs.Prelude.{◌&&◌, ◌||◌, nat_lt}
use Rattle.std.proofs.lemmas.Bool.{ltb-true}
use Rattle.std.proofs.Math.Nat.{mul-le-mul_left, mul-le-mul_right}
use Rattle.halide_pipeline.specs.declared.expressions.Variable.{Variable}
use Rattle.halide_pipeline.specs.Expressions.{same_variable}
use Rattle.schedule_lines.specs.declared.lines.SplitLine.{SplitLine}
use Rattle.schedule_lines.specs.declared.stages.Loop.{Loop}
use Rattle.schedule_lines.specs.declared.stages.LoopId.{LoopId}
use Rattle.schedule_lines.specs.declared.stages.LoopId.TheVariants as ids
use Rattle.schedule_lines.specs.declared.stages.Split.{Split}
use Rattle.schedule_lines.specs.declared.stages.Tail.{Tail}
use Rattle.schedule_lines.specs.declared.stages.Tail.TheVariants as tails
use Rattle.schedule_lines.specs.Directives.{same_id, parts, is_shift}
use Rattle.schedule_lines.specs.Making.{total, IsSplit, IsMade}
use Rattle.schedule_loops.specs.Visits.{Values, with, outer_extent, more_counts, counts_from, whole_strides, more_strides, strides_from, more_uneven, uneven_from}
use Rattle.schedule_loops.specs.Visits.{begin_of, whole_of, split_body, split_bodies}
use Rattle.schedule_loops.specs.Stages.{has_variable}
use Rattle.schedule_loops.proofs.Ids.{is_old, old_apart, inner_new, outer_new, with_same, with_other, same_of, other_of, same_variable-true}
use Rattle.schedule_loops.proofs.Nesting.{has_id, InRange}
use Rattle.schedule_loops.proofs.Splitting.{Apart, outer_extent_reaches}
use Rattle.schedule_loops.proofs.Making.{Stays, by_making, Sound, sound_stays, split_by, total-append, parts_outer, counts-more, bodies-more, bare_total}
use Rattle.schedule_loops.proofs.Making.{own_apart, apart_from}
use Rattle.schedule_loops.proofs.Order.{whole_in_range, inner_part, outer_part}
use Rattle.schedule_loops.proofs.FirstLoops.{Plain, sound, IsOf, once_sum}
use Rattle.schedule_loops.proofs.Starts.{is_loop_invariant, invariant_passed_on}

-- what a loop over the variable adds that is not uneven
abbrev pub exact : Variable → Values → (LoopId → Bool) → Values → Loop → ℕ
exact v strides uneven values stage_loop = cond (same_variable stage_loop.variable v && not (uneven stage_loop.id)) (strides stage_loop.id * values stage_loop.id) 0

-- the most that an uneven one adds
abbrev pub slack : Variable → Values → (LoopId → Bool) → Values → Loop → ℕ
slack v strides uneven counts stage_loop = cond (same_variable stage_loop.variable v && uneven stage_loop.id) (strides stage_loop.id * (counts stage_loop.id - 1)) 0

abbrev pub even : LoopId → Bool
even id = false

pub strides-more : (splits : List Split) (strides : Values) (place end : ℕ) (split : Split) → end ≡ place + length splits
    → strides_from strides place (splits ++ split ∷ []) ≡ more_strides (strides_from strides place splits) end split
strides-more [] strides place end split e = let same : place ≡ end = omega arith in ap (λ (n : ℕ). more_strides strides n split) same
strides-more (first ∷ splits) strides place end split e = strides-more splits (more_strides strides place first) (suc place) end split (omega arith)

pub uneven-more : (splits : List Split) (uneven : LoopId → Bool) (place end : ℕ) (split : Split) → end ≡ place + length splits
    → uneven_from uneven place (splits ++ split ∷ []) ≡ more_uneven (uneven_from uneven place splits) end split
uneven-more [] uneven place end split e = let same : place ≡ end = omega arith in ap (λ (n : ℕ). more_uneven uneven n split) same
uneven-more (first ∷ splits) uneven place end split e = uneven-more splits (more_uneven uneven place first) (suc place) end split (omega arith)

-- what is added up over loops that are apart from a split
pub total_apart : (place : ℕ) (of : LoopId) (f g : Loop → ℕ) (loops : List Loop) → ((stage_loop : Loop) → is_old place stage_loop.id ≡ true → same_id stage_loop.id of ≡ false
    → f stage_loop ≡ g stage_loop) → Apart place of loops → total f loops ≡ total g loops
total_apart place of f g [] same apart = refl
total_apart place of f g (stage_loop ∷ loops) same apart = omega (arith, same stage_loop apart.0.0 apart.0.1, total_apart place of f g loops same apart.1)

-- ---- one loop, and the two that it is split into

pub times_sum : (s b i : ℕ) → s * (b + i) ≡ s * b + s * i
times_sum s b i = omega arith

pub times_factor : (s o f : ℕ) → s * (o * f) ≡ s * f * o
times_factor s o f = omega arith

reach_parts : (s e f r : ℕ) → 1 ≤ f → e ≤ r * f → s * (e - 1) ≤ s * f * (r - 1) + s * (f - 1)
reach_parts s e f zero some l = let z : s * (e - 1) ≡ s * 0 = ap (λ (n : ℕ). s * n) (omega arith) in omega arith
reach_parts s e f (suc r) some l =
    let a : e - 1 ≤ r * f + (f - 1) = omega arith in
    let p : suc r - 1 ≡ r = omega arith in
    rw p (omega (arith, mul-le-mul_left s a, times_sum s (r * f) (f - 1), times_factor s r f))

begin_reach : (s b f r o : ℕ) → o < r → b ≤ o * f → s * b ≤ s * f * (r - 1)
begin_reach s b f r o l below =
    let n : o ≤ r - 1 = omega arith in
    let m : o * f ≤ (r - 1) * f = mul-le-mul_right f n in
    let k : b ≤ (r - 1) * f = omega arith in
    omega (arith, mul-le-mul_left s k, times_factor s (r - 1) f)

-- what the loop added is what its parts add, and what one more uneven loop may add
record Parts (same from : Bool) (shift : Bool) (s b e f r o i : ℕ) : Type 0 where
  more : ℕ
  exact_is : cond {A = ℕ} (same && not from) (s * (b + i)) 0 ≡ cond (same && not from) (s * i) 0 + cond (same && not (from || shift)) (s * f * o) 0 + more
  slack_is : cond {A = ℕ} (same && from) (s * (e - 1)) 0 + more ≤ cond (same && from) (s * (f - 1)) 0 + cond (same && (from || shift)) (s * f * (r - 1)) 0

parts_of : (same from shift : Bool) (s b e f r o i : ℕ) → 1 ≤ f → e ≤ r * f → o < r → b ≤ o * f → (shift ≡ false → b ≡ o * f)
    → Parts same from shift s b e f r o i
parts_of false from shift s b e f r o i some reach l below guard = record { more = 0; exact_is = omega arith; slack_is = omega arith }
parts_of true true shift s b e f r o i some reach l below guard = record {
  more = 0;
  exact_is = omega arith;
  slack_is =
      omega (arith, reach_parts s e f r some reach);
}
parts_of true false false s b e f r o i some reach l below guard =
    record { more = 0; exact_is = omega (arith, times_sum s b i, ap (λ (n : ℕ). s * n) (guard refl), times_factor s o f); slack_is = omega arith }
parts_of true false true s b e f r o i some reach l below guard =
    record { more = s * b; exact_is = omega (arith, times_sum s b i); slack_is = omega (arith, begin_reach s b f r o l below) }

begin_below : (tail : Tail) (factor extent outer : ℕ) → begin_of tail factor extent outer ≤ outer * factor
begin_below tails.Guard factor extent outer = omega arith
begin_below tails.Shift factor extent outer = omega arith

pub begin_guard : (tail : Tail) (factor extent outer : ℕ) → is_shift tail ≡ false → begin_of tail factor extent outer ≡ outer * factor
begin_guard tails.Guard factor extent outer e = refl
begin_guard tails.Shift factor extent outer e = cc

-- sums over loops of which one is split
sums : (b b' a a' more added : ℕ) {own x y i o old new : ℕ} → b ≡ b' → a ≡ a' → own ≡ x + y + more → i ≡ x → o ≡ y → old ≡ b + (own + a)
    → new ≡ b' + (i + (o + a')) → old + added ≡ new + (added + more)
sums b b' a a' more added e f g h k l m = omega arith

slacks : (b b' a a' own more added : ℕ) {x y i o old new : ℕ} → b ≡ b' → a ≡ a' → own + more ≤ x + y → i ≡ x → o ≡ y → old ≡ b + (own + a)
    → new ≡ b' + (i + (o + a')) → added ≤ old → added + more ≤ new
slacks b b' a a' own more added e f g h k l m n = omega arith

-- ---- all lines

module _ (extents : Values) (v : Variable) where
  abbrev pub leaf : Values → List Values
  leaf whole = whole ∷ []

  -- values of whole variables of which one is the sum with what uneven loops add
  pub record IsSum (exactly most : ℕ) (whole : Values) : Type 0 where
    pub added : ℕ
    pub few : added ≤ most
    pub sum : whole (ids.Whole v) ≡ exactly + added

  -- nothing is listed, or such values
  pub data Listed (exactly most : ℕ) (listed : List Values) : Type 0 where
    Nothing : listed ≡ [] → Listed exactly most listed
    One : (whole : Values) → listed ≡ whole ∷ [] → IsSum exactly most whole → Listed exactly most listed

  pub record Linear (loops : List Loop) (splits : List Split) : Type 0 where
    pub sound : Sound loops splits
    pub sum : (values : Values) → InRange (counts_from extents 0 splits) loops values
        → Listed (total (exact v (strides_from whole_strides 0 splits) (uneven_from even 0 splits) values) loops)
        (total (slack v (strides_from whole_strides 0 splits) (uneven_from even 0 splits) (counts_from extents 0 splits)) loops)
        (split_bodies extents 0 splits leaf values)

  sum_cond : (test : Bool) (exactly most : ℕ) (xs : List Values) → (test ≡ true → Listed exactly most xs) → Listed exactly most (cond test xs [])
  sum_cond true exactly most xs s = s refl
  sum_cond false exactly most xs s = Nothing refl

  listed_more : (more exactly most exactly' most' : ℕ) (xs : List Values) → ((added : ℕ) → exactly + added ≡ exactly' + (added + more))
      → ((added : ℕ) → added ≤ most → added + more ≤ most') → Listed exactly most xs → Listed exactly' most' xs
  listed_more more exactly most exactly' most' xs same few (Nothing e) = Nothing e
  listed_more more exactly most exactly' most' xs same few (One whole e s) = One whole e (record {
    added = s.added + more;
    few = few s.added s.few;
    sum = s.sum
        ∙ same s.added;
  })

  module _ (is_update : Bool) (before : List Loop) (stage_loop : Loop) (after : List Loop) (splits : List Split) (line : SplitLine) (is : IsSplit is_update line)
      (linear : Linear (before ++ stage_loop ∷ after) splits) where
    abbrev place : ℕ
    place = length splits

    abbrev split : Split
    split = split_by stage_loop line

    abbrev counts : Values
    counts = counts_from extents 0 splits

    abbrev strides : Values
    strides = strides_from whole_strides 0 splits

    abbrev uneven : LoopId → Bool
    uneven = uneven_from even 0 splits

    abbrev new_counts : Values
    new_counts = more_counts counts place split

    abbrev new_strides : Values
    new_strides = more_strides strides place split

    abbrev new_uneven : LoopId → Bool
    new_uneven = more_uneven uneven place split

    abbrev new_loops : List Loop
    new_loops = before ++ (parts stage_loop (length splits) line ++ after)

    new_of : {A : Type 0} (n m : A) (values : LoopId → A) (id : LoopId) → is_old place id ≡ true → with (ids.Inner place) n (with (ids.Outer place) m values) id
        ≡ values id
    new_of n m values id old =
        other_of (ids.Inner place) n (with (ids.Outer place) m values) id (old_apart place id (ids.Inner place) old (inner_new place))
        ∙ other_of (ids.Outer place) m values id (old_apart place id (ids.Outer place) old (outer_new place))

    at_inner : {A : Type 0} (n m : A) (values : LoopId → A) → with (ids.Inner place) n (with (ids.Outer place) m values) (ids.Inner place) ≡ n
    at_inner n m values = same_of (ids.Inner place) n (with (ids.Outer place) m values)

    at_outer : {A : Type 0} (n m : A) (values : LoopId → A) → with (ids.Inner place) n (with (ids.Outer place) m values) (ids.Outer place) ≡ m
    at_outer n m values = same_of (ids.Outer place) m values

    abbrev w : Values → ℕ
    w values = whole_of counts place split values

    exact_old : (values : Values) (l : Loop) → is_old place l.id ≡ true → same_id l.id stage_loop.id ≡ false → exact v strides uneven (with stage_loop.id (w values) values) l
        ≡ exact v new_strides new_uneven values l
    exact_old values l old d =
        ap (λ (n : ℕ). cond (same_variable l.variable v && not (uneven l.id)) (strides l.id * n) 0) (with_other stage_loop.id (w values) values l.id d)
        ∙ ap (λ (n : ℕ). cond (same_variable l.variable v && not (uneven l.id)) (n * values l.id) 0)
        (sym (new_of (strides stage_loop.id) (strides stage_loop.id * line.factor) strides l.id old))
        ∙ ap (λ (b : Bool). cond (same_variable l.variable v && not b) (new_strides l.id * values l.id) 0)
        (sym (new_of (uneven stage_loop.id) (uneven stage_loop.id || is_shift line.tail) uneven l.id old))

    slack_old : (l : Loop) → is_old place l.id ≡ true → same_id l.id stage_loop.id ≡ false
        → slack v strides uneven counts l ≡ slack v new_strides new_uneven new_counts l
    slack_old l old d =
        ap (λ (n : ℕ). cond (same_variable l.variable v && uneven l.id) (strides l.id * (n - 1)) 0)
        (sym (new_of line.factor (outer_extent (counts stage_loop.id) line.factor) counts l.id old))
        ∙ ap (λ (n : ℕ). cond (same_variable l.variable v && uneven l.id) (n * (new_counts l.id - 1)) 0)
        (sym (new_of (strides stage_loop.id) (strides stage_loop.id * line.factor) strides l.id old))
        ∙ ap (λ (b : Bool). cond (same_variable l.variable v && b) (new_strides l.id * (new_counts l.id - 1)) 0)
        (sym (new_of (uneven stage_loop.id) (uneven stage_loop.id || is_shift line.tail) uneven l.id old))

    sum_parted : (values : Values) → InRange new_counts new_loops values
        → Listed (total (exact v new_strides new_uneven values) new_loops) (total (slack v new_strides new_uneven new_counts) new_loops)
        (split_body counts place split (split_bodies extents 0 splits leaf) values)
    sum_parted values in_range =
        sum_cond (nat_lt (w values) (counts stage_loop.id)) (total (exact v new_strides new_uneven values) new_loops)
        (total (slack v new_strides new_uneven new_counts) new_loops) (split_bodies extents 0 splits leaf (with stage_loop.id (w values) values)) (λ below.
        let l : w values < counts stage_loop.id = ltb-true (w values) (counts stage_loop.id) below in
        let sound : Sound (before ++ stage_loop ∷ after) splits = linear.sound in
        let old = linear.sum (with stage_loop.id (w values) values) (whole_in_range Values extents (λ a. a) (λ n. true) is_update is_loop_invariant
        (invariant_passed_on is_update) before stage_loop after splits line is sound values in_range l) in
        let none = own_apart before stage_loop after sound.unique in
        let apart_before = apart_from (length splits) stage_loop.id before (λ id there. sound.old id (omega (
          arith,
          there,
          total-append (has_id id) before (stage_loop
              ∷ after),
        ))) (omega (arith, none)) in
        let apart_after = apart_from (length splits) stage_loop.id after (λ id there. sound.old id (omega (
          arith,
          there,
          total-append (has_id id) before (stage_loop
              ∷ after),
        ))) (omega (arith, none)) in
        let b : ℕ = begin_of line.tail line.factor (counts stage_loop.id) (values (ids.Outer place)) in
        let outer_in : values (ids.Outer place) < new_counts (ids.Outer place) = in_range (ids.Outer place)
        (omega (
          arith,
          total-append (has_id (ids.Outer place)) before (parts stage_loop place line ++ after),
          total-append (has_id (ids.Outer place))
              (parts stage_loop place line) after,
          parts_outer stage_loop place line,
        )) in
        let lo : values (ids.Outer place) < outer_extent (counts stage_loop.id) line.factor =
        omega (arith, outer_in, at_outer line.factor (outer_extent (counts stage_loop.id) line.factor) counts) in
        let p = parts_of (same_variable stage_loop.variable v) (uneven stage_loop.id) (is_shift line.tail) (strides stage_loop.id) (begin_of line.tail line.factor (counts stage_loop.id)
        (values (ids.Outer place))) (counts stage_loop.id) line.factor (outer_extent (counts stage_loop.id) line.factor) (values (ids.Outer place)) (values (ids.Inner place))
        is.some (outer_extent_reaches (counts stage_loop.id) line.factor is.some) lo (begin_below line.tail line.factor (counts stage_loop.id) (values (ids.Outer place)))
        (begin_guard line.tail line.factor (counts stage_loop.id) (values (ids.Outer place))) in
        let eb = total_apart (length splits) stage_loop.id (exact v strides uneven (with stage_loop.id (w values) values)) (exact v new_strides new_uneven values) before
        (exact_old values) apart_before in
        let ea = total_apart (length splits) stage_loop.id (exact v strides uneven (with stage_loop.id (w values) values)) (exact v new_strides new_uneven values) after
        (exact_old values) apart_after in
        let sb = total_apart (length splits) stage_loop.id (slack v strides uneven counts) (slack v new_strides new_uneven new_counts) before slack_old apart_before in
        let sa = total_apart (length splits) stage_loop.id (slack v strides uneven counts) (slack v new_strides new_uneven new_counts) after slack_old apart_after in
        let e_own : exact v strides uneven (with stage_loop.id (w values) values) stage_loop ≡ cond (same_variable stage_loop.variable v && not (uneven stage_loop.id))
        (strides stage_loop.id * w values) 0 =
        ap (λ (n : ℕ). cond (same_variable stage_loop.variable v && not (uneven stage_loop.id)) (strides stage_loop.id * n) 0) (with_same stage_loop.id (w values) values) in
        let e_inner : exact v new_strides new_uneven values (inner_part stage_loop place line) ≡ cond (same_variable stage_loop.variable v && not (uneven stage_loop.id))
        (strides stage_loop.id * values (ids.Inner place)) 0 =
        ap (λ (n : ℕ). cond (same_variable stage_loop.variable v && not (new_uneven (ids.Inner place))) (n * values (ids.Inner place)) 0) (at_inner (strides stage_loop.id)
        (strides stage_loop.id * line.factor) strides)
        ∙ ap (λ (c : Bool). cond (same_variable stage_loop.variable v && not c) (strides stage_loop.id * values (ids.Inner place)) 0) (at_inner (uneven stage_loop.id) (uneven stage_loop.id
        || is_shift line.tail) uneven) in
        let e_outer : exact v new_strides new_uneven values (outer_part stage_loop place line) ≡ cond (same_variable stage_loop.variable v
        && not (uneven stage_loop.id || is_shift line.tail)) (strides stage_loop.id * line.factor * values
        (ids.Outer place)) 0 =
        ap (λ (n : ℕ). cond (same_variable stage_loop.variable v && not (new_uneven (ids.Outer place))) (n * values (ids.Outer place)) 0) (at_outer (strides stage_loop.id)
        (strides stage_loop.id * line.factor) strides)
        ∙ ap (λ (c : Bool). cond (same_variable stage_loop.variable v && not c) (strides stage_loop.id * line.factor * values (ids.Outer place)) 0) (at_outer (uneven stage_loop.id)
        (uneven stage_loop.id || is_shift line.tail) uneven) in
        let s_inner : slack v new_strides new_uneven new_counts (inner_part stage_loop place line) ≡ cond (same_variable stage_loop.variable v && uneven stage_loop.id)
        (strides stage_loop.id * (line.factor - 1)) 0 =
        ap (λ (n : ℕ). cond (same_variable stage_loop.variable v && new_uneven (ids.Inner place)) (n * (new_counts (ids.Inner place) - 1)) 0)
        (at_inner (strides stage_loop.id) (strides stage_loop.id * line.factor) strides)
        ∙ ap (λ (n : ℕ). cond (same_variable stage_loop.variable v && new_uneven (ids.Inner place)) (strides stage_loop.id * (n - 1)) 0)
        (at_inner line.factor (outer_extent (counts stage_loop.id) line.factor) counts)
        ∙ ap (λ (c : Bool). cond (same_variable stage_loop.variable v && c) (strides stage_loop.id * (line.factor - 1)) 0) (at_inner (uneven stage_loop.id) (uneven stage_loop.id
        || is_shift line.tail) uneven) in
        let s_outer : slack v new_strides new_uneven new_counts (outer_part stage_loop place line) ≡ cond (same_variable stage_loop.variable v
        && (uneven stage_loop.id || is_shift line.tail)) (strides stage_loop.id * line.factor * (outer_extent (counts stage_loop.id) line.factor - 1)) 0 =
        ap (λ (n : ℕ). cond (same_variable stage_loop.variable v && new_uneven (ids.Outer place)) (n * (new_counts (ids.Outer place) - 1)) 0)
        (at_outer (strides stage_loop.id) (strides stage_loop.id * line.factor) strides)
        ∙ ap (λ (n : ℕ). cond (same_variable stage_loop.variable v && new_uneven (ids.Outer place)) (strides stage_loop.id * line.factor * (n - 1)) 0)
        (at_outer line.factor (outer_extent (counts stage_loop.id) line.factor) counts)
        ∙ ap (λ (c : Bool). cond (same_variable stage_loop.variable v && c) (strides stage_loop.id * line.factor * (outer_extent (counts stage_loop.id) line.factor - 1)) 0)
        (at_outer (uneven stage_loop.id) (uneven stage_loop.id || is_shift line.tail) uneven) in
        let t_old : total (exact v strides uneven (with stage_loop.id (w values) values)) (before ++ stage_loop ∷ after)
        ≡ total (exact v strides uneven (with stage_loop.id (w values) values)) before + (exact v strides uneven (with stage_loop.id (w values) values) stage_loop + total
        (exact v strides uneven (with stage_loop.id (w values) values)) after) = total-append (exact v strides uneven (with stage_loop.id (w values) values)) before (stage_loop
        ∷ after) in
        let t_new : total (exact v new_strides new_uneven values) new_loops ≡ total (exact v new_strides new_uneven values) before
        + (exact v new_strides new_uneven values (inner_part stage_loop place line) + (exact v new_strides new_uneven values (outer_part stage_loop place line) + total
        (exact v new_strides new_uneven values) after)) = total-append (exact v new_strides new_uneven values) before (parts stage_loop (length splits) line
        ++ after) in
        let u_old : total (slack v strides uneven counts) (before ++ stage_loop ∷ after) ≡ total (slack v strides uneven counts) before + (slack v strides uneven
        counts stage_loop + total (slack v strides uneven counts) after) = total-append (slack v strides uneven counts) before (stage_loop ∷ after) in
        let u_new : total (slack v new_strides new_uneven new_counts) new_loops ≡ total (slack v new_strides new_uneven new_counts) before
        + (slack v new_strides new_uneven new_counts (inner_part stage_loop place line) + (slack v new_strides new_uneven new_counts (outer_part stage_loop place line)
        + total (slack v new_strides new_uneven new_counts) after)) = total-append (slack v new_strides new_uneven new_counts) before
        (parts stage_loop (length splits) line ++ after) in
        listed_more p.more (total (exact v strides uneven (with stage_loop.id (w values) values)) (before ++ stage_loop ∷ after)) (total (slack v strides uneven counts)
        (before ++ stage_loop ∷ after)) (total (exact v new_strides new_uneven values) new_loops) (total (slack v new_strides new_uneven new_counts) new_loops)
        (split_bodies extents 0 splits leaf (with stage_loop.id (w values) values))
        (λ added. sums (total (exact v strides uneven (with stage_loop.id (w values) values)) before) (total (exact v new_strides new_uneven values) before)
        (total (exact v strides uneven (with stage_loop.id (w values) values)) after) (total (exact v new_strides new_uneven values) after) p.more added eb ea
        (e_own ∙ p.exact_is) e_inner e_outer t_old t_new)
        (λ added few. slacks (total (slack v strides uneven counts) before) (total (slack v new_strides new_uneven new_counts) before)
        (total (slack v strides uneven counts) after) (total (slack v new_strides new_uneven new_counts) after) (slack v strides uneven counts stage_loop) p.more
        added sb sa p.slack_is s_inner s_outer u_old u_new few)
        old)

  pub linear_stays : (is_update : Bool) (start : List Loop) → Linear start [] → Stays is_update start Linear
  linear_stays is_update start begun = record {
    begun = begun;
    parted = λ before stage_loop after splits line is linear. record {
      sound = (sound_stays is_update start begun.sound).parted before stage_loop after splits line is linear.sound;
      sum =
          let counts_are : counts_from extents 0 (splits ++ split_by stage_loop line ∷ []) ≡ more_counts (counts_from extents 0 splits) (length splits)
          (split_by stage_loop line) = counts-more splits extents 0 (length splits) (split_by stage_loop line)
          (omega arith) in
          let strides_are : strides_from whole_strides 0 (splits ++ split_by stage_loop line ∷ []) ≡ more_strides (strides_from whole_strides 0 splits) (length splits)
          (split_by stage_loop line) = strides-more splits whole_strides 0 (length splits) (split_by stage_loop line)
          (omega arith) in
          let uneven_are : uneven_from even 0 (splits ++ split_by stage_loop line ∷ []) ≡ more_uneven (uneven_from even 0 splits) (length splits) (split_by stage_loop line) =
          uneven-more splits even 0 (length splits) (split_by stage_loop line) (omega arith) in
          let bodies_are : split_bodies extents 0 (splits ++ split_by stage_loop line ∷ []) leaf ≡ split_body (counts_from extents 0 splits) (length splits)
          (split_by stage_loop line) (split_bodies extents 0 splits leaf) = bodies-more splits extents 0 (length splits) (split_by stage_loop line) leaf (omega arith) in
          rw (counts_are, strides_are, uneven_are, bodies_are) (sum_parted is_update before stage_loop after splits line is linear);
    };
    marked = λ loops new splits same linear. record {
      sound = (sound_stays is_update start begun.sound).marked loops new splits same linear.sound;
      sum = λ values in_range.
          let old = linear.sum values (λ i l. in_range i (omega (arith, bare_total (has_id i) (λ stage_loop. refl) new loops same))) in
          rw (
            bare_total (exact v (strides_from whole_strides 0 splits) (uneven_from even 0 splits) values) (λ stage_loop. refl) new loops same,
            bare_total
                (slack v (strides_from whole_strides 0 splits) (uneven_from even 0 splits) (counts_from extents 0 splits)) (λ stage_loop. refl) new loops same,
          ) old;
    };
    moved = λ loops new splits same order linear. record {
      sound = (sound_stays is_update start begun.sound).moved loops new splits same order linear.sound;
      sum = λ values in_range.
          let old = linear.sum values (λ i l. in_range i (omega (arith, same (has_id i)))) in
          rw (
            same (exact v (strides_from whole_strides 0 splits) (uneven_from even 0 splits) values),
            same (slack v (strides_from whole_strides 0 splits)
                (uneven_from even 0 splits) (counts_from extents 0 splits)),
          ) old;
    };
  }

  -- ---- before any line

  whole_exact : (values : Values) (l : Loop) → l.id ≡ ids.Whole l.variable → (test : Bool) → same_variable l.variable v ≡ test → test ≡ true
      → exact v whole_strides even values l ≡ values (ids.Whole v)
  whole_exact values l plain test e is =
      let same : same_variable l.variable v ≡ true = e ∙ is in
      let u : l.id ≡ ids.Whole v = plain ∙ ap (λ (x : Variable). ids.Whole x) (same_variable-true l.variable v same) in
      let one : 1 * values (ids.Whole v) ≡ values (ids.Whole v) = omega arith in
      ap (λ (b : Bool). cond (b && true) (whole_strides l.id * values l.id) 0) same ∙ ap (λ (i : LoopId). whole_strides i * values i) u ∙ one

  pub begun : (start : List Loop) → Plain start → has_variable v start ≡ true → Linear start []
  begun start plain some = record {
    sound = sound start plain;
    sum = λ values in_range.
        let is : IsOf v (exact v whole_strides even values) (values (ids.Whole v)) = record {
          own = λ l p e. whole_exact values l p (same_variable l.variable v) refl e;
          others = λ l e. ap (λ (b : Bool). cond (b && true) (whole_strides l.id * values l.id) 0) e;
        } in
        let s = once_sum v (exact v whole_strides even values) (values (ids.Whole v)) is start plain some in
        One values refl (record { added = 0; few = omega arith; sum = omega (arith, s) });
  }

  -- A variable's value is the sum of strides times iterations of its even loops, and of at most what its uneven ones reach.
  pub linear_in : {is_update : Bool} {start loops : List Loop} {splits : List Split} → Plain start → has_variable v start ≡ true
      → IsMade is_update start loops splits → Linear loops splits
  linear_in {is_update} {start} plain some made = by_making Linear (linear_stays is_update start (begun start plain some)) made

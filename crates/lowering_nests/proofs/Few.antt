-- Loops have few iterations; splits taken from the last one.
use Rattle.std.proofs.Common.{◌≡◌, ℕ, suc, ◌+◌, ◌-◌, ◌*◌, ◌^◌, ◌<◌, ◌≤◌, Bool, true, false, cond, List, [], ◌∷◌, ◌++◌, length, get_or, take, sym, ap, subst}
use Rattle.std.proofs.Common.{◌∙◌, arith, length-append}
use Rattle.std.specs.List.{AllByRecursion}
use Rattle.std.proofs.Math.Nat.{div-le_self}
use Rattle.halide_pipeline.proofs.Seeing.{all_parts}
use Rattle.schedule_lines.specs.declared.stages.LoopId.{LoopId}
use Rattle.schedule_lines.specs.declared.stages.LoopId.TheVariants as ids
use Rattle.schedule_lines.specs.declared.stages.Split.{Split}
use Rattle.schedule_lines.specs.Directives.{same_id}
use Rattle.schedule_loops.specs.declared.extents.Extents.{Extents}
use Rattle.schedule_loops.specs.Visits.{Values, outer_extent, whole_counts, more_counts, counts_from, counts, IsFactor, AreSplits, split_body, split_bodies}
use Rattle.schedule_loops.specs.Visits.{over_loops}
use Rattle.lowering_nests.specs.Nests.{AreFew}

-- ---- lanes

outer_extent_few : (most extent factor : ℕ) → extent ≤ most → factor ≤ 64 → outer_extent extent factor ≤ most + 63
outer_extent_few most extent factor few small = let d = div-le_self (extent + (factor - 1)) factor in omega (arith, d, few, small)

abbrev AreAtMost : ℕ → Values → Type 0
AreAtMost most counts = (id : LoopId) → counts id ≤ most

more_few : (counts : Values) (func_index most : ℕ) (split : Split) → AreAtMost most counts → split.factor ≤ 64
    → AreAtMost (most + 64) (more_counts counts func_index split)
more_few counts func_index most split few small id =
    let r = outer_extent_few most (counts split.of) split.factor (few split.of) small in
    let o = few id in
    by_tests (same_id id (ids.Inner func_index)) (same_id id (ids.Outer func_index)) r o
  where
    by_tests : (a b : Bool) → outer_extent (counts split.of) split.factor ≤ most + 63 → counts id ≤ most
        → cond a split.factor (cond b (outer_extent (counts split.of) split.factor) (counts id)) ≤ most + 64
    by_tests true b r o = omega (arith, small)
    by_tests false true r o = omega (arith, r)
    by_tests false false r o = omega (arith, o)

all_few : (splits : List Split) (counts : Values) (func_index most : ℕ) → AreAtMost most counts → AllByRecursion IsFactor splits
    → AreAtMost (most + 64 * length splits) (counts_from counts func_index splits)
all_few [] counts func_index most few factors id = let f = few id in omega (arith, f)
all_few (split ∷ splits) counts func_index most few factors id =
    let r = all_few splits (more_counts counts func_index split) (suc func_index) (most + 64) (more_few counts func_index most split few factors.0.few) factors.1 id in
    omega (arith, r)

whole_few : (extents : Extents) → AreFew extents → AreAtMost (2 ^ 20) (whole_counts extents)
whole_few extents few (ids.Whole v) = few v
whole_few extents few (ids.Outer at) = omega arith
whole_few extents few (ids.Inner at) = omega arith

-- so each loop has few iterations
pub iterations_few : (extents : Extents) (splits : List Split) → AreFew extents → AreSplits splits → (id : LoopId) → counts extents splits id < 2 ^ 25
iterations_few extents splits few are id =
    let r = all_few splits (whole_counts extents) 0 (2 ^ 20) (whole_few extents few) are.factors id in
    omega (arith, r, are.few)

-- ---- the last split

pub bodies_last : {A : Type 0} (splits : List Split) (last : Split) (counts : Values) (func_index : ℕ) (body : Values → List A)
    → split_bodies counts func_index (splits ++ last ∷ []) body ≡ split_body (counts_from counts func_index splits) (func_index + length splits) last
    (split_bodies counts func_index splits body)
bodies_last [] last counts func_index body = let e : func_index ≡ func_index + 0 = omega arith in ap (λ (p : ℕ). split_body counts p last body) e
bodies_last (split ∷ splits) last counts func_index body =
    let e : suc func_index + length splits ≡ func_index + suc (length splits) = omega arith in
    bodies_last splits last (more_counts counts func_index split) (suc func_index)
    (split_body counts func_index split body)
    ∙ ap (λ (p : ℕ). split_body (counts_from (more_counts counts func_index split) (suc func_index) splits) p last (split_bodies (more_counts counts func_index split)
    (suc func_index) splits (split_body counts func_index split body))) e

pub splits_before : (splits : List Split) (last : Split) → AreSplits (splits ++ last ∷ []) → AreSplits splits
splits_before splits last are = record {
  few = omega (arith, length-append splits (last ∷ []), are.few);
  factors =
      (all_parts IsFactor splits (last ∷ []) are.factors).0;
}

pub last_factor : (splits : List Split) (last : Split) → AreSplits (splits ++ last ∷ []) → last.factor ≤ 64
last_factor splits last are = (all_parts IsFactor splits (last ∷ []) are.factors).1.0.few

-- a list that isn't empty, as code takes its last element
pub last_of_rest : {A : Type 0} (xs : List A) (other : A) → 1 ≤ length xs → take (length xs - 1) xs ++ get_or xs (length xs - 1) other ∷ [] ≡ xs
last_of_rest [] other some = absurd (omega (arith, some))
last_of_rest {A} (x ∷ []) other some =
    let n : suc 0 - 1 ≡ 0 = omega arith in
    ap (λ (k : ℕ). take k (x ∷ []) ++ get_or (x ∷ []) k other ∷ []) n
last_of_rest {A} (x ∷ (y ∷ xs)) other some =
    let n : suc (suc (length xs)) - 1 ≡ suc (length xs) = omega arith in
    let m : suc (length xs) - 1 ≡ length xs = omega arith in
    let e : take (length xs) (y ∷ xs) ++ get_or (y ∷ xs) (length xs) other ∷ [] ≡ y ∷ xs =
    ap (λ (k : ℕ). take k (y ∷ xs) ++ get_or (y ∷ xs) k other ∷ []) (sym m) ∙ last_of_rest (y ∷ xs) other (omega arith) in
    ap (λ (k : ℕ). take k (x ∷ (y ∷ xs)) ++ get_or (x ∷ (y ∷ xs)) k other ∷ []) n ∙ ap (λ (zs : List A). x ∷ zs) e

module _ (splits : List Split) (other : Split) (some : 1 ≤ length splits) (are : AreSplits splits) where
  abbrev others : List Split
  others = take (length splits - 1) splits

  abbrev last : Split
  last = get_or splits (length splits - 1) other

  parted : AreSplits (others ++ last ∷ [])
  parted = subst AreSplits (sym (last_of_rest splits other some)) are

  pub others_are : AreSplits others
  others_are = splits_before others last parted

  pub last_is : last.factor ≤ 64
  last_is = last_factor others last parted

  pub over_last : {A : Type 0} (extents : Extents) (list : Values → List A)
      → split_body (counts extents others) (length others) last (over_loops extents others list) ≡ over_loops extents splits list
  over_last extents list =
      let e : 0 + length others ≡ length others = omega arith in
      ap (λ (p : ℕ). split_body (counts extents others) p last (over_loops extents others list)) (sym e)
      ∙ sym (bodies_last others last (whole_counts extents) 0 list)
      ∙ ap (λ (xs : List Split). over_loops extents xs list) (last_of_rest splits other some)

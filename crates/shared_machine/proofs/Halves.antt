-- What holds of one place, and of two halves, holds of the whole.
use Rattle.std.proofs.Common.{◌≡◌, ℕ, zero, suc, ◌-◌, ◌<◌, Option, None, Some, List, [], ◌∷◌, ◌++◌, length, slice_index_or, slice_set, IfSome, IfNone, refl}
use Rattle.std.proofs.Common.{sym, subst, arith, length-append}
use mathlib.Core.Logic.{⊎_elim}
use Rattle.std.proofs.lemmas.List.{get_or_append_left, get_or-append_right}
use Rattle.std.proofs.lemmas.Bool.{cases_lt}
use Rattle.shared_machine.specs.inner.Meetings.{EachIs, Came}

at_one : {T : Type 0} (R : T → T → Type 0) (z y : T) → R z y → (k : ℕ) (d : T) → k < 1 → R (slice_index_or (z ∷ []) k d) (slice_index_or (y ∷ []) k d)
at_one R z y r zero d h = r
at_one R z y r (suc k) d h = absurd (omega arith)

each_one : {T : Type 0} (R : T → T → Type 0) (xs : List T) (d y : T) → length xs ≡ 1 → R (slice_index_or xs 0 d) y → EachIs R xs (slice_set xs 0 y)
each_one R [] d y one r = absurd (omega (arith, one))
each_one R (z ∷ []) d y one r = record { len = refl; each = at_one R z y r }
each_one R (z ∷ w ∷ zs) d y one r = absurd (omega (arith, one))

each_both : {T : Type 0} (R : T → T → Type 0) (xs ys xs' ys' : List T) → EachIs R xs xs' → EachIs R ys ys' → EachIs R (xs ++ ys) (xs' ++ ys')
each_both R xs ys xs' ys' a b =
    let n = length xs in
    record {
      len = omega (arith, a.len, b.len, length-append xs ys, length-append xs' ys');
      each = λ k d h. ⊎_elim
          (λ p. subst (λ v. R v (slice_index_or (xs' ++ ys') k d)) (sym (get_or_append_left xs ys d k p))
          (subst (R (slice_index_or xs k d)) (sym (get_or_append_left xs' ys' d k (omega (arith, a.len, p)))) (a.each k d p)))
          (λ p. subst (λ v. R v (slice_index_or (xs' ++ ys') k d)) (sym (get_or-append_right xs ys n k d refl p))
          (subst (R (slice_index_or ys (k - n) d)) (sym (get_or-append_right xs' ys' n k d a.len p))
          (b.each (k - n) d (omega (arith, h, length-append xs ys)))))
          (cases_lt k n);
    }

pub came_one : {A T : Type 0} (done left : T → T → Type 0) (decision : Option A) (xs : List T) (d y : T) → length xs ≡ 1
    → IfSome decision (λ all. done (slice_index_or xs 0 d) y) → IfNone decision (left (slice_index_or xs 0 d) y) → Came done left decision xs (slice_set xs 0 y)
unfolding Came
came_one done left None xs d y one some none = each_one left xs d y one none
came_one done left (Some all) xs d y one some none = each_one done xs d y one some

pub came_both : {A T : Type 0} (done left : T → T → Type 0) (decision : Option A) (all xs ys xs' ys' : List T) → all ≡ xs ++ ys → Came done left decision xs xs'
    → Came done left decision ys ys' → Came done left decision all (xs' ++ ys')
unfolding Came
came_both done left None all xs ys xs' ys' whole a b = subst (λ zs. EachIs left zs (xs' ++ ys')) (sym whole) (each_both left xs ys xs' ys' a b)
came_both done left (Some it) all xs ys xs' ys' whole a b = subst (λ zs. EachIs done zs (xs' ++ ys')) (sym whole) (each_both done xs ys xs' ys' a b)

-- what was decided is what came
pub came_some : {A T : Type 0} (done left : T → T → Type 0) (decision : Option A) (a : A) (xs ys : List T) → decision ≡ Some a → Came done left decision xs ys
    → EachIs done xs ys
unfolding Came
came_some done left decision a xs ys is came = subst (λ d. Came done left d xs ys) is came

pub came_none : {A T : Type 0} (done left : T → T → Type 0) (decision : Option A) (xs ys : List T) → decision ≡ None → Came done left decision xs ys
    → EachIs left xs ys
unfolding Came
came_none done left decision xs ys is came = subst (λ d. Came done left d xs ys) is came

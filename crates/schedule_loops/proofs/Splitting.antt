-- The two loops of a guarded split visit what the loop did that is split, in the same order.
use Rattle.std.proofs.Common.{◌≡◌, ℕ, ◌+◌, ◌*◌, ◌≤◌, Bool, true, false, cond, List, [], ◌∷◌, ◌++◌, refl, sym, ap, subst, ◌∙◌, arith, inl, inr}
use Rattle.std.specs.Prelude.{nat_lt}
use Rattle.schedule_lines.specs.declared.stages.Loop.{Loop}
use Rattle.schedule_lines.specs.declared.stages.LoopId.{LoopId}
use Rattle.schedule_lines.specs.declared.stages.LoopId.TheVariants as ids
use Rattle.schedule_lines.specs.declared.stages.Split.{Split}
use Rattle.schedule_lines.specs.declared.stages.Tail.TheVariants as tails
use Rattle.schedule_lines.specs.Directives.{same_id}
use Rattle.schedule_loops.specs.Visits.{Values, with, outer_extent, more_counts, upto, nest, whole_of, split_body}
use Rattle.schedule_loops.proofs.Iterations.{upto_same, upto_none, upto_guard}
use Rattle.schedule_loops.proofs.Ids.{cases_id, same_id-self, is_old, old_apart, outer_new, inner_new, swapped_id, with_same, with_other}
use Rattle.schedule_loops.proofs.Nesting.{nest_same, nest-append, nest_counts, SameCounts}

-- What a body lists depends on the values of old loops alone.
abbrev pub OnOld : {A : Type 0} → ℕ → (Values → List A) → Type 0
OnOld place body = (one other : Values) → ((id : LoopId) → is_old place id ≡ true → one id ≡ other id) → body one ≡ body other

-- All loops are old, and none is this one.
abbrev pub Apart : ℕ → LoopId → List Loop → Type 0
Apart place of [] = Unit {0}
Apart place of (own ∷ others) = ((is_old place own.id ≡ true) × (same_id own.id of ≡ false)) × Apart place of others

upto_cond : {A : Type 0} (test : Bool) (n : ℕ) (f : ℕ → List A) → upto n (λ v. cond test (f v) []) ≡ cond test (upto n f) []
upto_cond true n f = refl
upto_cond {A} false n f = upto_none n (λ v. []) (λ v l. refl)

pub outer_extent_reaches : (extent factor : ℕ) → 1 ≤ factor → extent ≤ outer_extent extent factor * factor
outer_extent_reaches extent factor l = omega arith

module _ (A : Type 0) (counts : Values) (place : ℕ) (split : Split) where
  abbrev whole : Values → ℕ
  whole values = whole_of counts place split values

  abbrev new_counts : Values
  new_counts = more_counts counts place split

  -- the values of the split's loops, and those where the loop is that is split
  record Stands (parts value : Values) : Type 0 where
    others : (id : LoopId) → is_old place id ≡ true → same_id id split.of ≡ false → parts id ≡ value id
    own : value split.of ≡ whole parts

  whole_with : (id : LoopId) (n : ℕ) (values : Values) → is_old place id ≡ true → whole (with id n values) ≡ whole values
  whole_with id n values old =
      let o : with id n values (ids.Outer place) ≡ values (ids.Outer place) = with_other id n values (ids.Outer place) (swapped_id id (ids.Outer place)
      (old_apart place id (ids.Outer place) old (outer_new place))) in
      let i : with id n values (ids.Inner place) ≡ values (ids.Inner place) = with_other id n values (ids.Inner place) (swapped_id id (ids.Inner place)
      (old_apart place id (ids.Inner place) old (inner_new place))) in
      rw (o, i) refl

  pub counts_old : (id : LoopId) → is_old place id ≡ true → new_counts id ≡ counts id
  counts_old id old =
      with_other (ids.Inner place) split.factor (with (ids.Outer place) (outer_extent (counts split.of) split.factor) counts) id (old_apart place id (ids.Inner place)
      old (inner_new place))
      ∙ with_other (ids.Outer place) (outer_extent (counts split.of) split.factor) counts id (old_apart place id (ids.Outer place) old (outer_new place))

  stands_with : (id : LoopId) (n : ℕ) (parts value : Values) → is_old place id ≡ true → same_id id split.of ≡ false → Stands parts value
      → Stands (with id n parts) (with id n value)
  stands_with id n parts value old other s = record {
    others = λ i i_old i_other. ap (λ (m : ℕ). cond (same_id i id) n m) (s.others i i_old i_other);
    own = with_other id n value split.of (swapped_id id split.of other) ∙ s.own ∙ sym (whole_with id n parts old);
  }

  -- a body over the parts does what one over the whole does, where that is below the extent
  abbrev Parts : (Values → List A) → (Values → List A) → Type 0
  Parts f g = (parts value : Values) → Stands parts value → f parts ≡ cond (nat_lt (whole parts) (counts split.of)) (g value) []

  parts_inside : (inside : List Loop) → Apart place split.of inside → (f g : Values → List A) → Parts f g
      → Parts (nest new_counts inside f) (nest counts inside g)
  parts_inside [] apart f g does = does
  parts_inside (stage_loop ∷ inside) apart f g does =
      parts_inside inside apart.1 (λ outer. upto (new_counts stage_loop.id) (λ iteration. f (with stage_loop.id iteration outer))) (λ outer. upto (counts stage_loop.id)
      (λ iteration. g (with stage_loop.id iteration outer)))
      (λ parts value s.
      ap (λ (n : ℕ). upto n (λ iteration. f (with stage_loop.id iteration parts))) (counts_old stage_loop.id apart.0.0)
      ∙ upto_same (counts stage_loop.id) (λ iteration. f (with stage_loop.id iteration parts)) (λ iteration. cond (nat_lt (whole parts) (counts split.of)) (g (with stage_loop.id iteration value)) [])
      (λ iteration l.
      does (with stage_loop.id iteration parts) (with stage_loop.id iteration value) (stands_with stage_loop.id iteration parts value apart.0.0 apart.0.1 s)
      ∙ ap (λ (n : ℕ). cond (nat_lt n (counts split.of)) (g (with stage_loop.id iteration value)) []) (whole_with stage_loop.id iteration parts apart.0.0))
      ∙ upto_cond (nat_lt (whole parts) (counts split.of)) (counts stage_loop.id) (λ iteration. g (with stage_loop.id iteration value)))

  split_parts : (body : Values → List A) → OnOld place body → Parts (split_body counts place split body) body
  split_parts body on_old parts value s =
      ap (λ (xs : List A). cond (nat_lt (whole parts) (counts split.of)) xs [])
      (on_old (with split.of (whole parts) parts) value (λ id old. elim (cases_id id split.of) [
        | inl e ↦ subst (λ (i : LoopId). with split.of (whole parts) parts i ≡ value i) (sym e) (with_same split.of (whole parts) parts ∙ sym s.own)
        | inr d ↦ with_other split.of (whole parts) parts id d ∙ s.others id old d
      ]))

  -- the loops of the split at this place
  pub record AreParts (inner outer stage_loop : Loop) : Type 0 where
    pub inner_is : inner.id ≡ ids.Inner place
    pub outer_is : outer.id ≡ ids.Outer place
    pub own_is : stage_loop.id ≡ split.of

  whole_own : (i o : ℕ) (values : Values) → split.tail ≡ tails.Guard → whole (with (ids.Inner place) i (with (ids.Outer place) o values)) ≡ o * split.factor + i
  whole_own i o values guard = rw (guard, same_id-self (ids.Outer place)) refl

  stands_own : (i o : ℕ) (values : Values) → split.tail ≡ tails.Guard → Stands (with (ids.Inner place) i (with (ids.Outer place) o values))
      (with split.of (o * split.factor + i) values)
  stands_own i o values guard = record {
    others = λ id old other.
        with_other (ids.Inner place) i (with (ids.Outer place) o values) id (old_apart place id (ids.Inner place) old (inner_new place))
        ∙ with_other (ids.Outer place) o values id (old_apart place id (ids.Outer place) old (outer_new place))
        ∙ sym (with_other split.of (o * split.factor + i) values id other);
    own = with_same split.of (o * split.factor + i) values ∙ sym (whole_own i o values guard);
  }

  guard_at : (f g : Values → List A) → Parts f g → split.tail ≡ tails.Guard → 1 ≤ split.factor → (values : Values)
      → upto (new_counts (ids.Outer place)) (λ o. upto (new_counts (ids.Inner place)) (λ i. f (with (ids.Inner place) i (with (ids.Outer place) o values))))
      ≡ upto (counts split.of) (λ v. g (with split.of v values))
  guard_at f g does guard some values =
      let outer_count : new_counts (ids.Outer place) ≡ outer_extent (counts split.of) split.factor = rw (same_id-self (ids.Outer place)) refl in
      let inner_count : new_counts (ids.Inner place) ≡ split.factor = rw (same_id-self (ids.Inner place)) refl in
      ap (λ (n : ℕ). upto n (λ o. upto (new_counts (ids.Inner place)) (λ i. f (with (ids.Inner place) i (with (ids.Outer place) o values))))) outer_count
      ∙ ap (λ (n : ℕ). upto (outer_extent (counts split.of) split.factor) (λ o. upto n (λ i. f (with (ids.Inner place) i (with (ids.Outer place) o values)))))
      inner_count
      ∙ upto_same (outer_extent (counts split.of) split.factor) (λ o. upto split.factor (λ i. f (with (ids.Inner place) i (with (ids.Outer place) o values))))
      (λ o. upto split.factor (λ i. cond (nat_lt (o * split.factor + i) (counts split.of)) (g (with split.of (o * split.factor + i) values)) []))
      (λ o lo. upto_same split.factor (λ i. f (with (ids.Inner place) i (with (ids.Outer place) o values)))
      (λ i. cond (nat_lt (o * split.factor + i) (counts split.of)) (g (with split.of (o * split.factor + i) values)) [])
      (λ i li.
      does (with (ids.Inner place) i (with (ids.Outer place) o values)) (with split.of (o * split.factor + i) values) (stands_own i o values guard)
      ∙ ap (λ (n : ℕ). cond (nat_lt n (counts split.of)) (g (with split.of (o * split.factor + i) values)) []) (whole_own i o values guard)))
      ∙ upto_guard (counts split.of) (outer_extent (counts split.of) split.factor) split.factor (λ v. g (with split.of v values)) (outer_extent_reaches (counts split.of)
      split.factor some)

  same_counts : (loops : List Loop) → Apart place split.of loops → SameCounts new_counts counts loops
  same_counts [] apart = tt
  same_counts (stage_loop ∷ loops) apart = (counts_old stage_loop.id apart.0.0, same_counts loops apart.1)

  pub parted_nest : (inside outside : List Loop) (inner outer stage_loop : Loop) (body : Values → List A) → AreParts inner outer stage_loop
      → Apart place split.of inside → Apart place split.of outside → split.tail ≡ tails.Guard → 1 ≤ split.factor → OnOld place body
      → (values : Values) → nest new_counts (inside ++ inner ∷ outer ∷ outside) (split_body counts place split body) values ≡ nest counts (inside ++ stage_loop
      ∷ outside) body values
  parted_nest inside outside inner outer stage_loop body parts apart_in apart_out guard some on_old values =
      let f : Values → List A = nest new_counts inside (split_body counts place split body) in
      let g : Values → List A = nest counts inside body in
      let does : Parts f g = parts_inside inside apart_in (split_body counts place split body) body (split_parts body on_old) in
      nest-append new_counts inside (inner ∷ outer ∷ outside) (split_body counts place split body) values
      ∙ nest_counts new_counts counts outside (λ v. upto (new_counts outer.id) (λ o. upto (new_counts inner.id) (λ i. f (with inner.id i (with outer.id o v)))))
      (same_counts outside apart_out) values
      ∙ nest_same counts outside (λ v. upto (new_counts outer.id) (λ o. upto (new_counts inner.id) (λ i. f (with inner.id i (with outer.id o v)))))
      (λ v. upto (counts stage_loop.id) (λ n. g (with stage_loop.id n v)))
      (λ v in_range. rw (parts.inner_is, parts.outer_is, parts.own_is) (guard_at f g does guard some v)) values
      ∙ sym (nest-append counts inside (stage_loop ∷ outside) body values)

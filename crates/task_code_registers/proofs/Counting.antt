-- Registers that may still be given to forms.
use Rattle.std.proofs.Common.{◌≡◌, ℕ, zero, suc, ◌<◌, ◌≤◌, List, [], ◌∷◌, Bool, true, false, refl, ap, ◌∙◌, sym, subst, arith, inl, inr}
use Rattle.std.specs.Prelude.{◌≢◌, ◌==◌, ◌&&◌, if◌then◌else◌, not}
use Rattle.std.proofs.lemmas.Bool.{and_parts, true≢false, eqb-true}
use Rattle.std.proofs.lemmas.Bool.Decides.{nat_tests}
use Rattle.task_code_registers.specs.declared.scopes.Held.{Held}
use Rattle.task_code_registers.specs.Registers.{zero_register, hart_number, hart_count, first_value, may_hold}
use Rattle.task_code_registers.specs.Scopes.{IsFree, is_held, is_left, left_below, left_count}
use Rattle.task_code_registers.proofs.Knowing.{fails-at}

is-not : (b : Bool) → not b ≡ true → b ≡ false
is-not true e = absurd (true≢false (sym e))
is-not false e = refl

-- a register that may hold a form and doesn't is free
unheld : (scope : List Held) (r : ℕ) → may_hold r ≡ true → is_held scope r ≡ false → IsFree scope r
unheld [] r may fresh q (inl e) g = fails-at r zero_register may refl (sym g ∙ e)
unheld [] r may fresh q (inr (inl e)) g = fails-at r hart_number may refl (sym g ∙ e)
unheld [] r may fresh q (inr (inr e)) g = fails-at r hart_count may refl (sym g ∙ e)
unheld (own ∷ others) r may fresh q (inl e) g =
    let t : (own.register == r) ≡ true = let h : own.register ≡ r = sym e ∙ g in grind (arith, nat_tests, h) in
    true≢false (sym (ap (λ b. if b then true else is_held others r) t) ∙ fresh)
unheld (own ∷ others) r may fresh q (inr k) g = by-test (own.register == r) fresh (λ h. unheld others r may h q k g)
  where
    by-test : (t : Bool) → (if t then true else is_held others r) ≡ false → (is_held others r ≡ false → ⊥) → ⊥
    by-test true h go = true≢false h
    by-test false h go = go h

pub left-may : (scope : List Held) (r : ℕ) → is_left scope r ≡ true → may_hold r ≡ true
left-may scope r t = (and_parts (may_hold r) (not (is_held scope r)) t).0

pub left-free : (scope : List Held) (r : ℕ) → is_left scope r ≡ true → IsFree scope r
left-free scope r t = let each = and_parts (may_hold r) (not (is_held scope r)) t in unheld scope r each.0 (is-not (is_held scope r) each.1)

-- ---- a register is given away

-- below it, as many are left
same-below : (scope : List Held) (held : Held) (n : ℕ) → n ≤ held.register → left_below (held ∷ scope) n ≡ left_below scope n
unfolding left_below
same-below scope held zero l = refl
same-below scope held (suc q) l =
    let t : (held.register == q) ≡ false = let o : held.register ≢ q = (λ e. omega (arith, l, e)) in grind (arith, nat_tests, o) in
    let s = same-below scope held q (omega (arith, l)) in
    ap (λ b. if may_hold q && not (if b then true else is_held scope q) then suc (left_below (held ∷ scope) q) else left_below (held ∷ scope) q) t
    ∙ ap (λ k. if is_left scope q then suc k else k) s

-- and in all, one less
one-less : (scope : List Held) (held : Held) (n : ℕ) → left_below scope n ≤ suc (left_below (held ∷ scope) n)
unfolding left_below
one-less scope held zero = omega arith
one-less scope held (suc q) = by-test (held.register == q) refl (one-less scope held q)
  where
    both : (t : Bool) (a b : ℕ) → a ≤ suc b → (if t then suc a else a) ≤ suc (if t then suc b else b)
    both true a b l = omega (arith, l)
    both false a b l = l

    grows : (t : Bool) (a b : ℕ) → a ≡ b → (if t then suc a else a) ≤ suc b
    grows true a b e = omega (arith, e)
    grows false a b e = omega (arith, e)

    none : (a : Bool) (k : ℕ) → (if a && false then suc k else k) ≡ k
    none true k = refl
    none false k = refl

    by-test : (t : Bool) → (held.register == q) ≡ t → left_below scope q ≤ suc (left_below (held ∷ scope) q)
        → (if is_left scope q then suc (left_below scope q) else left_below scope q)
        ≤ suc (if may_hold q && not (if t then true else is_held scope q) then suc (left_below (held ∷ scope) q) else left_below (held ∷ scope) q)
    by-test true e l =
        let k = left_below (held ∷ scope) q in
        let s : k ≡ left_below scope q = same-below scope held q (omega (arith, eqb-true held.register q e)) in
        subst (λ n. (if is_left scope q then suc (left_below scope q) else left_below scope q) ≤ suc n) (sym (none (may_hold q) k))
        (grows (is_left scope q) (left_below scope q) k (sym s))
    by-test false e l = both (is_left scope q) (left_below scope q) (left_below (held ∷ scope) q) l

pub still-left : (scope : List Held) (held : Held) (reserved : ℕ) → reserved < left_count scope → reserved ≤ left_count (held ∷ scope)
still-left scope held reserved l = let m = one-less scope held first_value in omega (arith, l, m)

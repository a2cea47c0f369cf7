-- The run at a place of a list of turns.
use Rattle.std.proofs.Common.{◌≡◌, ℕ, zero, suc, ◌+◌, ◌-◌, ◌<◌, ◌≤◌, Bool, true, false, cond, eqb, List, [], ◌∷◌, ◌++◌, length, drop, replicate, Option, Some}
use Rattle.std.proofs.Common.{None, refl, sym, ap, subst, ◌∙◌, zero-add, arith, inl, inr}
use Rattle.std.specs.Prelude.{slice_get, get_or, ◌↔◌, All}
use Rattle.std.specs.List.{AllByRecursion}
use Rattle.std.proofs.lemmas.Bool.{cond-true, cond-false, eq-eqb, eqb-true, cases_Bool}
use Rattle.std.proofs.lemmas.List.{drop-append-le, drop-replicate, length-replicate}
use Rattle.std.proofs.Math.ListN.{drop_of_length-le}
use Rattle.turn_log.specs.RunAt.{ahead, first_run, run_at, Stand}

abbrev pair_of : ℕ × ℕ → Option (ℕ × ℕ)
pair_of x = Some x

abbrev same_pair : ℕ × ℕ → ℕ × ℕ → Type 0
same_pair x y = x ≡ y

some_is : (x y : ℕ × ℕ) → pair_of x ≡ pair_of y → same_pair x y
some_is x y e = cc

-- the hart and the count of a run at the front
first_is : (turn hart n count : ℕ) → pair_of (turn, n) ≡ pair_of (hart, count) → (turn ≡ hart) × (n ≡ count)
first_is turn hart n count e = let same = some_is (turn, n) (hart, count) e in (ap (λ (x : ℕ × ℕ). x.0) same, ap (λ (x : ℕ × ℕ). x.1) same)

-- ---- a run of a known length at the front

pub ahead-replicate : (hart n : ℕ) (turns : List ℕ) → ahead hart (replicate n hart ++ turns) ≡ n + ahead hart turns
ahead-replicate hart zero turns = omega arith
ahead-replicate hart (suc n) turns =
    let rest = ahead-replicate hart n turns in
    let here : ahead hart (replicate (suc n) hart ++ turns) ≡ suc (ahead hart (replicate n hart ++ turns)) = cond-true (eqb hart hart)
    (suc (ahead hart (replicate n hart ++ turns))) 0 (eq-eqb hart hart refl) in
    omega (arith, here, rest)

-- the run at a place within a run of one hart, after which another hart's turns stand
pub first_run-within : (hart n m : ℕ) (turns : List ℕ) → m < n → ahead hart turns ≡ 0 → first_run (drop m (replicate n hart ++ turns)) ≡ Some (hart, n - m)
first_run-within hart n m turns within other =
    let k = n - m - 1 in
    let one : n - m ≡ suc k = omega arith in
    let parts : drop m (replicate n hart ++ turns) ≡ hart ∷ (replicate k hart ++ turns) =
    drop-append-le m (replicate n hart) turns (omega (arith, length-replicate n hart)) ∙ ap (λ (t : List ℕ). t ++ turns) (drop-replicate m n hart
    ∙ ap (λ (j : ℕ). replicate j hart) one) in
    let count : suc (ahead hart (replicate k hart ++ turns)) ≡ n - m = let all = ahead-replicate hart k turns in omega (arith, all, other, one) in
    ap first_run parts ∙ ap (λ (j : ℕ). Some (hart, j)) count

-- ---- what the run at a place says of the list

ahead-within : (hart : ℕ) (turns : List ℕ) → ahead hart turns ≤ length turns
ahead-within hart [] = omega arith
ahead-within hart (turn ∷ turns) =
    elim (cases_Bool (eqb turn hart)) [
      | inl e ↦
          let rest = ahead-within hart turns in
          let here : ahead hart (turn ∷ turns) ≡ suc (ahead hart turns) = cond-true (eqb turn hart) (suc (ahead hart turns)) 0 e in
          omega (arith, here, rest)
      | inr e ↦
          let here : ahead hart (turn ∷ turns) ≡ 0 = cond-false (eqb turn hart) (suc (ahead hart turns)) 0 e in
          omega (arith, here)
    ]

ahead-parts : (hart : ℕ) (turns : List ℕ) → turns ≡ replicate (ahead hart turns) hart ++ drop (ahead hart turns) turns
ahead-parts hart [] = refl
ahead-parts hart (turn ∷ turns) =
    elim (cases_Bool (eqb turn hart)) [
      | inl e ↦
          let same : turn ≡ hart = eqb-true turn hart e in
          let here : ahead hart (turn ∷ turns) ≡ suc (ahead hart turns) = cond-true (eqb turn hart) (suc (ahead hart turns)) 0 e in
          ap (λ (t : ℕ). t ∷ turns) same ∙ ap (λ (ts : List ℕ). hart ∷ ts) (ahead-parts hart turns)
          ∙ ap (λ (n : ℕ). replicate n hart ++ drop n (turn ∷ turns)) (sym here)
      | inr e ↦
          let here : ahead hart (turn ∷ turns) ≡ 0 = cond-false (eqb turn hart) (suc (ahead hart turns)) 0 e in
          ap (λ (n : ℕ). replicate n hart ++ drop n (turn ∷ turns)) (sym here)
    ]

record StandsFirst (turns : List ℕ) (hart count : ℕ) : Type 0 where
  pub some : 1 ≤ count
  pub within : count ≤ length turns
  pub parts : turns ≡ replicate count hart ++ drop count turns

first_run-stands : (turns : List ℕ) (hart count : ℕ) → first_run turns ≡ Some (hart, count) → StandsFirst turns hart count
first_run-stands [] hart count e = absurd cc
first_run-stands (turn ∷ turns) hart count e =
    let is = first_is turn hart (suc (ahead turn turns)) count e in
    let first : turn ≡ hart = is.0 in
    let all : suc (ahead turn turns) ≡ count = is.1 in
    let parts : turn ∷ turns ≡ replicate count hart ++ drop count (turn ∷ turns) =
    ap (λ (ts : List ℕ). turn ∷ ts) (ahead-parts turn turns)
    ∙ ap (λ (n : ℕ). replicate n turn ++ drop n (turn ∷ turns)) all
    ∙ ap (λ (t : ℕ). replicate count t ++ drop count (turn ∷ turns)) first in
    record { some = omega (arith, all); within = let fits = ahead-within turn turns in omega (arith, all, fits); parts = parts }

pub run_at-stands : (turns : List ℕ) (place hart count : ℕ) → run_at turns place ≡ Some (hart, count) → Stand turns place hart count
unfolding run_at
run_at-stands turns zero hart count e =
    let first = first_run-stands turns hart count e in
    record {
      some = first.some;
      within = let fits = first.within in omega (arith, fits);
      parts = first.parts
          ∙ ap (λ (n : ℕ). replicate count hart ++ drop n turns) (sym (zero-add count));
    }
run_at-stands [] (suc place) hart count e = absurd cc
run_at-stands (turn ∷ turns) (suc place) hart count e =
    let rest = run_at-stands turns place hart count e in
    let n : suc (place + count) ≡ suc place + count = omega arith in
    record {
      some = rest.some;
      within = let fits = rest.within in omega (arith, fits);
      parts = rest.parts
          ∙ ap (λ (n : ℕ). replicate count hart ++ drop n (turn ∷ turns)) n;
    }

first_run-below : (harts : ℕ) (turns : List ℕ) (hart count : ℕ) → AllByRecursion (λ turn. turn < harts) turns → first_run turns ≡ Some (hart, count)
    → hart < harts
first_run-below harts [] hart count all e = absurd cc
first_run-below harts (turn ∷ turns) hart count all e = let first : turn ≡ hart = (first_is turn hart (suc (ahead turn turns)) count e).0 in
    subst (λ (t : ℕ). t < harts) first all.0

pub run_at-below : (harts : ℕ) (turns : List ℕ) (place hart count : ℕ) → AllByRecursion (λ turn. turn < harts) turns → run_at turns place ≡ Some (hart, count)
    → hart < harts
unfolding run_at
run_at-below harts turns zero hart count all e = first_run-below harts turns hart count all e
run_at-below harts [] (suc place) hart count all e = absurd cc
run_at-below harts (turn ∷ turns) (suc place) hart count all e = run_at-below harts turns place hart count all.1 e

pub run_at-none : (turns : List ℕ) (place : ℕ) → run_at turns place ≡ None → length turns ≤ place
unfolding run_at
run_at-none [] place e = omega arith
run_at-none (turn ∷ turns) zero e = absurd cc
run_at-none (turn ∷ turns) (suc place) e = let rest = run_at-none turns place e in omega (arith, rest)

pub run_at-behind : (turns : List ℕ) (place : ℕ) → length turns ≤ place → run_at turns place ≡ None
unfolding run_at
run_at-behind turns place le = ap first_run (drop_of_length-le turns le)

-- ---- the turn at a place

pub turn_at-none : (turns : List ℕ) (place : ℕ) → run_at turns place ≡ None → slice_get turns place ≡ None
unfolding run_at
turn_at-none [] place e = refl
turn_at-none (turn ∷ turns) zero e = absurd cc
turn_at-none (turn ∷ turns) (suc place) e = turn_at-none turns place e

pub turn_at-some : (turns : List ℕ) (place hart count : ℕ) → run_at turns place ≡ Some (hart, count) → slice_get turns place ≡ Some hart
unfolding run_at
turn_at-some [] zero hart count e = absurd cc
turn_at-some [] (suc place) hart count e = absurd cc
turn_at-some (turn ∷ turns) zero hart count e = let first : turn ≡ hart = (first_is turn hart (suc (ahead turn turns)) count e).0 in
    ap (λ (t : ℕ). Some t) first
turn_at-some (turn ∷ turns) (suc place) hart count e = turn_at-some turns place hart count e

-- Words that touch no memory, counted.
use Rattle.std.proofs.Common.{◌≡◌, ◌∙◌, ◌+◌, ◌<◌, ◌≤◌, ℕ, zero, suc, true, false, sym, ap, subst, arith, List}
use Rattle.std.proofs.Common.{length, replicate, Option, Some, None, inl, inr}
use Rattle.std.specs.Prelude.{is_some, option_and_then, slice_get, slice_index, slice_set}
use Rattle.std.proofs.lemmas.Bool.{cases_eq, cases_lt}
use Rattle.std.proofs.lemmas.List.{get_or-replicate, get_or-set_other, get_or-set_same, get_or_past, length-replicate}
use Rattle.std.proofs.lemmas.Option.{slice_get_within}
use Rattle.rv_insn.specs.declared.instructions.Insn.{Insn}
use Rattle.rv_encoding.specs.Decoding.{decoded}
use Rattle.turn_accesses.specs.Accesses.{access_in}
use Rattle.turn_accesses.specs.Quiet.{AreCounts, AreQuiet, some_goes_on}

pub none_quiet : (words : List ℕ) (place : ℕ) → AreQuiet words place 0
none_quiet words place = record {
  there = λ k below. absurd (omega (arith, below));
  no_access = λ k below. absurd (omega (arith, below));
  go_on = λ k below. absurd (omega (arith, below));
}

pub one_quiet : (words : List ℕ) (place word : ℕ) → slice_get words place ≡ Some word → access_in word ≡ None → AreQuiet words place 1
one_quiet words place word got none = record {
  there = λ k below. (let within = slice_get_within words place word got in omega (arith, within, below));
  no_access = λ k below. (let same : place + k ≡ place = omega (arith, below) in
      ap (λ n. option_and_then access_in (slice_get words n)) same ∙ ap (option_and_then access_in) got ∙ none);
  go_on = λ k below. absurd (omega (arith, below));
}

pub fewer_quiet : (words : List ℕ) (place n m : ℕ) → m ≤ n → AreQuiet words place n → AreQuiet words place m
fewer_quiet words place n m few quiet = record {
  there = λ k below. quiet.there k (omega (arith, below, few));
  no_access = λ k below. quiet.no_access k (omega (arith, below, few));
  go_on = λ k below. quiet.go_on k (omega (arith, below, few));
}

pub more_quiet : (words : List ℕ) (place word n : ℕ) → slice_get words place ≡ Some word → access_in word ≡ None → some_goes_on (decoded word) ≡ true
    → AreQuiet words (place + 1) n → AreQuiet words place (n + 1)
more_quiet words place word n got none goes rest = record { there = there_is; no_access = none_touches; go_on = go }
  where
    first : place + 0 ≡ place
    first = omega arith

    later : (k : ℕ) → place + suc k ≡ place + 1 + k
    later k = omega arith

    there_is : (k : ℕ) → k < n + 1 → place + k < length words
    there_is zero below = let within = slice_get_within words place word got in omega (arith, within)
    there_is (suc k) below = let within = rest.there k (omega (arith, below)) in omega (arith, within)

    none_touches : (k : ℕ) → k < n + 1 → option_and_then access_in (slice_get words (place + k)) ≡ None
    none_touches zero below = ap (λ n. option_and_then access_in (slice_get words n)) first ∙ ap (option_and_then access_in) got ∙ none
    none_touches (suc k) below = ap (λ n. option_and_then access_in (slice_get words n)) (later k) ∙ rest.no_access k (omega (arith, below))

    go : (k : ℕ) → k + 1 < n + 1 → some_goes_on (option_and_then decoded (slice_get words (place + k))) ≡ true
    go zero below = ap (λ n. some_goes_on (option_and_then decoded (slice_get words n))) first ∙ ap (λ o. some_goes_on (option_and_then decoded o)) got ∙ goes
    go (suc k) below = ap (λ n. some_goes_on (option_and_then decoded (slice_get words n))) (later k) ∙ rest.go_on k (omega (arith, below))

zero_at : (n place : ℕ) → slice_index (replicate n 0) place ≡ 0
zero_at n place = elim (cases_lt place n) [
  | inl below ↦ get_or-replicate n place 0 0 below
  | inr past ↦ get_or_past (replicate n 0) place 0 (omega (arith, past, length-replicate {A = ℕ} n 0))
]

-- where nothing is counted
pub zeros_count : (words : List ℕ) (n : ℕ) → AreCounts words (replicate n 0)
zeros_count words n = record { each = λ place. subst (λ (c : ℕ). AreQuiet words place c) (sym (zero_at n place)) (none_quiet words place) }

-- one more is counted
pub set_count : (words counts : List ℕ) (at_place count : ℕ) → at_place < length counts → AreCounts words counts → AreQuiet words at_place count
    → AreCounts words (slice_set counts at_place count)
set_count words counts at_place count below are quiet = record {
  each = λ place. elim (cases_eq place at_place) [
    | inl same ↦ subst (λ (c : ℕ). AreQuiet words place c)
        (sym (ap (slice_index (slice_set counts at_place count)) same ∙ get_or-set_same counts at_place count 0 below))
        (subst (λ (p : ℕ). AreQuiet words p count) (sym same) quiet)
    | inr other ↦ subst (λ (c : ℕ). AreQuiet words place c) (sym (get_or-set_other counts at_place place count 0 other)) (are.each place)
  ];
}

-- a word that is found to touch no memory
pub none_touched : (word : ℕ) (o : Option Insn) → o ≡ access_in word → is_some o ≡ false → access_in word ≡ None
none_touched word None is isnt = sym is
none_touched word (Some insn) is isnt = absurd cc

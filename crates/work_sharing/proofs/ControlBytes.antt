-- The words of control are the first of the data: two of each phase.
use Rattle.std.proofs.Common.{◌≡◌, ℕ, zero, suc, ◌+◌, ◌*◌, ◌<◌, ◌≤◌, Bool, true, false, [], ◌∷◌, refl, ◌∙◌, arith, inl, inr}
use Rattle.std.specs.Prelude.{◌&&◌, ◌||◌, nat_le, nat_lt}
use Rattle.std.proofs.lemmas.Bool.{cases_lt, le-leb, lt-ltb, and_from}
use Rattle.std.proofs.lemmas.List.Folds.{list_any-append}
use Rattle.memory.specs.Access.{data_start}
use Rattle.work_sharing.specs.Turns.{ticket_word, gate_word, is_byte_of, control_words}

left-true : (a b : Bool) → a ≡ true → (a || b) ≡ true
left-true true b e = refl
left-true false b e = absurd cc

right-true : (a b : Bool) → b ≡ true → (a || b) ≡ true
right-true true b e = refl
right-true false b e = e

in-word : (word place : ℕ) → word ≤ place → place < word + 4 → (nat_le word place && nat_lt place (word + 4)) ≡ true
in-word word place above below = and_from (nat_le word place) (nat_lt place (word + 4)) (le-leb word place above) (lt-ltb place (word + 4) below)

last-phase : (n place : ℕ) → data_start + 8 * n ≤ place → place < data_start + 8 * suc n → is_byte_of (ticket_word n ∷ gate_word n ∷ []) place ≡ true
last-phase n place above below = elim (cases_lt place (ticket_word n + 4)) [
  | inl l ↦ left-true (nat_le (ticket_word n) place && nat_lt place (ticket_word n + 4)) (is_byte_of (gate_word n ∷ []) place) (in-word (ticket_word n) place
      above l)
  | inr l ↦
      right-true (nat_le (ticket_word n) place && nat_lt place (ticket_word n + 4)) (is_byte_of (gate_word n ∷ []) place)
      (left-true (nat_le (gate_word n) place && nat_lt place (gate_word n + 4)) false (in-word (gate_word n) place l (omega (arith, below))))
]

pub control-byte : (n place : ℕ) → data_start ≤ place → place < data_start + 8 * n → is_byte_of (control_words n) place ≡ true
control-byte zero place above below = absurd (omega (arith, above, below))
control-byte (suc n) place above below =
    let test : ℕ → Bool = λ word. nat_le word place && nat_lt place (word + 4) in
    list_any-append test (control_words n) (ticket_word n ∷ gate_word n ∷ [])
    ∙ elim (cases_lt place (data_start + 8 * n)) [
      | inl l ↦ left-true (is_byte_of (control_words n) place) (is_byte_of (ticket_word n ∷ gate_word n ∷ []) place) (control-byte n place above l)
      | inr l ↦ right-true (is_byte_of (control_words n) place) (is_byte_of (ticket_word n ∷ gate_word n ∷ []) place) (last-phase n place l below)
    ]

-- Bytes that are put one after the other.
use Rattle.std.proofs.Common.{◌≡◌, ℕ, ◌+◌, ◌<◌, ◌≤◌, List, length, get_or, set, Bool, true, false, refl, ap, sym, ◌∙◌, arith, length-set, get_or-set_other}
use Rattle.std.proofs.Common.{inl, inr}
use Rattle.std.specs.Prelude.{◌≢◌, cond, slice_index}
use Rattle.std.proofs.lemmas.List.{get_or-set_same}
use Rattle.std.proofs.lemmas.Bool.{ltb-false, cases_lt}

-- some bytes were put, and one more is
pub record PutSoFar (old bytes memory : List ℕ) (at i : ℕ) : Type 0 where
  pub as_many : length memory ≡ length old
  pub inside : (k : ℕ) → k < i → slice_index memory (at + k) ≡ slice_index bytes k
  pub before : (k : ℕ) → k < at → slice_index memory k ≡ slice_index old k
  pub behind : (k : ℕ) → at + i ≤ k → slice_index memory k ≡ slice_index old k

pub put-more : (old bytes memory : List ℕ) (at i byte : ℕ) → at + i < length old → byte ≡ slice_index bytes i → PutSoFar old bytes memory at i
    → PutSoFar old bytes (set memory (at + i) byte) at (i + 1)
put-more old bytes memory at i byte within is so_far = record {
  as_many = length-set memory (at + i) byte ∙ so_far.as_many;
  inside = λ k below. elim (cases_lt k i) [
    | inl earlier ↦ get_or-set_other memory (at + i) (at + k) byte 0 (λ e. omega arith) ∙ so_far.inside k earlier
    | inr last ↦
        let same : k ≡ i = omega arith in
        ap (λ n. slice_index (set memory (at + i) byte) (at + n)) same
        ∙ get_or-set_same memory (at + i) byte 0 (omega (arith, so_far.as_many))
        ∙ is
        ∙ ap (slice_index bytes) (sym same)
  ];
  before = λ k below. get_or-set_other memory (at + i) k byte 0 (λ e. omega arith) ∙ so_far.before k below;
  behind = λ k above. get_or-set_other memory (at + i) k byte 0 (λ e. omega arith) ∙ so_far.behind k (omega arith);
}

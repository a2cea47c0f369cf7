-- The first lane of a vector register, as an integer register gets it.
use Rattle.std.proofs.Common.{◌≡◌, ℕ, ◌+◌, ◌%◌, ◌^◌, ◌<◌, ◌≤◌, List, [], ◌∷◌, length, true, false, refl, ap, ◌∙◌, sym, subst, arith, inl, inr}
use Rattle.std.specs.Prelude.{◌-◌, suc, nat_lt, replicate}
use Rattle.std.proofs.lemmas.Bool.{cases_lt}
use Rattle.std.proofs.lemmas.Bool.Decides.{nat_tests}
use Rattle.lanes.specs.Words as word
use Rattle.lanes.specs.Words.{element}
use Rattle.rv_insn.specs.declared.instructions.Insn.TheVariants.{Vector}
use Rattle.rv_insn.specs.declared.vector_instructions.VectorInsn.TheVariants as v
use Rattle.hart_core.specs.HartState.{HartState, vector, vectors_of, given}
use Rattle.vector_unit.specs.Vector.{register as group_register, width}
use Rattle.multi_hart_laws.specs.Alone.{World}
use Rattle.multi_hart_laws.specs.Paths.{lane, update, LanesConfigured, At, Line}
use Rattle.multi_hart_laws.proofs.Paths.{at-given}
use Rattle.multi_hart_laws.proofs.LaneRows.{element-below, or-either}
use Rattle.multi_hart_laws.proofs.VectorRows.{width-is, untrapped, allowed, leaves}

-- a word that is read as signed wraps to itself
signed-word : (n : ℕ) → n < 2 ^ 32 → word.wrapped 32 (word.signed 32 n) ≡ n
signed-word n small = elim (cases_lt n (2 ^ 31)) [
  | inl l ↦ let t : nat_lt n (2 ^ 31) ≡ true = grind (arith, nat_tests, l) in let e : n % 2 ^ 32 ≡ n = omega (arith, small) in rw t e
  | inr l ↦
      let t : nat_lt n (2 ^ 31) ≡ false = grind (arith, nat_tests, l) in
      let e : 2 ^ 32 - suc ((2 ^ 32 - suc n) % 2 ^ 32) ≡ n = omega (arith, small) in
      rw t e
]

module _ (w : World) (f : ℕ → ℕ) (m : List ℕ) (l : length m ≡ w.size) (g : ℕ) (c : LanesConfigured f g) where
  abbrev said : ℕ → HartState → ℕ
  said u h = word.wrapped 32 (word.signed (width (vectors_of h)) (element (width (vectors_of h)) (group_register (vectors_of h) u) 0))

  said-is : (u at : ℕ) (h : HartState) → 1 ≤ u → u < 32 → At at f h → said u h ≡ f (lane u 0)
  said-is u at h low high a =
      let was : group_register (vectors_of h) u ≡ vector h u =
      or-either h.vectors u (replicate 16 0) [] (let q = a.wide in omega (arith, q, high)) in
      ap (λ n. word.wrapped 32 (word.signed n (element n (group_register (vectors_of h) u) 0))) (width-is at g f h a c)
      ∙ ap (λ r. word.wrapped 32 (word.signed 32 (element 32 r 0))) was
      ∙ signed-word (element 32 (vector h u) 0) (element-below (vector h u) 0 (a.bytes u high)) ∙ a.lanes u 0 low high (omega arith)

  pub first-read : (r u : ℕ) → 1 ≤ r → r < 32 → 1 ≤ u → u < 32 → Line w (Vector (v.MoveToScalar r u) ∷ []) f m (update f r (f (lane u 0))) m
  first-read r u lr hr lu hu =
      leaves w f m l (v.MoveToScalar r u) (update f r (f (lane u 0))) (λ h. given h r (said u h)) refl
      (λ at h a. untrapped at g f h a c (length w.text) w.size (v.MoveToScalar r u) refl
      (allowed at g f h a c (v.MoveToScalar r u) refl refl tt refl))
      (λ h read. refl)
      (λ at h low a. subst (λ n. At (at + 4) (update f r (f (lane u 0))) (given h r n)) (sym (said-is u at h lu hu a))
      (at-given at r (f (lane u 0)) f h low lr hr a))

-- Where jumps go, and what every iteration passes.
use Rattle.std.proofs.Common.{◌≡◌, ℕ, zero, suc, ◌+◌, ◌-◌, ◌*◌, ◌%◌, ◌^◌, ◌<◌, ◌≤◌, List, [], ◌∷◌, length, true, ap, ◌∙◌, subst, arith}
use Rattle.std.proofs.Common.{inl, inr}
use Rattle.std.specs.Prelude.{Bool, pos}
use Rattle.std.proofs.lemmas.Bool.{and_parts, cases_lt}
use Rattle.loop_ir.specs.Soundness.{every}
use Rattle.std.proofs.Math.IntN.{pos-*ℤ-pos, pos-*ℤ-negsuc, neg_ℤ}
use Rattle.rv_insn.specs.declared.instructions.Insn.{Insn}
use Rattle.multi_hart_laws.specs.Scalar.{plus, offset_from}
use Rattle.multi_hart_laws.specs.Paths.{end}
use Rattle.task_code_scalar.specs.Code.{forth, back}

pub end-length : (at : ℕ) (is : List Insn) → end at is ≡ at + 4 * length is
end-length at [] = omega arith
end-length at (i ∷ is) = let e = end-length (at + 4) is in omega (arith, e)

pub forth-to : (at n to : ℕ) → at + 4 * n ≡ to → to < 2 ^ 32 → offset_from at (forth n) ≡ to
forth-to at n to e l = ap (plus at) (pos-*ℤ-pos 2 (2 * n)) ∙ (let g : (at + (2 * (2 * n)) % 2 ^ 32) % 2 ^ 32 ≡ to = omega (arith, e, l) in g)

pub back-to : (at n to : ℕ) → to + 4 * n ≡ at → 1 ≤ n → at < 2 ^ 32 → offset_from at (back n) ≡ to
back-to at n to e low l =
    let twice : 2 * suc (2 * n - 1) ≡ suc (4 * n - 1) = omega (arith, low) in
    ap (plus at) (pos-*ℤ-negsuc 2 (2 * n - 1) ∙ ap (λ z. neg_ℤ (pos z)) twice)
    ∙ (let g : (at + (2 ^ 32 - suc ((4 * n - 1) % 2 ^ 32))) % 2 ^ 32 ≡ to = omega (arith, e, l, low) in g)

-- what every iteration passes, each one does
pub each-iteration : (n : ℕ) (passes : ℕ → Bool) → every n passes ≡ true → (i : ℕ) → i < n → passes i ≡ true
unfolding every
each-iteration zero passes is i l = absurd (omega (arith, l))
each-iteration (suc n) passes is i l =
    let k = and_parts (every n passes) (passes n) is in
    elim (cases_lt i n) [
      | inl a ↦ each-iteration n passes k.0 i a
      | inr b ↦ let e : n ≡ i = omega (arith, l, b) in subst (λ j. passes j ≡ true) e k.1
    ]

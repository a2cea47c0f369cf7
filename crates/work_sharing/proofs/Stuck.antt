-- Two harts at a gate that waits for three.
use Rattle.std.proofs.Common.{◌≡◌, ℕ, zero, suc, ◌≤◌, List, [], ◌∷◌, length, Option, Some, true, false, refl, ap, ◌∙◌, sym, subst, arith}
use Rattle.std.specs.Prelude.{slice_get}
use Rattle.std.specs.List.{concat}
use Rattle.rv_encoding.specs.Decoding.{decoded}
use Rattle.rv_encoding.specs.Decoding as decode
use Rattle.rv_encoding.specs.Operations.{key_in}
use Rattle.rv_insn.specs.Table.{scalar_table, r_type, i_type, s_type, b_type, u_type, j_type, amo_type, whole_word}
use Rattle.rv_insn.specs.Encoding.{fixed, span}
use Rattle.hart_core.specs.declared.harts.Status.TheVariants.{Running}
use Rattle.hart_core.specs.HartState.{HartState}
use Rattle.multi_hart.specs.Run.{all_finished, State, run}
use Rattle.multi_hart.proofs.Resting.{run-append}
use Rattle.work_sharing.specs.Turns.{are_rounds}
use Rattle.work_sharing.specs.Stuck.{stuck, NoCount}

-- both harts have counted themselves, and look at the gate
looking : State
looking = run stuck (0 ∷ 1 ∷ 0 ∷ 1 ∷ 0 ∷ 1 ∷ 0 ∷ 1 ∷ 0 ∷ 1 ∷ 0 ∷ 1 ∷ [])

again : run looking (0 ∷ 1 ∷ 0 ∷ 1 ∷ []) ≡ looking
unfolding looking decoded decode.rd_of decode.rs1_of decode.rs2_of decode.i_immediate_of decode.u_immediate_of decode.b_offset_of key_in scalar_table r_type
    i_type s_type b_type u_type j_type amo_type whole_word fixed span
again = refl

unfinished : all_finished looking ≡ false
unfolding looking decoded decode.rd_of decode.rs1_of decode.rs2_of decode.i_immediate_of decode.u_immediate_of decode.b_offset_of key_in scalar_table r_type
    i_type s_type b_type u_type j_type amo_type whole_word fixed span
unfinished = refl

same-status : (x h : HartState) → ◌≡◌ {A = Option HartState} (Some x) (Some h) → x.status ≡ Running → h.status ≡ Running
same-status x h e r = let q : x ≡ h = cc in subst (λ y. y.status ≡ Running) q r

running : (k : ℕ) (h : HartState) → slice_get looking.harts k ≡ Some h → h.status ≡ Running
unfolding looking decoded decode.rd_of decode.rs1_of decode.rs2_of decode.i_immediate_of decode.u_immediate_of decode.b_offset_of key_in scalar_table r_type
    i_type s_type b_type u_type j_type amo_type whole_word fixed span
running zero h e = same-status _ h e refl
running (suc zero) h e = same-status _ h e refl
running (suc (suc k)) h e = absurd (cc e)

-- two rounds, so often
loops : ℕ → List (List ℕ)
loops zero = []
loops (suc n) = (0 ∷ 1 ∷ []) ∷ (0 ∷ 1 ∷ []) ∷ loops n

loops-stay : (n : ℕ) → run looking (concat (loops n)) ≡ looking
unfolding loops
loops-stay zero = refl
loops-stay (suc n) = ap (λ s. run s (concat (loops n))) again ∙ loops-stay n

loops-rounds : (n : ℕ) → are_rounds 2 (loops n) ≡ true
unfolding loops
loops-rounds zero = refl
loops-rounds (suc n) = loops-rounds n

loops-long : (n : ℕ) → n ≤ length (loops n)
unfolding loops
loops-long zero = omega arith
loops-long (suc n) = let a = loops-long n in omega (arith, a)

abbrev all_rounds : ℕ → List (List ℕ)
all_rounds n = (0 ∷ 1 ∷ []) ∷ (0 ∷ 1 ∷ []) ∷ (0 ∷ 1 ∷ []) ∷ (0 ∷ 1 ∷ []) ∷ (0 ∷ 1 ∷ []) ∷ (0 ∷ 1 ∷ []) ∷ loops n

begun : (n : ℕ) → run stuck (concat (all_rounds n)) ≡ run looking (concat (loops n))
unfolding looking
begun n = run-append stuck (0 ∷ 1 ∷ 0 ∷ 1 ∷ 0 ∷ 1 ∷ 0 ∷ 1 ∷ 0 ∷ 1 ∷ 0 ∷ 1 ∷ []) (concat (loops n))

end-is : (n : ℕ) → run stuck (concat (all_rounds n)) ≡ looking
end-is n = begun n ∙ loops-stay n

pub no-count : NoCount
no-count count = (
  all_rounds count,
  loops-rounds count,
  (let a = loops-long count in omega (arith, a)),
  ap all_finished (end-is count) ∙ unfinished,
  λ k h e. running k h (ap (λ s. slice_get s.harts k) (sym (end-is count)) ∙ e),
)

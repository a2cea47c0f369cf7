-- All harts but the first finish at once: the states that two harts can reach, each known by turns that lead to it.
use Rattle.std.proofs.Common.{◌≡◌, ℕ, zero, suc, List, [], ◌∷◌, Option, Some, None, Bool, true, false, refl, ap, ◌∙◌, sym, subst, true≢false, inl, inr}
use Rattle.std.specs.Prelude.{if◌then◌else◌}
use Rattle.rv_encoding.specs.Decoding.{decoded}
use Rattle.rv_encoding.specs.Decoding as decode
use Rattle.rv_encoding.specs.Operations.{key_in}
use Rattle.rv_insn.specs.Table.{scalar_table, r_type, i_type, s_type, b_type, u_type, j_type, amo_type, whole_word}
use Rattle.rv_insn.specs.Encoding.{fixed, span}
use Rattle.multi_hart.specs.Run.{State, all_finished, run, turn, is_in}
use Rattle.work_sharing.specs.Turns.{last_writer, written_next}
use Rattle.work_sharing.specs.Refutations.{lonely, OthersDoNothing}

a0 : State
a0 = run lonely ([])

a1 : State
a1 = run lonely (0 ∷ [])

a2 : State
a2 = run lonely (1 ∷ [])

a3 : State
a3 = run lonely (0 ∷ 0 ∷ [])

a4 : State
a4 = run lonely (0 ∷ 1 ∷ [])

a5 : State
a5 = run lonely (1 ∷ 1 ∷ [])

a6 : State
a6 = run lonely (0 ∷ 0 ∷ 0 ∷ [])

a7 : State
a7 = run lonely (0 ∷ 0 ∷ 1 ∷ [])

a8 : State
a8 = run lonely (0 ∷ 1 ∷ 1 ∷ [])

a9 : State
a9 = run lonely (0 ∷ 0 ∷ 0 ∷ 0 ∷ [])

a10 : State
a10 = run lonely (0 ∷ 0 ∷ 0 ∷ 1 ∷ [])

a11 : State
a11 = run lonely (0 ∷ 0 ∷ 1 ∷ 1 ∷ [])

a12 : State
a12 = run lonely (0 ∷ 0 ∷ 0 ∷ 0 ∷ 1 ∷ [])

a13 : State
a13 = run lonely (0 ∷ 0 ∷ 0 ∷ 1 ∷ 1 ∷ [])

a14 : State
a14 = run lonely (0 ∷ 0 ∷ 0 ∷ 0 ∷ 1 ∷ 1 ∷ [])

data Seen : State → Type 0 where
  at_a0 : Seen a0
  at_a1 : Seen a1
  at_a2 : Seen a2
  at_a3 : Seen a3
  at_a4 : Seen a4
  at_a5 : Seen a5
  at_a6 : Seen a6
  at_a7 : Seen a7
  at_a8 : Seen a8
  at_a9 : Seen a9
  at_a10 : Seen a10
  at_a11 : Seen a11
  at_a12 : Seen a12
  at_a13 : Seen a13
  at_a14 : Seen a14

turn-a0-0 : turn a0 0 ≡ a1
unfolding a0 a1 decoded decode.rd_of decode.rs1_of decode.rs2_of decode.i_immediate_of decode.s_immediate_of decode.u_immediate_of decode.b_offset_of
    decode.j_offset_of key_in scalar_table r_type i_type s_type b_type u_type j_type amo_type whole_word fixed span
turn-a0-0 = refl

turn-a0-1 : turn a0 1 ≡ a2
unfolding a0 a2 decoded decode.rd_of decode.rs1_of decode.rs2_of decode.i_immediate_of decode.s_immediate_of decode.u_immediate_of decode.b_offset_of
    decode.j_offset_of key_in scalar_table r_type i_type s_type b_type u_type j_type amo_type whole_word fixed span
turn-a0-1 = refl

rest-a0 : (k : ℕ) → turn a0 (suc (suc k)) ≡ a0
unfolding a0 decoded decode.rd_of decode.rs1_of decode.rs2_of decode.i_immediate_of decode.s_immediate_of decode.u_immediate_of decode.b_offset_of
    decode.j_offset_of key_in scalar_table r_type i_type s_type b_type u_type j_type amo_type whole_word fixed span
rest-a0 k = refl

turn-a1-0 : turn a1 0 ≡ a3
unfolding a1 a3 decoded decode.rd_of decode.rs1_of decode.rs2_of decode.i_immediate_of decode.s_immediate_of decode.u_immediate_of decode.b_offset_of
    decode.j_offset_of key_in scalar_table r_type i_type s_type b_type u_type j_type amo_type whole_word fixed span
turn-a1-0 = refl

turn-a1-1 : turn a1 1 ≡ a4
unfolding a1 a4 decoded decode.rd_of decode.rs1_of decode.rs2_of decode.i_immediate_of decode.s_immediate_of decode.u_immediate_of decode.b_offset_of
    decode.j_offset_of key_in scalar_table r_type i_type s_type b_type u_type j_type amo_type whole_word fixed span
turn-a1-1 = refl

rest-a1 : (k : ℕ) → turn a1 (suc (suc k)) ≡ a1
unfolding a1 decoded decode.rd_of decode.rs1_of decode.rs2_of decode.i_immediate_of decode.s_immediate_of decode.u_immediate_of decode.b_offset_of
    decode.j_offset_of key_in scalar_table r_type i_type s_type b_type u_type j_type amo_type whole_word fixed span
rest-a1 k = refl

turn-a2-0 : turn a2 0 ≡ a4
unfolding a2 a4 decoded decode.rd_of decode.rs1_of decode.rs2_of decode.i_immediate_of decode.s_immediate_of decode.u_immediate_of decode.b_offset_of
    decode.j_offset_of key_in scalar_table r_type i_type s_type b_type u_type j_type amo_type whole_word fixed span
turn-a2-0 = refl

turn-a2-1 : turn a2 1 ≡ a5
unfolding a2 a5 decoded decode.rd_of decode.rs1_of decode.rs2_of decode.i_immediate_of decode.s_immediate_of decode.u_immediate_of decode.b_offset_of
    decode.j_offset_of key_in scalar_table r_type i_type s_type b_type u_type j_type amo_type whole_word fixed span
turn-a2-1 = refl

rest-a2 : (k : ℕ) → turn a2 (suc (suc k)) ≡ a2
unfolding a2 decoded decode.rd_of decode.rs1_of decode.rs2_of decode.i_immediate_of decode.s_immediate_of decode.u_immediate_of decode.b_offset_of
    decode.j_offset_of key_in scalar_table r_type i_type s_type b_type u_type j_type amo_type whole_word fixed span
rest-a2 k = refl

turn-a3-0 : turn a3 0 ≡ a6
unfolding a3 a6 decoded decode.rd_of decode.rs1_of decode.rs2_of decode.i_immediate_of decode.s_immediate_of decode.u_immediate_of decode.b_offset_of
    decode.j_offset_of key_in scalar_table r_type i_type s_type b_type u_type j_type amo_type whole_word fixed span
turn-a3-0 = refl

turn-a3-1 : turn a3 1 ≡ a7
unfolding a3 a7 decoded decode.rd_of decode.rs1_of decode.rs2_of decode.i_immediate_of decode.s_immediate_of decode.u_immediate_of decode.b_offset_of
    decode.j_offset_of key_in scalar_table r_type i_type s_type b_type u_type j_type amo_type whole_word fixed span
turn-a3-1 = refl

rest-a3 : (k : ℕ) → turn a3 (suc (suc k)) ≡ a3
unfolding a3 decoded decode.rd_of decode.rs1_of decode.rs2_of decode.i_immediate_of decode.s_immediate_of decode.u_immediate_of decode.b_offset_of
    decode.j_offset_of key_in scalar_table r_type i_type s_type b_type u_type j_type amo_type whole_word fixed span
rest-a3 k = refl

turn-a4-0 : turn a4 0 ≡ a7
unfolding a4 a7 decoded decode.rd_of decode.rs1_of decode.rs2_of decode.i_immediate_of decode.s_immediate_of decode.u_immediate_of decode.b_offset_of
    decode.j_offset_of key_in scalar_table r_type i_type s_type b_type u_type j_type amo_type whole_word fixed span
turn-a4-0 = refl

turn-a4-1 : turn a4 1 ≡ a8
unfolding a4 a8 decoded decode.rd_of decode.rs1_of decode.rs2_of decode.i_immediate_of decode.s_immediate_of decode.u_immediate_of decode.b_offset_of
    decode.j_offset_of key_in scalar_table r_type i_type s_type b_type u_type j_type amo_type whole_word fixed span
turn-a4-1 = refl

rest-a4 : (k : ℕ) → turn a4 (suc (suc k)) ≡ a4
unfolding a4 decoded decode.rd_of decode.rs1_of decode.rs2_of decode.i_immediate_of decode.s_immediate_of decode.u_immediate_of decode.b_offset_of
    decode.j_offset_of key_in scalar_table r_type i_type s_type b_type u_type j_type amo_type whole_word fixed span
rest-a4 k = refl

turn-a5-0 : turn a5 0 ≡ a8
unfolding a5 a8 decoded decode.rd_of decode.rs1_of decode.rs2_of decode.i_immediate_of decode.s_immediate_of decode.u_immediate_of decode.b_offset_of
    decode.j_offset_of key_in scalar_table r_type i_type s_type b_type u_type j_type amo_type whole_word fixed span
turn-a5-0 = refl

turn-a5-1 : turn a5 1 ≡ a5
unfolding a5 decoded decode.rd_of decode.rs1_of decode.rs2_of decode.i_immediate_of decode.s_immediate_of decode.u_immediate_of decode.b_offset_of
    decode.j_offset_of key_in scalar_table r_type i_type s_type b_type u_type j_type amo_type whole_word fixed span
turn-a5-1 = refl

rest-a5 : (k : ℕ) → turn a5 (suc (suc k)) ≡ a5
unfolding a5 decoded decode.rd_of decode.rs1_of decode.rs2_of decode.i_immediate_of decode.s_immediate_of decode.u_immediate_of decode.b_offset_of
    decode.j_offset_of key_in scalar_table r_type i_type s_type b_type u_type j_type amo_type whole_word fixed span
rest-a5 k = refl

turn-a6-0 : turn a6 0 ≡ a9
unfolding a6 a9 decoded decode.rd_of decode.rs1_of decode.rs2_of decode.i_immediate_of decode.s_immediate_of decode.u_immediate_of decode.b_offset_of
    decode.j_offset_of key_in scalar_table r_type i_type s_type b_type u_type j_type amo_type whole_word fixed span
turn-a6-0 = refl

turn-a6-1 : turn a6 1 ≡ a10
unfolding a6 a10 decoded decode.rd_of decode.rs1_of decode.rs2_of decode.i_immediate_of decode.s_immediate_of decode.u_immediate_of decode.b_offset_of
    decode.j_offset_of key_in scalar_table r_type i_type s_type b_type u_type j_type amo_type whole_word fixed span
turn-a6-1 = refl

rest-a6 : (k : ℕ) → turn a6 (suc (suc k)) ≡ a6
unfolding a6 decoded decode.rd_of decode.rs1_of decode.rs2_of decode.i_immediate_of decode.s_immediate_of decode.u_immediate_of decode.b_offset_of
    decode.j_offset_of key_in scalar_table r_type i_type s_type b_type u_type j_type amo_type whole_word fixed span
rest-a6 k = refl

turn-a7-0 : turn a7 0 ≡ a10
unfolding a7 a10 decoded decode.rd_of decode.rs1_of decode.rs2_of decode.i_immediate_of decode.s_immediate_of decode.u_immediate_of decode.b_offset_of
    decode.j_offset_of key_in scalar_table r_type i_type s_type b_type u_type j_type amo_type whole_word fixed span
turn-a7-0 = refl

turn-a7-1 : turn a7 1 ≡ a11
unfolding a7 a11 decoded decode.rd_of decode.rs1_of decode.rs2_of decode.i_immediate_of decode.s_immediate_of decode.u_immediate_of decode.b_offset_of
    decode.j_offset_of key_in scalar_table r_type i_type s_type b_type u_type j_type amo_type whole_word fixed span
turn-a7-1 = refl

rest-a7 : (k : ℕ) → turn a7 (suc (suc k)) ≡ a7
unfolding a7 decoded decode.rd_of decode.rs1_of decode.rs2_of decode.i_immediate_of decode.s_immediate_of decode.u_immediate_of decode.b_offset_of
    decode.j_offset_of key_in scalar_table r_type i_type s_type b_type u_type j_type amo_type whole_word fixed span
rest-a7 k = refl

turn-a8-0 : turn a8 0 ≡ a11
unfolding a8 a11 decoded decode.rd_of decode.rs1_of decode.rs2_of decode.i_immediate_of decode.s_immediate_of decode.u_immediate_of decode.b_offset_of
    decode.j_offset_of key_in scalar_table r_type i_type s_type b_type u_type j_type amo_type whole_word fixed span
turn-a8-0 = refl

turn-a8-1 : turn a8 1 ≡ a8
unfolding a8 decoded decode.rd_of decode.rs1_of decode.rs2_of decode.i_immediate_of decode.s_immediate_of decode.u_immediate_of decode.b_offset_of
    decode.j_offset_of key_in scalar_table r_type i_type s_type b_type u_type j_type amo_type whole_word fixed span
turn-a8-1 = refl

rest-a8 : (k : ℕ) → turn a8 (suc (suc k)) ≡ a8
unfolding a8 decoded decode.rd_of decode.rs1_of decode.rs2_of decode.i_immediate_of decode.s_immediate_of decode.u_immediate_of decode.b_offset_of
    decode.j_offset_of key_in scalar_table r_type i_type s_type b_type u_type j_type amo_type whole_word fixed span
rest-a8 k = refl

turn-a9-0 : turn a9 0 ≡ a9
unfolding a9 decoded decode.rd_of decode.rs1_of decode.rs2_of decode.i_immediate_of decode.s_immediate_of decode.u_immediate_of decode.b_offset_of
    decode.j_offset_of key_in scalar_table r_type i_type s_type b_type u_type j_type amo_type whole_word fixed span
turn-a9-0 = refl

turn-a9-1 : turn a9 1 ≡ a12
unfolding a9 a12 decoded decode.rd_of decode.rs1_of decode.rs2_of decode.i_immediate_of decode.s_immediate_of decode.u_immediate_of decode.b_offset_of
    decode.j_offset_of key_in scalar_table r_type i_type s_type b_type u_type j_type amo_type whole_word fixed span
turn-a9-1 = refl

rest-a9 : (k : ℕ) → turn a9 (suc (suc k)) ≡ a9
unfolding a9 decoded decode.rd_of decode.rs1_of decode.rs2_of decode.i_immediate_of decode.s_immediate_of decode.u_immediate_of decode.b_offset_of
    decode.j_offset_of key_in scalar_table r_type i_type s_type b_type u_type j_type amo_type whole_word fixed span
rest-a9 k = refl

turn-a10-0 : turn a10 0 ≡ a12
unfolding a10 a12 decoded decode.rd_of decode.rs1_of decode.rs2_of decode.i_immediate_of decode.s_immediate_of decode.u_immediate_of decode.b_offset_of
    decode.j_offset_of key_in scalar_table r_type i_type s_type b_type u_type j_type amo_type whole_word fixed span
turn-a10-0 = refl

turn-a10-1 : turn a10 1 ≡ a13
unfolding a10 a13 decoded decode.rd_of decode.rs1_of decode.rs2_of decode.i_immediate_of decode.s_immediate_of decode.u_immediate_of decode.b_offset_of
    decode.j_offset_of key_in scalar_table r_type i_type s_type b_type u_type j_type amo_type whole_word fixed span
turn-a10-1 = refl

rest-a10 : (k : ℕ) → turn a10 (suc (suc k)) ≡ a10
unfolding a10 decoded decode.rd_of decode.rs1_of decode.rs2_of decode.i_immediate_of decode.s_immediate_of decode.u_immediate_of decode.b_offset_of
    decode.j_offset_of key_in scalar_table r_type i_type s_type b_type u_type j_type amo_type whole_word fixed span
rest-a10 k = refl

turn-a11-0 : turn a11 0 ≡ a13
unfolding a11 a13 decoded decode.rd_of decode.rs1_of decode.rs2_of decode.i_immediate_of decode.s_immediate_of decode.u_immediate_of decode.b_offset_of
    decode.j_offset_of key_in scalar_table r_type i_type s_type b_type u_type j_type amo_type whole_word fixed span
turn-a11-0 = refl

turn-a11-1 : turn a11 1 ≡ a11
unfolding a11 decoded decode.rd_of decode.rs1_of decode.rs2_of decode.i_immediate_of decode.s_immediate_of decode.u_immediate_of decode.b_offset_of
    decode.j_offset_of key_in scalar_table r_type i_type s_type b_type u_type j_type amo_type whole_word fixed span
turn-a11-1 = refl

rest-a11 : (k : ℕ) → turn a11 (suc (suc k)) ≡ a11
unfolding a11 decoded decode.rd_of decode.rs1_of decode.rs2_of decode.i_immediate_of decode.s_immediate_of decode.u_immediate_of decode.b_offset_of
    decode.j_offset_of key_in scalar_table r_type i_type s_type b_type u_type j_type amo_type whole_word fixed span
rest-a11 k = refl

turn-a12-0 : turn a12 0 ≡ a12
unfolding a12 decoded decode.rd_of decode.rs1_of decode.rs2_of decode.i_immediate_of decode.s_immediate_of decode.u_immediate_of decode.b_offset_of
    decode.j_offset_of key_in scalar_table r_type i_type s_type b_type u_type j_type amo_type whole_word fixed span
turn-a12-0 = refl

turn-a12-1 : turn a12 1 ≡ a14
unfolding a12 a14 decoded decode.rd_of decode.rs1_of decode.rs2_of decode.i_immediate_of decode.s_immediate_of decode.u_immediate_of decode.b_offset_of
    decode.j_offset_of key_in scalar_table r_type i_type s_type b_type u_type j_type amo_type whole_word fixed span
turn-a12-1 = refl

rest-a12 : (k : ℕ) → turn a12 (suc (suc k)) ≡ a12
unfolding a12 decoded decode.rd_of decode.rs1_of decode.rs2_of decode.i_immediate_of decode.s_immediate_of decode.u_immediate_of decode.b_offset_of
    decode.j_offset_of key_in scalar_table r_type i_type s_type b_type u_type j_type amo_type whole_word fixed span
rest-a12 k = refl

turn-a13-0 : turn a13 0 ≡ a14
unfolding a13 a14 decoded decode.rd_of decode.rs1_of decode.rs2_of decode.i_immediate_of decode.s_immediate_of decode.u_immediate_of decode.b_offset_of
    decode.j_offset_of key_in scalar_table r_type i_type s_type b_type u_type j_type amo_type whole_word fixed span
turn-a13-0 = refl

turn-a13-1 : turn a13 1 ≡ a13
unfolding a13 decoded decode.rd_of decode.rs1_of decode.rs2_of decode.i_immediate_of decode.s_immediate_of decode.u_immediate_of decode.b_offset_of
    decode.j_offset_of key_in scalar_table r_type i_type s_type b_type u_type j_type amo_type whole_word fixed span
turn-a13-1 = refl

rest-a13 : (k : ℕ) → turn a13 (suc (suc k)) ≡ a13
unfolding a13 decoded decode.rd_of decode.rs1_of decode.rs2_of decode.i_immediate_of decode.s_immediate_of decode.u_immediate_of decode.b_offset_of
    decode.j_offset_of key_in scalar_table r_type i_type s_type b_type u_type j_type amo_type whole_word fixed span
rest-a13 k = refl

turn-a14-0 : turn a14 0 ≡ a14
unfolding a14 decoded decode.rd_of decode.rs1_of decode.rs2_of decode.i_immediate_of decode.s_immediate_of decode.u_immediate_of decode.b_offset_of
    decode.j_offset_of key_in scalar_table r_type i_type s_type b_type u_type j_type amo_type whole_word fixed span
turn-a14-0 = refl

turn-a14-1 : turn a14 1 ≡ a14
unfolding a14 decoded decode.rd_of decode.rs1_of decode.rs2_of decode.i_immediate_of decode.s_immediate_of decode.u_immediate_of decode.b_offset_of
    decode.j_offset_of key_in scalar_table r_type i_type s_type b_type u_type j_type amo_type whole_word fixed span
turn-a14-1 = refl

rest-a14 : (k : ℕ) → turn a14 (suc (suc k)) ≡ a14
unfolding a14 decoded decode.rd_of decode.rs1_of decode.rs2_of decode.i_immediate_of decode.s_immediate_of decode.u_immediate_of decode.b_offset_of
    decode.j_offset_of key_in scalar_table r_type i_type s_type b_type u_type j_type amo_type whole_word fixed span
rest-a14 k = refl

-- each turn leads from one of these states to another
closed : (s : State) → Seen s → (hart : ℕ) → Seen (turn s hart)
closed s at_a0 zero = subst Seen (sym turn-a0-0) at_a1
closed s at_a0 (suc zero) = subst Seen (sym turn-a0-1) at_a2
closed s at_a0 (suc (suc k)) = subst Seen (sym (rest-a0 k)) at_a0
closed s at_a1 zero = subst Seen (sym turn-a1-0) at_a3
closed s at_a1 (suc zero) = subst Seen (sym turn-a1-1) at_a4
closed s at_a1 (suc (suc k)) = subst Seen (sym (rest-a1 k)) at_a1
closed s at_a2 zero = subst Seen (sym turn-a2-0) at_a4
closed s at_a2 (suc zero) = subst Seen (sym turn-a2-1) at_a5
closed s at_a2 (suc (suc k)) = subst Seen (sym (rest-a2 k)) at_a2
closed s at_a3 zero = subst Seen (sym turn-a3-0) at_a6
closed s at_a3 (suc zero) = subst Seen (sym turn-a3-1) at_a7
closed s at_a3 (suc (suc k)) = subst Seen (sym (rest-a3 k)) at_a3
closed s at_a4 zero = subst Seen (sym turn-a4-0) at_a7
closed s at_a4 (suc zero) = subst Seen (sym turn-a4-1) at_a8
closed s at_a4 (suc (suc k)) = subst Seen (sym (rest-a4 k)) at_a4
closed s at_a5 zero = subst Seen (sym turn-a5-0) at_a8
closed s at_a5 (suc zero) = subst Seen (sym turn-a5-1) at_a5
closed s at_a5 (suc (suc k)) = subst Seen (sym (rest-a5 k)) at_a5
closed s at_a6 zero = subst Seen (sym turn-a6-0) at_a9
closed s at_a6 (suc zero) = subst Seen (sym turn-a6-1) at_a10
closed s at_a6 (suc (suc k)) = subst Seen (sym (rest-a6 k)) at_a6
closed s at_a7 zero = subst Seen (sym turn-a7-0) at_a10
closed s at_a7 (suc zero) = subst Seen (sym turn-a7-1) at_a11
closed s at_a7 (suc (suc k)) = subst Seen (sym (rest-a7 k)) at_a7
closed s at_a8 zero = subst Seen (sym turn-a8-0) at_a11
closed s at_a8 (suc zero) = subst Seen (sym turn-a8-1) at_a8
closed s at_a8 (suc (suc k)) = subst Seen (sym (rest-a8 k)) at_a8
closed s at_a9 zero = subst Seen (sym turn-a9-0) at_a9
closed s at_a9 (suc zero) = subst Seen (sym turn-a9-1) at_a12
closed s at_a9 (suc (suc k)) = subst Seen (sym (rest-a9 k)) at_a9
closed s at_a10 zero = subst Seen (sym turn-a10-0) at_a12
closed s at_a10 (suc zero) = subst Seen (sym turn-a10-1) at_a13
closed s at_a10 (suc (suc k)) = subst Seen (sym (rest-a10 k)) at_a10
closed s at_a11 zero = subst Seen (sym turn-a11-0) at_a13
closed s at_a11 (suc zero) = subst Seen (sym turn-a11-1) at_a11
closed s at_a11 (suc (suc k)) = subst Seen (sym (rest-a11 k)) at_a11
closed s at_a12 zero = subst Seen (sym turn-a12-0) at_a12
closed s at_a12 (suc zero) = subst Seen (sym turn-a12-1) at_a14
closed s at_a12 (suc (suc k)) = subst Seen (sym (rest-a12 k)) at_a12
closed s at_a13 zero = subst Seen (sym turn-a13-0) at_a14
closed s at_a13 (suc zero) = subst Seen (sym turn-a13-1) at_a13
closed s at_a13 (suc (suc k)) = subst Seen (sym (rest-a13 k)) at_a13
closed s at_a14 zero = subst Seen (sym turn-a14-0) at_a14
closed s at_a14 (suc zero) = subst Seen (sym turn-a14-1) at_a14
closed s at_a14 (suc (suc k)) = subst Seen (sym (rest-a14 k)) at_a14

none-a0 : is_in 0x00200008 (written_next a0 1) ≡ false
unfolding a0 decoded decode.rd_of decode.rs1_of decode.rs2_of decode.i_immediate_of decode.s_immediate_of decode.u_immediate_of decode.b_offset_of
    decode.j_offset_of key_in scalar_table r_type i_type s_type b_type u_type j_type amo_type whole_word fixed span
none-a0 = refl

none-a1 : is_in 0x00200008 (written_next a1 1) ≡ false
unfolding a1 decoded decode.rd_of decode.rs1_of decode.rs2_of decode.i_immediate_of decode.s_immediate_of decode.u_immediate_of decode.b_offset_of
    decode.j_offset_of key_in scalar_table r_type i_type s_type b_type u_type j_type amo_type whole_word fixed span
none-a1 = refl

none-a2 : is_in 0x00200008 (written_next a2 1) ≡ false
unfolding a2 decoded decode.rd_of decode.rs1_of decode.rs2_of decode.i_immediate_of decode.s_immediate_of decode.u_immediate_of decode.b_offset_of
    decode.j_offset_of key_in scalar_table r_type i_type s_type b_type u_type j_type amo_type whole_word fixed span
none-a2 = refl

none-a3 : is_in 0x00200008 (written_next a3 1) ≡ false
unfolding a3 decoded decode.rd_of decode.rs1_of decode.rs2_of decode.i_immediate_of decode.s_immediate_of decode.u_immediate_of decode.b_offset_of
    decode.j_offset_of key_in scalar_table r_type i_type s_type b_type u_type j_type amo_type whole_word fixed span
none-a3 = refl

none-a4 : is_in 0x00200008 (written_next a4 1) ≡ false
unfolding a4 decoded decode.rd_of decode.rs1_of decode.rs2_of decode.i_immediate_of decode.s_immediate_of decode.u_immediate_of decode.b_offset_of
    decode.j_offset_of key_in scalar_table r_type i_type s_type b_type u_type j_type amo_type whole_word fixed span
none-a4 = refl

none-a5 : is_in 0x00200008 (written_next a5 1) ≡ false
unfolding a5 decoded decode.rd_of decode.rs1_of decode.rs2_of decode.i_immediate_of decode.s_immediate_of decode.u_immediate_of decode.b_offset_of
    decode.j_offset_of key_in scalar_table r_type i_type s_type b_type u_type j_type amo_type whole_word fixed span
none-a5 = refl

none-a6 : is_in 0x00200008 (written_next a6 1) ≡ false
unfolding a6 decoded decode.rd_of decode.rs1_of decode.rs2_of decode.i_immediate_of decode.s_immediate_of decode.u_immediate_of decode.b_offset_of
    decode.j_offset_of key_in scalar_table r_type i_type s_type b_type u_type j_type amo_type whole_word fixed span
none-a6 = refl

none-a7 : is_in 0x00200008 (written_next a7 1) ≡ false
unfolding a7 decoded decode.rd_of decode.rs1_of decode.rs2_of decode.i_immediate_of decode.s_immediate_of decode.u_immediate_of decode.b_offset_of
    decode.j_offset_of key_in scalar_table r_type i_type s_type b_type u_type j_type amo_type whole_word fixed span
none-a7 = refl

none-a8 : is_in 0x00200008 (written_next a8 1) ≡ false
unfolding a8 decoded decode.rd_of decode.rs1_of decode.rs2_of decode.i_immediate_of decode.s_immediate_of decode.u_immediate_of decode.b_offset_of
    decode.j_offset_of key_in scalar_table r_type i_type s_type b_type u_type j_type amo_type whole_word fixed span
none-a8 = refl

none-a9 : is_in 0x00200008 (written_next a9 1) ≡ false
unfolding a9 decoded decode.rd_of decode.rs1_of decode.rs2_of decode.i_immediate_of decode.s_immediate_of decode.u_immediate_of decode.b_offset_of
    decode.j_offset_of key_in scalar_table r_type i_type s_type b_type u_type j_type amo_type whole_word fixed span
none-a9 = refl

none-a10 : is_in 0x00200008 (written_next a10 1) ≡ false
unfolding a10 decoded decode.rd_of decode.rs1_of decode.rs2_of decode.i_immediate_of decode.s_immediate_of decode.u_immediate_of decode.b_offset_of
    decode.j_offset_of key_in scalar_table r_type i_type s_type b_type u_type j_type amo_type whole_word fixed span
none-a10 = refl

none-a11 : is_in 0x00200008 (written_next a11 1) ≡ false
unfolding a11 decoded decode.rd_of decode.rs1_of decode.rs2_of decode.i_immediate_of decode.s_immediate_of decode.u_immediate_of decode.b_offset_of
    decode.j_offset_of key_in scalar_table r_type i_type s_type b_type u_type j_type amo_type whole_word fixed span
none-a11 = refl

none-a12 : is_in 0x00200008 (written_next a12 1) ≡ false
unfolding a12 decoded decode.rd_of decode.rs1_of decode.rs2_of decode.i_immediate_of decode.s_immediate_of decode.u_immediate_of decode.b_offset_of
    decode.j_offset_of key_in scalar_table r_type i_type s_type b_type u_type j_type amo_type whole_word fixed span
none-a12 = refl

none-a13 : is_in 0x00200008 (written_next a13 1) ≡ false
unfolding a13 decoded decode.rd_of decode.rs1_of decode.rs2_of decode.i_immediate_of decode.s_immediate_of decode.u_immediate_of decode.b_offset_of
    decode.j_offset_of key_in scalar_table r_type i_type s_type b_type u_type j_type amo_type whole_word fixed span
none-a13 = refl

none-a14 : is_in 0x00200008 (written_next a14 1) ≡ false
unfolding a14 decoded decode.rd_of decode.rs1_of decode.rs2_of decode.i_immediate_of decode.s_immediate_of decode.u_immediate_of decode.b_offset_of
    decode.j_offset_of key_in scalar_table r_type i_type s_type b_type u_type j_type amo_type whole_word fixed span
none-a14 = refl

-- the second hart doesn't write the word
none : (s : State) → Seen s → is_in 0x00200008 (written_next s 1) ≡ false
none s at_a0 = none-a0
none s at_a1 = none-a1
none s at_a2 = none-a2
none s at_a3 = none-a3
none s at_a4 = none-a4
none s at_a5 = none-a5
none s at_a6 = none-a6
none s at_a7 = none-a7
none s at_a8 = none-a8
none s at_a9 = none-a9
none s at_a10 = none-a10
none s at_a11 = none-a11
none s at_a12 = none-a12
none s at_a13 = none-a13
none s at_a14 = none-a14

another : (written : Bool) (hart : ℕ) (known : Option ℕ) → (hart ≡ 1 → written ≡ false) → (known ≡ Some 1 → ⊥) → (if written then Some hart else known) ≡ Some 1
    → ⊥
another true hart known not_one not_known e = let one : hart ≡ 1 = cc e in true≢false (not_one one)
another false hart known not_one not_known e = not_known e

never : (turns : List ℕ) (s : State) → Seen s → (known : Option ℕ) → (known ≡ Some 1 → ⊥) → last_writer 0x00200008 known s turns ≡ Some 1 → ⊥
never [] s seen known not_known e = not_known e
never (hart ∷ turns) s seen known not_known e =
    never turns (turn s hart) (closed s seen hart) (if is_in 0x00200008 (written_next s hart) then Some hart else known)
    (another (is_in 0x00200008 (written_next s hart)) hart known (λ one. ap (λ h. is_in 0x00200008 (written_next s h)) one ∙ none s seen) not_known) e

done : all_finished (run lonely (0 ∷ 0 ∷ 0 ∷ 0 ∷ 1 ∷ 1 ∷ [])) ≡ true
unfolding decoded decode.rd_of decode.rs1_of decode.rs2_of decode.i_immediate_of decode.s_immediate_of decode.u_immediate_of decode.b_offset_of
    decode.j_offset_of key_in scalar_table r_type i_type s_type b_type u_type j_type amo_type whole_word fixed span
done = refl

did : last_writer 0x00200008 None lonely (0 ∷ 0 ∷ 0 ∷ 0 ∷ 1 ∷ 1 ∷ []) ≡ Some 0
unfolding decoded decode.rd_of decode.rs1_of decode.rs2_of decode.i_immediate_of decode.s_immediate_of decode.u_immediate_of decode.b_offset_of
    decode.j_offset_of key_in scalar_table r_type i_type s_type b_type u_type j_type amo_type whole_word fixed span
did = refl

begun : lonely ≡ a0
unfolding a0
begun = refl

pub others-do-nothing : OthersDoNothing
others-do-nothing = ((0 ∷ 0 ∷ 0 ∷ 0 ∷ 1 ∷ 1 ∷ [], done, did), λ turns e. never turns lonely (subst Seen (sym begun) at_a0) None (λ f. cc f) e)

-- Harts that race after a gate, that wait at a lock, and that jump for ever.
use Rattle.std.proofs.Common.{◌≡◌, ℕ, zero, suc, List, [], ◌∷◌, ◌++◌, Some, true, false, refl, ap, ◌∙◌, sym, subst, arith, inl, inr}
use Rattle.std.specs.Prelude.{◌⊎◌, slice_get}
use Rattle.rv_encoding.specs.Decoding.{decoded}
use Rattle.rv_encoding.specs.Decoding as decode
use Rattle.rv_encoding.specs.Operations.{key_in}
use Rattle.rv_insn.specs.Table.{scalar_table, r_type, i_type, s_type, b_type, u_type, j_type, amo_type, whole_word}
use Rattle.rv_insn.specs.Encoding.{fixed, span}
use Rattle.hart_core.specs.declared.harts.Status.TheVariants.{Running, Finished}
use Rattle.hart_core.specs.HartState.{HartState}
use Rattle.multi_hart.specs.Run.{State, all_finished, hart_at, run, turn}
use Rattle.multi_hart.proofs.Resting.{run-append}
use Rattle.work_sharing.specs.Turns.{OnlyBy, Race, Waits, control_words}
use Rattle.work_sharing.specs.Refutations.{hasty, HastyHartsRace, locking, LockedHartsStay, jumping, JumpsNeverEnd}

-- ---- a race

-- the second hart is to write its word, which the first is to read
abbrev hasty_turns : List ℕ
hasty_turns = 0 ∷ 0 ∷ 0 ∷ 0 ∷ 0 ∷ 0 ∷ 0 ∷ 0 ∷ 0 ∷ 0 ∷ 1 ∷ 1 ∷ 1 ∷ []

meeting : State
meeting = run hasty hasty_turns

race : Race (control_words 2) meeting
unfolding meeting decoded decode.rd_of decode.rs1_of decode.rs2_of decode.i_immediate_of decode.s_immediate_of decode.u_immediate_of decode.b_offset_of
    decode.j_offset_of key_in scalar_table r_type i_type s_type b_type u_type j_type amo_type whole_word fixed span
race = record {
  first = 1;
  second = 0;
  apart = λ e. cc e;
  one = hart_at meeting 1;
  other = hart_at meeting 0;
  is_first = refl;
  is_second = refl;
  place = 0x00200014;
  no_control = refl;
  written = refl;
  touched = inl refl;
}

met : run hasty hasty_turns ≡ meeting
unfolding meeting
met = refl

pub hasty-harts-race : HastyHartsRace
hasty-harts-race = (hasty_turns, subst (Race (control_words 2)) (sym met) race)

-- ---- a lock

abbrev taking : List ℕ
taking = 1 ∷ 1 ∷ 1 ∷ 1 ∷ 1 ∷ []

k0 : State
k0 = run locking (1 ∷ 1 ∷ 1 ∷ 1 ∷ 1 ∷ [])

k1 : State
k1 = run locking (1 ∷ 1 ∷ 1 ∷ 1 ∷ 1 ∷ 0 ∷ [])

k2 : State
k2 = run locking (1 ∷ 1 ∷ 1 ∷ 1 ∷ 1 ∷ 0 ∷ 0 ∷ [])

k3 : State
k3 = run locking (1 ∷ 1 ∷ 1 ∷ 1 ∷ 1 ∷ 0 ∷ 0 ∷ 0 ∷ [])

k4 : State
k4 = run locking (1 ∷ 1 ∷ 1 ∷ 1 ∷ 1 ∷ 0 ∷ 0 ∷ 0 ∷ 0 ∷ [])

-- the second hart has the lock, and the first makes turns alone
data Locked : State → Type 0 where
  at_k0 : Locked k0
  at_k1 : Locked k1
  at_k2 : Locked k2
  at_k3 : Locked k3
  at_k4 : Locked k4

turn-k0 : turn k0 0 ≡ k1
unfolding k0 k1 decoded decode.rd_of decode.rs1_of decode.rs2_of decode.i_immediate_of decode.s_immediate_of decode.u_immediate_of decode.b_offset_of
    decode.j_offset_of key_in scalar_table r_type i_type s_type b_type u_type j_type amo_type whole_word fixed span
turn-k0 = refl

there-k0 : slice_get k0.harts 0 ≡ Some (hart_at k0 0)
unfolding k0 decoded decode.rd_of decode.rs1_of decode.rs2_of decode.i_immediate_of decode.s_immediate_of decode.u_immediate_of decode.b_offset_of
    decode.j_offset_of key_in scalar_table r_type i_type s_type b_type u_type j_type amo_type whole_word fixed span
there-k0 = refl

runs-k0 : (hart_at k0 0).status ≡ Running
unfolding k0 decoded decode.rd_of decode.rs1_of decode.rs2_of decode.i_immediate_of decode.s_immediate_of decode.u_immediate_of decode.b_offset_of
    decode.j_offset_of key_in scalar_table r_type i_type s_type b_type u_type j_type amo_type whole_word fixed span
runs-k0 = refl

turn-k1 : turn k1 0 ≡ k2
unfolding k1 k2 decoded decode.rd_of decode.rs1_of decode.rs2_of decode.i_immediate_of decode.s_immediate_of decode.u_immediate_of decode.b_offset_of
    decode.j_offset_of key_in scalar_table r_type i_type s_type b_type u_type j_type amo_type whole_word fixed span
turn-k1 = refl

there-k1 : slice_get k1.harts 0 ≡ Some (hart_at k1 0)
unfolding k1 decoded decode.rd_of decode.rs1_of decode.rs2_of decode.i_immediate_of decode.s_immediate_of decode.u_immediate_of decode.b_offset_of
    decode.j_offset_of key_in scalar_table r_type i_type s_type b_type u_type j_type amo_type whole_word fixed span
there-k1 = refl

runs-k1 : (hart_at k1 0).status ≡ Running
unfolding k1 decoded decode.rd_of decode.rs1_of decode.rs2_of decode.i_immediate_of decode.s_immediate_of decode.u_immediate_of decode.b_offset_of
    decode.j_offset_of key_in scalar_table r_type i_type s_type b_type u_type j_type amo_type whole_word fixed span
runs-k1 = refl

turn-k2 : turn k2 0 ≡ k3
unfolding k2 k3 decoded decode.rd_of decode.rs1_of decode.rs2_of decode.i_immediate_of decode.s_immediate_of decode.u_immediate_of decode.b_offset_of
    decode.j_offset_of key_in scalar_table r_type i_type s_type b_type u_type j_type amo_type whole_word fixed span
turn-k2 = refl

there-k2 : slice_get k2.harts 0 ≡ Some (hart_at k2 0)
unfolding k2 decoded decode.rd_of decode.rs1_of decode.rs2_of decode.i_immediate_of decode.s_immediate_of decode.u_immediate_of decode.b_offset_of
    decode.j_offset_of key_in scalar_table r_type i_type s_type b_type u_type j_type amo_type whole_word fixed span
there-k2 = refl

runs-k2 : (hart_at k2 0).status ≡ Running
unfolding k2 decoded decode.rd_of decode.rs1_of decode.rs2_of decode.i_immediate_of decode.s_immediate_of decode.u_immediate_of decode.b_offset_of
    decode.j_offset_of key_in scalar_table r_type i_type s_type b_type u_type j_type amo_type whole_word fixed span
runs-k2 = refl

turn-k3 : turn k3 0 ≡ k4
unfolding k3 k4 decoded decode.rd_of decode.rs1_of decode.rs2_of decode.i_immediate_of decode.s_immediate_of decode.u_immediate_of decode.b_offset_of
    decode.j_offset_of key_in scalar_table r_type i_type s_type b_type u_type j_type amo_type whole_word fixed span
turn-k3 = refl

there-k3 : slice_get k3.harts 0 ≡ Some (hart_at k3 0)
unfolding k3 decoded decode.rd_of decode.rs1_of decode.rs2_of decode.i_immediate_of decode.s_immediate_of decode.u_immediate_of decode.b_offset_of
    decode.j_offset_of key_in scalar_table r_type i_type s_type b_type u_type j_type amo_type whole_word fixed span
there-k3 = refl

runs-k3 : (hart_at k3 0).status ≡ Running
unfolding k3 decoded decode.rd_of decode.rs1_of decode.rs2_of decode.i_immediate_of decode.s_immediate_of decode.u_immediate_of decode.b_offset_of
    decode.j_offset_of key_in scalar_table r_type i_type s_type b_type u_type j_type amo_type whole_word fixed span
runs-k3 = refl

turn-k4 : turn k4 0 ≡ k3
unfolding k4 k3 decoded decode.rd_of decode.rs1_of decode.rs2_of decode.i_immediate_of decode.s_immediate_of decode.u_immediate_of decode.b_offset_of
    decode.j_offset_of key_in scalar_table r_type i_type s_type b_type u_type j_type amo_type whole_word fixed span
turn-k4 = refl

there-k4 : slice_get k4.harts 0 ≡ Some (hart_at k4 0)
unfolding k4 decoded decode.rd_of decode.rs1_of decode.rs2_of decode.i_immediate_of decode.s_immediate_of decode.u_immediate_of decode.b_offset_of
    decode.j_offset_of key_in scalar_table r_type i_type s_type b_type u_type j_type amo_type whole_word fixed span
there-k4 = refl

runs-k4 : (hart_at k4 0).status ≡ Running
unfolding k4 decoded decode.rd_of decode.rs1_of decode.rs2_of decode.i_immediate_of decode.s_immediate_of decode.u_immediate_of decode.b_offset_of
    decode.j_offset_of key_in scalar_table r_type i_type s_type b_type u_type j_type amo_type whole_word fixed span
runs-k4 = refl

stays : (s : State) → Locked s → Locked (turn s 0)
stays s at_k0 = subst Locked (sym turn-k0) at_k1
stays s at_k1 = subst Locked (sym turn-k1) at_k2
stays s at_k2 = subst Locked (sym turn-k2) at_k3
stays s at_k3 = subst Locked (sym turn-k3) at_k4
stays s at_k4 = subst Locked (sym turn-k4) at_k3

there : (s : State) → Locked s → slice_get s.harts 0 ≡ Some (hart_at s 0)
there s at_k0 = there-k0
there s at_k1 = there-k1
there s at_k2 = there-k2
there s at_k3 = there-k3
there s at_k4 = there-k4

runs : (s : State) → Locked s → (hart_at s 0).status ≡ Running
runs s at_k0 = runs-k0
runs s at_k1 = runs-k1
runs s at_k2 = runs-k2
runs s at_k3 = runs-k3
runs s at_k4 = runs-k4

stays-all : (more : List ℕ) → OnlyBy 0 more → (s : State) → Locked s → Locked (run s more)
stays-all [] only s locked = locked
stays-all (hart ∷ more) only s locked = stays-all more only.1 (turn s hart) (subst (λ h. Locked (turn s h)) (sym only.0) (stays s locked))

taken : run locking taking ≡ k0
unfolding k0
taken = refl

held : (more : List ℕ) → OnlyBy 0 more → Locked (run locking (taking ++ more))
held more only = subst Locked (sym (run-append locking taking more)) (stays-all more only (run locking taking) (subst Locked (sym taken) at_k0))

unfinished : (s : State) → Locked s → ((one : HartState) → slice_get s.harts 0 ≡ Some one → one.status ≡ Finished) → ⊥
unfinished s locked finished = let q = sym (runs s locked) ∙ finished (hart_at s 0) (there s locked) in cc q

pub locked-harts-stay : LockedHartsStay
locked-harts-stay = (
  taking,
  λ more only either. elim either [
    | inl waits ↦ let none = waits.within in absurd (omega (arith, none))
    | inr finished ↦ unfinished (run locking (taking ++ more)) (held more only) finished
  ],
)

-- ---- a jump to itself

jump : (hart : ℕ) → turn jumping hart ≡ jumping
unfolding decoded decode.rd_of decode.rs1_of decode.rs2_of decode.i_immediate_of decode.s_immediate_of decode.u_immediate_of decode.b_offset_of
    decode.j_offset_of key_in scalar_table r_type i_type s_type b_type u_type j_type amo_type whole_word fixed span
jump zero = refl
jump (suc zero) = refl
jump (suc (suc k)) = refl

goes_on : (turns : List ℕ) → run jumping turns ≡ jumping
goes_on [] = refl
goes_on (hart ∷ turns) = ap (λ s. run s turns) (jump hart) ∙ goes_on turns

running : all_finished jumping ≡ false
unfolding decoded decode.rd_of decode.rs1_of decode.rs2_of decode.i_immediate_of decode.s_immediate_of decode.u_immediate_of decode.b_offset_of
    decode.j_offset_of key_in scalar_table r_type i_type s_type b_type u_type j_type amo_type whole_word fixed span
running = refl

pub jumps-never-end : JumpsNeverEnd
jumps-never-end turns = ap all_finished (goes_on turns) ∙ running

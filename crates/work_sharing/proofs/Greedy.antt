-- Who draws first does all tasks: how far both harts are, and who drew first, decides the state and who wrote each word.
use Rattle.std.proofs.Common.{◌≡◌, ℕ, zero, suc, List, [], ◌∷◌, Option, Some, None, true, refl, ap, ◌∙◌, sym}
use Rattle.std.specs.Prelude.{if◌then◌else◌}
use Rattle.rv_encoding.specs.Decoding.{decoded}
use Rattle.rv_encoding.specs.Decoding as decode
use Rattle.rv_encoding.specs.Operations.{key_in}
use Rattle.rv_insn.specs.Table.{scalar_table, r_type, i_type, s_type, b_type, u_type, j_type, amo_type, whole_word}
use Rattle.rv_insn.specs.Encoding.{fixed, span}
use Rattle.multi_hart.specs.Run.{State, all_finished, run, turn, is_in}
use Rattle.work_sharing.specs.Turns.{last_writer, written_next}
use Rattle.work_sharing.specs.Refutations.{greedy, DoesBoth, NeverApart, FirstDoesAll}

-- ---- how far the harts are

-- a hart, as long as nobody has drawn: at its first or its second instruction
data Early : Type 0 where
  E0 : Early
  E1 : Early

-- the hart that drew first, from its third instruction on; A6 has finished
data Ahead : Type 0 where
  A2 : Ahead
  A3 : Ahead
  A4 : Ahead
  A5 : Ahead
  A6 : Ahead

-- the other one, which jumps from its third instruction to the last; B4 has finished
data Behind : Type 0 where
  B0 : Behind
  B1 : Behind
  B2 : Behind
  B3 : Behind
  B4 : Behind

-- nobody has drawn; the first hart drew first; the second did
data Place : Type 0 where
  Before : Early → Early → Place
  Won : Ahead → Behind → Place
  Lost : Ahead → Behind → Place

abbrev ahead : Ahead → Ahead
ahead A2 = A3
ahead A3 = A4
ahead A4 = A5
ahead A5 = A6
ahead A6 = A6

abbrev behind : Behind → Behind
behind B0 = B1
behind B1 = B2
behind B2 = B3
behind B3 = B4
behind B4 = B4

-- the place after a turn of the hart
abbrev next : Place → ℕ → Place
next (Before E0 b) zero = Before E1 b
next (Before E1 E0) zero = Won A2 B0
next (Before E1 E1) zero = Won A2 B1
next (Before a E0) (suc zero) = Before a E1
next (Before E0 E1) (suc zero) = Lost A2 B0
next (Before E1 E1) (suc zero) = Lost A2 B1
next (Won a b) zero = Won (ahead a) b
next (Won a b) (suc zero) = Won a (behind b)
next (Lost a b) zero = Lost a (behind b)
next (Lost a b) (suc zero) = Lost (ahead a) b
next place (suc (suc k)) = place

-- ---- the state at a place, and who wrote the words

abbrev early_turns : ℕ → Early → List ℕ → List ℕ
early_turns hart E0 others = others
early_turns hart E1 others = hart ∷ others

abbrev ahead_turns : ℕ → Ahead → List ℕ → List ℕ
ahead_turns hart A2 others = hart ∷ hart ∷ others
ahead_turns hart A3 others = hart ∷ hart ∷ hart ∷ others
ahead_turns hart A4 others = hart ∷ hart ∷ hart ∷ hart ∷ others
ahead_turns hart A5 others = hart ∷ hart ∷ hart ∷ hart ∷ hart ∷ others
ahead_turns hart A6 others = hart ∷ hart ∷ hart ∷ hart ∷ hart ∷ hart ∷ others

abbrev behind_turns : ℕ → Behind → List ℕ
behind_turns hart B0 = []
behind_turns hart B1 = hart ∷ []
behind_turns hart B2 = hart ∷ hart ∷ []
behind_turns hart B3 = hart ∷ hart ∷ hart ∷ []
behind_turns hart B4 = hart ∷ hart ∷ hart ∷ hart ∷ []

-- some turns that lead there
abbrev turns_to : Place → List ℕ
turns_to (Before a b) = early_turns 0 a (early_turns 1 b [])
turns_to (Won a b) = ahead_turns 0 a (behind_turns 1 b)
turns_to (Lost a b) = ahead_turns 1 a (behind_turns 0 b)

at : Place → State
at place = run greedy (turns_to place)

-- who wrote the first word, and who the second, where this hart drew first
abbrev wrote_first : ℕ → Ahead → Option ℕ
wrote_first hart A2 = None
wrote_first hart A3 = None
wrote_first hart A4 = Some hart
wrote_first hart A5 = Some hart
wrote_first hart A6 = Some hart

abbrev wrote_second : ℕ → Ahead → Option ℕ
wrote_second hart A2 = None
wrote_second hart A3 = None
wrote_second hart A4 = None
wrote_second hart A5 = Some hart
wrote_second hart A6 = Some hart

abbrev firsts : Place → Option ℕ
firsts (Before a b) = None
firsts (Won a b) = wrote_first 0 a
firsts (Lost a b) = wrote_first 1 a

abbrev seconds : Place → Option ℕ
seconds (Before a b) = None
seconds (Won a b) = wrote_second 0 a
seconds (Lost a b) = wrote_second 1 a

-- ---- each turn leads from one of these places to another

-- what a turn at a place makes: the state, and who wrote the words
abbrev Leads : Place → ℕ → Type 0
Leads place hart =
    (turn (at place) hart ≡ at (next place hart))
    × ((if is_in 0x00200008 (written_next (at place) hart) then Some hart else firsts place) ≡ firsts (next place hart))
    × ((if is_in 0x0020000C (written_next (at place) hart) then Some hart else seconds place) ≡ seconds (next place hart))

before : (a : Early) (b : Early) (hart : ℕ) → Leads (Before a b) hart
unfolding at decoded decode.rd_of decode.rs1_of decode.rs2_of decode.i_immediate_of decode.s_immediate_of decode.u_immediate_of decode.b_offset_of
    decode.j_offset_of key_in scalar_table r_type i_type s_type b_type u_type j_type amo_type whole_word fixed span
before E0 E0 zero = (refl, refl, refl)
before E0 E0 (suc zero) = (refl, refl, refl)
before E0 E0 (suc (suc k)) = (refl, refl, refl)
before E0 E1 zero = (refl, refl, refl)
before E0 E1 (suc zero) = (refl, refl, refl)
before E0 E1 (suc (suc k)) = (refl, refl, refl)
before E1 E0 zero = (refl, refl, refl)
before E1 E0 (suc zero) = (refl, refl, refl)
before E1 E0 (suc (suc k)) = (refl, refl, refl)
before E1 E1 zero = (refl, refl, refl)
before E1 E1 (suc zero) = (refl, refl, refl)
before E1 E1 (suc (suc k)) = (refl, refl, refl)

won : (a : Ahead) (b : Behind) (hart : ℕ) → Leads (Won a b) hart
unfolding at decoded decode.rd_of decode.rs1_of decode.rs2_of decode.i_immediate_of decode.s_immediate_of decode.u_immediate_of decode.b_offset_of
    decode.j_offset_of key_in scalar_table r_type i_type s_type b_type u_type j_type amo_type whole_word fixed span
won A2 B0 zero = (refl, refl, refl)
won A2 B0 (suc zero) = (refl, refl, refl)
won A2 B0 (suc (suc k)) = (refl, refl, refl)
won A2 B1 zero = (refl, refl, refl)
won A2 B1 (suc zero) = (refl, refl, refl)
won A2 B1 (suc (suc k)) = (refl, refl, refl)
won A2 B2 zero = (refl, refl, refl)
won A2 B2 (suc zero) = (refl, refl, refl)
won A2 B2 (suc (suc k)) = (refl, refl, refl)
won A2 B3 zero = (refl, refl, refl)
won A2 B3 (suc zero) = (refl, refl, refl)
won A2 B3 (suc (suc k)) = (refl, refl, refl)
won A2 B4 zero = (refl, refl, refl)
won A2 B4 (suc zero) = (refl, refl, refl)
won A2 B4 (suc (suc k)) = (refl, refl, refl)
won A3 B0 zero = (refl, refl, refl)
won A3 B0 (suc zero) = (refl, refl, refl)
won A3 B0 (suc (suc k)) = (refl, refl, refl)
won A3 B1 zero = (refl, refl, refl)
won A3 B1 (suc zero) = (refl, refl, refl)
won A3 B1 (suc (suc k)) = (refl, refl, refl)
won A3 B2 zero = (refl, refl, refl)
won A3 B2 (suc zero) = (refl, refl, refl)
won A3 B2 (suc (suc k)) = (refl, refl, refl)
won A3 B3 zero = (refl, refl, refl)
won A3 B3 (suc zero) = (refl, refl, refl)
won A3 B3 (suc (suc k)) = (refl, refl, refl)
won A3 B4 zero = (refl, refl, refl)
won A3 B4 (suc zero) = (refl, refl, refl)
won A3 B4 (suc (suc k)) = (refl, refl, refl)
won A4 B0 zero = (refl, refl, refl)
won A4 B0 (suc zero) = (refl, refl, refl)
won A4 B0 (suc (suc k)) = (refl, refl, refl)
won A4 B1 zero = (refl, refl, refl)
won A4 B1 (suc zero) = (refl, refl, refl)
won A4 B1 (suc (suc k)) = (refl, refl, refl)
won A4 B2 zero = (refl, refl, refl)
won A4 B2 (suc zero) = (refl, refl, refl)
won A4 B2 (suc (suc k)) = (refl, refl, refl)
won A4 B3 zero = (refl, refl, refl)
won A4 B3 (suc zero) = (refl, refl, refl)
won A4 B3 (suc (suc k)) = (refl, refl, refl)
won A4 B4 zero = (refl, refl, refl)
won A4 B4 (suc zero) = (refl, refl, refl)
won A4 B4 (suc (suc k)) = (refl, refl, refl)
won A5 B0 zero = (refl, refl, refl)
won A5 B0 (suc zero) = (refl, refl, refl)
won A5 B0 (suc (suc k)) = (refl, refl, refl)
won A5 B1 zero = (refl, refl, refl)
won A5 B1 (suc zero) = (refl, refl, refl)
won A5 B1 (suc (suc k)) = (refl, refl, refl)
won A5 B2 zero = (refl, refl, refl)
won A5 B2 (suc zero) = (refl, refl, refl)
won A5 B2 (suc (suc k)) = (refl, refl, refl)
won A5 B3 zero = (refl, refl, refl)
won A5 B3 (suc zero) = (refl, refl, refl)
won A5 B3 (suc (suc k)) = (refl, refl, refl)
won A5 B4 zero = (refl, refl, refl)
won A5 B4 (suc zero) = (refl, refl, refl)
won A5 B4 (suc (suc k)) = (refl, refl, refl)
won A6 B0 zero = (refl, refl, refl)
won A6 B0 (suc zero) = (refl, refl, refl)
won A6 B0 (suc (suc k)) = (refl, refl, refl)
won A6 B1 zero = (refl, refl, refl)
won A6 B1 (suc zero) = (refl, refl, refl)
won A6 B1 (suc (suc k)) = (refl, refl, refl)
won A6 B2 zero = (refl, refl, refl)
won A6 B2 (suc zero) = (refl, refl, refl)
won A6 B2 (suc (suc k)) = (refl, refl, refl)
won A6 B3 zero = (refl, refl, refl)
won A6 B3 (suc zero) = (refl, refl, refl)
won A6 B3 (suc (suc k)) = (refl, refl, refl)
won A6 B4 zero = (refl, refl, refl)
won A6 B4 (suc zero) = (refl, refl, refl)
won A6 B4 (suc (suc k)) = (refl, refl, refl)

lost : (a : Ahead) (b : Behind) (hart : ℕ) → Leads (Lost a b) hart
unfolding at decoded decode.rd_of decode.rs1_of decode.rs2_of decode.i_immediate_of decode.s_immediate_of decode.u_immediate_of decode.b_offset_of
    decode.j_offset_of key_in scalar_table r_type i_type s_type b_type u_type j_type amo_type whole_word fixed span
lost A2 B0 zero = (refl, refl, refl)
lost A2 B0 (suc zero) = (refl, refl, refl)
lost A2 B0 (suc (suc k)) = (refl, refl, refl)
lost A2 B1 zero = (refl, refl, refl)
lost A2 B1 (suc zero) = (refl, refl, refl)
lost A2 B1 (suc (suc k)) = (refl, refl, refl)
lost A2 B2 zero = (refl, refl, refl)
lost A2 B2 (suc zero) = (refl, refl, refl)
lost A2 B2 (suc (suc k)) = (refl, refl, refl)
lost A2 B3 zero = (refl, refl, refl)
lost A2 B3 (suc zero) = (refl, refl, refl)
lost A2 B3 (suc (suc k)) = (refl, refl, refl)
lost A2 B4 zero = (refl, refl, refl)
lost A2 B4 (suc zero) = (refl, refl, refl)
lost A2 B4 (suc (suc k)) = (refl, refl, refl)
lost A3 B0 zero = (refl, refl, refl)
lost A3 B0 (suc zero) = (refl, refl, refl)
lost A3 B0 (suc (suc k)) = (refl, refl, refl)
lost A3 B1 zero = (refl, refl, refl)
lost A3 B1 (suc zero) = (refl, refl, refl)
lost A3 B1 (suc (suc k)) = (refl, refl, refl)
lost A3 B2 zero = (refl, refl, refl)
lost A3 B2 (suc zero) = (refl, refl, refl)
lost A3 B2 (suc (suc k)) = (refl, refl, refl)
lost A3 B3 zero = (refl, refl, refl)
lost A3 B3 (suc zero) = (refl, refl, refl)
lost A3 B3 (suc (suc k)) = (refl, refl, refl)
lost A3 B4 zero = (refl, refl, refl)
lost A3 B4 (suc zero) = (refl, refl, refl)
lost A3 B4 (suc (suc k)) = (refl, refl, refl)
lost A4 B0 zero = (refl, refl, refl)
lost A4 B0 (suc zero) = (refl, refl, refl)
lost A4 B0 (suc (suc k)) = (refl, refl, refl)
lost A4 B1 zero = (refl, refl, refl)
lost A4 B1 (suc zero) = (refl, refl, refl)
lost A4 B1 (suc (suc k)) = (refl, refl, refl)
lost A4 B2 zero = (refl, refl, refl)
lost A4 B2 (suc zero) = (refl, refl, refl)
lost A4 B2 (suc (suc k)) = (refl, refl, refl)
lost A4 B3 zero = (refl, refl, refl)
lost A4 B3 (suc zero) = (refl, refl, refl)
lost A4 B3 (suc (suc k)) = (refl, refl, refl)
lost A4 B4 zero = (refl, refl, refl)
lost A4 B4 (suc zero) = (refl, refl, refl)
lost A4 B4 (suc (suc k)) = (refl, refl, refl)
lost A5 B0 zero = (refl, refl, refl)
lost A5 B0 (suc zero) = (refl, refl, refl)
lost A5 B0 (suc (suc k)) = (refl, refl, refl)
lost A5 B1 zero = (refl, refl, refl)
lost A5 B1 (suc zero) = (refl, refl, refl)
lost A5 B1 (suc (suc k)) = (refl, refl, refl)
lost A5 B2 zero = (refl, refl, refl)
lost A5 B2 (suc zero) = (refl, refl, refl)
lost A5 B2 (suc (suc k)) = (refl, refl, refl)
lost A5 B3 zero = (refl, refl, refl)
lost A5 B3 (suc zero) = (refl, refl, refl)
lost A5 B3 (suc (suc k)) = (refl, refl, refl)
lost A5 B4 zero = (refl, refl, refl)
lost A5 B4 (suc zero) = (refl, refl, refl)
lost A5 B4 (suc (suc k)) = (refl, refl, refl)
lost A6 B0 zero = (refl, refl, refl)
lost A6 B0 (suc zero) = (refl, refl, refl)
lost A6 B0 (suc (suc k)) = (refl, refl, refl)
lost A6 B1 zero = (refl, refl, refl)
lost A6 B1 (suc zero) = (refl, refl, refl)
lost A6 B1 (suc (suc k)) = (refl, refl, refl)
lost A6 B2 zero = (refl, refl, refl)
lost A6 B2 (suc zero) = (refl, refl, refl)
lost A6 B2 (suc (suc k)) = (refl, refl, refl)
lost A6 B3 zero = (refl, refl, refl)
lost A6 B3 (suc zero) = (refl, refl, refl)
lost A6 B3 (suc (suc k)) = (refl, refl, refl)
lost A6 B4 zero = (refl, refl, refl)
lost A6 B4 (suc zero) = (refl, refl, refl)
lost A6 B4 (suc (suc k)) = (refl, refl, refl)

leads : (place : Place) (hart : ℕ) → Leads place hart
leads (Before a b) hart = before a b hart
leads (Won a b) hart = won a b hart
leads (Lost a b) hart = lost a b hart

-- the place after turns
abbrev after : Place → List ℕ → Place
after place [] = place
after place (hart ∷ turns) = after (next place hart) turns

first_after : (turns : List ℕ) (place : Place) → last_writer 0x00200008 (firsts place) (at place) turns ≡ firsts (after place turns)
first_after [] place = refl
first_after (hart ∷ turns) place =
    ap (λ known. last_writer 0x00200008 known (turn (at place) hart) turns) (leads place hart).1
    ∙ (ap (λ state. last_writer 0x00200008 (firsts (next place hart)) state turns) (leads place hart).0 ∙ first_after turns (next place hart))

second_after : (turns : List ℕ) (place : Place) → last_writer 0x0020000C (seconds place) (at place) turns ≡ seconds (after place turns)
second_after [] place = refl
second_after (hart ∷ turns) place =
    ap (λ known. last_writer 0x0020000C known (turn (at place) hart) turns) (leads place hart).2
    ∙ (ap (λ state. last_writer 0x0020000C (seconds (next place hart)) state turns) (leads place hart).0 ∙ second_after turns (next place hart))

-- ---- no place has the words of two harts

one_hart : (hart : ℕ) (a : Ahead) (first second : ℕ) → wrote_first hart a ≡ Some first → wrote_second hart a ≡ Some second → first ≡ second
one_hart hart A2 first second e f = cc e
one_hart hart A3 first second e f = cc e
one_hart hart A4 first second e f = cc f
one_hart hart A5 first second e f = cc (e, f)
one_hart hart A6 first second e f = cc (e, f)

same : (place : Place) (first second : ℕ) → firsts place ≡ Some first → seconds place ≡ Some second → first ≡ second
same (Before a b) first second e f = cc e
same (Won a b) first second e f = one_hart 0 a first second e f
same (Lost a b) first second e f = one_hart 1 a first second e f

begun : greedy ≡ at (Before E0 E0)
unfolding at
begun = refl

-- who wrote both words after turns from the start is one hart
never_apart : (turns : List ℕ) (first second : ℕ) → last_writer 0x00200008 None greedy turns ≡ Some first
    → last_writer 0x0020000C None greedy turns ≡ Some second → first ≡ second
never_apart turns first second e f =
    same (after (Before E0 E0) turns) first second
    (sym (first_after turns (Before E0 E0)) ∙ (ap (λ state. last_writer 0x00200008 None state turns) (sym begun) ∙ e))
    (sym (second_after turns (Before E0 E0)) ∙ (ap (λ state. last_writer 0x0020000C None state turns) (sym begun) ∙ f))

both-0 : DoesBoth 0
unfolding decoded decode.rd_of decode.rs1_of decode.rs2_of decode.i_immediate_of decode.s_immediate_of decode.u_immediate_of decode.b_offset_of
    decode.j_offset_of key_in scalar_table r_type i_type s_type b_type u_type j_type amo_type whole_word fixed span
both-0 = (0 ∷ 0 ∷ 0 ∷ 0 ∷ 0 ∷ 0 ∷ 1 ∷ 1 ∷ 1 ∷ 1 ∷ [], refl, refl, refl)

both-1 : DoesBoth 1
unfolding decoded decode.rd_of decode.rs1_of decode.rs2_of decode.i_immediate_of decode.s_immediate_of decode.u_immediate_of decode.b_offset_of
    decode.j_offset_of key_in scalar_table r_type i_type s_type b_type u_type j_type amo_type whole_word fixed span
both-1 = (1 ∷ 1 ∷ 1 ∷ 1 ∷ 1 ∷ 1 ∷ 0 ∷ 0 ∷ 0 ∷ 0 ∷ [], refl, refl, refl)

pub first-does-all : FirstDoesAll
first-does-all = (both-0, both-1, λ turns e f. cc (never_apart turns 0 1 e f), λ turns e f. cc (never_apart turns 1 0 e f))

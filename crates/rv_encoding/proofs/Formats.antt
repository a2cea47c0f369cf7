-- Each format both ways: a word with the right parts stands for a row of the format, and a word that stands for one is decoded to its fields.
use Rattle.std.proofs.Common.{◌≡◌, ℕ, ◌+◌, ◌*◌, ◌^◌, ◌<◌, List, [], ◌∷◌, ◌++◌, length, refl, sym, ◌∙◌, ap, arith, lit<, ℤ, pos, Option, Some, Bool, true, false}
use Rattle.std.proofs.Common.{nat_eq}
use Rattle.rv_insn.specs.Encoding.{Holds, number_at, span, fixed, signed, field_of, bit_of}
use Rattle.rv_insn.specs.Encoding.Field.{Unsigned, Signed}
use Rattle.rv_insn.specs.Table as table
use Rattle.rv_insn.specs.Table.{i_places, s_places, b_places, u_places, j_places, r_type, i_type, s_type, b_type, u_type, j_type, amo_type, whole_word}
use Rattle.rv_insn.specs.declared.instructions.Insn.{Insn}
use Rattle.rv_encoding.specs.Formats.{Stands}
use Rattle.rv_encoding.specs.Decoding.{part, rd_of, rs1_of, rs2_of, i_immediate_of, s_immediate_of, b_offset_of, u_immediate_of, j_offset_of, flag_of, by_keys}
use Rattle.rv_encoding.specs.Decoding.{decoded}
use Rattle.rv_encoding.proofs.Bits.{number_at-span, number_at-append, Holds-fixed, number_at-fixed, Holds-append, Holds-parts}

-- ---- keys: a part of the word that is fixed

key_made : (word low count value : ℕ) → part word low count ≡ value → Holds word (fixed (span low count) value)
key_made word low count value e = Holds-fixed word (span low count) value (number_at-span word low count ∙ e)

key_read : (word low count value : ℕ) → value < 2 ^ length (span low count) → Holds word (fixed (span low count) value) → part word low count ≡ value
key_read word low count value within h = sym (number_at-span word low count) ∙ number_at-fixed word (span low count) value within h

abbrev two_keys : ℕ → ℕ → List (ℕ × ℕ)
two_keys opcode funct3 = fixed (span 0 7) opcode ++ fixed (span 12 3) funct3

two_made : (word opcode funct3 : ℕ) → part word 0 7 ≡ opcode → part word 12 3 ≡ funct3 → Holds word (two_keys opcode funct3)
two_made word opcode funct3 opcode_is funct3_is = Holds-append word _ _ (key_made word 0 7 opcode opcode_is) (key_made word 12 3 funct3 funct3_is)

two_read : (word opcode funct3 : ℕ) → opcode < 2 ^ 7 → funct3 < 2 ^ 3 → Holds word (two_keys opcode funct3)
    → (part word 0 7 ≡ opcode) × (part word 12 3 ≡ funct3)
unfolding span
two_read word opcode funct3 small small' h =
    let parts = Holds-parts word (fixed (span 0 7) opcode) (fixed (span 12 3) funct3) h in
    (key_read word 0 7 opcode small parts.0, key_read word 12 3 funct3 small' parts.1)

-- ---- operands: the fields of each format, by the parts of the word

number_at-s : (word : ℕ) → number_at word s_places ≡ part word 7 5 + 2 ^ 5 * part word 25 7
unfolding span
number_at-s word =
    let a = number_at-append word (span 7 5) (span 25 7) in
    omega (arith, a, number_at-span word 7 5, number_at-span word 25 7)

number_at-b : (word : ℕ) → number_at word b_places ≡ part word 8 4 + 2 ^ 4 * (part word 25 6 + 2 ^ 6 * (part word 7 1 + 2 * part word 31 1))
unfolding span
number_at-b word =
    let a = number_at-append word (span 8 4 ++ span 25 6 ++ span 7 1) (span 31 1) in
    let b = number_at-append word (span 8 4 ++ span 25 6) (span 7 1) in
    let c = number_at-append word (span 8 4) (span 25 6) in
    omega (arith, a, b, c, number_at-span word 8 4, number_at-span word 25 6, number_at-span word 7 1, number_at-span word 31 1)

number_at-j : (word : ℕ) → number_at word j_places ≡ part word 21 10 + 2 ^ 10 * (part word 20 1 + 2 * (part word 12 8 + 2 ^ 8 * part word 31 1))
unfolding span
number_at-j word =
    let a = number_at-append word (span 21 10 ++ span 20 1 ++ span 12 8) (span 31 1) in
    let b = number_at-append word (span 21 10 ++ span 20 1) (span 12 8) in
    let c = number_at-append word (span 21 10) (span 20 1) in
    omega (arith, a, b, c, number_at-span word 21 10, number_at-span word 20 1, number_at-span word 12 8, number_at-span word 31 1)

pub rd_read : (word : ℕ) → field_of word table.rd ≡ pos (rd_of word)
unfolding rd_of
rd_read word = ap pos (number_at-span word 7 5)

pub rs1_read : (word : ℕ) → field_of word table.rs1 ≡ pos (rs1_of word)
unfolding rs1_of
rs1_read word = ap pos (number_at-span word 15 5)

pub rs2_read : (word : ℕ) → field_of word table.rs2 ≡ pos (rs2_of word)
unfolding rs2_of
rs2_read word = ap pos (number_at-span word 20 5)

i_read : (word : ℕ) → field_of word (Signed i_places) ≡ i_immediate_of word
unfolding span i_immediate_of
i_read word = ap (signed 12) (number_at-span word 20 12)

s_read : (word : ℕ) → field_of word (Signed s_places) ≡ s_immediate_of word
unfolding span s_immediate_of
s_read word = ap (signed 12) (number_at-s word)

b_read : (word : ℕ) → field_of word (Signed b_places) ≡ b_offset_of word
unfolding span b_offset_of
b_read word = ap (signed 12) (number_at-b word)

u_read : (word : ℕ) → field_of word (Unsigned u_places) ≡ pos (u_immediate_of word)
unfolding u_immediate_of
u_read word = ap pos (number_at-span word 12 20)

j_read : (word : ℕ) → field_of word (Signed j_places) ≡ j_offset_of word
unfolding span j_offset_of
j_read word = ap (signed 20) (number_at-j word)

-- lists of operands, joined by equations of their elements
pub values_2 : {a a' b b' : ℤ} → a ≡ a' → b ≡ b' → (a ∷ b ∷ []) ≡ (a' ∷ b' ∷ [])
values_2 p q = cc

pub values_3 : {a a' b b' c c' : ℤ} → a ≡ a' → b ≡ b' → c ≡ c' → (a ∷ b ∷ c ∷ []) ≡ (a' ∷ b' ∷ c' ∷ [])
values_3 p q r = cc

-- ---- from the parts of a word to a row that it stands for

pub u_made : (opcode word rd imm : ℕ) → part word 0 7 ≡ opcode → rd ≡ rd_of word → imm ≡ u_immediate_of word
    → Stands word (u_type [] opcode) (pos rd ∷ pos imm ∷ [])
unfolding Stands u_type
u_made opcode word rd imm opcode_is rd_is imm_is = (
  key_made word 0 7 opcode opcode_is,
  values_2 (ap pos rd_is ∙ sym (rd_read word)) (ap pos imm_is ∙ sym (u_read word)),
)

pub j_made : (opcode word rd : ℕ) (offset : ℤ) → part word 0 7 ≡ opcode → rd ≡ rd_of word → offset ≡ j_offset_of word
    → Stands word (j_type [] opcode) (pos rd ∷ offset ∷ [])
unfolding Stands j_type
j_made opcode word rd offset opcode_is rd_is offset_is = (
  key_made word 0 7 opcode opcode_is,
  values_2 (ap pos rd_is ∙ sym (rd_read word)) (offset_is ∙ sym (j_read word)),
)

pub i_made : (opcode funct3 word rd rs1 : ℕ) (imm : ℤ) → part word 0 7 ≡ opcode → part word 12 3 ≡ funct3
    → rd ≡ rd_of word → rs1 ≡ rs1_of word → imm ≡ i_immediate_of word
    → Stands word (i_type [] opcode funct3) (pos rd ∷ pos rs1 ∷ imm ∷ [])
unfolding Stands i_type
i_made opcode funct3 word rd rs1 imm opcode_is funct3_is rd_is rs1_is imm_is = (
  two_made word opcode funct3 opcode_is funct3_is,
  values_3 (ap pos rd_is ∙ sym (rd_read word)) (ap pos rs1_is ∙ sym (rs1_read word)) (imm_is ∙ sym (i_read word)),
)

pub s_made : (opcode funct3 word rs1 rs2 : ℕ) (imm : ℤ) → part word 0 7 ≡ opcode → part word 12 3 ≡ funct3
    → rs1 ≡ rs1_of word → rs2 ≡ rs2_of word → imm ≡ s_immediate_of word
    → Stands word (s_type [] opcode funct3) (pos rs1 ∷ pos rs2 ∷ imm ∷ [])
unfolding Stands s_type
s_made opcode funct3 word rs1 rs2 imm opcode_is funct3_is rs1_is rs2_is imm_is = (
  two_made word opcode funct3 opcode_is funct3_is,
  values_3 (ap pos rs1_is ∙ sym (rs1_read word)) (ap pos rs2_is ∙ sym (rs2_read word)) (imm_is ∙ sym (s_read word)),
)

pub b_made : (opcode funct3 word rs1 rs2 : ℕ) (offset : ℤ) → part word 0 7 ≡ opcode → part word 12 3 ≡ funct3
    → rs1 ≡ rs1_of word → rs2 ≡ rs2_of word → offset ≡ b_offset_of word
    → Stands word (b_type [] opcode funct3) (pos rs1 ∷ pos rs2 ∷ offset ∷ [])
unfolding Stands b_type
b_made opcode funct3 word rs1 rs2 offset opcode_is funct3_is rs1_is rs2_is offset_is = (
  two_made word opcode funct3 opcode_is funct3_is,
  values_3 (ap pos rs1_is ∙ sym (rs1_read word)) (ap pos rs2_is ∙ sym (rs2_read word)) (offset_is ∙ sym (b_read word)),
)

pub r_made : (opcode funct3 funct7 word rd rs1 rs2 : ℕ) → part word 0 7 ≡ opcode → part word 12 3 ≡ funct3 → part word 25 7 ≡ funct7
    → rd ≡ rd_of word → rs1 ≡ rs1_of word → rs2 ≡ rs2_of word
    → Stands word (r_type [] opcode funct3 funct7) (pos rd ∷ pos rs1 ∷ pos rs2 ∷ [])
unfolding Stands r_type
r_made opcode funct3 funct7 word rd rs1 rs2 opcode_is funct3_is funct7_is rd_is rs1_is rs2_is = (
  Holds-append word _ _ (two_made word opcode funct3 opcode_is funct3_is) (key_made word 25 7 funct7 funct7_is),
  values_3 (ap pos rd_is ∙ sym (rd_read word)) (ap pos rs1_is ∙ sym (rs1_read word)) (ap pos rs2_is ∙ sym (rs2_read word)),
)

pub flag_read : (word place : ℕ) → number_at word (span place 1) ≡ part word place 1
flag_read word place = number_at-span word place 1

values_5 : {a a' b b' c c' d d' e e' : ℤ} → a ≡ a' → b ≡ b' → c ≡ c' → d ≡ d' → e ≡ e' → (a ∷ b ∷ c ∷ d ∷ e ∷ []) ≡ (a' ∷ b' ∷ c' ∷ d' ∷ e' ∷ [])
values_5 p q r s t = cc

pub amo_made : (opcode funct3 funct5 word rd rs1 rs2 : ℕ) (aq rl : Bool) → part word 0 7 ≡ opcode → part word 12 3 ≡ funct3 → part word 27 5 ≡ funct5
    → rd ≡ rd_of word → rs1 ≡ rs1_of word → rs2 ≡ rs2_of word → bit_of aq ≡ part word 26 1 → bit_of rl ≡ part word 25 1
    → Stands word (amo_type [] opcode funct3 funct5) (pos rd ∷ pos rs1 ∷ pos rs2 ∷ pos (bit_of aq) ∷ pos (bit_of rl) ∷ [])
unfolding Stands amo_type
amo_made opcode funct3 funct5 word rd rs1 rs2 aq rl opcode_is funct3_is funct5_is rd_is rs1_is rs2_is aq_is rl_is = (
  Holds-append word _ _ (two_made word opcode funct3 opcode_is funct3_is) (key_made word 27 5 funct5 funct5_is),
  values_5 (ap pos rd_is ∙ sym (rd_read word)) (ap pos rs1_is ∙ sym (rs1_read word)) (ap pos rs2_is ∙ sym (rs2_read word))
      (ap pos (aq_is ∙ sym (flag_read word 26))) (ap pos (rl_is ∙ sym (flag_read word 25))),
)

pub whole_made : (value : ℕ) → value < 2 ^ 32 → Stands value (whole_word [] value) []
unfolding Stands whole_word
whole_made value within = (key_made value 0 32 value (omega arith), refl)

-- ---- flags

bit_of-lt : (b : Bool) → bit_of b < 2
bit_of-lt true = lit< tt
bit_of-lt false = lit< tt

pub bit_of-flag : (n : ℕ) → n < 2 → bit_of (nat_eq n 1) ≡ n
bit_of-flag n small = grind arith

pub flag_of-bit : (b : Bool) (n : ℕ) → n < 2 → bit_of b ≡ n → nat_eq n 1 ≡ b
flag_of-bit true n small e = grind arith
flag_of-bit false n small e = grind arith

-- the R format's funct7 has funct5 above the two flags
pub amo_packed : (word rd rs1 rs2 : ℕ) (aq rl : Bool) → part word 0 7 ≡ 0b0101111 → part word 12 3 ≡ 0b010 → part word 25 7 ≡ 2 * bit_of aq + bit_of rl
    → rd ≡ part word 7 5 → rs1 ≡ part word 15 5 → rs2 ≡ part word 20 5
    → Stands word (amo_type [] 0b0101111 0b010 0b00000) (pos rd ∷ pos rs1 ∷ pos rs2 ∷ pos (bit_of aq) ∷ pos (bit_of rl) ∷ [])
unfolding rd_of rs1_of rs2_of
amo_packed word rd rs1 rs2 aq rl opcode_is funct3_is funct7_is rd_is rs1_is rs2_is =
    let aq_small = bit_of-lt aq in
    let rl_small = bit_of-lt rl in
    amo_made 0b0101111 0b010 0b00000 word rd rs1 rs2 aq rl opcode_is funct3_is (omega (arith, funct7_is, aq_small, rl_small)) rd_is rs1_is rs2_is
    (omega (arith, funct7_is, aq_small, rl_small)) (omega (arith, funct7_is, aq_small, rl_small))

-- ---- from a row that a word stands for to what the word is decoded to

abbrev pub funct3_of : ℕ → ℕ
funct3_of word = part word 12 3

abbrev pub funct7_of : ℕ → ℕ
funct7_of word = part word 25 7

by_opcode : (opcode word : ℕ) (o : Option Insn) → part word 0 7 ≡ opcode → by_keys opcode (funct3_of word) (funct7_of word) word ≡ o → decoded word ≡ o
unfolding decoded
by_opcode opcode word o e k = ap (λ x. by_keys x (funct3_of word) (funct7_of word) word) e ∙ k

by_funct3 : (opcode funct3 word : ℕ) (o : Option Insn) → part word 0 7 ≡ opcode → part word 12 3 ≡ funct3 → by_keys opcode funct3 (funct7_of word) word ≡ o
    → decoded word ≡ o
by_funct3 opcode funct3 word o e f k = by_opcode opcode word o e (ap (λ x. by_keys opcode x (funct7_of word) word) f ∙ k)

by_funct7 : (opcode funct3 funct7 word : ℕ) (o : Option Insn) → part word 0 7 ≡ opcode → part word 12 3 ≡ funct3 → part word 25 7 ≡ funct7
    → by_keys opcode funct3 funct7 word ≡ o → decoded word ≡ o
by_funct7 opcode funct3 funct7 word o e f s k = by_funct3 opcode funct3 word o e f (ap (λ x. by_keys opcode funct3 x word) s ∙ k)

pub u_case : (make : ℕ → ℕ → Insn) (opcode : ℕ) → opcode < 2 ^ 7 → (word rd imm : ℕ)
    → by_keys opcode (funct3_of word) (funct7_of word) word ≡ Some (make (rd_of word) (u_immediate_of word))
    → Stands word (u_type [] opcode) (pos rd ∷ pos imm ∷ []) → decoded word ≡ Some (make rd imm)
unfolding Stands u_type span
u_case make opcode small word rd imm k h =
    let values = h.1 ∙ values_2 (rd_read word) (u_read word) in
    by_opcode opcode word _ (key_read word 0 7 opcode small h.0) (k ∙ cc)

pub j_case : (make : ℕ → ℤ → Insn) (opcode : ℕ) → opcode < 2 ^ 7 → (word rd : ℕ) (offset : ℤ)
    → by_keys opcode (funct3_of word) (funct7_of word) word ≡ Some (make (rd_of word) (j_offset_of word))
    → Stands word (j_type [] opcode) (pos rd ∷ offset ∷ []) → decoded word ≡ Some (make rd offset)
unfolding Stands j_type span
j_case make opcode small word rd offset k h =
    let values = h.1 ∙ values_2 (rd_read word) (j_read word) in
    by_opcode opcode word _ (key_read word 0 7 opcode small h.0) (k ∙ cc)

pub i_case : (make : ℕ → ℕ → ℤ → Insn) (opcode funct3 : ℕ) → opcode < 2 ^ 7 → funct3 < 2 ^ 3 → (word rd rs1 : ℕ) (imm : ℤ)
    → by_keys opcode funct3 (funct7_of word) word ≡ Some (make (rd_of word) (rs1_of word) (i_immediate_of word))
    → Stands word (i_type [] opcode funct3) (pos rd ∷ pos rs1 ∷ imm ∷ []) → decoded word ≡ Some (make rd rs1 imm)
unfolding Stands i_type
i_case make opcode funct3 small small' word rd rs1 imm k h =
    let keys = two_read word opcode funct3 small small' h.0 in
    let values = h.1 ∙ values_3 (rd_read word) (rs1_read word) (i_read word) in
    by_funct3 opcode funct3 word _ keys.0 keys.1 (k ∙ cc)

pub s_case : (make : ℕ → ℕ → ℤ → Insn) (opcode funct3 : ℕ) → opcode < 2 ^ 7 → funct3 < 2 ^ 3 → (word rs1 rs2 : ℕ) (imm : ℤ)
    → by_keys opcode funct3 (funct7_of word) word ≡ Some (make (rs1_of word) (rs2_of word) (s_immediate_of word))
    → Stands word (s_type [] opcode funct3) (pos rs1 ∷ pos rs2 ∷ imm ∷ []) → decoded word ≡ Some (make rs1 rs2 imm)
unfolding Stands s_type
s_case make opcode funct3 small small' word rs1 rs2 imm k h =
    let keys = two_read word opcode funct3 small small' h.0 in
    let values = h.1 ∙ values_3 (rs1_read word) (rs2_read word) (s_read word) in
    by_funct3 opcode funct3 word _ keys.0 keys.1 (k ∙ cc)

pub b_case : (make : ℕ → ℕ → ℤ → Insn) (opcode funct3 : ℕ) → opcode < 2 ^ 7 → funct3 < 2 ^ 3 → (word rs1 rs2 : ℕ) (offset : ℤ)
    → by_keys opcode funct3 (funct7_of word) word ≡ Some (make (rs1_of word) (rs2_of word) (b_offset_of word))
    → Stands word (b_type [] opcode funct3) (pos rs1 ∷ pos rs2 ∷ offset ∷ []) → decoded word ≡ Some (make rs1 rs2 offset)
unfolding Stands b_type
b_case make opcode funct3 small small' word rs1 rs2 offset k h =
    let keys = two_read word opcode funct3 small small' h.0 in
    let values = h.1 ∙ values_3 (rs1_read word) (rs2_read word) (b_read word) in
    by_funct3 opcode funct3 word _ keys.0 keys.1 (k ∙ cc)

pub r_case : (make : ℕ → ℕ → ℕ → Insn) (opcode funct3 funct7 : ℕ) → opcode < 2 ^ 7 → funct3 < 2 ^ 3 → funct7 < 2 ^ 7 → (word rd rs1 rs2 : ℕ)
    → by_keys opcode funct3 funct7 word ≡ Some (make (rd_of word) (rs1_of word) (rs2_of word))
    → Stands word (r_type [] opcode funct3 funct7) (pos rd ∷ pos rs1 ∷ pos rs2 ∷ []) → decoded word ≡ Some (make rd rs1 rs2)
unfolding Stands r_type span
r_case make opcode funct3 funct7 small small' small'' word rd rs1 rs2 k h =
    let parts = Holds-parts word (two_keys opcode funct3) (fixed (span 25 7) funct7) h.0 in
    let keys = two_read word opcode funct3 small small' parts.0 in
    let values = h.1 ∙ values_3 (rd_read word) (rs1_read word) (rs2_read word) in
    by_funct7 opcode funct3 funct7 word _ keys.0 keys.1 (key_read word 25 7 funct7 small'' parts.1) (k ∙ cc)

-- an atomic operation, of which funct5 names the row
pub amo_case : (make : ℕ → ℕ → ℕ → Bool → Bool → Insn) (opcode funct3 funct5 : ℕ) → opcode < 2 ^ 7 → funct3 < 2 ^ 3 → funct5 < 2 ^ 5
    → (word rd rs1 rs2 : ℕ) (aq rl : Bool)
    → (part word 27 5 ≡ funct5 → by_keys opcode funct3 (funct7_of word) word ≡ Some (make (rd_of word) (rs1_of word) (rs2_of word) (flag_of word 26)
    (flag_of word 25)))
    → Stands word (amo_type [] opcode funct3 funct5) (pos rd ∷ pos rs1 ∷ pos rs2 ∷ pos (bit_of aq) ∷ pos (bit_of rl) ∷ [])
    → decoded word ≡ Some (make rd rs1 rs2 aq rl)
unfolding Stands amo_type span
amo_case make opcode funct3 funct5 small small' small'' word rd rs1 rs2 aq rl k h =
    let parts = Holds-parts word (two_keys opcode funct3) (fixed (span 27 5) funct5) h.0 in
    let keys = two_read word opcode funct3 small small' parts.0 in
    let values = h.1 ∙ values_5 (rd_read word) (rs1_read word) (rs2_read word) (ap pos (flag_read word 26)) (ap pos (flag_read word 25)) in
    let q : flag_of word 26 ≡ aq = flag_of-bit aq (part word 26 1) (omega arith) cc in
    let r : flag_of word 25 ≡ rl = flag_of-bit rl (part word 25 1) (omega arith) cc in
    by_funct3 opcode funct3 word _ keys.0 keys.1 (k (key_read word 27 5 funct5 small'' parts.1) ∙ cc)

-- an instruction with no field
pub whole_case : (value : ℕ) → value < 2 ^ 32 → (insn : Insn) → decoded value ≡ Some insn → (word : ℕ) → word < 2 ^ 32
    → Stands word (whole_word [] value) [] → decoded word ≡ Some insn
unfolding Stands whole_word span
whole_case value within insn k word within' h =
    let low : part word 0 32 ≡ value = key_read word 0 32 value within h.0 in
    let same : word ≡ value = omega (arith, low) in
    ap decoded same ∙ k

-- Each format of vector instructions both ways: a word with the right parts stands for a row, and the fields of a row that a
-- word stands for are the word's.
use Rattle.std.proofs.Common.{◌≡◌, ℕ, ◌+◌, ◌^◌, ◌<◌, List, [], ◌∷◌, sym, ◌∙◌, ap, arith, ℤ, pos, Bool}
use Rattle.std.specs.Prelude.{map}
use Rattle.rv_insn.specs.Encoding.{signed, Field, field_of, bit_of, span}
use Rattle.rv_insn.specs.VectorTable as table
use Rattle.rv_insn.specs.VectorTable.{v_row, opivi_type, merge_vi_type, move_vi_type, to_scalar_type, from_scalar_type, numbers_type, extend_type, vsetvli_type}
use Rattle.rv_insn.specs.VectorTable.{vsetivli_type, vsetvl_type, unit_type}
use Rattle.rv_encoding.specs.Formats.{Stands, registers_shape, merge_shape, move_shape, offset_shape}
use Rattle.rv_encoding.specs.Decoding.{part, rd_of, rs1_of, rs2_of, vector_immediate_of, vtype10_of, vtype11_of, vm_of}
use Rattle.rv_encoding.proofs.Bits.{number_at-span, PartsAre, parts_made}
use Rattle.rv_encoding.proofs.Formats.{rd_read, rs1_read, rs2_read, flag_read, flag_of-bit, values_2, values_3}

stands : (word : ℕ) (parts : List (ℕ × ℕ × ℕ)) (fields : List Field) (values : List ℤ) → PartsAre word parts → values ≡ map (field_of word) fields
    → Stands word (v_row [] parts fields) values
unfolding Stands
stands word parts fields values are same = (parts_made word parts are, same)

-- ---- fields

vm_read : (word : ℕ) → field_of word table.vm ≡ pos (part word 25 1)
vm_read word = ap pos (flag_read word 25)

immediate_read : (word : ℕ) → field_of word table.immediate ≡ vector_immediate_of word
unfolding span vector_immediate_of
immediate_read word = ap (signed 5) (number_at-span word 15 5)

vtype10_read : (word : ℕ) → field_of word table.vtype10 ≡ pos (vtype10_of word)
unfolding vtype10_of
vtype10_read word = ap pos (number_at-span word 20 10)

vtype11_read : (word : ℕ) → field_of word table.vtype11 ≡ pos (vtype11_of word)
unfolding vtype11_of
vtype11_read word = ap pos (number_at-span word 20 11)

values_4 : {a a' b b' c c' d d' : ℤ} → a ≡ a' → b ≡ b' → c ≡ c' → d ≡ d' → (a ∷ b ∷ c ∷ d ∷ []) ≡ (a' ∷ b' ∷ c' ∷ d' ∷ [])
values_4 p q r s = cc

-- ---- from the parts of a word to a row that it stands for

pub registers_made : (word funct3 funct6 vd vs2 third : ℕ) (vm : Bool) → part word 0 7 ≡ 0b1010111 → part word 12 3 ≡ funct3 → part word 26 6 ≡ funct6
    → vd ≡ rd_of word → vs2 ≡ rs2_of word → third ≡ rs1_of word → bit_of vm ≡ part word 25 1
    → Stands word (registers_shape funct3 funct6) (pos vd ∷ pos vs2 ∷ pos third ∷ pos (bit_of vm) ∷ [])
registers_made word funct3 funct6 vd vs2 third vm p0 p1 p2 vd_is vs2_is third_is vm_is = stands word _ _ _ (p0, (p1, (p2, tt))) (values_4 (ap pos vd_is
    ∙ sym (rd_read word)) (ap pos vs2_is ∙ sym (rs2_read word)) (ap pos third_is ∙ sym (rs1_read word)) (ap pos vm_is ∙ sym (vm_read word)))

pub immediate_made : (word funct6 vd vs2 : ℕ) (imm : ℤ) (vm : Bool) → part word 0 7 ≡ 0b1010111 → part word 12 3 ≡ 0b011 → part word 26 6 ≡ funct6
    → vd ≡ rd_of word → vs2 ≡ rs2_of word → imm ≡ vector_immediate_of word → bit_of vm ≡ part word 25 1
    → Stands word (opivi_type [] funct6) (pos vd ∷ pos vs2 ∷ imm ∷ pos (bit_of vm) ∷ [])
immediate_made word funct6 vd vs2 imm vm p0 p1 p2 vd_is vs2_is imm_is vm_is = stands word _ _ _ (p0, (p1, (p2, tt))) (values_4 (ap pos vd_is
    ∙ sym (rd_read word)) (ap pos vs2_is ∙ sym (rs2_read word)) (imm_is ∙ sym (immediate_read word)) (ap pos vm_is ∙ sym (vm_read word)))

pub merge_made : (word funct3 vd vs2 third : ℕ) → part word 0 7 ≡ 0b1010111 → part word 12 3 ≡ funct3 → part word 26 6 ≡ 0b010111 → part word 25 1 ≡ 0
    → vd ≡ rd_of word → vs2 ≡ rs2_of word → third ≡ rs1_of word → Stands word (merge_shape funct3) (pos vd ∷ pos vs2 ∷ pos third ∷ [])
merge_made word funct3 vd vs2 third p0 p1 p2 p3 vd_is vs2_is third_is = stands word _ _ _ (p0, (p1, (p2, (p3, tt)))) (values_3 (ap pos vd_is
    ∙ sym (rd_read word)) (ap pos vs2_is ∙ sym (rs2_read word)) (ap pos third_is ∙ sym (rs1_read word)))

pub merge_immediate_made : (word vd vs2 : ℕ) (imm : ℤ) → part word 0 7 ≡ 0b1010111 → part word 12 3 ≡ 0b011 → part word 26 6 ≡ 0b010111 → part word 25 1 ≡ 0
    → vd ≡ rd_of word → vs2 ≡ rs2_of word → imm ≡ vector_immediate_of word → Stands word (merge_vi_type []) (pos vd ∷ pos vs2 ∷ imm ∷ [])
merge_immediate_made word vd vs2 imm p0 p1 p2 p3 vd_is vs2_is imm_is = stands word _ _ _ (p0, (p1, (p2, (p3, tt)))) (values_3 (ap pos vd_is
    ∙ sym (rd_read word)) (ap pos vs2_is ∙ sym (rs2_read word)) (imm_is ∙ sym (immediate_read word)))

pub move_made : (word funct3 vd third : ℕ) → part word 0 7 ≡ 0b1010111 → part word 12 3 ≡ funct3 → part word 26 6 ≡ 0b010111 → part word 25 1 ≡ 1
    → part word 20 5 ≡ 0 → vd ≡ rd_of word → third ≡ rs1_of word → Stands word (move_shape funct3) (pos vd ∷ pos third ∷ [])
move_made word funct3 vd third p0 p1 p2 p3 p4 vd_is third_is = stands word _ _ _ (p0, (p1, (p2, (p3, (p4, tt))))) (values_2 (ap pos vd_is
    ∙ sym (rd_read word)) (ap pos third_is ∙ sym (rs1_read word)))

pub move_immediate_made : (word vd : ℕ) (imm : ℤ) → part word 0 7 ≡ 0b1010111 → part word 12 3 ≡ 0b011 → part word 26 6 ≡ 0b010111 → part word 25 1 ≡ 1
    → part word 20 5 ≡ 0 → vd ≡ rd_of word → imm ≡ vector_immediate_of word → Stands word (move_vi_type []) (pos vd ∷ imm ∷ [])
move_immediate_made word vd imm p0 p1 p2 p3 p4 vd_is imm_is = stands word _ _ _ (p0, (p1, (p2, (p3, (p4, tt))))) (values_2 (ap pos vd_is
    ∙ sym (rd_read word)) (imm_is ∙ sym (immediate_read word)))

pub to_scalar_made : (word rd vs2 : ℕ) → part word 0 7 ≡ 0b1010111 → part word 12 3 ≡ 0b010 → part word 26 6 ≡ 0b010000 → part word 25 1 ≡ 1
    → part word 15 5 ≡ 0 → rd ≡ rd_of word → vs2 ≡ rs2_of word → Stands word (to_scalar_type []) (pos rd ∷ pos vs2 ∷ [])
to_scalar_made word rd vs2 p0 p1 p2 p3 p4 rd_is vs2_is = stands word _ _ _ (p0, (p1, (p2, (p3, (p4, tt))))) (values_2 (ap pos rd_is
    ∙ sym (rd_read word)) (ap pos vs2_is ∙ sym (rs2_read word)))

pub from_scalar_made : (word vd rs1 : ℕ) → part word 0 7 ≡ 0b1010111 → part word 12 3 ≡ 0b110 → part word 26 6 ≡ 0b010000 → part word 25 1 ≡ 1
    → part word 20 5 ≡ 0 → vd ≡ rd_of word → rs1 ≡ rs1_of word → Stands word (from_scalar_type []) (pos vd ∷ pos rs1 ∷ [])
from_scalar_made word vd rs1 p0 p1 p2 p3 p4 vd_is rs1_is = stands word _ _ _ (p0, (p1, (p2, (p3, (p4, tt))))) (values_2 (ap pos vd_is
    ∙ sym (rd_read word)) (ap pos rs1_is ∙ sym (rs1_read word)))

pub extended_made : (word vd vs2 : ℕ) (vm : Bool) → part word 0 7 ≡ 0b1010111 → part word 12 3 ≡ 0b010 → part word 26 6 ≡ 0b010010 → part word 15 5 ≡ 0b00100
    → vd ≡ rd_of word → vs2 ≡ rs2_of word → bit_of vm ≡ part word 25 1 → Stands word (extend_type []) (pos vd ∷ pos vs2 ∷ pos (bit_of vm) ∷ [])
extended_made word vd vs2 vm p0 p1 p2 p3 vd_is vs2_is vm_is = stands word _ _ _ (p0, (p1, (p2, (p3, tt)))) (values_3 (ap pos vd_is
    ∙ sym (rd_read word)) (ap pos vs2_is ∙ sym (rs2_read word)) (ap pos vm_is ∙ sym (vm_read word)))

pub numbers_made : (word vd : ℕ) (vm : Bool) → part word 0 7 ≡ 0b1010111 → part word 12 3 ≡ 0b010 → part word 26 6 ≡ 0b010100 → part word 15 5 ≡ 0b10001
    → part word 20 5 ≡ 0 → vd ≡ rd_of word → bit_of vm ≡ part word 25 1 → Stands word (numbers_type []) (pos vd ∷ pos (bit_of vm) ∷ [])
numbers_made word vd vm p0 p1 p2 p3 p4 vd_is vm_is = stands word _ _ _ (p0, (p1, (p2, (p3, (p4, tt))))) (values_2 (ap pos vd_is
    ∙ sym (rd_read word)) (ap pos vm_is ∙ sym (vm_read word)))

pub vsetvl_made : (word rd rs1 rs2 : ℕ) → part word 0 7 ≡ 0b1010111 → part word 12 3 ≡ 0b111 → part word 25 7 ≡ 0b1000000 → rd ≡ rd_of word → rs1 ≡ rs1_of word
    → rs2 ≡ rs2_of word → Stands word (vsetvl_type []) (pos rd ∷ pos rs1 ∷ pos rs2 ∷ [])
vsetvl_made word rd rs1 rs2 p0 p1 p2 rd_is rs1_is rs2_is = stands word _ _ _ (p0, (p1, (p2, tt))) (values_3 (ap pos rd_is ∙ sym (rd_read word)) (ap pos rs1_is
    ∙ sym (rs1_read word)) (ap pos rs2_is ∙ sym (rs2_read word)))

pub unit_made : (word opcode width vd rs1 : ℕ) (vm : Bool) → part word 0 7 ≡ opcode → part word 12 3 ≡ width → part word 28 4 ≡ 0 → part word 26 2 ≡ 0
    → part word 20 5 ≡ 0 → vd ≡ rd_of word → rs1 ≡ rs1_of word → bit_of vm ≡ part word 25 1
    → Stands word (unit_type [] opcode width) (pos vd ∷ pos rs1 ∷ pos (bit_of vm) ∷ [])
unit_made word opcode width vd rs1 vm p0 p1 p2 p3 p4 vd_is rs1_is vm_is = stands word _ _ _ (p0, (p1, (p2, (p3, (p4, tt))))) (values_3 (ap pos vd_is
    ∙ sym (rd_read word)) (ap pos rs1_is ∙ sym (rs1_read word)) (ap pos vm_is ∙ sym (vm_read word)))

pub offset_made : (word opcode width mode vd rs1 offset : ℕ) (vm : Bool) → part word 0 7 ≡ opcode → part word 12 3 ≡ width → part word 28 4 ≡ 0
    → part word 26 2 ≡ mode → vd ≡ rd_of word → rs1 ≡ rs1_of word → offset ≡ rs2_of word → bit_of vm ≡ part word 25 1
    → Stands word (offset_shape opcode width mode) (pos vd ∷ pos rs1 ∷ pos offset ∷ pos (bit_of vm) ∷ [])
offset_made word opcode width mode vd rs1 offset vm p0 p1 p2 p3 vd_is rs1_is offset_is vm_is = stands word _ _ _ (p0, (p1, (p2, (p3, tt))))
    (values_4 (ap pos vd_is ∙ sym (rd_read word)) (ap pos rs1_is ∙ sym (rs1_read word)) (ap pos offset_is ∙ sym (rs2_read word)) (ap pos vm_is
    ∙ sym (vm_read word)))

pub vsetvli_stands : (word : ℕ) → part word 0 7 ≡ 0b1010111 → part word 12 3 ≡ 0b111 → part word 31 1 ≡ 0
    → Stands word (vsetvli_type []) (pos (rd_of word) ∷ pos (rs1_of word) ∷ pos (vtype11_of word) ∷ [])
vsetvli_stands word p0 p1 p2 = stands word _ _ _ (p0, (p1, (p2, tt))) (values_3 (sym (rd_read word)) (sym (rs1_read word)) (sym (vtype11_read word)))

pub vsetivli_stands : (word : ℕ) → part word 0 7 ≡ 0b1010111 → part word 12 3 ≡ 0b111 → part word 30 2 ≡ 3
    → Stands word (vsetivli_type []) (pos (rd_of word) ∷ pos (rs1_of word) ∷ pos (vtype10_of word) ∷ [])
vsetivli_stands word p0 p1 p2 = stands word _ _ _ (p0, (p1, (p2, tt))) (values_3 (sym (rd_read word)) (sym (rs1_read word)) (sym (vtype10_read word)))

-- packed by the I format
pub vsetvli_made : (word rd rs1 vtype : ℕ) → part word 0 7 ≡ 0b1010111 → part word 12 3 ≡ 0b111 → rd ≡ rd_of word → rs1 ≡ rs1_of word → vtype ≡ part word 20 12
    → vtype < 2 ^ 11
    → Stands word (vsetvli_type []) (pos rd ∷ pos rs1 ∷ pos vtype ∷ [])
unfolding vtype11_of
vsetvli_made word rd rs1 vtype p0 p1 rd_is rs1_is vtype_is small =
    let top : part word 31 1 ≡ 0 = omega (arith, vtype_is, small) in
    let same : vtype ≡ part word 20 11 = omega (arith, vtype_is, small) in
    stands word _ _ _ (p0, (p1, (top, tt))) (values_3 (ap pos rd_is ∙ sym (rd_read word)) (ap pos rs1_is ∙ sym (rs1_read word)) (ap pos same
    ∙ sym (vtype11_read word)))

pub vsetivli_made : (word rd length vtype : ℕ) → part word 0 7 ≡ 0b1010111 → part word 12 3 ≡ 0b111 → rd ≡ rd_of word → length ≡ rs1_of word
    → vtype + 0xc00 ≡ part word 20 12 → vtype < 2 ^ 10
    → Stands word (vsetivli_type []) (pos rd ∷ pos length ∷ pos vtype ∷ [])
unfolding vtype10_of
vsetivli_made word rd length vtype p0 p1 rd_is length_is vtype_is small =
    let top : part word 30 2 ≡ 3 = omega (arith, vtype_is, small) in
    let same : vtype ≡ part word 20 10 = omega (arith, vtype_is, small) in
    stands word _ _ _ (p0, (p1, (top, tt))) (values_3 (ap pos rd_is ∙ sym (rd_read word)) (ap pos length_is ∙ sym (rs1_read word)) (ap pos same
    ∙ sym (vtype10_read word)))

-- ---- the fields of a row that a word stands for

pub registers_read : (word vd vs2 third : ℕ) (vm : Bool) → (pos vd ∷ pos vs2 ∷ pos third ∷ pos (bit_of vm) ∷ []) ≡ map (field_of word) (table.vd ∷ table.vs2
    ∷ table.vs1 ∷ table.vm ∷ []) → (vd ≡ rd_of word) × (vs2 ≡ rs2_of word) × (third ≡ rs1_of word) × (vm ≡ vm_of word)
registers_read word vd vs2 third vm h =
    let values = h ∙ values_4 (rd_read word) (rs2_read word) (rs1_read word) (vm_read word) in
    let flag : vm_of word ≡ vm = flag_of-bit vm (part word 25 1) (omega arith) cc in
    (cc, cc, cc, sym flag)

pub immediate_read_back : (word vd vs2 : ℕ) (imm : ℤ) (vm : Bool) → (pos vd ∷ pos vs2 ∷ imm ∷ pos (bit_of vm) ∷ []) ≡ map (field_of word) (table.vd ∷ table.vs2
    ∷ table.immediate ∷ table.vm ∷ []) → (vd ≡ rd_of word) × (vs2 ≡ rs2_of word) × (imm ≡ vector_immediate_of word) × (vm ≡ vm_of word)
immediate_read_back word vd vs2 imm vm h =
    let values = h ∙ values_4 (rd_read word) (rs2_read word) (immediate_read word) (vm_read word) in
    let flag : vm_of word ≡ vm = flag_of-bit vm (part word 25 1) (omega arith) cc in
    (cc, cc, cc, sym flag)

pub merge_read : (word vd vs2 third : ℕ) → (pos vd ∷ pos vs2 ∷ pos third ∷ []) ≡ map (field_of word) (table.vd ∷ table.vs2 ∷ table.vs1 ∷ [])
    → (vd ≡ rd_of word) × (vs2 ≡ rs2_of word) × (third ≡ rs1_of word)
merge_read word vd vs2 third h =
    let values = h ∙ values_3 (rd_read word) (rs2_read word) (rs1_read word) in
    (cc, cc, cc)

pub merge_immediate_read : (word vd vs2 : ℕ) (imm : ℤ) → (pos vd ∷ pos vs2 ∷ imm ∷ []) ≡ map (field_of word) (table.vd ∷ table.vs2 ∷ table.immediate ∷ [])
    → (vd ≡ rd_of word) × (vs2 ≡ rs2_of word) × (imm ≡ vector_immediate_of word)
merge_immediate_read word vd vs2 imm h =
    let values = h ∙ values_3 (rd_read word) (rs2_read word) (immediate_read word) in
    (cc, cc, cc)

pub move_read : (word vd third : ℕ) → (pos vd ∷ pos third ∷ []) ≡ map (field_of word) (table.vd ∷ table.vs1 ∷ []) → (vd ≡ rd_of word) × (third ≡ rs1_of word)
move_read word vd third h =
    let values = h ∙ values_2 (rd_read word) (rs1_read word) in
    (cc, cc)

pub move_immediate_read : (word vd : ℕ) (imm : ℤ) → (pos vd ∷ imm ∷ []) ≡ map (field_of word) (table.vd ∷ table.immediate ∷ [])
    → (vd ≡ rd_of word) × (imm ≡ vector_immediate_of word)
move_immediate_read word vd imm h =
    let values = h ∙ values_2 (rd_read word) (immediate_read word) in
    (cc, cc)

pub to_scalar_read : (word vd vs2 : ℕ) → (pos vd ∷ pos vs2 ∷ []) ≡ map (field_of word) (table.vd ∷ table.vs2 ∷ []) → (vd ≡ rd_of word) × (vs2 ≡ rs2_of word)
to_scalar_read word vd vs2 h =
    let values = h ∙ values_2 (rd_read word) (rs2_read word) in
    (cc, cc)

pub extended_read : (word vd vs2 : ℕ) (vm : Bool) → (pos vd ∷ pos vs2 ∷ pos (bit_of vm) ∷ []) ≡ map (field_of word) (table.vd ∷ table.vs2 ∷ table.vm ∷ [])
    → (vd ≡ rd_of word) × (vs2 ≡ rs2_of word) × (vm ≡ vm_of word)
extended_read word vd vs2 vm h =
    let values = h ∙ values_3 (rd_read word) (rs2_read word) (vm_read word) in
    let flag : vm_of word ≡ vm = flag_of-bit vm (part word 25 1) (omega arith) cc in
    (cc, cc, sym flag)

pub numbers_read : (word vd : ℕ) (vm : Bool) → (pos vd ∷ pos (bit_of vm) ∷ []) ≡ map (field_of word) (table.vd ∷ table.vm ∷ [])
    → (vd ≡ rd_of word) × (vm ≡ vm_of word)
numbers_read word vd vm h =
    let values = h ∙ values_2 (rd_read word) (vm_read word) in
    let flag : vm_of word ≡ vm = flag_of-bit vm (part word 25 1) (omega arith) cc in
    (cc, sym flag)

pub vsetvli_read : (word vd rs1 vtype11 : ℕ) → (pos vd ∷ pos rs1 ∷ pos vtype11 ∷ []) ≡ map (field_of word) (table.vd ∷ table.rs1 ∷ table.vtype11 ∷ [])
    → (vd ≡ rd_of word) × (rs1 ≡ rs1_of word) × (vtype11 ≡ vtype11_of word)
vsetvli_read word vd rs1 vtype11 h =
    let values = h ∙ values_3 (rd_read word) (rs1_read word) (vtype11_read word) in
    (cc, cc, cc)

pub vsetivli_read : (word vd rs1 vtype10 : ℕ) → (pos vd ∷ pos rs1 ∷ pos vtype10 ∷ []) ≡ map (field_of word) (table.vd ∷ table.rs1 ∷ table.vtype10 ∷ [])
    → (vd ≡ rd_of word) × (rs1 ≡ rs1_of word) × (vtype10 ≡ vtype10_of word)
vsetivli_read word vd rs1 vtype10 h =
    let values = h ∙ values_3 (rd_read word) (rs1_read word) (vtype10_read word) in
    (cc, cc, cc)

pub vsetvl_read : (word vd rs1 rs2 : ℕ) → (pos vd ∷ pos rs1 ∷ pos rs2 ∷ []) ≡ map (field_of word) (table.vd ∷ table.rs1 ∷ table.rs2 ∷ [])
    → (vd ≡ rd_of word) × (rs1 ≡ rs1_of word) × (rs2 ≡ rs2_of word)
vsetvl_read word vd rs1 rs2 h =
    let values = h ∙ values_3 (rd_read word) (rs1_read word) (rs2_read word) in
    (cc, cc, cc)

pub unit_read : (word vd rs1 : ℕ) (vm : Bool) → (pos vd ∷ pos rs1 ∷ pos (bit_of vm) ∷ []) ≡ map (field_of word) (table.vd ∷ table.rs1 ∷ table.vm ∷ [])
    → (vd ≡ rd_of word) × (rs1 ≡ rs1_of word) × (vm ≡ vm_of word)
unit_read word vd rs1 vm h =
    let values = h ∙ values_3 (rd_read word) (rs1_read word) (vm_read word) in
    let flag : vm_of word ≡ vm = flag_of-bit vm (part word 25 1) (omega arith) cc in
    (cc, cc, sym flag)

pub offset_read : (word vd rs1 vs2 : ℕ) (vm : Bool) → (pos vd ∷ pos rs1 ∷ pos vs2 ∷ pos (bit_of vm) ∷ []) ≡ map (field_of word) (table.vd ∷ table.rs1
    ∷ table.vs2 ∷ table.vm ∷ []) → (vd ≡ rd_of word) × (rs1 ≡ rs1_of word) × (vs2 ≡ rs2_of word) × (vm ≡ vm_of word)
offset_read word vd rs1 vs2 vm h =
    let values = h ∙ values_4 (rd_read word) (rs1_read word) (rs2_read word) (vm_read word) in
    let flag : vm_of word ≡ vm = flag_of-bit vm (part word 25 1) (omega arith) cc in
    (cc, cc, cc, sym flag)

-- The code that puts a pixel and its address into the lanes with an iteration's number.
use Rattle.std.proofs.Common.{◌≡◌, ℕ, suc, ◌+◌, ◌*◌, ◌%◌, ◌^◌, ◌<◌, ◌≤◌, List, [], ◌∷◌, length, true, false, refl, ap, ◌∙◌, subst, arith}
use Rattle.std.specs.Prelude.{◌≢◌, ◌==◌, if◌then◌else◌, min, pos}
use Rattle.std.proofs.lemmas.Bool.Decides.{nat_tests}
use Rattle.rv_insn.specs.declared.instructions.Insn.{Insn}
use Rattle.rv_insn.specs.declared.instructions.Insn.TheVariants.{AluImm, Vector}
use Rattle.rv_insn.specs.declared.operations.AluImmOp.TheVariants as alu_imms
use Rattle.rv_insn.specs.declared.vector_instructions.VectorInsn.TheVariants as v
use Rattle.rv_insn.specs.declared.vector_operations.CompareVxOp.TheVariants as compare_vxs
use Rattle.hart_core.specs.Scalar.{one_if}
use Rattle.vector_unit.specs.Vector.{most_elements}
use Rattle.multi_hart_laws.specs.Alone.{World}
use Rattle.multi_hart_laws.specs.Paths.{Line, configure, update, lane, bit}
use Rattle.multi_hart_laws.proofs.Paths.{line-then, update-other}
use Rattle.multi_hart_laws.proofs.Configurations.{configure-by}
use Rattle.multi_hart_laws.proofs.MaskRows as masks
use Rattle.multi_hart_laws.proofs.VectorRows as rows
use Rattle.task_code_scalar.specs.Words.{Emits}
use Rattle.task_code_scalar.proofs.Spelling.{emits_then}
use Rattle.task_code_scalar.proofs.Values.{imm-sets, Sets as OneSets}
use Rattle.task_code_lanes.specs.declared.groups.LaneGroup.{LaneGroup}
use Rattle.task_code_lanes.specs.Groups.{registers, slot, vtype_of}
use Rattle.task_code_lanes.specs.Leaving.{HasLanes}
use Rattle.task_code_lanes.proofs.Slots.{SlotLies}
use Rattle.task_code_lanes.proofs.Rows.{Writes, writes, writes-lanes}
use Rattle.task_code_lanes.proofs.Slots.{slot-at}
use Rattle.task_code_lanes.proofs.Configured.{supported, most, few-lanes, has-lanes, configured-others}
use Rattle.task_code_variables.specs.Collecting.{PutIn, PutsIntoLane}

next-is : (i : ℕ) → i < 16 → (i + 1) % 2 ^ 32 ≡ suc i
next-is i l = omega (arith, l)

least-is : (n i most : ℕ) → n ≡ suc i → suc i ≤ most → min n most ≡ suc i
least-is n i most e l = omega (arith, e, l)

word-is : (n x : ℕ) → n ≡ x → x < 2 ^ 32 → n % 2 ^ 32 ≡ x
word-is n x e l = omega (arith, e, l)

-- lanes of the stack are no part of a configuration, nor of what is scratch
configured-lane : (f : ℕ → ℕ) (n vtype q : ℕ) → 34 ≤ q → configure f n vtype q ≡ f q
configured-lane f n vtype q high = update-other (update f 32 n) 33 vtype q (λ e. omega (arith, e, high)) ∙ update-other f 32 n q (λ e. omega (arith, e, high))

-- a lane is marked that has the number, and no other
marked-is : (k i x y : ℕ) → k ≡ i → (if one_if (k == i) == 0 then x else y) ≡ y
marked-is k i x y e = let t : (k == i) ≡ true = grind (arith, nat_tests) in ap (λ b. if one_if b == 0 then x else y) t

unmarked-is : (k i x y : ℕ) → k ≢ i → (if one_if (k == i) == 0 then x else y) ≡ x
unmarked-is k i x y n = let t : (k == i) ≡ false = grind (arith, nat_tests, n) in ap (λ b. if one_if b == 0 then x else y) t

-- a test of lanes' numbers, and what goes by it
abbrev collecting : LaneGroup → ℕ → ℕ → List Insn
collecting group r s =
    AluImm alu_imms.Addi 14 r (pos 1) ∷ Vector (v.Vsetvli 0 14 (vtype_of group)) ∷ Vector (v.ElementNumbers (slot group 2) true)
    ∷ Vector (v.CompareVx compare_vxs.Vmseq 0 (slot group 2) r true) ∷ Vector (v.MergeVx (slot group 0) (slot group 0) s)
    ∷ Vector (v.MergeVx (slot group 1) (slot group 1) 15) ∷ []

module _ (w : World) (m : List ℕ) (l : length m ≡ w.size) (group : LaneGroup) where
  abbrev g : ℕ
  g = registers group

  module _ (r s i pixel address : ℕ) (low : r < 32) (low_s : s < 32) (apart : r ≢ 14) (apart_s : s ≢ 14) (few : i < 4 * g) (f : ℕ → ℕ) (er : f r ≡ i)
      (ep : f s ≡ pixel) (ea : f 15 ≡ address)
      (small_pixel : pixel < 2 ^ 32) (small_address : address < 2 ^ 32) where
    i-small : i < 16
    i-small = let c = few-lanes group in omega (arith, few, c)

    -- the next number, in the second scratch register
    i1 : OneSets w m l (AluImm alu_imms.Addi 14 r (pos 1) ∷ []) f 14 ((i + 1) % 2 ^ 32)
    i1 = imm-sets w m l alu_imms.Addi f 14 r (pos 1) i (omega arith) (omega arith) low er

    abbrev f1 : ℕ → ℕ
    f1 = i1.after

    f1-is : f1 14 ≡ suc i
    f1-is = i1.value ∙ next-is i i-small

    f1-others : (q : ℕ) → q ≢ 14 → f1 q ≡ f q
    f1-others q a = i1.others q a

    -- this many lanes are configured
    abbrev f2 : ℕ → ℕ
    f2 = configure f1 (suc i) (vtype_of group)

    count-is : min (f1 14) (most_elements (vtype_of group)) ≡ suc i
    count-is = least-is (f1 14) i (most_elements (vtype_of group)) f1-is (let e = most group in omega (arith, e, few))

    line2 : Line w (Vector (v.Vsetvli 0 14 (vtype_of group)) ∷ []) f1 m f2 m
    line2 = subst (λ c. Line w (Vector (v.Vsetvli 0 14 (vtype_of group)) ∷ []) f1 m (configure f1 c (vtype_of group)) m) count-is (configure-by w f1 m l 14
        (vtype_of group) (omega arith) (omega arith) (supported group))

    has2 : HasLanes group (suc i) f2
    has2 = has-lanes group f1 (suc i) (omega (arith, few))

    lies0 : SlotLies group 0
    lies0 = slot-at group 0 (omega arith)

    lies1 : SlotLies group 1
    lies1 = slot-at group 1 (omega arith)

    lies2 : SlotLies group 2
    lies2 = slot-at group 2 (omega arith)

    abbrev u : ℕ
    u = slot group 2

    abbrev Sets : List Insn → (ℕ → ℕ) → ℕ → (ℕ → ℕ) → Type 0
    Sets is h d x = Writes w m l group (suc i) is h d x

    -- each lane holds its number, and that of this iteration is marked
    i3 : Sets (Vector (v.ElementNumbers u true) ∷ []) f2 u (λ k. k)
    i3 = writes w m l group (suc i) (λ k. k) (λ k. k) has2 (rows.lane-numbers w f2 m l g has2.configured u lies2.is_group) (λ k b. refl)

    has3 : HasLanes group (suc i) i3.after
    has3 = writes-lanes w m l group (suc i) i3 has2

    scalar3 : (q : ℕ) → q < 32 → q ≢ 14 → i3.after q ≡ f q
    scalar3 q b a = i3.below q (omega (arith, b)) ∙ configured-others f1 (suc i) (vtype_of group) q b ∙ f1-others q a

    i4 : Sets (Vector (v.CompareVx compare_vxs.Vmseq 0 u r true) ∷ []) i3.after 32 (λ k. one_if (k == i))
    i4 = writes w m l group (suc i) (λ k. one_if (k == i)) (λ k. one_if (i3.after (lane u k) == (i3.after r % 2 ^ 32))) has3
        (masks.compare-vx w i3.after m l g has3.configured compare_vxs.Vmseq u r lies2.is_group low)
        (λ k b. ap (λ p. one_if (p == (i3.after r % 2 ^ 32))) (i3.value k b) ∙ ap (λ p. one_if (k == p)) (word-is (i3.after r) i (scalar3 r low apart
        ∙ er) (let c = i-small in omega (arith, c))))

    has4 : HasLanes group (suc i) i4.after
    has4 = writes-lanes w m l group (suc i) i4 has3

    bit4 : (k : ℕ) → k < suc i → i4.after (bit k) ≡ one_if (k == i)
    bit4 k b = let e : bit k ≡ lane 32 k = omega arith in ap i4.after e ∙ i4.value k b

    scalar4 : (q : ℕ) → q < 32 → q ≢ 14 → i4.after q ≡ f q
    scalar4 q b a = i4.below q (omega (arith, b)) ∙ scalar3 q b a

    -- a lane of the stack, before it is written
    stack4 : (d k : ℕ) → d + g ≤ u → k < suc i → i4.after (lane d k) ≡ f (lane d k)
    stack4 d k under b =
        let top = lies2.high in
        i4.below (lane d k) (omega (arith, under, top, b, few)) ∙ i3.below (lane d k) (omega (arith, under, b, few))
        ∙ configured-lane f1 (suc i) (vtype_of group) (lane d k) (omega arith)
        ∙ f1-others (lane d k) (λ e. omega (arith, e))

    abbrev s0 : ℕ
    s0 = slot group 0

    abbrev s1 : ℕ
    s1 = slot group 1

    -- the pixel
    i5 : Sets (Vector (v.MergeVx s0 s0 s) ∷ []) i4.after s0 (λ k. if one_if (k == i) == 0 then f (lane s0 k) else pixel)
    i5 = writes w m l group (suc i) (λ k. if one_if (k == i) == 0 then f (lane s0 k) else pixel) (λ k. if i4.after (bit k) == 0 then i4.after (lane s0 k)
        else i4.after s % 2 ^ 32) has4
        (masks.merge-vx w i4.after m l g has4.configured s0 s0 s lies0.is_group lies0.is_group low_s)
        (λ k b.
        ap (λ z. if z == 0 then i4.after (lane s0 k) else i4.after s % 2 ^ 32) (bit4 k b)
        ∙ ap (λ z. if one_if (k == i) == 0 then z else i4.after s % 2 ^ 32) (stack4 s0 k (let e = lies0.next in let o = lies1.next in omega (arith, e, o)) b)
        ∙ ap (λ z. if one_if (k == i) == 0 then f (lane s0 k) else z) (word-is (i4.after s) pixel (scalar4 s low_s apart_s
        ∙ ep) small_pixel))

    has5 : HasLanes group (suc i) i5.after
    has5 = writes-lanes w m l group (suc i) i5 has4

    bit5 : (k : ℕ) → k < suc i → i5.after (bit k) ≡ one_if (k == i)
    bit5 k b = i5.above (bit k) (let h = lies0.high in omega (arith, h, few)) ∙ bit4 k b

    scalar5 : (q : ℕ) → q < 32 → q ≢ 14 → i5.after q ≡ f q
    scalar5 q b a = i5.below q (omega (arith, b)) ∙ scalar4 q b a

    stack5 : (k : ℕ) → k < suc i → i5.after (lane s1 k) ≡ f (lane s1 k)
    stack5 k b = i5.above (lane s1 k) (let e = lies0.next in omega (arith, e, few)) ∙ stack4 s1 k (let o = lies1.next in omega (arith, o)) b

    -- and its address
    i6 : Sets (Vector (v.MergeVx s1 s1 15) ∷ []) i5.after s1 (λ k. if one_if (k == i) == 0 then f (lane s1 k) else address)
    i6 = writes w m l group (suc i) (λ k. if one_if (k == i) == 0 then f (lane s1 k) else address) (λ k. if i5.after (bit k) == 0 then i5.after (lane s1 k)
        else i5.after 15 % 2 ^ 32) has5
        (masks.merge-vx w i5.after m l g has5.configured s1 s1 15 lies1.is_group lies1.is_group (omega arith))
        (λ k b.
        ap (λ z. if z == 0 then i5.after (lane s1 k) else i5.after 15 % 2 ^ 32) (bit5 k b)
        ∙ ap (λ z. if one_if (k == i) == 0 then z else i5.after 15 % 2 ^ 32) (stack5 k b)
        ∙ ap (λ z. if one_if (k == i) == 0 then f (lane s1 k) else z) (word-is (i5.after 15) address (scalar5 15 (omega arith) (λ e. omega (arith, e))
        ∙ ea) small_address))

    first0 : (k : ℕ) → k < suc i → i6.after (lane s0 k) ≡ (if one_if (k == i) == 0 then f (lane s0 k) else pixel)
    first0 k b = i6.below (lane s0 k) (let e = lies0.next in omega (arith, e, b, few)) ∙ i5.value k b

    -- the code after each step
    abbrev code6 : List Insn
    code6 = Vector (v.MergeVx s1 s1 15) ∷ []

    abbrev code5 : List Insn
    code5 = Vector (v.MergeVx s0 s0 s) ∷ code6

    abbrev code4 : List Insn
    code4 = Vector (v.CompareVx compare_vxs.Vmseq 0 u r true) ∷ code5

    abbrev code3 : List Insn
    code3 = Vector (v.ElementNumbers u true) ∷ code4

    abbrev code2 : List Insn
    code2 = Vector (v.Vsetvli 0 14 (vtype_of group)) ∷ code3

    pub marking : PutIn w m (collecting group r s) group i pixel address f
    marking = record {
      after = i6.after;
      line = line-then w (AluImm alu_imms.Addi 14 r (pos 1) ∷ []) code2 f f1 i6.after m m m i1.line
          (line-then w (Vector (v.Vsetvli 0 14 (vtype_of group)) ∷ []) code3 f1 f2 i6.after m m m line2
          (line-then w (Vector (v.ElementNumbers u true) ∷ []) code4 f2 i3.after i6.after m m m i3.line
          (line-then w (Vector (v.CompareVx compare_vxs.Vmseq 0 u r true) ∷ []) code5 i3.after i4.after i6.after m m m i4.line
          (line-then w (Vector (v.MergeVx s0 s0 s) ∷ []) code6 i4.after i5.after i6.after m m m i5.line i6.line))));
      marks = record {
        has = writes-lanes w m l group (suc i) i6 has5;
        pixel_is = first0 i (omega arith) ∙ marked-is i i (f (lane s0 i)) pixel refl;
        address_is = i6.value i (omega arith) ∙ marked-is i i (f (lane s1 i)) address refl;
        pixels_stay = λ k b. first0 k (omega (arith, b)) ∙ unmarked-is k i (f (lane s0 k)) pixel (λ e. omega (arith, e, b));
        addresses_stay = λ k b. i6.value k (omega (arith, b)) ∙ unmarked-is k i (f (lane s1 k)) address (λ e. omega (arith, e, b));
      };
      keeps = λ q b a. i6.below q (omega (arith, b)) ∙ scalar5 q b a;
    }

-- as the emitter appends it, with where the groups begin
pub puts-into-lane : (group : LaneGroup) (r s pixels addresses numbers : ℕ) (c0 c1 c2 c3 c4 c5 c6 : List ℕ) → r < 32 → s < 32 → numbers ≡ slot group 2
    → pixels ≡ slot group 0 → addresses ≡ slot group 1 → Emits c0 c1 (AluImm alu_imms.Addi 14 r (pos 1) ∷ [])
    → Emits c1 c2 (Vector (v.Vsetvli 0 14 (vtype_of group)) ∷ []) → Emits c2 c3 (Vector (v.ElementNumbers numbers true) ∷ [])
    → Emits c3 c4 (Vector (v.CompareVx compare_vxs.Vmseq 0 numbers r true) ∷ []) → Emits c4 c5 (Vector (v.MergeVx pixels pixels s) ∷ [])
    → Emits c5 c6 (Vector (v.MergeVx addresses addresses 15) ∷ []) → PutsIntoLane c0 c6 group r s
puts-into-lane group r s pixels addresses numbers c0 c1 c2 c3 c4 c5 c6 low low_s en ep ea e1 e2 e3 e4 e5 e6 = record {
  insns = collecting group r s;
  emits = emits_then e1 (emits_then e2 (emits_then (subst (λ n. Emits c2 c3 (Vector (v.ElementNumbers n true) ∷ [])) en e3)
      (emits_then (subst (λ n. Emits c3 c4 (Vector (v.CompareVx compare_vxs.Vmseq 0 n r true) ∷ [])) en e4)
      (emits_then (subst (λ n. Emits c4 c5 (Vector (v.MergeVx n n s) ∷ [])) ep e5)
      (subst (λ n. Emits c5 c6 (Vector (v.MergeVx n n 15) ∷ [])) ea e6)))));
  short = omega arith;
  does = λ w m f i pixel address l apart apart_s few er ep' ea' small_pixel small_address.
      marking w m l group r s i pixel address low low_s apart apart_s few f er ep' ea' small_pixel small_address;
}

-- Operations on lanes.
use Rattle.std.proofs.Common.{◌≡◌, ℕ, ◌^◌, ◌<◌, List, [], ◌∷◌, length, Bool, true, false, ap, ◌∙◌, refl, arith}
use Rattle.std.specs.Prelude.{◌==◌, if◌then◌else◌, pos}
use Rattle.rv_insn.specs.declared.instructions.Insn.TheVariants.{Vector}
use Rattle.rv_insn.specs.declared.vector_instructions.VectorInsn.TheVariants as v
use Rattle.rv_insn.specs.declared.vector_operations.ArithmeticVvOp.{ArithmeticVvOp}
use Rattle.rv_insn.specs.declared.vector_operations.CompareVvOp.{CompareVvOp}
use Rattle.rv_insn.specs.declared.vector_operations.MultiplyOp.TheVariants as multiplies
use Rattle.hart_core.specs.Scalar.{one_if}
use Rattle.lanes.specs.Words as lanes
use Rattle.vector_unit.specs.Operations.{arithmetic_vv, compare_vv}
use Rattle.multi_hart_laws.specs.Alone.{World}
use Rattle.multi_hart_laws.specs.Paths.{lane, bit, IsGroup}
use Rattle.multi_hart_laws.proofs.VectorRows as rows
use Rattle.multi_hart_laws.proofs.MaskRows as masks
use Rattle.task_code_lanes.specs.declared.groups.LaneGroup.{LaneGroup}
use Rattle.task_code_lanes.specs.Groups.{registers, slot}
use Rattle.task_code_lanes.specs.Lanes.{flagged, compared}
use Rattle.task_code_lanes.proofs.Slots.{SlotLies}
use Rattle.task_code_lanes.proofs.Rows.{Writes, Lanes, Leaves, writes, writes-lanes, few-lanes, last, slot-first}

-- a mask bit is where a lane of a register after v31 would
pub bit-is : (i : ℕ) → bit i ≡ lane 32 i
bit-is i = omega arith

flag-is : (t : Bool) → (if one_if t == 0 then 0 else 1) ≡ one_if t
flag-is true = refl
flag-is false = refl

module _ (w : World) (m : List ℕ) (l : length m ≡ w.size) (group : LaneGroup) (n : ℕ) where
  abbrev g : ℕ
  g = registers group

  -- lanes of two groups hold numbers
  abbrev pub Hold : (ℕ → ℕ) → ℕ → (ℕ → ℕ) → Type 0
  Hold f d x = (i : ℕ) → i < n → f (lane d i) ≡ x i

  abbrev pub Small : (ℕ → ℕ) → Type 0
  Small x = (i : ℕ) → i < n → x i < 2 ^ 32

  module _ (f : ℕ → ℕ) (has : Lanes w m l group n f) where
    both : (h : ℕ → ℕ → ℕ) (a b : ℕ) (x y : ℕ → ℕ) → Hold f a x → Hold f b y → (i : ℕ) → i < n → h (f (lane a i)) (f (lane b i)) ≡ h (x i) (y i)
    both h a b x y hx hy i lt = ap (λ p. h p (f (lane b i))) (hx i lt) ∙ ap (h (x i)) (hy i lt)

    pub arithmetic-writes : (o : ArithmeticVvOp) (d a b : ℕ) (x y : ℕ → ℕ) → IsGroup g d → IsGroup g a → IsGroup g b → Hold f a x → Hold f b y
        → Writes w m l group n (Vector (v.ArithmeticVv o d a b true) ∷ []) f d (λ i. arithmetic_vv o 32 (x i) (y i))
    arithmetic-writes o d a b x y id ia ib hx hy =
        writes w m l group n (λ i. arithmetic_vv o 32 (x i) (y i)) (λ i. arithmetic_vv o 32 (f (lane a i)) (f (lane b i))) has
        (rows.arithmetic-vv w f m l g has.configured o d a b id ia ib) (both (arithmetic_vv o 32) a b x y hx hy)

    pub product-writes : (d a b : ℕ) (x y : ℕ → ℕ) → IsGroup g d → IsGroup g a → IsGroup g b → Hold f a x → Hold f b y
        → Writes w m l group n (Vector (v.MultiplyVv multiplies.Vmul d a b true) ∷ []) f d (λ i. lanes.multiply 32 (x i) (y i))
    product-writes d a b x y id ia ib hx hy =
        writes w m l group n (λ i. lanes.multiply 32 (x i) (y i)) (λ i. lanes.multiply 32 (f (lane a i)) (f (lane b i))) has
        (rows.multiply-vv w f m l g has.configured multiplies.Vmul d a b id ia ib) (both (lanes.multiply 32) a b x y hx hy)

    pub compare-writes : (o : CompareVvOp) (a b : ℕ) (x y : ℕ → ℕ) → IsGroup g a → IsGroup g b → Hold f a x → Hold f b y
        → Writes w m l group n (Vector (v.CompareVv o 0 a b true) ∷ []) f 32 (λ i. one_if (compare_vv o 32 (x i) (y i)))
    compare-writes o a b x y ia ib hx hy =
        writes w m l group n (λ i. one_if (compare_vv o 32 (x i) (y i))) (λ i. one_if (compare_vv o 32 (f (lane a i)) (f (lane b i)))) has
        (masks.compare-vv w f m l g has.configured o a b ia ib) (both (λ p q. one_if (compare_vv o 32 p q)) a b x y hx hy)

  module _ (k : ℕ) (lies : SlotLies group k) where
    abbrev r : ℕ
    r = slot group k

    -- mask bits become lanes
    pub flagged-leaves : (f : ℕ → ℕ) (t : ℕ → Bool) → Lanes w m l group n f → ((i : ℕ) → i < n → f (bit i) ≡ one_if (t i))
        → Leaves w m l group n (flagged r) f k (λ i. one_if (t i))
    flagged-leaves f t has bits =
        let few = few-lanes w m l group n f has in
        let high = lies.high in
        let i1 : Writes w m l group n (Vector (v.MoveVi r (pos 0)) ∷ []) f r (λ i. 0) = writes w m l group n (λ i. 0) (λ i. lanes.wrapped 32 (pos 0)) has
        (rows.move-vi w f m l g has.configured r (pos 0) lies.is_group) (λ i b. refl) in
        let has1 = writes-lanes w m l group n i1 has in
        let f1 = i1.after in
        let kept : (i : ℕ) → i < n → f1 (bit i) ≡ one_if (t i) = λ i b. i1.above (bit i) (omega (arith, high, few)) ∙ bits i b in
        let i2 : Writes w m l group n (Vector (v.MergeVi r r (pos 1)) ∷ []) f1 r (λ i. one_if (t i)) = writes w m l group n (λ i. one_if (t i))
        (λ i. if f1 (bit i) == 0 then f1 (lane r i) else lanes.wrapped 32 (pos 1)) has1 (masks.merge-vi w f1 m l g has1.configured r r (pos 1) lies.is_group
        lies.is_group)
        (λ i b. ap (λ z. if z == 0 then f1 (lane r i) else 1) (kept i b) ∙ ap (λ z. if one_if (t i) == 0 then z else 1) (i1.value i b) ∙ flag-is (t i)) in
        slot-first w m l group n k lies i1 (omega arith) (last w m l group n k lies i2)

    pub compared-leaves : (o : CompareVvOp) (f : ℕ → ℕ) (a b : ℕ) (x y : ℕ → ℕ) (t : ℕ → Bool) → Lanes w m l group n f → IsGroup g a → IsGroup g b → Hold f a x
        → Hold f b y
        → ((i : ℕ) → i < n → compare_vv o 32 (x i) (y i) ≡ t i) → Leaves w m l group n (compared o r a b) f k (λ i. one_if (t i))
    compared-leaves o f a b x y t has ia ib hx hy same =
        let i1 = compare-writes f has o a b x y ia ib hx hy in
        let high = lies.high in
        slot-first w m l group n k lies i1 (omega (arith, high))
        (flagged-leaves i1.after t (writes-lanes w m l group n i1 has) (λ i b. ap i1.after (bit-is i) ∙ i1.value i b ∙ ap one_if (same i b)))

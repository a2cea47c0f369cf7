-- Operations on lanes.
use Rattle.std.proofs.Common.{◌≡◌, ℕ, ◌+◌, ◌*◌, ◌%◌, ◌^◌, ◌<◌, List, [], ◌∷◌, length, Bool, true, refl, ap, ◌∙◌, sym, subst, arith}
use Rattle.std.specs.Prelude.{◌==◌, if◌then◌else◌, not}
use Rattle.rv_insn.specs.declared.instructions.Insn.TheVariants.{Vector}
use Rattle.rv_insn.specs.declared.vector_instructions.VectorInsn.TheVariants as v
use Rattle.rv_insn.specs.declared.vector_operations.ArithmeticVvOp.{ArithmeticVvOp}
use Rattle.rv_insn.specs.declared.vector_operations.ArithmeticVvOp.TheVariants as vvs
use Rattle.rv_insn.specs.declared.vector_operations.ArithmeticVxOp.{ArithmeticVxOp}
use Rattle.rv_insn.specs.declared.vector_operations.ArithmeticVxOp.TheVariants as vxs
use Rattle.rv_insn.specs.declared.vector_operations.CompareVvOp.{CompareVvOp}
use Rattle.rv_insn.specs.declared.vector_operations.CompareVvOp.TheVariants as compares
use Rattle.rv_insn.specs.declared.vector_operations.MultiplyOp.TheVariants as multiplies
use Rattle.hart_core.specs.Scalar.{one_if}
use Rattle.lanes.specs.Words as lanes
use Rattle.vector_unit.specs.Operations.{arithmetic_vv, arithmetic_vx, compare_vv}
use Rattle.halide_pipeline.specs.declared.expressions.Operation.{Operation}
use Rattle.halide_pipeline.specs.declared.expressions.Operation.TheVariants as op
use Rattle.halide_pipeline.specs.Words as word
use Rattle.multi_hart_laws.specs.Alone.{World}
use Rattle.multi_hart_laws.specs.Paths.{lane, IsGroup}
use Rattle.multi_hart_laws.proofs.VectorRows as vector
use Rattle.task_code_scalar.specs.Words.{Emits}
use Rattle.task_code_scalar.proofs.Evaluation.{applied-below}
use Rattle.task_code_scalar.proofs.Numbers.{less-is}
use Rattle.task_code_lanes.specs.declared.groups.LaneGroup.{LaneGroup}
use Rattle.task_code_lanes.specs.Groups.{registers, slots, slot}
use Rattle.task_code_lanes.specs.Lanes.{compared}
use Rattle.task_code_lanes.proofs.Slots.{SlotLies, slot-lies}
use Rattle.task_code_lanes.proofs.Rows as rows
use Rattle.task_code_lanes.proofs.Operations.{Hold, Small, arithmetic-writes, product-writes, compared-leaves}
use Rattle.task_code_lane_values.specs.inner.Parts.{ComputesBy, ComputesTwo, AnyWord, IsBy, IsComputedBy, operation_rows}
use Rattle.task_code_lane_values.proofs.Composing.{left-of}

-- ---- instructions with a register

pub by-add : IsBy op.Add vxs.Vadd
unfolding word.add
by-add x c lx lc = refl

pub by-subtract : IsBy op.Subtract vxs.Vsub
unfolding word.subtract
by-subtract x c lx lc = refl

pub by-minimum : IsBy op.Minimum vxs.Vmin
by-minimum x c lx lc = ap (λ t. if t then c else x) (less-is c x lc lx)

pub by-maximum : IsBy op.Maximum vxs.Vmax
by-maximum x c lx lc = ap (λ t. if t then c else x) (less-is x c lx lc)

pub swapped-add : IsComputedBy op.Add vxs.Vadd
unfolding word.add
swapped-add x c lx lc = let e : x + c ≡ c + x = omega arith in ap (λ n. n % 2 ^ 32) e

pub swapped-subtract : IsComputedBy op.Subtract vxs.Vrsub
unfolding word.subtract
swapped-subtract x c lx lc = refl

pub by-as-is : (o other : Operation) (arithmetic_vx_op : ArithmeticVxOp) → o ≡ other → IsBy other arithmetic_vx_op
    → IsBy o arithmetic_vx_op
by-as-is o other arithmetic_vx_op e is = subst (λ z. IsBy z arithmetic_vx_op) (sym e) is

pub swapped-as-is : (o other : Operation) (arithmetic_vx_op : ArithmeticVxOp) → o ≡ other → IsComputedBy other arithmetic_vx_op → IsComputedBy o arithmetic_vx_op
swapped-as-is o other arithmetic_vx_op e is = subst (λ z. IsComputedBy z arithmetic_vx_op) (sym e) is

-- ---- two groups

module _ (w : World) (m : List ℕ) (l : length m ≡ w.size) (group : LaneGroup) (n k : ℕ) (lies : SlotLies group k) (a b : ℕ) (ia : IsGroup (registers group) a)
    (ib : IsGroup (registers group) b) (f x y : ℕ → ℕ) (has : rows.Lanes w m l group n f) (hx : Hold w m l group n f a x) (hy : Hold w m l group n f b y)
    (lx : Small w m l group n x) (ly : Small w m l group n y) where
  abbrev d : ℕ
  d = slot group k

  by-vv : (o : ArithmeticVvOp) (h : ℕ → ℕ) → ((i : ℕ) → i < n → arithmetic_vv o 32 (x i) (y i) ≡ h i)
      → rows.Leaves w m l group n (Vector (v.ArithmeticVv o d a b true) ∷ []) f k h
  by-vv o h same =
      rows.same-values w m l group n k lies same (rows.last w m l group n k lies
      (arithmetic-writes w m l group n f has o d a b x y lies.is_group ia ib hx hy))

  by-comparison : (o : CompareVvOp) (p q : ℕ) (z t : ℕ → ℕ) (h : ℕ → Bool) → IsGroup (registers group) p → IsGroup (registers group) q
      → Hold w m l group n f p z → Hold w m l group n f q t → ((i : ℕ) → i < n → compare_vv o 32 (z i) (t i) ≡ h i)
      → rows.Leaves w m l group n (compared o d p q) f k (λ i. one_if (h i))
  by-comparison o p q z t h ip iq hz ht same = compared-leaves w m l group n k lies o f p q z t h has ip iq hz ht same

  pub rows-leave : (o : Operation) → rows.Leaves w m l group n (operation_rows o d a b) f k (λ i. word.applied o (x i) (y i))
  unfolding word.add word.subtract word.multiply
  rows-leave op.Add = by-vv vvs.Vadd _ (λ i lt. refl)
  rows-leave op.Subtract = by-vv vvs.Vsub _ (λ i lt. refl)
  rows-leave op.Multiply = rows.last w m l group n k lies (product-writes w m l group n f has d a b x y lies.is_group ia ib hx hy)
  rows-leave op.Minimum = by-vv vvs.Vmin _ (λ i lt. ap (λ c. if c then y i else x i) (less-is (y i) (x i) (ly i lt) (lx i lt)))
  rows-leave op.Maximum = by-vv vvs.Vmax _ (λ i lt. ap (λ c. if c then y i else x i) (less-is (x i) (y i) (lx i lt) (ly i lt)))
  rows-leave op.Less = by-comparison compares.Vmslt a b x y (λ i. word.less (x i) (y i)) ia ib hx hy (λ i lt. less-is (x i) (y i) (lx i lt) (ly i lt))
  rows-leave op.LessOrEqual =
      by-comparison compares.Vmsle a b x y (λ i. not (word.less (y i) (x i))) ia ib hx hy (λ i lt. ap not (less-is (y i) (x i) (ly i lt) (lx i lt)))
  rows-leave op.Greater = by-comparison compares.Vmslt b a y x (λ i. word.less (y i) (x i)) ib ia hy hx (λ i lt. less-is (y i) (x i) (ly i lt) (lx i lt))
  rows-leave op.GreaterOrEqual =
      by-comparison compares.Vmsle b a y x (λ i. not (word.less (x i) (y i))) ib ia hy hx (λ i lt. ap not (less-is (x i) (y i) (lx i lt) (ly i lt)))
  rows-leave op.Equal = by-comparison compares.Vmseq a b x y (λ i. x i == y i) ia ib hx hy (λ i lt. refl)
  rows-leave op.NotEqual = by-comparison compares.Vmsne a b x y (λ i. not (x i == y i)) ia ib hx hy (λ i lt. refl)

-- ---- one instruction

module _ (group : LaneGroup) (k : ℕ) (in-stack : k < slots group) where
  abbrev r : ℕ
  r = slot group k

  abbrev lies : SlotLies group k
  lies = slot-lies group k in-stack

  two-made : (o : Operation) (c0 c1 : List ℕ) → k + 1 < slots group → Emits c0 c1 (operation_rows o r r (slot group (k + 1)))
      → ComputesTwo c0 c1 group k (word.applied o)
  two-made o c0 c1 next x = record {
    insns = operation_rows o r r (slot group (k + 1));
    emits = x;
    does = λ w m n f u t l has hu ht lu lt.
        left-of w m l group n (operation_rows o r r (slot group (k + 1))) f k (λ i. word.applied o (u i) (t i)) (λ i b. applied-below o (u i) (t i)
        (lu i b) (lt i b))
        (rows-leave w m l group n k lies r (slot group (k + 1)) lies.is_group (slot-lies group (k + 1) next).is_group f u t has hu ht lu lt o);
  }

  swapped-made : (o : Operation) (c0 c1 : List ℕ) → k + 1 < slots group → Emits c0 c1 (operation_rows o r (slot group (k + 1)) r)
      → ComputesTwo c0 c1 group k (λ x y. word.applied o y x)
  swapped-made o c0 c1 next x = record {
    insns = operation_rows o r (slot group (k + 1)) r;
    emits = x;
    does = λ w m n f u t l has hu ht lu lt.
        left-of w m l group n (operation_rows o r (slot group (k + 1)) r) f k (λ i. word.applied o (t i) (u i)) (λ i b. applied-below o (t i) (u i)
        (lt i b) (lu i b))
        (rows-leave w m l group n k lies (slot group (k + 1)) r (slot-lies group (k + 1) next).is_group lies.is_group f t u has ht hu lt lu o);
  }

  pub two-as : (o : Operation) (a b : ℕ) (c0 c1 : List ℕ) → k + 1 < slots group → a ≡ slot group k → b ≡ slot group (k + 1) → Emits c0 c1
      (operation_rows o a a b)
      → ComputesTwo c0 c1 group k (word.applied o)
  two-as o a b c0 c1 next ea eb x = two-made o c0 c1 next (subst (λ z. Emits c0 c1 (operation_rows o r r z)) eb (subst (λ z. Emits c0 c1
      (operation_rows o z z b)) ea x))

  pub swapped-as : (o : Operation) (a b : ℕ) (c0 c1 : List ℕ) → k + 1 < slots group → a ≡ slot group k → b ≡ slot group (k + 1) → Emits c0 c1
      (operation_rows o a b a)
      → ComputesTwo c0 c1 group k (λ x y. word.applied o y x)
  swapped-as o a b c0 c1 next ea eb x = swapped-made o c0 c1 next (subst (λ z. Emits c0 c1 (operation_rows o r z r)) eb (subst (λ z. Emits c0 c1
      (operation_rows o z b z)) ea x))

  module _ (s : ℕ) (low : s < 32) (c0 c1 : List ℕ) (says : ℕ → ℕ → ℕ) (small : (x c : ℕ) → x < 2 ^ 32 → c < 2 ^ 32 → says x c < 2 ^ 32) where
    pub by-arithmetic : (o : ArithmeticVxOp) → ((x c : ℕ) → x < 2 ^ 32 → c < 2 ^ 32 → arithmetic_vx o 32 x c ≡ says x c) → Emits c0 c1 (Vector
        (v.ArithmeticVx o r r s true) ∷ [])
        → ComputesBy c0 c1 group k s AnyWord says
    by-arithmetic o same x = record {
      insns = Vector (v.ArithmeticVx o r r s true) ∷ [];
      emits = x;
      does = λ w m n f u c l has hu lu es lc is.
          let ec : f s % 2 ^ 32 ≡ c = omega (arith, es, lc) in
          left-of w m l group n (Vector (v.ArithmeticVx o r r s true) ∷ []) f k (λ i. says (u i) c) (λ i b. small (u i) c (lu i b) lc)
          (rows.last w m l group n k lies (rows.writes w m l group n (λ i. says (u i) c) (λ i. arithmetic_vx o 32 (f (lane r i)) (f s % 2 ^ 32)) has
          (vector.arithmetic-vx w f m l (registers group) has.configured o r r s lies.is_group lies.is_group low)
          (λ i b. ap (λ z. arithmetic_vx o 32 z (f s % 2 ^ 32)) (hu i b) ∙ ap (arithmetic_vx o 32 (u i)) ec ∙ same (u i) c (lu i b) lc)));
    }

    pub by-product : ((x c : ℕ) → x < 2 ^ 32 → c < 2 ^ 32 → lanes.multiply 32 x c ≡ says x c) → Emits c0 c1 (Vector
        (v.MultiplyVx multiplies.Vmul r r s true) ∷ [])
        → ComputesBy c0 c1 group k s AnyWord says
    by-product same x = record {
      insns = Vector (v.MultiplyVx multiplies.Vmul r r s true) ∷ [];
      emits = x;
      does = λ w m n f u c l has hu lu es lc is.
          let ec : f s % 2 ^ 32 ≡ c = omega (arith, es, lc) in
          left-of w m l group n (Vector (v.MultiplyVx multiplies.Vmul r r s true) ∷ []) f k (λ i. says (u i) c) (λ i b. small (u i) c (lu i b) lc)
          (rows.last w m l group n k lies (rows.writes w m l group n (λ i. says (u i) c) (λ i. lanes.multiply 32 (f (lane r i)) (f s % 2 ^ 32)) has
          (vector.multiply-vx w f m l (registers group) has.configured multiplies.Vmul r r s lies.is_group lies.is_group low)
          (λ i b. ap (λ z. lanes.multiply 32 z (f s % 2 ^ 32)) (hu i b) ∙ ap (lanes.multiply 32 (u i)) ec ∙ same (u i) c (lu i b) lc)));
    }

  module _ (o : Operation) (s : ℕ) (low : s < 32) (c0 c1 : List ℕ) where
    pub second-arithmetic : (arithmetic_vx_op : ArithmeticVxOp) → IsBy o arithmetic_vx_op → Emits c0 c1 (Vector (v.ArithmeticVx arithmetic_vx_op r r s true) ∷ [])
        → ComputesBy c0 c1 group k s AnyWord (word.applied o)
    second-arithmetic arithmetic_vx_op is x = by-arithmetic s low c0 c1 (word.applied o) (λ x c lx lc. applied-below o x c lx lc) arithmetic_vx_op is x

    pub first-arithmetic : (arithmetic_vx_op : ArithmeticVxOp) → IsComputedBy o arithmetic_vx_op → Emits c0 c1 (Vector (v.ArithmeticVx arithmetic_vx_op r r s true) ∷ [])
        → ComputesBy c0 c1 group k s AnyWord (λ x c. word.applied o c x)
    first-arithmetic arithmetic_vx_op is x = by-arithmetic s low c0 c1 (λ x c. word.applied o c x) (λ x c lx lc. applied-below o c x lc lx) arithmetic_vx_op is x

    pub second-product : o ≡ op.Multiply → Emits c0 c1 (Vector (v.MultiplyVx multiplies.Vmul r r s true) ∷ []) → ComputesBy c0 c1 group k s AnyWord
        (word.applied o)
    unfolding word.multiply
    second-product e x =
        subst (λ z. ComputesBy c0 c1 group k s AnyWord (word.applied z)) (sym e)
        (by-product s low c0 c1 (word.applied op.Multiply) (λ x c lx lc. applied-below op.Multiply x c lx lc) (λ x c lx lc. refl) x)

    pub first-product : o ≡ op.Multiply → Emits c0 c1 (Vector (v.MultiplyVx multiplies.Vmul r r s true) ∷ []) → ComputesBy c0 c1 group k s AnyWord
        (λ x c. word.applied o c x)
    unfolding word.multiply
    first-product e x =
        subst (λ z. ComputesBy c0 c1 group k s AnyWord (λ x c. word.applied z c x)) (sym e)
        (by-product s low c0 c1 (λ x c. word.applied op.Multiply c x) (λ x c lx lc. applied-below op.Multiply c x lc lx)
        (λ x c lx lc. let g : x * c ≡ c * x = omega arith in ap (λ n. n % 2 ^ 32) g) x)

    -- as the emitters call them
    pub second-by : (a : ℕ) → a ≡ r → (arithmetic_vx_op : ArithmeticVxOp) → IsBy o arithmetic_vx_op → Emits c0 c1 (Vector (v.ArithmeticVx arithmetic_vx_op a a s true) ∷ [])
        → ComputesBy c0 c1 group k s AnyWord (word.applied o)
    second-by a ea arithmetic_vx_op is x = second-arithmetic arithmetic_vx_op is (subst (λ z. Emits c0 c1 (Vector (v.ArithmeticVx arithmetic_vx_op z z s true) ∷ [])) ea x)

    pub first-by : (a : ℕ) → a ≡ r → (arithmetic_vx_op : ArithmeticVxOp) → IsComputedBy o arithmetic_vx_op → Emits c0 c1 (Vector (v.ArithmeticVx arithmetic_vx_op a a s true) ∷ [])
        → ComputesBy c0 c1 group k s AnyWord (λ x c. word.applied o c x)
    first-by a ea arithmetic_vx_op is x = first-arithmetic arithmetic_vx_op is (subst (λ z. Emits c0 c1 (Vector (v.ArithmeticVx arithmetic_vx_op z z s true) ∷ [])) ea x)

    pub second-times : (a : ℕ) → a ≡ r → o ≡ op.Multiply → Emits c0 c1 (Vector (v.MultiplyVx multiplies.Vmul a a s true) ∷ [])
        → ComputesBy c0 c1 group k s AnyWord (word.applied o)
    second-times a ea e x = second-product e (subst (λ z. Emits c0 c1 (Vector (v.MultiplyVx multiplies.Vmul z z s true) ∷ [])) ea x)

    pub first-times : (a : ℕ) → a ≡ r → o ≡ op.Multiply → Emits c0 c1 (Vector (v.MultiplyVx multiplies.Vmul a a s true) ∷ [])
        → ComputesBy c0 c1 group k s AnyWord (λ x c. word.applied o c x)
    first-times a ea e x = first-product e (subst (λ z. Emits c0 c1 (Vector (v.MultiplyVx multiplies.Vmul z z s true) ∷ [])) ea x)

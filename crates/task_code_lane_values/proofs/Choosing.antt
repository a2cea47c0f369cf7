-- A choice of lanes by those of another group.
use Rattle.std.proofs.Common.{◌≡◌, ℕ, ◌+◌, ◌^◌, ◌<◌, List, [], ◌∷◌, length, Bool, true, false, refl, ap, ◌∙◌, subst, arith}
use Rattle.std.specs.Prelude.{◌==◌, if◌then◌else◌, not, pos}
use Rattle.rv_insn.specs.declared.instructions.Insn.{Insn}
use Rattle.rv_insn.specs.declared.instructions.Insn.TheVariants.{Vector}
use Rattle.rv_insn.specs.declared.vector_instructions.VectorInsn.TheVariants as v
use Rattle.rv_insn.specs.declared.vector_operations.CompareViOp.TheVariants as compare_vis
use Rattle.hart_core.specs.Scalar.{one_if}
use Rattle.lanes.specs.Words as lanes
use Rattle.multi_hart_laws.specs.Alone.{World}
use Rattle.multi_hart_laws.specs.Paths.{lane, bit, IsGroup}
use Rattle.multi_hart_laws.proofs.MaskRows as masks
use Rattle.task_code_scalar.specs.Words.{Emits}
use Rattle.task_code_scalar.proofs.Spelling.{emits_then}
use Rattle.task_code_scalar.proofs.Evaluation.{chosen-below}
use Rattle.task_code_lanes.specs.declared.groups.LaneGroup.{LaneGroup}
use Rattle.task_code_lanes.specs.Groups.{registers, slots, slot}
use Rattle.task_code_lanes.proofs.Slots.{SlotLies, slot-lies}
use Rattle.task_code_lanes.proofs.Rows as rows
use Rattle.task_code_lanes.proofs.Operations.{Hold, bit-is}
use Rattle.task_code_lane_values.specs.inner.Parts.{Chooses, ComputesThree}
use Rattle.task_code_lane_values.proofs.Composing.{left-of}

-- what is tested in group c, and merged from groups a and b into group k
abbrev choice : LaneGroup → ℕ → ℕ → ℕ → ℕ → List Insn
choice group k c a b = Vector (v.CompareVi compare_vis.Vmsne 0 (slot group c) (pos 0) true) ∷ Vector (v.MergeVv (slot group k) (slot group b)
    (slot group a)) ∷ []

chosen-is : (c x y : ℕ) → (if one_if (not (c == 0)) == 0 then y else x) ≡ (if c == 0 then y else x)
chosen-is c x y = by-test (c == 0)
  where
    by-test : (t : Bool) → (if one_if (not t) == 0 then y else x) ≡ (if t then y else x)
    by-test true = refl
    by-test false = refl

module _ (w : World) (m : List ℕ) (l : length m ≡ w.size) (group : LaneGroup) (n k : ℕ) (lies : SlotLies group k) where
  choice-leaves : (c a b : ℕ) (f t x y : ℕ → ℕ) → IsGroup (registers group) (slot group c) → IsGroup (registers group) (slot group a)
      → IsGroup (registers group) (slot group b) → rows.Lanes w m l group n f → Hold w m l group n f (slot group c) t → Hold w m l group n f (slot group a) x
      → Hold w m l group n f (slot group b) y
      → rows.Leaves w m l group n (choice group k c a b) f k (λ i. if t i == 0 then y i else x i)
  choice-leaves c a b f t x y ic ia ib has hc ha hb =
      let r = slot group k in
      let few = rows.few-lanes w m l group n f has in
      let high = lies.high in
      let test : rows.Writes w m l group n (Vector (v.CompareVi compare_vis.Vmsne 0 (slot group c) (pos 0) true) ∷ []) f 32 (λ i. one_if (not (t i == 0))) =
      rows.writes w m l group n (λ i. one_if (not (t i == 0))) (λ i. one_if (not (f (lane (slot group c) i) == lanes.wrapped 32 (pos 0)))) has
      (masks.compare-vi w f m l (registers group) has.configured compare_vis.Vmsne (slot group c) (pos 0) ic)
      (λ i lt. ap (λ z. one_if (not (z == 0))) (hc i lt)) in
      let has1 = rows.writes-lanes w m l group n test has in
      let g = test.after in
      let fa = ia.fits in
      let fb = ib.fits in
      let et : (i : ℕ) → i < n → g (bit i) ≡ one_if (not (t i == 0)) = (λ i lt. ap g (bit-is i) ∙ test.value i lt) in
      let ea : (i : ℕ) → i < n → g (lane (slot group a) i) ≡ x i = (λ i lt. test.below (lane (slot group a) i) (omega (arith, fa, few, lt)) ∙ ha i lt) in
      let eb : (i : ℕ) → i < n → g (lane (slot group b) i) ≡ y i = (λ i lt. test.below (lane (slot group b) i) (omega (arith, fb, few, lt)) ∙ hb i lt) in
      let merged : rows.Writes w m l group n (Vector (v.MergeVv r (slot group b) (slot group a)) ∷ []) g r (λ i. if t i == 0 then y i else x i) =
      rows.writes w m l group n (λ i. if t i == 0 then y i else x i) (λ i. if g (bit i) == 0 then g (lane (slot group b) i) else g (lane (slot group a) i)) has1
      (masks.merge-vv w g m l (registers group) has1.configured r (slot group b) (slot group a) lies.is_group ib ia)
      (λ i lt. ap (λ z. if z == 0 then g (lane (slot group b) i) else g (lane (slot group a) i)) (et i lt)
      ∙ ap (λ z. if one_if (not (t i == 0)) == 0 then z else g (lane (slot group a) i)) (eb i lt)
      ∙ ap (λ z. if one_if (not (t i == 0)) == 0 then y i else z) (ea i lt) ∙ chosen-is (t i) (x i) (y i)) in
      rows.slot-first w m l group n k lies test (omega (arith, high)) (rows.last w m l group n k lies merged)

pub choice-as : (group : LaneGroup) (k c a b : ℕ) → k < slots group → c < slots group → a < slots group → b < slots group → (r q s t : ℕ) (c0 c1 c2 : List ℕ)
    → r ≡ slot group k → q ≡ slot group c → s ≡ slot group a → t ≡ slot group b
    → Emits c0 c1 (Vector (v.CompareVi compare_vis.Vmsne 0 q (pos 0) true) ∷ []) → Emits c1 c2 (Vector (v.MergeVv r t s) ∷ [])
    → Chooses c0 c2 group k c a b
choice-as group k c a b lk lc la lb r q s t c0 c1 c2 er eq es et x y = record {
  insns = choice group k c a b;
  emits =
      emits_then (subst (λ z. Emits c0 c1 (Vector (v.CompareVi compare_vis.Vmsne 0 z (pos 0) true) ∷ [])) eq x)
      (subst (λ z. Emits c1 c2 (Vector (v.MergeVv (slot group k) (slot group b) z) ∷ [])) es
      (subst (λ z. Emits c1 c2 (Vector (v.MergeVv (slot group k) z s) ∷ [])) et (subst (λ z. Emits c1 c2 (Vector (v.MergeVv z t s) ∷ [])) er y)));
  does = λ w m n f u g h l has hc ha hb lg lh.
      left-of w m l group n (choice group k c a b) f k (λ i. if u i == 0 then h i else g i)
      (λ i lt. chosen-below (u i == 0) (h i) (g i) (2 ^ 32) (lh i lt) (lg i lt))
      (choice-leaves w m l group n k (slot-lies group k lk) c a b f u g h (slot-lies group c lc).is_group (slot-lies group a la).is_group
      (slot-lies group b lb).is_group has hc ha hb);
}

-- ---- by which part is in group k, and which after it

module _ (group : LaneGroup) (k : ℕ) (c0 c1 : List ℕ) where
  pub by-condition : Chooses c0 c1 group k k (k + 1) (k + 2) → ComputesThree c0 c1 group k (λ c a b. if c == 0 then b else a)
  by-condition z = record {
    insns = z.insns;
    emits = z.emits;
    does = λ w m n f c a b l has hc ha hb lc la lb. z.does w m n f c a b l has hc ha hb la lb;
  }

  pub by-one : Chooses c0 c1 group k (k + 1) k (k + 2) → ComputesThree c0 c1 group k (λ a c b. if c == 0 then b else a)
  by-one z = record {
    insns = z.insns;
    emits = z.emits;
    does = λ w m n f a c b l has ha hc hb la lc lb. z.does w m n f c a b l has hc ha hb la lb;
  }

  pub by-other : Chooses c0 c1 group k (k + 1) (k + 2) k → ComputesThree c0 c1 group k (λ b c a. if c == 0 then b else a)
  by-other z = record {
    insns = z.insns;
    emits = z.emits;
    does = λ w m n f b c a l has hb hc ha lb lc la. z.does w m n f c a b l has hc ha hb la lb;
  }

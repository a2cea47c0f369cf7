-- Comparisons of lanes and a register.
use Rattle.std.proofs.Common.{◌≡◌, ℕ, ◌%◌, ◌^◌, ◌<◌, List, [], ◌∷◌, Bool, true, refl, ap, ◌∙◌, sym, subst, arith}
use Rattle.std.specs.Prelude.{not}
use Rattle.rv_insn.specs.declared.instructions.Insn.TheVariants.{Vector}
use Rattle.rv_insn.specs.declared.vector_instructions.VectorInsn.TheVariants as v
use Rattle.rv_insn.specs.declared.vector_operations.CompareVxOp.{CompareVxOp}
use Rattle.rv_insn.specs.declared.vector_operations.CompareVxOp.TheVariants as compares
use Rattle.hart_core.specs.Scalar.{one_if}
use Rattle.vector_unit.specs.Operations.{compare_vx}
use Rattle.halide_pipeline.specs.declared.expressions.Operation.{Operation}
use Rattle.halide_pipeline.specs.declared.expressions.Operation.TheVariants as op
use Rattle.halide_pipeline.specs.Words as word
use Rattle.multi_hart_laws.specs.Paths.{lane}
use Rattle.multi_hart_laws.proofs.MaskRows as masks
use Rattle.task_code_scalar.specs.Words.{Emits}
use Rattle.task_code_scalar.proofs.Spelling.{emits_then}
use Rattle.task_code_scalar.proofs.Evaluation.{applied-below}
use Rattle.task_code_scalar.proofs.Numbers.{less-is}
use Rattle.task_code_lanes.specs.declared.groups.LaneGroup.{LaneGroup}
use Rattle.task_code_lanes.specs.Groups.{registers, slots, slot}
use Rattle.task_code_lanes.specs.Lanes.{flagged}
use Rattle.task_code_lanes.proofs.Slots.{slot-lies}
use Rattle.task_code_lanes.proofs.Rows as rows
use Rattle.task_code_lanes.proofs.Operations.{bit-is, flagged-leaves}
use Rattle.task_code_lane_values.specs.inner.Parts.{ComputesBy, AnyWord, IsComparedBy}
use Rattle.task_code_lane_values.proofs.Composing.{left-of}

pub compared-less : IsComparedBy op.Less compares.Vmslt
compared-less x c lx lc = ap one_if (less-is x c lx lc)

pub compared-less-or-equal : IsComparedBy op.LessOrEqual compares.Vmsle
compared-less-or-equal x c lx lc = ap (λ t. one_if (not t)) (less-is c x lc lx)

pub compared-greater : IsComparedBy op.Greater compares.Vmsgt
compared-greater x c lx lc = ap one_if (less-is c x lc lx)

pub compared-equal : IsComparedBy op.Equal compares.Vmseq
compared-equal x c lx lc = refl

pub compared-not-equal : IsComparedBy op.NotEqual compares.Vmsne
compared-not-equal x c lx lc = refl

pub compared-as-is : (o other : Operation) (compare_vx_op : CompareVxOp) → o ≡ other
    → IsComparedBy other compare_vx_op → IsComparedBy o compare_vx_op
compared-as-is o other compare_vx_op e is = subst (λ z. IsComparedBy z compare_vx_op) (sym e) is

pub compared-by : (group : LaneGroup) (k : ℕ) → k < slots group → (o : Operation) (s : ℕ) → s < 32 → (compare_vx_op : CompareVxOp) → IsComparedBy o compare_vx_op → (a : ℕ)
    (c0 c1 c2 : List ℕ) → a ≡ slot group k
    → Emits c0 c1 (Vector (v.CompareVx compare_vx_op 0 a s true) ∷ []) → Emits c1 c2 (flagged a) → ComputesBy c0 c2 group k s AnyWord (word.applied o)
compared-by group k in-stack o s low compare_vx_op is a c0 c1 c2 ea x y = record {
  insns = Vector (v.CompareVx compare_vx_op 0 (slot group k) s true) ∷ flagged (slot group k);
  emits = emits_then (subst (λ q. Emits c0 c1 (Vector (v.CompareVx compare_vx_op 0 q s true) ∷ [])) ea x) (subst (λ q. Emits c1 c2 (flagged q)) ea y);
  does = λ w m n f u c l has hu lu es lc any.
      let r = slot group k in
      let lies = slot-lies group k in-stack in
      let high = lies.high in
      let ec : f s % 2 ^ 32 ≡ c = omega (arith, es, lc) in
      let t : ℕ → Bool = (λ i. compare_vx compare_vx_op 32 (u i) c) in
      let i1 : rows.Writes w m l group n (Vector (v.CompareVx compare_vx_op 0 r s true) ∷ []) f 32 (λ i. one_if (t i)) =
      rows.writes w m l group n (λ i. one_if (t i)) (λ i. one_if
      (compare_vx compare_vx_op 32 (f (lane r i)) (f s % 2 ^ 32))) has
      (masks.compare-vx w f m l (registers group) has.configured compare_vx_op r s lies.is_group low)
      (λ i b. ap (λ z. one_if (compare_vx compare_vx_op 32 z (f s % 2 ^ 32))) (hu i b) ∙ ap (λ z. one_if (compare_vx compare_vx_op 32 (u i) z)) ec) in
      left-of w m l group n (Vector (v.CompareVx compare_vx_op 0 r s true) ∷ flagged r) f k (λ i. word.applied o (u i) c) (λ i b. applied-below o (u i) c (lu i b) lc)
      (rows.same-values w m l group n k lies (λ i b. is (u i) c (lu i b) lc)
      (rows.slot-first w m l group n k lies i1 (omega (arith, high))
      (flagged-leaves w m l group n k lies i1.after t (rows.writes-lanes w m l group n i1 has) (λ i b. ap i1.after (bit-is i) ∙ i1.value i b))));
}

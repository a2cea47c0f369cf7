-- Words that lie one after the other, or at distances, from a register on.
use Rattle.std.proofs.Common.{◌≡◌, ℕ, ◌+◌, ◌%◌, ◌^◌, ◌<◌, List, [], ◌∷◌, length, true, ap, ◌∙◌, sym, subst, arith}
use Rattle.rv_insn.specs.declared.instructions.Insn.TheVariants.{Vector}
use Rattle.rv_insn.specs.declared.vector_instructions.VectorInsn.TheVariants as v
use Rattle.rv_insn.specs.declared.vector_instructions.Addressing.{Addressing}
use Rattle.rv_insn.specs.declared.vector_instructions.Addressing.TheVariants as addressings
use Rattle.rv_insn.specs.declared.vector_operations.ElementWidth.TheVariants.{Bits32}
use Rattle.memory.specs.Access.{Word, number_in}
use Rattle.hart_core.specs.Scalar.{load_size}
use Rattle.lanes.specs.Words as lanes
use Rattle.multi_hart_laws.specs.Alone.{World}
use Rattle.multi_hart_laws.specs.Paths.{vl_number, Readable}
use Rattle.multi_hart_laws.specs.LaneMemory.{AllReadable, offset_at, OffsetsFit}
use Rattle.multi_hart_laws.proofs.LaneLoads as memory
use Rattle.task_code_scalar.specs.declared.layouts.Pixels.{Pixels}
use Rattle.task_code_scalar.specs.declared.layouts.Pixels.TheVariants as pixels
use Rattle.task_code_scalar.specs.declared.layouts.BufferLayout.{BufferLayout}
use Rattle.task_code_scalar.specs.Code.{address}
use Rattle.task_code_scalar.specs.Evaluation.{LoadsAt, load_op}
use Rattle.task_code_scalar.specs.Words.{Emits}
use Rattle.task_code_lanes.specs.declared.groups.LaneGroup.{LaneGroup}
use Rattle.task_code_lanes.specs.Groups.{registers, slots, slot}
use Rattle.task_code_lanes.specs.Leaving.{HasLanes}
use Rattle.task_code_lanes.proofs.Slots.{SlotLies, slot-lies}
use Rattle.task_code_lanes.proofs.Rows as rows
use Rattle.task_code_lane_values.specs.Leaving.{LeavesLanes}
use Rattle.task_code_lane_values.specs.inner.Parts.{LoadsAlong, LoadsFrom, LoadsStrided}
use Rattle.task_code_lane_values.proofs.Composing.{left-of}

-- ---- words from a register on

module _ (w : World) (m : List ℕ) (l : length m ≡ w.size) (group : LaneGroup) (n k : ℕ) (lies : SlotLies group k) (layout : BufferLayout)
    (words : layout.pixels ≡ pixels.Words) (x y pixel : ℕ → ℕ)
    (can : (i : ℕ) → i < n → LoadsAt w layout m (x i) (y i) (pixel i)) where
  abbrev spot : ℕ → ℕ
  spot i = address layout w.hart (x i) (y i)

  readable : (i : ℕ) → i < n → Readable w Word (spot i)
  readable i b = subst (λ p. Readable w (load_size (load_op p)) (spot i)) words (can i b).may

  all-readable : (f : ℕ → ℕ) → HasLanes group n f → AllReadable w Word (f vl_number) spot
  all-readable f has =
      let e = has.count in
      record {
        aligned = λ i b. (readable i (omega (arith, b, e))).aligned;
        above = λ i b. (readable i (omega (arith, b, e))).above;
        below = λ i b. (readable i (omega (arith, b, e))).below;
        may = λ i b. (readable i (omega (arith, b, e))).may;
      }

  pixel-is : (i : ℕ) → i < n → number_in w.text m Word (spot i) % 2 ^ 32 ≡ pixel i
  pixel-is i b =
      let c = can i b in
      let small = c.is_word in
      let e : number_in w.text m Word (spot i) ≡ pixel i = subst (λ p. number_in w.text m (load_size (load_op p)) (spot i) ≡ pixel i) words c.holds in
      omega (arith, e, small)

  pub words-loaded : (f : ℕ → ℕ) (addressing : Addressing) (b : ℕ) → HasLanes group n f → b < 32 → OffsetsFit (registers group) addressing
      → ((i : ℕ) → i < n → lanes.add 32 (f b) (offset_at f addressing i) ≡ spot i)
      → LeavesLanes w m (Vector (v.LoadElements Bits32 (slot group k) b addressing true) ∷ []) f group k n pixel
  words-loaded f addressing b has lb fit e =
      let q = has.count in
      left-of w m l group n (Vector (v.LoadElements Bits32 (slot group k) b addressing true) ∷ []) f k pixel (λ i lt. (can i lt).is_word)
      (rows.last w m l group n k lies
      (rows.writes w m l group n pixel (λ i. number_in w.text m Word (spot i) % 2 ^ 32) has
      (memory.loads w f m l (registers group) has.configured addressing (slot group k) b spot lies.is_group lb fit (λ i lt. e i (omega (arith, lt, q)))
      (all-readable f has)) pixel-is))

-- ---- as the emitters call it

pub words-along : (group : LaneGroup) (k b a : ℕ) (c0 c1 : List ℕ) → k < slots group → b < 32 → a ≡ slot group k → Emits c0 c1 (Vector
    (v.LoadElements Bits32 a b addressings.UnitStride true) ∷ [])
    → LoadsAlong c0 c1 group k b pixels.Words
words-along group k b a c0 c1 in-stack lb ea z = record {
  insns = Vector (v.LoadElements Bits32 (slot group k) b addressings.UnitStride true) ∷ [];
  emits = subst (λ q. Emits c0 c1 (Vector (v.LoadElements Bits32 q b addressings.UnitStride true) ∷ [])) ea z;
  does = λ w m n f x y pixel place l has words can reach.
      words-loaded w m l group n k (slot-lies group k in-stack) place words x y pixel can f addressings.UnitStride b has lb tt reach;
}

pub words-strided : (group : LaneGroup) (k b s a : ℕ) (c0 c1 : List ℕ) → k < slots group → b < 32 → s < 32 → a ≡ slot group k → Emits c0 c1 (Vector
    (v.LoadElements Bits32 a b (addressings.Strided s) true) ∷ [])
    → LoadsStrided c0 c1 group k b s
words-strided group k b s a c0 c1 in-stack lb ls ea z = record {
  insns = Vector (v.LoadElements Bits32 (slot group k) b (addressings.Strided s) true) ∷ [];
  emits = subst (λ q. Emits c0 c1 (Vector (v.LoadElements Bits32 q b (addressings.Strided s) true) ∷ [])) ea z;
  does = λ w m n f x y pixel place l has words can reach.
      words-loaded w m l group n k (slot-lies group k in-stack) place words x y pixel can f (addressings.Strided s) b has lb ls reach;
}

pub words-from : (group : LaneGroup) (k b a : ℕ) (c0 c1 : List ℕ) → k < slots group → b < 32 → a ≡ slot group k → Emits c0 c1 (Vector
    (v.LoadElements Bits32 a b (addressings.Indexed a) true) ∷ [])
    → LoadsFrom c0 c1 group k b pixels.Words
words-from group k b a c0 c1 in-stack lb ea z = record {
  insns = Vector (v.LoadElements Bits32 (slot group k) b (addressings.Indexed (slot group k)) true) ∷ [];
  emits = subst (λ q. Emits c0 c1 (Vector (v.LoadElements Bits32 q b (addressings.Indexed q) true) ∷ [])) ea z;
  does = λ w m n f x y pixel offset place l has none words can holds reach.
      let lies = slot-lies group k in-stack in
      words-loaded w m l group n k lies place words x y pixel can f (addressings.Indexed (slot group k)) b has lb lies.is_group
      (λ i lt. ap (λ q. (f b + q) % 2 ^ 32) (holds i lt) ∙ reach i lt);
}

pub along-as : (group : LaneGroup) (k b : ℕ) (c0 c1 : List ℕ) (p q : Pixels) → p ≡ q → LoadsAlong c0 c1 group k b q → LoadsAlong c0 c1 group k b p
along-as group k b c0 c1 p q e a = subst (LoadsAlong c0 c1 group k b) (sym e) a

pub from-as : (group : LaneGroup) (k b : ℕ) (c0 c1 : List ℕ) (p q : Pixels) → p ≡ q → LoadsFrom c0 c1 group k b q → LoadsFrom c0 c1 group k b p
from-as group k b c0 c1 p q e a = subst (LoadsFrom c0 c1 group k b) (sym e) a

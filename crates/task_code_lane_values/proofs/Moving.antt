-- Sums that go along with the iterations.
use Rattle.std.proofs.Common.{◌≡◌, ℕ, ◌+◌, ◌*◌, ◌%◌, ◌^◌, ◌<◌, List, [], ◌∷◌, refl, true, ap, ◌∙◌, sym, subst, arith}
use Rattle.rv_insn.specs.declared.instructions.Insn.TheVariants.{Vector}
use Rattle.rv_insn.specs.declared.vector_instructions.VectorInsn.TheVariants as v
use Rattle.halide_pipeline.specs.declared.expressions.Operation.TheVariants as op
use Rattle.halide_pipeline.specs.Words as word
use Rattle.loop_ir.specs.declared.expressions.Expr.{Expr}
use Rattle.loop_ir.specs.declared.expressions.Expr.TheVariants as e
use Rattle.loop_ir.specs.declared.expressions.Linear.{Linear}
use Rattle.loop_ir.specs.Counters.{Values, with}
use Rattle.loop_ir.specs.Expressions.{linear_value, sum_of}
use Rattle.multi_hart_laws.proofs.VectorRows as vector
use Rattle.task_code_scalar.specs.declared.layouts.Places.{Places}
use Rattle.task_code_scalar.specs.Words.{Emits}
use Rattle.task_code_registers.specs.declared.scopes.AffineForm.{AffineForm}
use Rattle.task_code_registers.specs.declared.scopes.Held.{Held}
use Rattle.task_code_registers.specs.Holding.{IsAt}
use Rattle.task_code_registers.specs.Registers.{address_register}
use Rattle.task_code_registers.specs.Scopes.{form_value}
use Rattle.task_code_registers.specs.Strides.{strides, others_of}
use Rattle.task_code_registers.proofs.Striding.{linear-with}
use Rattle.task_code_values.specs.Making.{MakesHeld}
use Rattle.task_code_values.proofs.Standing.{form-alone}
use Rattle.task_code_values.proofs.Evaluating.{value_linear}
use Rattle.task_code_lanes.specs.Groups.{registers, slots, slot}
use Rattle.task_code_lanes.proofs.Slots.{slot-lies}
use Rattle.task_code_lanes.proofs.Rows as rows
use Rattle.task_code_lane_values.specs.declared.vectorized.VectorLanes.{VectorLanes}
use Rattle.task_code_lane_values.specs.Leaving.{MakesLanes}
use Rattle.task_code_lane_values.specs.inner.Parts.{MakesScalar, MakesEach, Nothing, NothingEach, AnyWord, ComputesBy}
use Rattle.task_code_lane_values.proofs.Arms.{lanes-of, lanes-as}
use Rattle.task_code_lane_values.proofs.Composing.{left-of, each-as, each-by, scalar-as}
use Rattle.task_code_lane_values.proofs.Loading.{pointer-scalar}

-- the iterations' own numbers
pub numbers-made : (places : Places) (scope : List Held) (vector_lanes : VectorLanes) (k : ℕ) → k < slots vector_lanes.group → (c0 c1 : List ℕ) → Emits c0 c1 (Vector
    (v.ElementNumbers (slot vector_lanes.group k) true) ∷ [])
    → MakesEach c0 c1 places scope vector_lanes k NothingEach (λ reads values i. i)
numbers-made places scope vector_lanes k in-stack c0 c1 z = record {
  insns = Vector (v.ElementNumbers (slot vector_lanes.group k) true) ∷ [];
  emits = z;
  does = λ w m values reads n f l are holders knows has some few may.
      let lies = slot-lies vector_lanes.group k in-stack in
      let most = lies.most in
      left-of w m l vector_lanes.group n (Vector (v.ElementNumbers (slot vector_lanes.group k) true) ∷ []) f k (λ i. i) (λ i b. omega (arith, b, few, most))
      (rows.last w m l vector_lanes.group n k lies (rows.writes w m l vector_lanes.group n (λ i. i) (λ i. i) has (vector.lane-numbers w f m l
      (registers vector_lanes.group) has.configured (slot vector_lanes.group k) lies.is_group)
      (λ i b. refl)));
}

module _ (places : Places) (scope : List Held) (vector_lanes : VectorLanes) (k : ℕ)
    (in-stack : k < slots vector_lanes.group) where
  abbrev Steps : List ℕ → List ℕ → ℕ → Type 0
  Steps c0 c1 stride = MakesEach c0 c1 places scope vector_lanes k NothingEach (λ reads values i. word.applied op.Multiply i stride)

  -- where the stride is 1
  pub steps-one : (stride : ℕ) (c0 c1 : List ℕ) → stride ≡ 1 → Emits c0 c1 (Vector (v.ElementNumbers (slot vector_lanes.group k) true) ∷ []) → Steps c0 c1 stride
  unfolding word.multiply
  steps-one stride c0 c1 one z = subst (λ t. Steps c0 c1 t) (sym one) (record {
    insns = Vector (v.ElementNumbers (slot vector_lanes.group k) true) ∷ [];
    emits = z;
    does = λ w m values reads n f l are holders knows has some few may.
        let lies = slot-lies vector_lanes.group k in-stack in
        let most = lies.most in
        left-of w m l vector_lanes.group n (Vector (v.ElementNumbers (slot vector_lanes.group k) true) ∷ []) f k (λ i. (i * 1) % 2 ^ 32) (λ i b. omega (arith, b, few, most))
        (rows.last w m l vector_lanes.group n k lies (rows.writes w m l vector_lanes.group n (λ i. (i * 1) % 2 ^ 32)
        (λ i. i) has
        (vector.lane-numbers w f m l (registers vector_lanes.group) has.configured (slot vector_lanes.group k) lies.is_group) (λ i b. let g : i ≡ (i * 1) % 2 ^ 32 = omega
        (arith, b, few, most) in g)));
  })

  pub steps-more : (stride s : ℕ) (c0 c1 c2 c3 : List ℕ) → Emits c0 c1 (Vector (v.ElementNumbers (slot vector_lanes.group k) true) ∷ [])
      → MakesScalar c1 c2 scope vector_lanes s Nothing (λ hart reads values. stride)
      → ComputesBy c2 c3 vector_lanes.group k s AnyWord (word.applied op.Multiply) → Steps c0 c3 stride
  steps-more stride s c0 c1 c2 c3 x y z =
      each-as places scope vector_lanes k c0 c3 (λ w m reads values i. NothingEach w m reads values i × Nothing w m reads values) NothingEach
      (λ reads values i. word.applied op.Multiply i stride)
      (λ w m reads values n some all i lt. (tt, tt))
      (each-by places scope vector_lanes k in-stack s c0 c1 c2 c3 NothingEach Nothing (λ reads values i. i) (λ reads values. stride) AnyWord (word.applied op.Multiply)
      (numbers-made places scope vector_lanes k in-stack c0 c1 x) y z (λ reads values small. tt))

  -- as the emitter calls them
  pub steps-one-as : (stride a : ℕ) (c0 c1 : List ℕ) → stride ≡ 1 → a ≡ slot vector_lanes.group k → Emits c0 c1 (Vector (v.ElementNumbers a true) ∷ [])
      → Steps c0 c1 stride
  steps-one-as stride a c0 c1 one ea z = steps-one stride c0 c1 one (subst (λ y. Emits c0 c1 (Vector (v.ElementNumbers y true) ∷ [])) ea z)

  pub steps-more-as : (stride s a : ℕ) (c0 c1 c2 c3 : List ℕ) → a ≡ slot vector_lanes.group k → Emits c0 c1 (Vector (v.ElementNumbers a true) ∷ [])
      → MakesScalar c1 c2 scope vector_lanes s Nothing (λ hart reads values. stride) → ComputesBy c2 c3 vector_lanes.group k s AnyWord (word.applied op.Multiply)
      → Steps c0 c3 stride
  steps-more-as stride s a c0 c1 c2 c3 ea x y z = steps-more stride s c0 c1 c2 c3 (subst (λ u. Emits c0 c1 (Vector (v.ElementNumbers u true) ∷ [])) ea x) y z

  sum-goes : (sum : Linear) (stride i : ℕ) (values : Values) → stride ≡ strides vector_lanes.counter sum.terms % 2 ^ 32
      → word.applied op.Add (word.applied op.Multiply i stride) (linear_value (with vector_lanes.counter 0 values) sum) ≡ linear_value (with vector_lanes.counter i values) sum
  unfolding word.add word.multiply
  sum-goes sum stride i values es =
      let a = sum.number + sum_of values (others_of vector_lanes.counter sum.terms) in
      let p = i * stride in
      let z : a + 0 * stride ≡ a = omega arith in
      let g : (p % 2 ^ 32 + a % 2 ^ 32) % 2 ^ 32 ≡ (a + p) % 2 ^ 32 = omega arith in
      ap (λ n. (p % 2 ^ 32 + n) % 2 ^ 32) (linear-with vector_lanes.counter 0 stride values sum es ∙ ap (λ n. n % 2 ^ 32) z) ∙ g ∙ sym
      (linear-with vector_lanes.counter i stride values sum es)

  pub sum-arm : (x : Expr) (sum : Linear) (form start : AffineForm) (stride most s : ℕ) (c0 c1 c2 c3 : List ℕ) → x ≡ e.Linear sum → form.sum ≡ sum → form.per_hart ≡ 0
      → stride ≡ strides vector_lanes.counter sum.terms % 2 ^ 32 → IsAt vector_lanes.counter 0 form start
      → Steps c0 c1 stride
      → MakesHeld c1 c2 most scope address_register s (λ hart values. form_value hart values start) → ComputesBy c2 c3 vector_lanes.group k s AnyWord (word.applied op.Add)
      → MakesLanes c0 c3 places scope vector_lanes k x
  sum-arm x sum form start stride most s c0 c1 c2 c3 eo same none es at a p z =
      let pointer = scalar-as scope vector_lanes s c1 c2 Nothing (λ hart reads values. form_value hart (with vector_lanes.counter 0 values) form)
      (λ hart reads values. linear_value (with vector_lanes.counter 0 values) sum)
      (λ hart reads values. form-alone hart (with vector_lanes.counter 0 values) form sum none same) (pointer-scalar scope vector_lanes form start most s c1 c2 at p) in
      lanes-as places scope vector_lanes k in-stack c0 c3 x (e.Linear sum) eo
      (lanes-of places scope vector_lanes k in-stack c0 c3 (e.Linear sum) (λ w m reads values i. NothingEach w m reads values i × Nothing w m reads values)
      (λ reads values i. word.applied op.Add (word.applied op.Multiply i stride) (linear_value (with vector_lanes.counter 0 values) sum))
      (λ w m reads values n some all i lt. (tt, tt))
      (λ reads values i. sum-goes sum stride i values es ∙ sym
      (value_linear reads (with vector_lanes.counter i values) sum))
      (each-by places scope vector_lanes k in-stack s c0 c1 c2 c3 NothingEach Nothing (λ reads values i. word.applied op.Multiply i stride)
      (λ reads values. linear_value (with vector_lanes.counter 0 values) sum) AnyWord
      (word.applied op.Add) a pointer z (λ reads values small. tt)))

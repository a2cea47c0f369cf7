-- Expressions over lanes, by their parts.
use Rattle.std.proofs.Common.{◌≡◌, ℕ, ◌+◌, ◌^◌, ◌<◌, ◌≤◌, List, [], ◌∷◌, ◌++◌, refl, ap, ◌∙◌, sym, subst, arith}
use Rattle.std.specs.Prelude.{◌==◌, if◌then◌else◌}
use Rattle.std.specs.List.{AllByRecursion}
use Rattle.rv_insn.specs.declared.instructions.Insn.TheVariants.{Vector}
use Rattle.rv_insn.specs.declared.vector_instructions.VectorInsn.TheVariants as v
use Rattle.halide_pipeline.specs.declared.expressions.Operation.{Operation}
use Rattle.halide_pipeline.specs.declared.expressions.Source.{Source}
use Rattle.halide_pipeline.specs.Words as word
use Rattle.halide_pipeline.specs.Pixel.{Reads}
use Rattle.halide_pipeline.proofs.Seeing.{all_parts}
use Rattle.loop_ir.specs.declared.expressions.Expr.{Expr}
use Rattle.loop_ir.specs.declared.expressions.Expr.TheVariants as e
use Rattle.loop_ir.specs.declared.expressions.Linear.{Linear}
use Rattle.loop_ir.specs.Counters.{Values, with}
use Rattle.loop_ir.specs.Expressions.{value, loads, linear_value}
use Rattle.multi_hart_laws.specs.Alone.{World}
use Rattle.task_code_scalar.specs.declared.layouts.Places.{Places}
use Rattle.task_code_scalar.specs.Code.{place_of}
use Rattle.task_code_scalar.specs.Evaluation.{Loads, LoadsAt}
use Rattle.task_code_scalar.specs.Words.{Emits}
use Rattle.task_code_registers.specs.declared.scopes.Held.{Held}
use Rattle.task_code_values.specs.Operands.{IsSum}
use Rattle.task_code_values.proofs.Evaluating.{value_binary, value_divide, value_remainder, value_select, value_load}
use Rattle.task_code_values.proofs.Evaluating.{loads_binary, loads_divide, loads_remainder, loads_select, loads_load}
use Rattle.task_code_lanes.specs.Groups.{slots, slot}
use Rattle.task_code_lane_values.specs.declared.vectorized.VectorLanes.{VectorLanes}
use Rattle.task_code_lane_values.specs.Leaving.{MakesLanes}
use Rattle.task_code_lane_values.specs.inner.Parts.{IsLoopInvariant, MakesScalar, MakesInvariant, MakesEach, MakesPoint}
use Rattle.task_code_lane_values.specs.inner.Parts.{Nothing}
use Rattle.task_code_lane_values.specs.inner.Parts.{ComputesOne, ComputesBy, ComputesTwo, ComputesThree, AnyWord, LoadsPoint, Chooses}
use Rattle.task_code_lane_values.proofs.Choosing.{by-condition, by-one, by-other}
use Rattle.task_code_lane_values.proofs.Composing.{each-spread, each-one, each-by, each-two, each-three}

module _ (places : Places) (scope : List Held) (vector_lanes : VectorLanes) (k : ℕ)
    (in-stack : k < slots vector_lanes.group) where
  abbrev at : ℕ → Values → Values
  at i values = with vector_lanes.counter i values

  -- what memory has to have for an expression in an iteration
  abbrev pub May : Expr → World → List ℕ → Reads → Values → ℕ → Type 0
  May x w m reads values i = AllByRecursion (Loads w places m reads)
      (loads reads (with vector_lanes.counter i values) x)

  abbrev Left : List ℕ → List ℕ → ℕ → Expr → Type 0
  Left c0 c1 j x = MakesLanes c0 c1 places scope vector_lanes j x

  abbrev Each : List ℕ → List ℕ → ℕ → Expr → Type 0
  Each c0 c1 j x = MakesEach c0 c1 places scope vector_lanes j (May x) (λ reads values i. value reads (with vector_lanes.counter i values) x)

  pub each-of : (c0 c1 : List ℕ) (j : ℕ) (x : Expr) → Left c0 c1 j x → Each c0 c1 j x
  each-of c0 c1 j x a = record {
    insns = a.insns;
    emits = a.emits;
    does = λ w m values reads n f l are holders knows has some few may. a.does w m values reads n f l are holders knows has some few may;
  }

  pub lanes-of : (c0 c1 : List ℕ) (x : Expr) (may : World → List ℕ → Reads → Values → ℕ → Type 0) (says : Reads → Values → ℕ → ℕ)
      → ((w : World) (m : List ℕ) (reads : Reads) (values : Values) (n : ℕ) → 1 ≤ n → ((i : ℕ) → i < n → May x w m reads values i) → (i : ℕ) → i < n
      → may w m reads values i)
      → ((reads : Reads) (values : Values) (i : ℕ) → says reads values i ≡ value reads
      (with vector_lanes.counter i values) x)
      → MakesEach c0 c1 places scope vector_lanes k may says → Left c0 c1 k x
  lanes-of c0 c1 x may says can is a = record {
    insns = a.insns;
    emits = a.emits;
    does = λ w m values reads n f l are holders knows has some few all.
        let t = a.does w m values reads n f l are holders knows has some few (can w m reads values n some all) in
        record {
          after = t.after;
          line = t.line;
          value = λ i b. t.value i b ∙ is reads values i;
          small = λ i b. subst (λ z. z < 2 ^ 32) (is reads values i) (t.small i b);
          keeps = t.keeps;
        };
  }

  -- the same of an expression that is the same
  pub lanes-as : (c0 c1 : List ℕ) (x y : Expr) → x ≡ y → Left c0 c1 k y → Left c0 c1 k x
  lanes-as c0 c1 x y e a = subst (Left c0 c1 k) (sym e) a

  pub loop_invariant-arm : (x : Expr) (s : ℕ) (c0 c1 c2 : List ℕ) → IsLoopInvariant vector_lanes.counter x → MakesInvariant c0 c1 places scope vector_lanes s x → Emits c1 c2 (Vector
      (v.MoveVx (slot vector_lanes.group k) s) ∷ [])
      → Left c0 c2 k x
  loop_invariant-arm x s c0 c1 c2 loop_invariant p z =
      lanes-of c0 c2 x (λ w m reads values i. May x w m reads values 0) (λ reads values i. value reads (with vector_lanes.counter 0 values) x)
      (λ w m reads values n some all i b. all 0 (omega (arith, some)))
      (λ reads values i. sym (loop_invariant reads values i))
      (each-spread places scope vector_lanes k in-stack s c0 c1 c2 (λ w m reads values. May x w m reads values 0) (λ reads values. value reads
      (with vector_lanes.counter 0 values) x) p z)

  pub loop_invariant-as : (x : Expr) (s a : ℕ) (c0 c1 c2 : List ℕ) → IsLoopInvariant vector_lanes.counter x → a ≡ slot vector_lanes.group k → MakesInvariant c0 c1 places scope vector_lanes s x
      → Emits c1 c2 (Vector (v.MoveVx a s) ∷ []) → Left c0 c2 k x
  loop_invariant-as x s a c0 c1 c2 loop_invariant ea p z = loop_invariant-arm x s c0 c1 c2 loop_invariant p (subst (λ y. Emits c1 c2 (Vector (v.MoveVx y s) ∷ [])) ea z)

  -- ---- operations

  parts-of : (o : Operation) (a b : Expr) (w : World) (m : List ℕ) (reads : Reads) (values : Values) (i : ℕ) → May (e.Binary o a b) w m reads values i
      → May a w m reads values i × May b w m reads values i
  parts-of o a b w m reads values i all =
      all_parts (Loads w places m reads) (loads reads (at i values) a) (loads reads (at i values) b)
      (subst (AllByRecursion (Loads w places m reads)) (loads_binary reads (at i values) o a b) all)

  pub two-arm : (x a b p q : Expr) (o : Operation) (c0 c1 c2 c3 : List ℕ) → x ≡ e.Binary o a b → p ≡ a → q ≡ b → Left c0 c1 k p → Left c1 c2 (k + 1) q
      → ComputesTwo c2 c3 vector_lanes.group k (word.applied o) → Left c0 c3 k x
  two-arm x a b p q o c0 c1 c2 c3 eo ep eq first second z =
      lanes-as c0 c3 x (e.Binary o a b) eo
      (lanes-of c0 c3 (e.Binary o a b) (λ w m reads values i. May a w m reads values i × May b w m reads values i)
      (λ reads values i. word.applied o (value reads (with vector_lanes.counter i values) a) (value reads (with vector_lanes.counter i values) b))
      (λ w m reads values n some all i lt. parts-of o a b w m reads values i (all i lt)) (λ reads values i. sym (value_binary reads (at i values) o a b))
      (each-two places scope vector_lanes k in-stack c0 c1 c2 c3 (May a) (May b) (λ reads values i. value reads (with vector_lanes.counter i values) a)
      (λ reads values i. value reads (with vector_lanes.counter i values) b)
      (word.applied o) (each-of c0 c1 k a (subst (Left c0 c1 k) ep first)) (each-of c1 c2 (k + 1) b (subst (Left c1 c2 (k + 1)) eq second)) z))

  pub two-next : (x a b p q : Expr) (o : Operation) (next : ℕ) (c0 c1 c2 c3 : List ℕ) → x ≡ e.Binary o a b → p ≡ a → q ≡ b → next ≡ k + 1
      → Left c0 c1 k p → Left c1 c2 next q
      → ComputesTwo c2 c3 vector_lanes.group k (word.applied o) → Left c0 c3 k x
  two-next x a b p q o next c0 c1 c2 c3 eo ep eq en first second z = two-arm x a b p q o c0 c1 c2 c3 eo ep eq first (subst (λ j. Left c1 c2 j q) en second) z

  -- the second operand is made first
  pub swapped-next : (x a b p q : Expr) (o : Operation) (next : ℕ) (c0 c1 c2 c3 : List ℕ) → x ≡ e.Binary o a b → p ≡ a → q ≡ b → next ≡ k + 1
      → Left c0 c1 k q → Left c1 c2 next p
      → ComputesTwo c2 c3 vector_lanes.group k (λ y z. word.applied o z y) → Left c0 c3 k x
  swapped-next x a b p q o next c0 c1 c2 c3 eo ep eq en second first z =
      let beside = subst (λ j. Left c1 c2 j p) en first in
      lanes-as c0 c3 x (e.Binary o a b) eo
      (lanes-of c0 c3 (e.Binary o a b) (λ w m reads values i. May b w m reads values i × May a w m reads values i)
      (λ reads values i. word.applied o (value reads (with vector_lanes.counter i values) a) (value reads (with vector_lanes.counter i values) b))
      (λ w m reads values n some all i lt. let each = parts-of o a b w m reads values i (all i lt) in (each.1, each.0))
      (λ reads values i. sym (value_binary reads (at i values) o a b))
      (each-two places scope vector_lanes k in-stack c0 c1 c2 c3 (May b) (May a) (λ reads values i. value reads (with vector_lanes.counter i values) b)
      (λ reads values i. value reads (with vector_lanes.counter i values) a)
      (λ y z. word.applied o z y) (each-of c0 c1 k b (subst (Left c0 c1 k) eq second)) (each-of c1 c2 (k + 1) a (subst (Left c1 c2 (k + 1)) ep beside)) z))

  -- the second operand is a scalar
  pub second-arm : (x a b p q : Expr) (o : Operation) (s : ℕ) (c0 c1 c2 c3 : List ℕ) → x ≡ e.Binary o a b → p ≡ a → q ≡ b → IsLoopInvariant vector_lanes.counter q
      → Left c0 c1 k p
      → MakesInvariant c1 c2 places scope vector_lanes s q → ComputesBy c2 c3 vector_lanes.group k s AnyWord (word.applied o) → Left c0 c3 k x
  second-arm x a b p q o s c0 c1 c2 c3 eo ep eq loop_invariant first second z =
      let still = subst (IsLoopInvariant vector_lanes.counter) eq loop_invariant in
      lanes-as c0 c3 x (e.Binary o a b) eo
      (lanes-of c0 c3 (e.Binary o a b) (λ w m reads values i. May a w m reads values i × May b w m reads values 0)
      (λ reads values i. word.applied o (value reads (with vector_lanes.counter i values) a) (value reads (with vector_lanes.counter 0 values) b))
      (λ w m reads values n some all i lt. (
        (parts-of o a b w m reads values i (all i lt)).0,
        (parts-of o a b w m reads values 0 (all 0 (omega
            (arith, some)))).1,
      ))
      (λ reads values i. ap (word.applied o (value reads (with vector_lanes.counter i values) a)) (sym (still reads values i)) ∙ sym (value_binary reads
      (at i values) o a b))
      (each-by places scope vector_lanes k in-stack s c0 c1 c2 c3 (May a) (λ w m reads values. May b w m reads values 0) (λ reads values i. value reads
      (with vector_lanes.counter i values) a)
      (λ reads values. value reads (with vector_lanes.counter 0 values) b) AnyWord (word.applied o) (each-of c0 c1 k a (subst (Left c0 c1 k) ep first))
      (subst (MakesInvariant c1 c2 places scope vector_lanes s) eq second) z (λ reads values small. tt)))

  -- or the first
  pub first-arm : (x a b p q : Expr) (o : Operation) (s : ℕ) (c0 c1 c2 c3 : List ℕ) → x ≡ e.Binary o a b → p ≡ a → q ≡ b → IsLoopInvariant vector_lanes.counter p
      → Left c0 c1 k q
      → MakesInvariant c1 c2 places scope vector_lanes s p → ComputesBy c2 c3 vector_lanes.group k s AnyWord (λ y c. word.applied o c y) → Left c0 c3 k x
  first-arm x a b p q o s c0 c1 c2 c3 eo ep eq loop_invariant second first z =
      let still = subst (IsLoopInvariant vector_lanes.counter) ep loop_invariant in
      lanes-as c0 c3 x (e.Binary o a b) eo
      (lanes-of c0 c3 (e.Binary o a b) (λ w m reads values i. May b w m reads values i × May a w m reads values 0)
      (λ reads values i. word.applied o (value reads (with vector_lanes.counter 0 values) a) (value reads (with vector_lanes.counter i values) b))
      (λ w m reads values n some all i lt. (
        (parts-of o a b w m reads values i (all i lt)).1,
        (parts-of o a b w m reads values 0 (all 0 (omega
            (arith, some)))).0,
      ))
      (λ reads values i. ap (λ n. word.applied o n (value reads (with vector_lanes.counter i values) b)) (sym (still reads values i)) ∙ sym (value_binary reads
      (at i values) o a b))
      (each-by places scope vector_lanes k in-stack s c0 c1 c2 c3 (May b) (λ w m reads values. May a w m reads values 0) (λ reads values i. value reads
      (with vector_lanes.counter i values) b)
      (λ reads values. value reads (with vector_lanes.counter 0 values) a) AnyWord (λ y c. word.applied o c y) (each-of c0 c1 k b (subst (Left c0 c1 k) eq second))
      (subst (MakesInvariant c1 c2 places scope vector_lanes s) ep first) z (λ reads values small. tt)))

  -- ---- quotients

  part-of-divide : (a : Expr) (c : ℕ) (w : World) (m : List ℕ) (reads : Reads) (values : Values) (i : ℕ) → May (e.Divide a c) w m reads values i
      → May a w m reads values i
  part-of-divide a c w m reads values i all = subst (AllByRecursion (Loads w places m reads)) (loads_divide reads (at i values) a c) all

  pub divide-arm : (x a p : Expr) (c s : ℕ) (c0 c1 c2 c3 : List ℕ) → x ≡ e.Divide a c → p ≡ a → Left c0 c1 k p
      → MakesScalar c1 c2 scope vector_lanes s Nothing (λ hart reads values. c) → ComputesBy c2 c3 vector_lanes.group k s (λ d. d ≡ c) (λ y d. word.divide y c) → Left c0 c3 k x
  divide-arm x a p c s c0 c1 c2 c3 eo ep first second z =
      lanes-as c0 c3 x (e.Divide a c) eo
      (lanes-of c0 c3 (e.Divide a c) (λ w m reads values i. May a w m reads values i × Nothing w m reads values) (λ reads values i. word.divide
      (value reads (with vector_lanes.counter i values) a) c)
      (λ w m reads values n some all i lt. (part-of-divide a c w m reads values i (all i lt), tt)) (λ reads values i. sym (value_divide reads
      (at i values) a c))
      (each-by places scope vector_lanes k in-stack s c0 c1 c2 c3 (May a) Nothing (λ reads values i. value reads (with vector_lanes.counter i values) a) (λ reads values. c)
      (λ d. d ≡ c) (λ y d. word.divide y c)
      (each-of c0 c1 k a (subst (Left c0 c1 k) ep first)) second z (λ reads values small. refl)))

  pub shift-arm : (x a p : Expr) (c : ℕ) (c0 c1 c2 : List ℕ) → x ≡ e.Divide a c → p ≡ a → Left c0 c1 k p → ComputesOne c1 c2 vector_lanes.group k
      (λ y. word.divide y c) → Left c0 c2 k x
  shift-arm x a p c c0 c1 c2 eo ep first z =
      lanes-as c0 c2 x (e.Divide a c) eo
      (lanes-of c0 c2 (e.Divide a c) (May a) (λ reads values i. word.divide (value reads (with vector_lanes.counter i values) a) c)
      (λ w m reads values n some all i lt. part-of-divide a c w m reads values i (all i lt)) (λ reads values i. sym (value_divide reads (at i values) a c))
      (each-one places scope vector_lanes k in-stack c0 c1 c2 (May a) (λ reads values i. value reads (with vector_lanes.counter i values) a) (λ y. word.divide y c)
      (each-of c0 c1 k a (subst (Left c0 c1 k) ep first)) z))

  -- ---- remainders

  part-of-remainder : (a : Expr) (c : ℕ) (w : World) (m : List ℕ) (reads : Reads) (values : Values) (i : ℕ) → May (e.Remainder a c) w m reads values i
      → May a w m reads values i
  part-of-remainder a c w m reads values i all = subst (AllByRecursion (Loads w places m reads)) (loads_remainder reads (at i values) a c) all

  -- of a register that holds what such an operation wants
  pub remainder-arm : (x a p : Expr) (c d s : ℕ) (c0 c1 c2 c3 : List ℕ) → x ≡ e.Remainder a c → p ≡ a → Left c0 c1 k p
      → MakesScalar c1 c2 scope vector_lanes s Nothing (λ hart reads values. d) → ComputesBy c2 c3 vector_lanes.group k s (λ n. n ≡ d) (λ y n. word.remainder y c) → Left c0 c3 k x
  remainder-arm x a p c d s c0 c1 c2 c3 eo ep first second z =
      lanes-as c0 c3 x (e.Remainder a c) eo
      (lanes-of c0 c3 (e.Remainder a c) (λ w m reads values i. May a w m reads values i × Nothing w m reads values) (λ reads values i. word.remainder
      (value reads (with vector_lanes.counter i values) a) c)
      (λ w m reads values n some all i lt. (part-of-remainder a c w m reads values i (all i lt), tt)) (λ reads values i. sym (value_remainder reads
      (at i values) a c))
      (each-by places scope vector_lanes k in-stack s c0 c1 c2 c3 (May a) Nothing (λ reads values i. value reads (with vector_lanes.counter i values) a) (λ reads values. d)
      (λ n. n ≡ d) (λ y n. word.remainder y c)
      (each-of c0 c1 k a (subst (Left c0 c1 k) ep first)) second z (λ reads values small. refl)))

  -- ---- choices

  -- what memory has to have for the parts of a choice
  parts-of-choice : (c a b : Expr) (w : World) (m : List ℕ) (reads : Reads) (values : Values) (i : ℕ) → May (e.Select c a b) w m reads values i
      → May c w m reads values i × (May a w m reads values i × May b w m reads values i)
  parts-of-choice c a b w m reads values i all =
      let each = all_parts (Loads w places m reads) (loads reads (at i values) c) (loads reads (at i values) a ++ loads reads (at i values) b)
      (subst (AllByRecursion (Loads w places m reads)) (loads_select reads (at i values) c a b) all) in
      (each.0, all_parts (Loads w places m reads) (loads reads (at i values) a) (loads reads (at i values) b) each.1)

  abbrev chosen : ℕ → ℕ → ℕ → ℕ
  chosen c a b = if c == 0 then b else a

  abbrev worth : Expr → Reads → Values → ℕ → ℕ
  worth x reads values i = value reads (with vector_lanes.counter i values) x

  -- three parts, in the order in which they are made
  three-arm : (x y1 y2 y3 p1 p2 p3 : Expr) (says : ℕ → ℕ → ℕ → ℕ) (next last : ℕ) (c0 c1 c2 c3 c4 : List ℕ) → p1 ≡ y1 → p2 ≡ y2 → p3 ≡ y3
      → next ≡ k + 1 → last ≡ next + 1 → next + 1 < slots vector_lanes.group
      → ((w : World) (m : List ℕ) (reads : Reads) (values : Values) (i : ℕ) → May x w m reads values i
      → May y1 w m reads values i × (May y2 w m reads values i × May y3 w m reads values i))
      → ((reads : Reads) (values : Values) (i : ℕ) → says (worth y1 reads values i) (worth y2 reads values i) (worth y3 reads values i)
      ≡ worth x reads values i)
      → Left c0 c1 k p1 → Left c1 c2 next p2 → Left c2 c3 last p3 → ComputesThree c3 c4 vector_lanes.group k says → Left c0 c4 k x
  three-arm x y1 y2 y3 p1 p2 p3 says next last c0 c1 c2 c3 c4 e1 e2 e3 en el room can is first second third z =
      let elast : last ≡ k + 2 = omega (arith, en, el) in
      lanes-of c0 c4 x (λ w m reads values i. May y1 w m reads values i × (May y2 w m reads values i × May y3 w m reads values i))
      (λ reads values i. says (worth y1 reads values i) (worth y2 reads values i) (worth y3 reads values i))
      (λ w m reads values n some all i lt. can w m reads values i (all i lt)) is
      (each-three places scope vector_lanes k in-stack (omega (arith, en, room)) c0 c1 c2 c3 c4 (May y1) (May y2) (May y3) (worth y1) (worth y2) (worth y3) says
      (each-of c0 c1 k y1 (subst (Left c0 c1 k) e1 first))
      (each-of c1 c2 (k + 1) y2 (subst (λ j. Left c1 c2 j y2) en (subst (Left c1 c2 next) e2 second)))
      (each-of c2 c3 (k + 2) y3 (subst (λ j. Left c2 c3 j y3) elast (subst (Left c2 c3 last) e3 third))) z)

  module _ (x c a b o p q : Expr) (next last : ℕ) (c0 c1 c2 c3 c4 : List ℕ) (es : x ≡ e.Select c a b) (eo : o ≡ c) (ep : p ≡ a) (eq : q ≡ b)
      (en : next ≡ k + 1) (el : last ≡ next + 1) (room : next + 1 < slots vector_lanes.group) where
    -- a choice where groups number what they number
    choice-at : (i j h i' j' h' : ℕ) → i ≡ i' → j ≡ j' → h ≡ h' → Chooses c3 c4 vector_lanes.group k i j h → Chooses c3 c4 vector_lanes.group k i' j' h'
    choice-at i j h i' j' h' ei ej eh z =
        subst (λ u. Chooses c3 c4 vector_lanes.group k i' j' u) eh (subst (λ u. Chooses c3 c4 vector_lanes.group k i' u h) ej (subst (λ u. Chooses c3 c4 vector_lanes.group k u j h) ei z))

    last-is : last ≡ k + 2
    last-is = omega (arith, en, el)

    pub condition-next : Left c0 c1 k o → Left c1 c2 next p → Left c2 c3 last q → Chooses c3 c4 vector_lanes.group k k next last → Left c0 c4 k x
    condition-next first second third z =
        lanes-as c0 c4 x (e.Select c a b) es
        (three-arm (e.Select c a b) c a b o p q chosen next last c0 c1 c2 c3 c4 eo ep eq en el room
        (λ w m reads values i all. let each = parts-of-choice c a b w m reads values i all in (each.0, (each.1.0, each.1.1)))
        (λ reads values i. sym (value_select reads (at i values) c a b)) first second third
        (by-condition vector_lanes.group k c3 c4 (choice-at k next last k (k + 1) (k + 2) refl en last-is z)))

    pub one-next : Left c0 c1 k p → Left c1 c2 next o → Left c2 c3 last q → Chooses c3 c4 vector_lanes.group k next k last → Left c0 c4 k x
    one-next first second third z =
        lanes-as c0 c4 x (e.Select c a b) es
        (three-arm (e.Select c a b) a c b p o q (λ y t z. chosen t y z) next last c0 c1 c2 c3 c4 ep eo eq en el room
        (λ w m reads values i all. let each = parts-of-choice c a b w m reads values i all in (each.1.0, (each.0, each.1.1)))
        (λ reads values i. sym (value_select reads (at i values) c a b)) first second third
        (by-one vector_lanes.group k c3 c4 (choice-at next k last (k + 1) k (k + 2) en refl last-is z)))

    pub other-next : Left c0 c1 k q → Left c1 c2 next o → Left c2 c3 last p → Chooses c3 c4 vector_lanes.group k next last k → Left c0 c4 k x
    other-next first second third z =
        lanes-as c0 c4 x (e.Select c a b) es
        (three-arm (e.Select c a b) b c a q o p (λ z t y. chosen t y z) next last c0 c1 c2 c3 c4 eq eo ep en el room
        (λ w m reads values i all. let each = parts-of-choice c a b w m reads values i all in (each.1.1, (each.0, each.1.0)))
        (λ reads values i. sym (value_select reads (at i values) c a b)) first second third
        (by-other vector_lanes.group k c3 c4 (choice-at next last k (k + 1) (k + 2) k en last-is refl z)))

  -- ---- pixels

  parts-of-load : (source : Source) (a b : Expr) (w : World) (m : List ℕ) (reads : Reads) (values : Values) (i : ℕ) → May (e.Load source a b) w m reads values i
      → AllByRecursion (Loads w places m reads) (loads reads (at i values) a ++ loads reads (at i values) b)
      × AllByRecursion (Loads w places m reads) (record { source = source; x = value reads (at i values) a; y = value reads (at i values) b } ∷ [])
  parts-of-load source a b w m reads values i all =
      all_parts (Loads w places m reads) (loads reads (at i values) a ++ loads reads (at i values) b) (record {
        source = source;
        x = value reads
            (at i values) a;
        y = value reads (at i values) b;
      } ∷ [])
      (subst (AllByRecursion (Loads w places m reads)) (loads_load reads (at i values) source a b) all)

  pub load-first : (source : Source) (a b : Expr) (w : World) (m : List ℕ) (reads : Reads) (values : Values) (i : ℕ) → May
      (e.Load source a b) w m reads values i → May a w m reads values i
  load-first source a b w m reads values i all =
      (all_parts (Loads w places m reads) (loads reads (at i values) a) (loads reads (at i values) b) (parts-of-load source a b w m reads values i all).0).0

  pub load-second : (source : Source) (a b : Expr) (w : World) (m : List ℕ) (reads : Reads) (values : Values) (i : ℕ) → May
      (e.Load source a b) w m reads values i → May b w m reads values i
  load-second source a b w m reads values i all =
      (all_parts (Loads w places m reads) (loads reads (at i values) a) (loads reads (at i values) b) (parts-of-load source a b w m reads values i all).0).1

  pub load-has : (source : Source) (a b : Expr) (w : World) (m : List ℕ) (reads : Reads) (values : Values) (i : ℕ) → May (e.Load source a b) w m reads values i
      → LoadsAt w (place_of places source) m (value reads (at i values) a) (value reads (at i values) b) (reads source (value reads (at i values) a)
      (value reads (at i values) b))
  load-has source a b w m reads values i all = (parts-of-load source a b w m reads values i all).1.0

  pub load-value : (source : Source) (a b : Expr) (reads : Reads) (values : Values) (i : ℕ)
      → value reads (at i values) (e.Load source a b) ≡ reads source (value reads (at i values) a) (value reads (at i values) b)
  load-value source a b reads values i = value_load reads (at i values) source a b

  pub point-arm : (x a b p q : Expr) (source : Source) (column row : Linear) (c0 c1 : List ℕ) → x ≡ e.Load source a b → p ≡ a → q ≡ b → IsSum p column
      → IsSum q row
      → MakesPoint c0 c1 places scope vector_lanes k source column row → Left c0 c1 k x
  point-arm x a b p q source column row c0 c1 eo ep eq sx sy z =
      let vx : (reads : Reads) (values : Values) → value reads values a ≡ linear_value values column = (λ reads values. ap (value reads values) (sym ep)
      ∙ sx.value_is reads values) in
      let vy : (reads : Reads) (values : Values) → value reads values b ≡ linear_value values row = (λ reads values. ap (value reads values) (sym eq)
      ∙ sy.value_is reads values) in
      lanes-as c0 c1 x (e.Load source a b) eo
      (lanes-of c0 c1 (e.Load source a b) (LoadsPoint places source vector_lanes.counter column row)
      (λ reads values i. reads source (linear_value (with vector_lanes.counter i values) column) (linear_value (with vector_lanes.counter i values) row))
      (λ w m reads values n some all i lt.
      subst (λ r. LoadsAt w (place_of places source) m (linear_value (at i values) column) r (reads source (linear_value (at i values) column) r))
      (vy reads (at i values))
      (subst (λ c. LoadsAt w (place_of places source) m c (value reads (at i values) b) (reads source c (value reads (at i values) b))) (vx reads (at i values))
      (load-has source a b w m reads values i (all i lt))))
      (λ reads values i.
      ap (λ c. reads source c (linear_value (with vector_lanes.counter i values) row)) (sym (vx reads (at i values))) ∙ ap (reads source (value reads
      (at i values) a)) (sym (vy reads (at i values)))
      ∙ sym (value_load reads (at i values) source a b)) z)

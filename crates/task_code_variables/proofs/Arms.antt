-- Loops and split loops as their emitters make them.
use Rattle.std.proofs.Common.{◌≡◌, ℕ, suc, ◌+◌, ◌-◌, ◌*◌, ◌≤◌, ◌^◌, List, [], ◌∷◌, length, true, false, refl, ap, ◌∙◌, sym, subst, arith}
use Rattle.std.specs.Prelude.{◌==◌}
use Rattle.std.proofs.lemmas.Bool.Decides.{nat_tests}
use Rattle.rv_insn.specs.declared.instructions.Insn.TheVariants.{Vector}
use Rattle.rv_insn.specs.declared.vector_instructions.VectorInsn.TheVariants as v
use Rattle.rv_insn.specs.declared.vector_instructions.Addressing.TheVariants as addressings
use Rattle.rv_insn.specs.declared.vector_operations.ElementWidth.TheVariants.{Bits32}
use Rattle.loop_ir.specs.declared.expressions.Counter.{Counter}
use Rattle.loop_ir.specs.declared.statements.LoopKind.TheVariants as kinds
use Rattle.loop_ir.specs.declared.statements.Stmt.{Stmt}
use Rattle.loop_ir.specs.declared.statements.Stmt.TheVariants as s
use Rattle.loop_ir.specs.declared.statements.Whole.{Whole}
use Rattle.loop_ir.specs.Counters.{same_counter}
use Rattle.task_code_scalar.specs.declared.CodeFault.{CodeFault}
use Rattle.task_code_scalar.specs.declared.layouts.Places.{Places}
use Rattle.task_code_scalar.specs.Faults.{IsFault}
use Rattle.task_code_scalar.proofs.Spelling.{emits-length}
use Rattle.task_code_scalar.specs.Words.{Emits}
use Rattle.task_code_lanes.specs.declared.groups.LaneGroup.{LaneGroup}
use Rattle.task_code_lanes.specs.Groups.{registers, slot, vtype_of}
use Rattle.task_code_registers.specs.declared.scopes.AffineForm.{AffineForm}
use Rattle.task_code_registers.specs.declared.scopes.Held.{Held}
use Rattle.task_code_registers.specs.Emitting.{HoldsVariable}
use Rattle.task_code_registers.specs.Holding.{mentions, varying}
use Rattle.task_code_registers.specs.Scopes.{has_variable}
use Rattle.task_code_loops.specs.declared.beginning.BegunLoop.{BegunLoop}
use Rattle.task_code_loops.specs.Beginning.{HasNoRegister, HoldsPlainly, IsBegun, variable}
use Rattle.task_code_loops.specs.Ending.{EndsLoop, end_words}
use Rattle.task_code_loops.specs.Guarding.{GuardsWords}
use Rattle.task_code_loops.proofs.Returning.{emits-longer}
use Rattle.task_code_variables.specs.Collecting.{Collects}
use Rattle.task_code_variables.specs.Renaming.{HoldsAround, numbered}
use Rattle.task_code_variables.specs.Splits.{EntersSplit}
use Rattle.task_code_variables.specs.Statements.{AppendsLoop, AppendsStatement, IsLoopFault, IsStatementFault}
use Rattle.task_code_variables.proofs.Iterating.{split-collects}
use Rattle.task_code_variables.proofs.Fitting.{collected-long, loop-long, split-long}
use Rattle.task_code_variables.proofs.Holding.{holds-more, holds-split}
use Rattle.task_code_variables.proofs.Looping.{loop-collects}
use Rattle.task_code_variables.proofs.Nesting.{loop-arm, none-varying, split-appends}

apart : (a b : ℕ) → suc a ≤ b → (a == b) ≡ false
apart a b less = grind (arith, nat_tests, less)

-- ---- loops

module _ (scope : List Held) (around inside : List Counter) (counter loop_counter : Counter) (count reserved most : ℕ) (begun : BegunLoop) (view : List Held)
    (c0 c1 : List ℕ) (holds : HoldsAround around scope) (eo : loop_counter ≡ numbered (length around)) (begins : IsBegun c0 c1 most loop_counter count scope reserved begun)
    (plain : HoldsPlainly loop_counter scope begun.inner.items) (ev : view ≡ begun.inner.items) (ei : inside ≡ counter ∷ around) where
  lacks : mentions loop_counter scope ≡ false
  lacks = ap (λ c. mentions c scope) eo ∙ holds.lack (length around) (omega arith)

  -- its variable alone goes along with it
  pub one-moves : varying begun.counter begun.inner.items ≤ 1
  one-moves =
      let m = plain.moves in
      let n : varying loop_counter scope ≡ 0 = none-varying loop_counter scope lacks in
      let e : varying begun.counter begun.inner.items ≡ varying loop_counter begun.inner.items = ap (λ c. varying c begun.inner.items) begins.counter_is in
      omega (arith, m, n, e)

  pub loop-holds : HoldsAround inside view
  loop-holds =
      subst (λ i. HoldsAround i view) (sym ei) (subst (HoldsAround (counter ∷ around)) (sym ev)
      (holds-more around counter scope begun.inner.items holds (begins.enters).extends
      (ap (has_variable begun.inner.items) (sym eo) ∙ plain.variable) others (plain.registers holds.registers)))
    where
      others : (depth : ℕ) → suc (length around) ≤ depth → mentions (numbered depth) begun.inner.items ≡ mentions (numbered depth) scope
      others depth more =
          plain.others (numbered depth) (ap (λ c. same_counter c (numbered depth)) eo ∙ apart (length around) depth more)

  pub loop-appended : (places : Places) (body : Stmt) (start : ℕ) (c2 c3 : List ℕ) → 1 ≤ count → most ≡ 16 → start ≡ length c1
      → AppendsStatement c1 c2 places view inside body → EndsLoop c2 c3 begun (length c2 - start)
      → AppendsLoop c0 c3 places scope around counter count body
  loop-appended places body start c2 c3 some em es x ends kind iteration =
      loop-arm places scope around inside counter loop_counter count kind body begun view reserved start c0 c1 c2 c3 iteration some eo lacks
      (subst (λ m. IsBegun c0 c1 m loop_counter count scope reserved begun) em begins) one-moves ev es ei x ends

  -- its end is too far from its beginning
  pub loop-late : (places : Places) (body : Stmt) (start : ℕ) (c2 : List ℕ) (fault : CodeFault) → 1 ≤ count → start ≡ length c1
      → AppendsStatement c1 c2 places view inside body → IsFault (2 ^ 18 ≤ length c2 - start + end_words begun) ⊥ fault
      → IsLoopFault places scope counter count body fault
  loop-late places body start c2 fault some es x e =
      let n = emits-longer c1 c2 x.insns x.emits in
      let k : length c2 - start ≡ length x.insns = omega (arith, n, es) in
      loop-long places scope counter count (length x.insns) (varying begun.counter begun.inner.items) body fault some x.short one-moves
      (subst (λ w. IsFault (2 ^ 18 ≤ w + end_words begun) ⊥ fault) k e)

  -- where iterations collect their pixels
  pub collected-late : (places : Places) (group : LaneGroup) (r : ℕ) (body : Stmt) (start : ℕ) (c2 c3 : List ℕ) (fault : CodeFault) → start ≡ length c2
      → Collects c2 c3 places view inside group r body → IsFault (2 ^ 18 ≤ length c3 - start + end_words begun) ⊥ fault
      → IsStatementFault places scope (s.For counter count kinds.Vectorized body) fault
  collected-late places group r body start c2 c3 fault es x e =
      let n = emits-longer c2 c3 x.insns x.emits in
      let k : length c3 - start ≡ length x.insns = omega (arith, n, es) in
      collected-long places scope counter count (length x.insns) (varying begun.counter begun.inner.items) body fault x.short one-moves
      (subst (λ w. IsFault (2 ^ 18 ≤ w + end_words begun) ⊥ fault) k e)

  pub collected-loop : (places : Places) (group : LaneGroup) (r s0 s1 : ℕ) (body : Stmt) (start : ℕ) (c2 c3 c4 c5 : List ℕ) → count ≡ 4 * registers group
      → most ≡ 16 → start ≡ length c2 → s0 ≡ slot group 0 → s1 ≡ slot group 1 → HoldsVariable view loop_counter r
      → Emits c1 c2 (Vector (v.Vsetivli 0 0 (vtype_of group)) ∷ [])
      → Collects c2 c3 places view inside group r body → EndsLoop c3 c4 begun (length c3 - start)
      → Emits c4 c5 (Vector (v.StoreElements Bits32 s0 0 (addressings.Indexed s1) true) ∷ [])
      → AppendsStatement c0 c5 places scope around (s.For counter (4 * registers group) kinds.Vectorized body)
  collected-loop places group r s0 s1 body start c2 c3 c4 c5 ec em es e0 e1 held sets x ends stored =
      let number = numbered (length around) in
      let b1 = subst (λ m. IsBegun c0 c1 m loop_counter count scope reserved begun) em begins in
      let b2 = subst (λ n. IsBegun c0 c1 16 loop_counter n scope reserved begun) ec b1 in
      let b3 = subst (λ c. IsBegun c0 c1 16 c (4 * registers group) scope reserved begun) eo b2 in
      loop-collects places scope around group counter body begun r reserved c0 c1 c2 c3 c4 c5 (holds.lack (length around) (omega arith)) b3 one-moves
      (plain.registers holds.registers)
      (subst (λ c. HoldsVariable begun.inner.items c r) eo (subst (λ i. HoldsVariable i loop_counter r) ev held)) sets
      (subst (λ i. Collects c2 c3 places begun.inner.items i group r body) ei (subst (λ i. Collects c2 c3 places i inside group r body) ev x))
      (subst (λ n. EndsLoop c3 c4 begun (length c3 - n)) es ends)
      (subst (λ n. Emits c4 c5 (Vector (v.StoreElements Bits32 (slot group 0) 0 (addressings.Indexed n) true) ∷ [])) e1
      (subst (λ n. Emits c4 c5 (Vector (v.StoreElements Bits32 n 0 (addressings.Indexed s1) true) ∷ [])) e0 stored))

-- ---- split loops

module _ (scope inner view : List Held) (around inside : List Counter) (counter : Counter) (whole : Whole) (c0 c1 : List ℕ)
    (holds : HoldsAround around scope) (enters : EntersSplit c0 c1 scope inner around whole) (ev : view ≡ inner) (ei : inside ≡ counter ∷ around) where
  pub split-holds : HoldsAround inside view
  split-holds = subst (λ i. HoldsAround i view) (sym ei) (subst (HoldsAround (counter ∷ around)) (sym ev)
      (holds-split around counter whole scope inner c0 c1 holds enters))

  pub split-made : (places : Places) (body : Stmt) (none words : List ℕ) → none ≡ [] → AppendsStatement none words places view inside body
      → AppendsStatement [] words places inner (counter ∷ around) body
  split-made places body none words en x =
      subst (λ l. AppendsStatement l words places inner (counter ∷ around) body) en
      (subst (λ i. AppendsStatement none words places inner i body) ei (subst (λ i. AppendsStatement none words places i inside body) ev x))

  pub split-appended : (places : Places) (extent : ℕ) (body : Stmt) (loop_counter : Counter) (none words c2 : List ℕ) → none ≡ [] → loop_counter ≡ numbered (length around)
      → AppendsStatement none words places view inside body → GuardsWords c1 c2 view (variable loop_counter) extent
      words
      → AppendsStatement c0 c2 places scope around (s.Bind counter whole extent body)
  split-appended places extent body loop_counter none words c2 en eo x guards =
      split-appends places scope inner around counter whole extent body c0 c1 c2 words enters (split-made places body none words en x)
      (subst (λ i. GuardsWords c1 c2 i (variable (numbered (length around))) extent words) ev
      (subst (λ c. GuardsWords c1 c2 view (variable c) extent words) eo guards)) (omega arith)

  -- the test is too far from what is after the body
  pub split-late : (places : Places) (extent : ℕ) (body : Stmt) (loop_counter : Counter) (none words : List ℕ) (fault : CodeFault) → none ≡ []
      → loop_counter ≡ numbered (length around) → AppendsStatement none words places view inside body
      → IsFault (2 ^ 18 ≤ length words + 1) (HasNoRegister view (variable loop_counter)) fault
      → IsStatementFault places scope (s.Bind counter whole extent body) fault
  split-late places extent body loop_counter none words fault en eo x e =
      let made = split-made places body none words en x in
      let n = emits-length words made.insns made.emits in
      let k = made.short in
      split-long places scope counter whole extent body around inner inner c0 c1 words fault enters refl (omega (arith, n, k))
      (subst (λ i. IsFault (2 ^ 18 ≤ length words + 1) (HasNoRegister i (variable (numbered (length around)))) fault) ev
      (subst (λ c. IsFault (2 ^ 18 ≤ length words + 1) (HasNoRegister view (variable c)) fault) eo e))

  -- where the body's pixel is collected
  module _ (places : Places) (group : LaneGroup) (r extent : ℕ) (body : Stmt) (form : AffineForm) (none words made : List ℕ) (en : none ≡ []) (em : made ≡ words)
      (ef : form ≡ variable (numbered (length around))) (x : Collects none words places view inside group r body) where
    inner-made : Collects [] words places inner (counter ∷ around) group r body
    inner-made =
        subst (λ l. Collects l words places inner (counter ∷ around) group r body) en
        (subst (λ i. Collects none words places inner i group r body) ei (subst (λ i. Collects none words places i inside group r body) ev x))

    pub collected-split : (c2 : List ℕ) → GuardsWords c1 c2 view form extent made
        → Collects c0 c2 places scope around group r (s.Bind counter whole extent body)
    collected-split c2 guards =
        split-collects places scope inner around group r counter whole extent body c0 c1 c2 words enters inner-made
        (subst (λ i. GuardsWords c1 c2 i (variable (numbered (length around))) extent words) ev
        (subst (λ f. GuardsWords c1 c2 view f extent words) ef (subst (λ w. GuardsWords c1 c2 view form extent w) em guards)))

    pub collected-split-late : (fault : CodeFault) → IsFault (2 ^ 18 ≤ length made + 1) (HasNoRegister view form) fault
        → IsStatementFault places scope (s.Bind counter whole extent body) fault
    collected-split-late fault e =
        let n = emits-length words inner-made.insns inner-made.emits in
        let k = inner-made.short in
        split-long places scope counter whole extent body around inner inner c0 c1 words fault enters refl (omega (arith, n, k))
        (subst (λ i. IsFault (2 ^ 18 ≤ length words + 1) (HasNoRegister i (variable (numbered (length around)))) fault) ev
        (subst (λ f. IsFault (2 ^ 18 ≤ length words + 1) (HasNoRegister view f) fault) ef
        (subst (λ w. IsFault (2 ^ 18 ≤ length w + 1) (HasNoRegister view form) fault) em e)))

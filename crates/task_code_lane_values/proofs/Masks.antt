-- Conditions in the mask, and what they choose.
use Rattle.std.proofs.Common.{◌≡◌, ℕ, ◌+◌, ◌*◌, ◌%◌, ◌^◌, ◌<◌, ◌≤◌, List, [], ◌∷◌, ◌++◌, length, Bool, true, false, refl, ap, ◌∙◌, sym, subst, arith, inl, inr}
use Rattle.std.specs.Prelude.{◌==◌, if◌then◌else◌, not, pos}
use Rattle.std.specs.List.{AllByRecursion}
use Rattle.rv_insn.specs.declared.instructions.Insn.{Insn}
use Rattle.rv_insn.specs.declared.instructions.Insn.TheVariants.{Vector}
use Rattle.rv_insn.specs.declared.vector_instructions.VectorInsn.TheVariants as v
use Rattle.rv_insn.specs.declared.vector_operations.CompareViOp.TheVariants as compare_vis
use Rattle.rv_insn.specs.declared.vector_operations.CompareVvOp.{CompareVvOp}
use Rattle.rv_insn.specs.declared.vector_operations.CompareVvOp.TheVariants as compares
use Rattle.rv_insn.specs.declared.vector_operations.CompareVxOp.{CompareVxOp}
use Rattle.hart_core.specs.Scalar.{one_if}
use Rattle.lanes.specs.Words as lanes
use Rattle.vector_unit.specs.Operations.{compare_vv, compare_vx}
use Rattle.halide_pipeline.specs.declared.expressions.Operation.{Operation}
use Rattle.halide_pipeline.specs.declared.expressions.Operation.TheVariants as op
use Rattle.halide_pipeline.specs.Words as word
use Rattle.halide_pipeline.specs.Pixel.{Reads}
use Rattle.halide_pipeline.specs.Points.{Point}
use Rattle.halide_pipeline.proofs.Seeing.{all_parts}
use Rattle.loop_ir.specs.declared.expressions.Expr.{Expr}
use Rattle.loop_ir.specs.declared.expressions.Expr.TheVariants as e
use Rattle.loop_ir.specs.Counters.{Values, with}
use Rattle.loop_ir.specs.Expressions.{value, loads}
use Rattle.multi_hart_laws.specs.Alone.{World}
use Rattle.multi_hart_laws.specs.Paths.{IsGroup, bit, lane}
use Rattle.multi_hart_laws.proofs.MaskRows as masks
use Rattle.multi_hart_laws.proofs.Paths.{line-then}
use Rattle.task_code_scalar.specs.Evaluation.{Loads}
use Rattle.task_code_scalar.specs.Words.{Emits}
use Rattle.task_code_scalar.proofs.Evaluation.{applied-below, chosen-below}
use Rattle.task_code_scalar.proofs.Numbers.{less-is}
use Rattle.task_code_scalar.proofs.Spelling.{emits_then}
use Rattle.task_code_values.proofs.Evaluating.{value_binary, value_select, loads_binary, loads_select}
use Rattle.task_code_lanes.specs.declared.groups.LaneGroup.{LaneGroup}
use Rattle.task_code_lanes.specs.Groups.{registers, slots, slot}
use Rattle.task_code_lanes.proofs.Slots.{slot-lies}
use Rattle.task_code_lanes.proofs.Rows as rows
use Rattle.task_code_lanes.proofs.Operations.{bit-is}
use Rattle.task_code_lane_values.specs.declared.kept.Kept.{Kept}
use Rattle.task_code_lane_values.specs.declared.operations.VectorComparison.{VectorComparison}
use Rattle.task_code_lane_values.specs.declared.vectorized.LaneSite.{LaneSite}
use Rattle.task_code_lane_values.specs.Leaving.{IsUnder}
use Rattle.task_code_lane_values.specs.inner.Parts.{IsComparedBy, IsLoopInvariant, IsVectorComparison, MakesInvariant}
use Rattle.task_code_lane_values.specs.inner.Sharing.{AreBelow, Begins, HoldsKept, HoldsMask, HoldsValue, Leads, MakesMask, MakesOperand, MayLoad}
use Rattle.task_code_lane_values.proofs.Composing.{lane-below, lanes-scalar, left-of, under-below}
use Rattle.task_code_lane_values.proofs.Keeping.{begins-still, kept-still, under-up, value-still}
use Rattle.task_code_lane_values.proofs.Operands.{operand-as}

-- ---- comparisons of lanes

module _ (o other : Operation) (vector_comparison : VectorComparison) (i : CompareVvOp) (e : o ≡ other) where
  pub in-order : vector_comparison ≡ record { instruction = i; is_swapped = false }
      → ((x y : ℕ) → x < 2 ^ 32 → y < 2 ^ 32 → one_if (compare_vv i 32 x y) ≡ word.applied other x y) → IsVectorComparison o vector_comparison
  in-order eo same x y lx ly =
      ap (λ (z : VectorComparison). one_if (if z.is_swapped then compare_vv z.instruction 32 y x else compare_vv z.instruction 32 x y)) eo
      ∙ same x y lx ly ∙ ap (λ z. word.applied z x y) (sym e)

  pub swapped : vector_comparison ≡ record { instruction = i; is_swapped = true }
      → ((x y : ℕ) → x < 2 ^ 32 → y < 2 ^ 32 → one_if (compare_vv i 32 y x) ≡ word.applied other x y) → IsVectorComparison o vector_comparison
  swapped eo same x y lx ly =
      ap (λ (z : VectorComparison). one_if (if z.is_swapped then compare_vv z.instruction 32 y x else compare_vv z.instruction 32 x y)) eo
      ∙ same x y lx ly ∙ ap (λ z. word.applied z x y) (sym e)

pub less-lanes : (x y : ℕ) → x < 2 ^ 32 → y < 2 ^ 32 → one_if (compare_vv compares.Vmslt 32 x y) ≡ word.applied op.Less x y
less-lanes x y lx ly = ap one_if (less-is x y lx ly)

pub less-or-equal-lanes : (x y : ℕ) → x < 2 ^ 32 → y < 2 ^ 32 → one_if (compare_vv compares.Vmsle 32 x y) ≡ word.applied op.LessOrEqual x y
less-or-equal-lanes x y lx ly = ap (λ t. one_if (not t)) (less-is y x ly lx)

pub greater-lanes : (x y : ℕ) → x < 2 ^ 32 → y < 2 ^ 32 → one_if (compare_vv compares.Vmslt 32 y x) ≡ word.applied op.Greater x y
greater-lanes x y lx ly = ap one_if (less-is y x ly lx)

pub greater-or-equal-lanes : (x y : ℕ) → x < 2 ^ 32 → y < 2 ^ 32 → one_if (compare_vv compares.Vmsle 32 y x) ≡ word.applied op.GreaterOrEqual x y
greater-or-equal-lanes x y lx ly = ap (λ t. one_if (not t)) (less-is x y lx ly)

pub equal-lanes : (x y : ℕ) → x < 2 ^ 32 → y < 2 ^ 32 → one_if (compare_vv compares.Vmseq 32 x y) ≡ word.applied op.Equal x y
equal-lanes x y lx ly = refl

pub not-equal-lanes : (x y : ℕ) → x < 2 ^ 32 → y < 2 ^ 32 → one_if (compare_vv compares.Vmsne 32 x y) ≡ word.applied op.NotEqual x y
not-equal-lanes x y lx ly = refl

-- ---- masks

flag-is : (t : Bool) → one_if t ≡ one_if (not (one_if t == 0))
flag-is true = refl
flag-is false = refl

-- the bit of a comparison's value
flag-of : (t : Bool) (n : ℕ) → one_if t ≡ n → one_if t ≡ one_if (not (n == 0))
flag-of t n is = flag-is t ∙ ap (λ z. one_if (not (z == 0))) is

-- what stays is in front of the mask
mask-above : (group : LaneGroup) (k q : ℕ) → k < slots group → IsUnder group k q → q < lane 32 0
mask-above group k q l (inl h) = let a = h.0 in omega (arith, a)
mask-above group k q l (inr (inl (inl is))) = omega (arith, is)
mask-above group k q l (inr (inl (inr is))) = omega (arith, is)
mask-above group k q l (inr (inr h)) = let s = slot-lies group k l in let high = s.high in let b = h.1 in omega (arith, high, b)

module _ (site : LaneSite) (kept : List Kept) where
  abbrev group : LaneGroup
  group = site.lanes.group

  abbrev at : ℕ → Values → Values
  at i values = with site.lanes.counter i values

  masked : (w : World) (m : List ℕ) (l : length m ≡ w.size) (n k : ℕ) (insns : List Insn) (f : ℕ → ℕ) (v bits : ℕ → ℕ) → k < slots group
      → rows.Writes w m l group n insns f 32 bits → ((i : ℕ) → i < n → bits i ≡ one_if (not (v i == 0))) → Leads site w m insns f k (λ g. HoldsMask n g v)
  masked w m l n k insns f v bits in-stack a same = record {
    after = a.after;
    line = a.line;
    keeps = λ q u. a.below q (mask-above group k q in-stack u);
    so = λ i lt. ap a.after (bit-is i) ∙ a.value i lt ∙ same i lt;
  }

  pub nonzero-mask : (k s r : ℕ) (x : Expr) (c0 c1 c2 : List ℕ) → k < slots group → r ≡ slot group s → MakesOperand c0 c1 site kept k s x
      → Emits c1 c2 (Vector (v.CompareVi compare_vis.Vmsne 0 r (pos 0) true) ∷ []) → MakesMask c0 c2 site kept k x
  nonzero-mask k s r x c0 c1 c2 in-stack er first z = record {
    insns = first.insns ++ (Vector (v.CompareVi compare_vis.Vmsne 0 (slot group s) (pos 0) true) ∷ []);
    emits = emits_then first.emits (subst (λ q. Emits c1 c2 (Vector (v.CompareVi compare_vis.Vmsne 0 q (pos 0) true) ∷ [])) er z);
    does = λ w m values reads n f b held may.
        let p = first.does w m values reads n f b held may in
        let l = b.size in
        let low = first.low in
        let bp = begins-still site w m values n f p.after k p.keeps b in
        let sl = slot-lies group s (omega (arith, low, in-stack)) in
        let u : ℕ → ℕ = (λ i. value reads (at i values) x) in
        let t = masked w m l n k (Vector (v.CompareVi compare_vis.Vmsne 0 (slot group s) (pos 0) true) ∷ []) p.after u (λ i. one_if (not (u i == 0))) in-stack
        (rows.writes w m l group n (λ i. one_if (not (u i == 0))) (λ i. one_if (not (p.after (lane (slot group s) i) == lanes.wrapped 32 (pos 0)))) bp.has
        (masks.compare-vi w p.after m l (registers group) bp.has.configured compare_vis.Vmsne (slot group s) (pos 0) sl.is_group)
        (λ i lt. ap (λ z. one_if (not (z == 0))) (p.so.value_is i lt))) (λ i lt. refl) in
        record {
          after = t.after;
          line = line-then w first.insns (Vector (v.CompareVi compare_vis.Vmsne 0 (slot group s) (pos 0) true) ∷ []) f p.after t.after m m m p.line t.line;
          keeps = λ q u. t.keeps q u ∙ p.keeps q u;
          so = t.so;
        };
  }

  parts-may : (o : Operation) (a b : Expr) (w : World) (m : List ℕ) (reads : Reads) (values : Values) (n : ℕ) → MayLoad site w m reads values n (e.Binary o a b)
      → MayLoad site w m reads values n a × MayLoad site w m reads values n b
  parts-may o a b w m reads values n may = (λ i l. (both i l).0, λ i l. (both i l).1)
    where
      both : (i : ℕ) → i < n → AllByRecursion (Loads w site.places.now m reads) (loads reads (at i values) a)
          × AllByRecursion (Loads w site.places.now m reads) (loads reads (at i values) b)
      both i l =
          all_parts (Loads w site.places.now m reads) (loads reads (at i values) a) (loads reads (at i values) b)
          (subst (AllByRecursion (Loads w site.places.now m reads)) (loads_binary reads (at i values) o a b) (may i l))

  -- of a comparison with a scalar
  pub scalar-mask : (o : Operation) (own : CompareVxOp) → IsComparedBy o own → (k s r c : ℕ) (a b p q x : Expr) (c0 c1 c2 c3 : List ℕ) → k < slots group
      → x ≡ e.Binary o a b → p ≡ a → q ≡ b → IsLoopInvariant site.lanes.counter q → MakesOperand c0 c1 site kept k s p
      → MakesInvariant c1 c2 site.places.now site.scope.now site.lanes c q → r ≡ slot group s → Emits c2 c3 (Vector (v.CompareVx own 0 r c true) ∷ [])
      → MakesMask c0 c3 site kept k x
  scalar-mask o own is k s r c a b p q x c0 c1 c2 c3 in-stack eo ep eq loop_invariant given-first given-second er z =
      subst (MakesMask c0 c3 site kept k) (sym eo) (record {
        insns = first.insns ++ (second.insns ++ (Vector (v.CompareVx own 0 (slot group s) c true) ∷ []));
        emits = emits_then first.emits (emits_then second.emits (subst (λ z. Emits c2 c3 (Vector (v.CompareVx own 0 z c true) ∷ [])) er z));
        does = λ w m values reads n f begins held may.
            let l = begins.size in
            let low = first.low in
            let some = begins.some in
            let may-both = parts-may o a b w m reads values n may in
            let one = first.does w m values reads n f begins held may-both.0 in
            let h1 = begins-still site w m values n f one.after k one.keeps begins in
            let other = second.does w m values reads one.after l begins.holders h1.knows (may-both.1 0 (omega (arith, some))) in
            let has = lanes-scalar w m l group n one.after other.after other.keeps h1.has in
            let sl = slot-lies group s (omega (arith, low, in-stack)) in
            let x : ℕ → ℕ = (λ i. value reads (at i values) a) in
            let y : ℕ = value reads (at 0 values) b in
            let ey = other.value in
            let ly = other.small in
            let ec : other.after c % 2 ^ 32 ≡ y = omega (arith, ey, ly) in
            let t = masked w m l n k (Vector (v.CompareVx own 0 (slot group s) c true) ∷ []) other.after (λ i. value reads (at i values) (e.Binary o a b)) (λ i. one_if (compare_vx own 32 (x i) y)) in-stack
            (rows.writes w m l group n (λ i. one_if (compare_vx own 32 (x i) y))
            (λ i. one_if (compare_vx own 32 (other.after (lane (slot group s) i)) (other.after c % 2 ^ 32))) has
            (masks.compare-vx w other.after m l (registers group) has.configured own (slot group s) c sl.is_group second.source.0)
            (λ i lt. ap (λ z. one_if (compare_vx own 32 z (other.after c % 2 ^ 32)))
            (other.keeps (lane (slot group s) i) (lane-below (slot group s) i) ∙ one.so.value_is i lt) ∙ ap (λ z. one_if (compare_vx own 32 (x i) z)) ec))
            (λ i lt. flag-of (compare_vx own 32 (x i) y) (value reads (at i values) (e.Binary o a b))
            (is (x i) y (one.so.small i lt) ly ∙ ap (word.applied o (x i)) (sym (still reads values i)) ∙ sym (value_binary reads (at i values) o a b))) in
            record {
              after = t.after;
              line = line-then w first.insns (second.insns ++ (Vector (v.CompareVx own 0 (slot group s) c true) ∷ [])) f one.after t.after m m m one.line
                  (line-then w second.insns (Vector (v.CompareVx own 0 (slot group s) c true) ∷ []) one.after other.after t.after m m m other.line t.line);
              keeps = λ q u. t.keeps q u ∙ other.keeps q (under-below group k q u) ∙ one.keeps q u;
              so = t.so;
            };
      })
    where
      first : MakesOperand c0 c1 site kept k s a
      first = operand-as site kept k s p a c0 c1 ep given-first

      second : MakesInvariant c1 c2 site.places.now site.scope.now site.lanes c b
      second = subst (MakesInvariant c1 c2 site.places.now site.scope.now site.lanes c) eq given-second

      still : IsLoopInvariant site.lanes.counter b
      still = subst (IsLoopInvariant site.lanes.counter) eq loop_invariant

  -- of a comparison of lanes, which may be swapped
  pub lanes-mask : (o : Operation) (own : VectorComparison) (turned : Bool) → own.is_swapped ≡ turned → IsVectorComparison o own → (k s next t rs rt : ℕ)
      → AreBelow kept k → s < next → k ≤ next → next < slots group → (a b p q x : Expr) (c0 c1 c2 c3 : List ℕ) → x ≡ e.Binary o a b → p ≡ a → q ≡ b
      → MakesOperand c0 c1 site kept k s p → MakesOperand c1 c2 site kept next t q → rs ≡ slot group s → rt ≡ slot group t
      → Emits c2 c3 (Vector (v.CompareVv own.instruction 0 (if turned then rt else rs) (if turned then rs else rt) true) ∷ []) → MakesMask c0 c3 site kept k x
  lanes-mask o own turned et is k s next t rs rt below sn kn in-next a b p q x c0 c1 c2 c3 eo ep eq given-first given-second es er z =
      subst (MakesMask c0 c3 site kept k) (sym eo) (record {
        insns = first.insns ++ (second.insns ++ (Vector (v.CompareVv own.instruction 0 (if turned then slot group t else slot group s) (if turned then slot group s else slot group t) true) ∷ []));
        emits = emits_then first.emits (emits_then second.emits last);
        does = λ w m values reads n f begins held may.
            let l = begins.size in
            let may-both = parts-may o a b w m reads values n may in
            let one = first.does w m values reads n f begins held may-both.0 in
            let h1 = begins-still site w m values n f one.after k one.keeps begins in
            let other = second.does w m values reads n one.after h1
            (kept-still site.lanes kept reads values n f one.after k below begins.few one.keeps held) may-both.1 in
            let h2 = begins-still site w m values n one.after other.after next other.keeps h1 in
            let xs = value-still site.lanes reads values n one.after other.after s next a sn begins.few other.keeps one.so in
            let ys = other.so in
            let low = second.low in
            let sl = slot-lies group s (omega (arith, sn, in-next)) in
            let tl = slot-lies group t (omega (arith, low, in-next)) in
            let u : ℕ → ℕ = (λ i. value reads (at i values) (e.Binary o a b)) in
            let x : ℕ → ℕ = (λ i. value reads (at i values) a) in
            let y : ℕ → ℕ = (λ i. value reads (at i values) b) in
            let same : (i : ℕ) → i < n → one_if (if turned then compare_vv own.instruction 32 (y i) (x i) else compare_vv own.instruction 32 (x i) (y i)) ≡ u i =
            (λ i lt. ap (λ c. one_if (if c then compare_vv own.instruction 32 (y i) (x i) else compare_vv own.instruction 32 (x i) (y i))) (sym et)
            ∙ is (x i) (y i) (xs.small i lt) (ys.small i lt) ∙ sym (value_binary reads (at i values) o a b)) in
            let r = masked w m l n next (Vector (v.CompareVv own.instruction 0 (if turned then slot group t else slot group s) (if turned then slot group s else slot group t) true) ∷ []) other.after u (λ i. one_if (not (u i == 0))) in-next
            (by-sides turned w m l n other.after x y u h2.has sl.is_group tl.is_group xs.value_is ys.value_is same) (λ i lt. refl) in
            record {
              after = r.after;
              line = line-then w first.insns (second.insns ++ (Vector (v.CompareVv own.instruction 0 (if turned then slot group t else slot group s) (if turned then slot group s else slot group t) true) ∷ [])) f one.after r.after m m m one.line
                  (line-then w second.insns (Vector (v.CompareVv own.instruction 0 (if turned then slot group t else slot group s) (if turned then slot group s else slot group t) true) ∷ []) one.after other.after r.after m m m other.line r.line);
              keeps = λ q u.
                  let up = under-up group k next q kn u in
                  r.keeps q up ∙ other.keeps q up ∙ one.keeps q u;
              so = r.so;
            };
      })
    where
      first : MakesOperand c0 c1 site kept k s a
      first = operand-as site kept k s p a c0 c1 ep given-first

      second : MakesOperand c1 c2 site kept next t b
      second = operand-as site kept next t q b c1 c2 eq given-second

      last : Emits c2 c3 (Vector (v.CompareVv own.instruction 0 (if turned then slot group t else slot group s) (if turned then slot group s else slot group t) true) ∷ [])
      last =
          subst (λ z. Emits c2 c3 (Vector (v.CompareVv own.instruction 0 (if turned then slot group t else z) (if turned then z else slot group t) true) ∷ [])) es
          (subst (λ z. Emits c2 c3 (Vector (v.CompareVv own.instruction 0 (if turned then z else rs) (if turned then rs else z) true) ∷ [])) er z)

      bits : (w : World) (m : List ℕ) (l : length m ≡ w.size) (n : ℕ) (f : ℕ → ℕ) (a b : ℕ) (x y u : ℕ → ℕ) → rows.Lanes w m l group n f
          → IsGroup (registers group) a → IsGroup (registers group) b
          → ((i : ℕ) → i < n → f (lane a i) ≡ x i) → ((i : ℕ) → i < n → f (lane b i) ≡ y i)
          → ((i : ℕ) → i < n → one_if (compare_vv own.instruction 32 (x i) (y i)) ≡ u i)
          → rows.Writes w m l group n (Vector (v.CompareVv own.instruction 0 a b true) ∷ []) f 32 (λ i. one_if (not (u i == 0)))
      bits w m l n f a b x y u has ia ib hx hy same =
          rows.writes w m l group n (λ i. one_if (not (u i == 0))) (λ i. one_if (compare_vv own.instruction 32 (f (lane a i)) (f (lane b i)))) has
          (masks.compare-vv w f m l (registers group) has.configured own.instruction a b ia ib)
          (λ i lt. ap (λ z. one_if (compare_vv own.instruction 32 z (f (lane b i)))) (hx i lt)
          ∙ ap (λ z. one_if (compare_vv own.instruction 32 (x i) z)) (hy i lt) ∙ flag-of (compare_vv own.instruction 32 (x i) (y i)) (u i) (same i lt))

      by-sides : (turned : Bool) (w : World) (m : List ℕ) (l : length m ≡ w.size) (n : ℕ) (f x y u : ℕ → ℕ) → rows.Lanes w m l group n f
          → IsGroup (registers group) (slot group s) → IsGroup (registers group) (slot group t)
          → ((i : ℕ) → i < n → f (lane (slot group s) i) ≡ x i) → ((i : ℕ) → i < n → f (lane (slot group t) i) ≡ y i)
          → ((i : ℕ) → i < n → one_if (if turned then compare_vv own.instruction 32 (y i) (x i) else compare_vv own.instruction 32 (x i) (y i)) ≡ u i)
          → rows.Writes w m l group n (Vector (v.CompareVv own.instruction 0 (if turned then slot group t else slot group s) (if turned then slot group s else slot group t) true) ∷ []) f 32 (λ i. one_if (not (u i == 0)))
      by-sides true w m l n f x y u has ix iy hx hy same = bits w m l n f (slot group t) (slot group s) y x u has iy ix hy hx same
      by-sides false w m l n f x y u has ix iy hx hy same = bits w m l n f (slot group s) (slot group t) x y u has ix iy hx hy same

  -- ---- choices

  pub choice : (k s next t last d : ℕ) → AreBelow kept k → AreBelow kept next → s < next → k ≤ next → t < last → next ≤ last → last < slots group → d ≤ k
      → (c a b pc pa pb x : Expr) (rd rs rt : ℕ) (c0 c1 c2 c3 c4 : List ℕ) → x ≡ e.Select c a b → pc ≡ c → pa ≡ a → pb ≡ b
      → MakesOperand c0 c1 site kept k s pa → MakesOperand c1 c2 site kept next t pb → MakesMask c2 c3 site kept last pc → rd ≡ slot group d
      → rs ≡ slot group s → rt ≡ slot group t → Emits c3 c4 (Vector (v.MergeVv rd rt rs) ∷ []) → MakesOperand c0 c4 site kept d d x
  choice k s next t last d below below-next sn kn tl nl in-last dk c a b pc pa pb x rd rs rt c0 c1 c2 c3 c4 eo ec ea eb given-first given-second given-mask ed es
      et z =
      subst (MakesOperand c0 c4 site kept d d) (sym eo) (record {
        insns = first.insns ++ (second.insns ++ (mask.insns ++ (Vector (v.MergeVv (slot group d) (slot group t) (slot group s)) ∷ [])));
        emits = emits_then first.emits (emits_then second.emits (emits_then mask.emits merges));
        low = omega arith;
        does = λ w m values reads n f begins held may.
            let l = begins.size in
            let few = begins.few in
            let may-all = choice-may w m reads values n may in
            let one = first.does w m values reads n f begins held may-all.1.0 in
            let h1 = begins-still site w m values n f one.after k one.keeps begins in
            let held1 = kept-still site.lanes kept reads values n f one.after k below few one.keeps held in
            let other = second.does w m values reads n one.after h1 held1 may-all.1.1 in
            let h2 = begins-still site w m values n one.after other.after next other.keeps h1 in
            let held2 = kept-still site.lanes kept reads values n one.after other.after next below-next few other.keeps held1 in
            let tested = mask.does w m values reads n other.after h2 held2 may-all.0 in
            let h3 = begins-still site w m values n other.after tested.after last tested.keeps h2 in
            let xs1 = value-still site.lanes reads values n one.after other.after s next a sn few other.keeps one.so in
            let xs = value-still site.lanes reads values n other.after tested.after s last a (omega (arith, sn, nl)) few tested.keeps xs1 in
            let ys = value-still site.lanes reads values n other.after tested.after t last b tl few tested.keeps other.so in
            let dl = slot-lies group d (omega (arith, dk, kn, nl, in-last)) in
            let sl = slot-lies group s (omega (arith, sn, nl, in-last)) in
            let el = slot-lies group t (omega (arith, tl, in-last)) in
            let u : ℕ → ℕ = (λ i. value reads (at i values) c) in
            let x : ℕ → ℕ = (λ i. value reads (at i values) a) in
            let y : ℕ → ℕ = (λ i. value reads (at i values) b) in
            let g = tested.after in
            let same : (i : ℕ) → (if u i == 0 then y i else x i) ≡ value reads (at i values) (e.Select c a b) =
            (λ i. sym (value_select reads (at i values) c a b)) in
            let r = left-of w m l group n (Vector (v.MergeVv (slot group d) (slot group t) (slot group s)) ∷ []) g d (λ i. if u i == 0 then y i else x i)
            (λ i lt. chosen-below (u i == 0) (y i) (x i) (2 ^ 32) (ys.small i lt) (xs.small i lt))
            (rows.last w m l group n d dl (rows.writes w m l group n (λ i. if u i == 0 then y i else x i)
            (λ i. if g (bit i) == 0 then g (lane (slot group t) i) else g (lane (slot group s) i)) h3.has
            (masks.merge-vv w g m l (registers group) h3.has.configured (slot group d) (slot group t) (slot group s) dl.is_group el.is_group sl.is_group)
            (λ i lt. ap (λ z. if z == 0 then g (lane (slot group t) i) else g (lane (slot group s) i)) (tested.so i lt)
            ∙ ap (λ z. if one_if (not (u i == 0)) == 0 then z else g (lane (slot group s) i)) (ys.value_is i lt)
            ∙ ap (λ z. if one_if (not (u i == 0)) == 0 then y i else z) (xs.value_is i lt) ∙ chosen-is (u i) (x i) (y i)))) in
            record {
              after = r.after;
              line = line-then w first.insns (second.insns ++ (mask.insns ++ (Vector (v.MergeVv (slot group d) (slot group t) (slot group s)) ∷ []))) f one.after r.after m m m one.line
                  (line-then w second.insns (mask.insns ++ (Vector (v.MergeVv (slot group d) (slot group t) (slot group s)) ∷ [])) one.after other.after r.after m m m other.line
                  (line-then w mask.insns (Vector (v.MergeVv (slot group d) (slot group t) (slot group s)) ∷ []) other.after g r.after m m m tested.line r.line));
              keeps = λ q h.
                  r.keeps q h ∙ tested.keeps q (under-up group d last q (omega (arith, dk, kn, nl)) h)
                  ∙ other.keeps q (under-up group d next q (omega (arith, dk, kn)) h) ∙ one.keeps q (under-up group d k q dk h);
              so = record {
                value_is = λ i lt. r.value i lt ∙ same i;
                small = λ i lt. subst (λ z. z < 2 ^ 32) (same i) (r.small i lt);
              };
            };
      })
    where
      first : MakesOperand c0 c1 site kept k s a
      first = operand-as site kept k s pa a c0 c1 ea given-first

      second : MakesOperand c1 c2 site kept next t b
      second = operand-as site kept next t pb b c1 c2 eb given-second

      mask : MakesMask c2 c3 site kept last c
      mask = subst (MakesMask c2 c3 site kept last) ec given-mask

      merges : Emits c3 c4 (Vector (v.MergeVv (slot group d) (slot group t) (slot group s)) ∷ [])
      merges =
          subst (λ z. Emits c3 c4 (Vector (v.MergeVv z (slot group t) (slot group s)) ∷ [])) ed
          (subst (λ z. Emits c3 c4 (Vector (v.MergeVv rd z (slot group s)) ∷ [])) et
          (subst (λ z. Emits c3 c4 (Vector (v.MergeVv rd rt z) ∷ [])) es z))

      choice-may : (w : World) (m : List ℕ) (reads : Reads) (values : Values) (n : ℕ) → MayLoad site w m reads values n (e.Select c a b)
          → MayLoad site w m reads values n c × (MayLoad site w m reads values n a × MayLoad site w m reads values n b)
      choice-may w m reads values n may = (λ i lt. (all i lt).0, (λ i lt. (all i lt).1.0, λ i lt. (all i lt).1.1))
        where
          all : (i : ℕ) → i < n → AllByRecursion (Loads w site.places.now m reads) (loads reads (at i values) c) × (AllByRecursion (Loads w site.places.now m reads) (loads reads (at i values) a) × AllByRecursion (Loads w site.places.now m reads) (loads reads (at i values) b))
          all i lt =
              let each = all_parts (Loads w site.places.now m reads) (loads reads (at i values) c) (loads reads (at i values) a ++ loads reads (at i values) b)
              (subst (AllByRecursion (Loads w site.places.now m reads)) (loads_select reads (at i values) c a b) (may i lt)) in
              (each.0, all_parts (Loads w site.places.now m reads) (loads reads (at i values) a) (loads reads (at i values) b) each.1)

      chosen-is : (c x y : ℕ) → (if one_if (not (c == 0)) == 0 then y else x) ≡ (if c == 0 then y else x)
      chosen-is c x y = by-test (c == 0)
        where
          by-test : (t : Bool) → (if one_if (not t) == 0 then y else x) ≡ (if t then y else x)
          by-test true = refl
          by-test false = refl

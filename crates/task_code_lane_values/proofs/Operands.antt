-- Values of an expression of which parts stay in groups.
use Rattle.std.proofs.Common.{◌≡◌, ℕ, ◌+◌, ◌*◌, ◌^◌, ◌<◌, ◌≤◌, List, [], ◌∷◌, ◌++◌, refl, ap, ◌∙◌, sym, subst, arith, inl, inr}
use Rattle.std.specs.List.{AllByRecursion}
use Rattle.rv_insn.specs.declared.instructions.Insn.{Insn}
use Rattle.rv_insn.specs.declared.instructions.Insn.TheVariants.{Vector}
use Rattle.rv_insn.specs.declared.vector_instructions.VectorInsn.TheVariants as v
use Rattle.halide_pipeline.specs.declared.expressions.Operation.{Operation}
use Rattle.halide_pipeline.specs.Words as word
use Rattle.halide_pipeline.specs.Pixel.{Reads}
use Rattle.halide_pipeline.proofs.Seeing.{all_parts}
use Rattle.loop_ir.specs.declared.expressions.Expr.{Expr}
use Rattle.loop_ir.specs.declared.expressions.Expr.TheVariants as e
use Rattle.loop_ir.specs.Counters.{Values, with}
use Rattle.loop_ir.specs.Expressions.{value, loads}
use Rattle.multi_hart_laws.specs.Alone.{World}
use Rattle.multi_hart_laws.specs.Paths.{lane}
use Rattle.multi_hart_laws.proofs.Paths.{line-then, stay}
use Rattle.multi_hart_laws.proofs.VectorRows as vector
use Rattle.task_code_scalar.specs.Evaluation.{Loads}
use Rattle.task_code_scalar.specs.Words.{Emits}
use Rattle.task_code_scalar.proofs.Evaluation.{applied-below}
use Rattle.task_code_scalar.proofs.Spelling.{emits_then, emits-none}
use Rattle.task_code_registers.specs.Registers.{first_value}
use Rattle.task_code_values.proofs.Evaluating.{value_binary, value_divide, value_remainder, loads_binary, loads_divide, loads_remainder}
use Rattle.task_code_lanes.specs.declared.groups.LaneGroup.{LaneGroup}
use Rattle.task_code_lanes.specs.Groups.{registers, slots, slot}
use Rattle.task_code_lanes.proofs.Slots.{slot-lies}
use Rattle.task_code_lanes.proofs.Rows as rows
use Rattle.task_code_lane_values.specs.declared.kept.Kept.{Kept}
use Rattle.task_code_lane_values.specs.declared.vectorized.LaneSite.{LaneSite}
use Rattle.task_code_lane_values.specs.Leaving.{LeavesLanes, MakesLanes}
use Rattle.task_code_lane_values.specs.inner.Parts.{AnyWord, ComputesBy, ComputesOne, IsLoopInvariant, MakesScalar, MakesInvariant, Nothing, operation_rows}
use Rattle.task_code_lane_values.specs.inner.Sharing.{AreBelow, Begins, HoldsKept, HoldsValue, IsKeptAt, IsSmallerPart, Leads, MakesOperand, MayLoad}
use Rattle.task_code_lane_values.proofs.Composing.{lane-below, lanes-scalar, left-of, under-below}
use Rattle.task_code_lane_values.proofs.Computing.{rows-leave}
use Rattle.task_code_lane_values.proofs.Keeping.{begins-still, kept-holds, kept-low, kept-still, part-may, under-up, value-still}

module _ (site : LaneSite) (kept : List Kept) where
  abbrev group : LaneGroup
  group = site.lanes.group

  abbrev at : ℕ → Values → Values
  at i values = with site.lanes.counter i values

  -- ---- operands

  pub lanes-operand : (k : ℕ) (x : Expr) (c0 c1 : List ℕ) → MakesLanes c0 c1 site.places.now site.scope.now site.lanes k x
      → MakesOperand c0 c1 site kept k k x
  lanes-operand k x c0 c1 made = record {
    insns = made.insns;
    emits = made.emits;
    low = omega arith;
    does = λ w m values reads n f b held may.
        let a = made.does w m values reads n f b.size b.are_places b.holders b.knows b.has b.some b.few may in
        record { after = a.after; line = a.line; keeps = a.keeps; so = record { value_is = a.value; small = a.small } };
  }

  pub kept-operand : (k s : ℕ) (x : Expr) (c0 : List ℕ) → AreBelow kept k → IsKeptAt kept x s → MakesOperand c0 c0 site kept k s x
  kept-operand k s x c0 below is = record {
    insns = [];
    emits = emits-none c0;
    low = let h = kept-low kept x s k below is in omega (arith, h);
    does = λ w m values reads n f b held may. record {
      after = f;
      line = λ at st. stay w at f m;
      keeps = λ q h. refl;
      so = kept-holds site.lanes kept x s reads values n f is held;
    };
  }

  -- a copy of what stays
  pub copied : (k s a d : ℕ) (x : Expr) (c0 c1 c2 : List ℕ) → k < slots site.lanes.group → d ≡ slot site.lanes.group k → a ≡ slot site.lanes.group s
      → MakesOperand c0 c1 site kept k s x → Emits c1 c2 (Vector (v.MoveVv d a) ∷ []) → MakesOperand c0 c2 site kept k k x
  copied k s a d x c0 c1 c2 in-stack ed ea first z = record {
    insns = first.insns ++ (Vector (v.MoveVv (slot group k) (slot group s)) ∷ []);
    emits = emits_then first.emits
        (subst (λ q. Emits c1 c2 (Vector (v.MoveVv (slot group k) q) ∷ [])) ea (subst (λ q. Emits c1 c2 (Vector (v.MoveVv q a) ∷ [])) ed z));
    low = omega arith;
    does = λ w m values reads n f b held may.
        let p = first.does w m values reads n f b held may in
        let l = b.size in
        let bp = begins-still site w m values n f p.after k p.keeps b in
        let low = first.low in
        let kl = slot-lies group k in-stack in
        let sl = slot-lies group s (omega (arith, low, in-stack)) in
        let t = left-of w m l group n (Vector (v.MoveVv (slot group k) (slot group s)) ∷ []) p.after k (λ i. value reads (at i values) x) p.so.small
        (rows.last w m l group n k kl (rows.writes w m l group n (λ i. value reads (at i values) x) (λ i. p.after (lane (slot group s) i)) bp.has
        (vector.move-vv w p.after m l (registers group) bp.has.configured (slot group k) (slot group s) kl.is_group sl.is_group) p.so.value_is)) in
        record {
          after = t.after;
          line = line-then w first.insns (Vector (v.MoveVv (slot group k) (slot group s)) ∷ []) f p.after t.after m m m p.line t.line;
          keeps = λ q h. t.keeps q h ∙ p.keeps q h;
          so = record { value_is = t.value; small = t.small };
        };
  }

  pub operand-as : (k s : ℕ) (x y : Expr) (c0 c1 : List ℕ) → x ≡ y → MakesOperand c0 c1 site kept k s x → MakesOperand c0 c1 site kept k s y
  operand-as k s x y c0 c1 is made = subst (MakesOperand c0 c1 site kept k s) is made

  pub operand-at : (k d : ℕ) (x : Expr) (c0 c1 : List ℕ) → d ≡ k → MakesOperand c0 c1 site kept k k x → MakesOperand c0 c1 site kept d d x
  operand-at k d x c0 c1 is made = subst (λ z. MakesOperand c0 c1 site kept z z x) (sym is) made

  -- ---- an operation on lanes and a scalar

  abbrev MayOnce : Type 1
  MayOnce = World → List ℕ → Reads → Values → Type 0

  operand-by : (k s : ℕ) (x a : Expr) (c0 c1 c2 c3 : List ℕ) (mb : MayOnce) (xb : Reads → Values → ℕ) (fits : ℕ → Type 0) (says : ℕ → ℕ → ℕ)
      → MakesOperand c0 c1 site kept k k a → MakesScalar c1 c2 site.scope.now site.lanes s mb (λ hart reads values. xb reads values)
      → ComputesBy c2 c3 site.lanes.group k s fits says → ((reads : Reads) (values : Values) → xb reads values < 2 ^ 32 → fits (xb reads values))
      → ((w : World) (m : List ℕ) (reads : Reads) (values : Values) (n : ℕ) → MayLoad site w m reads values n x → MayLoad site w m reads values n a)
      → ((w : World) (m : List ℕ) (reads : Reads) (values : Values) (n : ℕ) → 1 ≤ n → MayLoad site w m reads values n x → mb w m reads values)
      → ((reads : Reads) (values : Values) (i : ℕ) → says (value reads (at i values) a) (xb reads values) ≡ value reads (at i values) x)
      → MakesOperand c0 c3 site kept k k x
  operand-by k s x a c0 c1 c2 c3 mb xb fits says first second z fit may-first may-second same = record {
    insns = first.insns ++ (second.insns ++ z.insns);
    emits = emits_then first.emits (emits_then second.emits z.emits);
    low = omega arith;
    does = λ w m values reads n f b held may.
        let l = b.size in
        let p = first.does w m values reads n f b held (may-first w m reads values n may) in
        let bp = begins-still site w m values n f p.after k p.keeps b in
        let q = second.does w m values reads p.after l b.holders bp.knows (may-second w m reads values n b.some may) in
        let hq = lanes-scalar w m l group n p.after q.after q.keeps bp.has in
        let t = z.does w m n q.after (λ i. value reads (at i values) a) (xb reads values) l hq
        (λ i lt. q.keeps (lane (slot group k) i) (lane-below (slot group k) i) ∙ p.so.value_is i lt) p.so.small q.value q.small (fit reads values q.small) in
        record {
          after = t.after;
          line = line-then w first.insns (second.insns ++ z.insns) f p.after t.after m m m p.line
              (line-then w second.insns z.insns p.after q.after t.after m m m q.line t.line);
          keeps = λ u h. t.keeps u h ∙ q.keeps u (under-below group k u h) ∙ p.keeps u h;
          so = record {
            value_is = λ i lt. t.value i lt ∙ same reads values i;
            small = λ i lt. subst (λ y. y < 2 ^ 32) (same reads values i) (t.small i lt);
          };
        };
  }

  -- what may be loaded for operands
  parts-may : (o : Operation) (a b : Expr) (w : World) (m : List ℕ) (reads : Reads) (values : Values) (n : ℕ) → MayLoad site w m reads values n (e.Binary o a b)
      → MayLoad site w m reads values n a × MayLoad site w m reads values n b
  parts-may o a b w m reads values n may = (λ i l. (both i l).0, λ i l. (both i l).1)
    where
      both : (i : ℕ) → i < n → AllByRecursion (Loads w site.places.now m reads) (loads reads (at i values) a)
          × AllByRecursion (Loads w site.places.now m reads) (loads reads (at i values) b)
      both i l =
          all_parts (Loads w site.places.now m reads) (loads reads (at i values) a) (loads reads (at i values) b)
          (subst (AllByRecursion (Loads w site.places.now m reads)) (loads_binary reads (at i values) o a b) (may i l))

  pub second-operand : (k s : ℕ) (x a b p q : Expr) (o : Operation) (c0 c1 c2 c3 : List ℕ) → x ≡ e.Binary o a b → p ≡ a → q ≡ b
      → IsLoopInvariant site.lanes.counter q → MakesOperand c0 c1 site kept k k p → MakesInvariant c1 c2 site.places.now site.scope.now site.lanes s q
      → ComputesBy c2 c3 site.lanes.group k s AnyWord (word.applied o) → MakesOperand c0 c3 site kept k k x
  second-operand k s x a b p q o c0 c1 c2 c3 eo ep eq loop_invariant first second z =
      let still = subst (IsLoopInvariant site.lanes.counter) eq loop_invariant in
      subst (MakesOperand c0 c3 site kept k k) (sym eo)
      (operand-by k s (e.Binary o a b) a c0 c1 c2 c3
      (λ w m reads values. AllByRecursion (Loads w site.places.now m reads) (loads reads (at 0 values) b)) (λ reads values. value reads (at 0 values) b) AnyWord
      (word.applied o) (operand-as k k p a c0 c1 ep first) (subst (MakesInvariant c1 c2 site.places.now site.scope.now site.lanes s) eq second) z
      (λ reads values small. tt) (λ w m reads values n may. (parts-may o a b w m reads values n may).0)
      (λ w m reads values n some may. (parts-may o a b w m reads values n may).1 0 (omega (arith, some)))
      (λ reads values i. ap (word.applied o (value reads (at i values) a)) (sym (still reads values i)) ∙ sym (value_binary reads (at i values) o a b)))

  pub first-operand : (k s : ℕ) (x a b p q : Expr) (o : Operation) (c0 c1 c2 c3 : List ℕ) → x ≡ e.Binary o a b → p ≡ a → q ≡ b
      → IsLoopInvariant site.lanes.counter p → MakesOperand c0 c1 site kept k k q → MakesInvariant c1 c2 site.places.now site.scope.now site.lanes s p
      → ComputesBy c2 c3 site.lanes.group k s AnyWord (λ y c. word.applied o c y) → MakesOperand c0 c3 site kept k k x
  first-operand k s x a b p q o c0 c1 c2 c3 eo ep eq loop_invariant second first z =
      let still = subst (IsLoopInvariant site.lanes.counter) ep loop_invariant in
      subst (MakesOperand c0 c3 site kept k k) (sym eo)
      (operand-by k s (e.Binary o a b) b c0 c1 c2 c3
      (λ w m reads values. AllByRecursion (Loads w site.places.now m reads) (loads reads (at 0 values) a)) (λ reads values. value reads (at 0 values) a) AnyWord
      (λ y c. word.applied o c y) (operand-as k k q b c0 c1 eq second) (subst (MakesInvariant c1 c2 site.places.now site.scope.now site.lanes s) ep first) z
      (λ reads values small. tt) (λ w m reads values n may. (parts-may o a b w m reads values n may).1)
      (λ w m reads values n some may. (parts-may o a b w m reads values n may).0 0 (omega (arith, some)))
      (λ reads values i. ap (λ y. word.applied o y (value reads (at i values) b)) (sym (still reads values i)) ∙ sym (value_binary reads (at i values) o a b)))

  pub divide-operand : (k s : ℕ) (x a p : Expr) (c : ℕ) (c0 c1 c2 c3 : List ℕ) → x ≡ e.Divide a c → p ≡ a → MakesOperand c0 c1 site kept k k p
      → MakesScalar c1 c2 site.scope.now site.lanes s Nothing (λ hart reads values. c) → ComputesBy c2 c3 site.lanes.group k s (λ d. d ≡ c) (λ y d. word.divide y c)
      → MakesOperand c0 c3 site kept k k x
  divide-operand k s x a p c c0 c1 c2 c3 eo ep first second z =
      subst (MakesOperand c0 c3 site kept k k) (sym eo)
      (operand-by k s (e.Divide a c) a c0 c1 c2 c3 Nothing (λ reads values. c) (λ d. d ≡ c) (λ y d. word.divide y c) (operand-as k k p a c0 c1 ep first) second z
      (λ reads values small. refl)
      (λ w m reads values n may i l. subst (AllByRecursion (Loads w site.places.now m reads)) (loads_divide reads (at i values) a c) (may i l))
      (λ w m reads values n some may. tt) (λ reads values i. sym (value_divide reads (at i values) a c)))

  pub remainder-operand : (k s : ℕ) (x a p : Expr) (c d : ℕ) (c0 c1 c2 c3 : List ℕ) → x ≡ e.Remainder a c → p ≡ a → MakesOperand c0 c1 site kept k k p
      → MakesScalar c1 c2 site.scope.now site.lanes s Nothing (λ hart reads values. d)
      → ComputesBy c2 c3 site.lanes.group k s (λ n. n ≡ d) (λ y n. word.remainder y c) → MakesOperand c0 c3 site kept k k x
  remainder-operand k s x a p c d c0 c1 c2 c3 eo ep first second z =
      subst (MakesOperand c0 c3 site kept k k) (sym eo)
      (operand-by k s (e.Remainder a c) a c0 c1 c2 c3 Nothing (λ reads values. d) (λ n. n ≡ d) (λ y n. word.remainder y c) (operand-as k k p a c0 c1 ep first)
      second z (λ reads values small. refl)
      (λ w m reads values n may i l. subst (AllByRecursion (Loads w site.places.now m reads)) (loads_remainder reads (at i values) a c) (may i l))
      (λ w m reads values n some may. tt) (λ reads values i. sym (value_remainder reads (at i values) a c)))

  pub shift-operand : (k : ℕ) (x a p : Expr) (c : ℕ) (c0 c1 c2 : List ℕ) → x ≡ e.Divide a c → p ≡ a → MakesOperand c0 c1 site kept k k p
      → ComputesOne c1 c2 site.lanes.group k (λ y. word.divide y c) → MakesOperand c0 c2 site kept k k x
  shift-operand k x a p c c0 c1 c2 eo ep given z =
      subst (MakesOperand c0 c2 site kept k k) (sym eo) (record {
        insns = first.insns ++ z.insns;
        emits = emits_then first.emits z.emits;
        low = omega arith;
        does = λ w m values reads n f b held may.
            let p = first.does w m values reads n f b held
            (λ i l. subst (AllByRecursion (Loads w site.places.now m reads)) (loads_divide reads (at i values) a c) (may i l)) in
            let bp = begins-still site w m values n f p.after k p.keeps b in
            let t = z.does w m n p.after (λ i. value reads (at i values) a) b.size bp.has p.so.value_is p.so.small in
            let same : (i : ℕ) → word.divide (value reads (at i values) a) c ≡ value reads (at i values) (e.Divide a c) =
            (λ i. sym (value_divide reads (at i values) a c)) in
            record {
              after = t.after;
              line = line-then w first.insns z.insns f p.after t.after m m m p.line t.line;
              keeps = λ u h. t.keeps u h ∙ p.keeps u h;
              so = record {
                value_is = λ i lt. t.value i lt ∙ same i;
                small = λ i lt. subst (λ y. y < 2 ^ 32) (same i) (t.small i lt);
              };
            };
      })
    where
      first : MakesOperand c0 c1 site kept k k a
      first = operand-as k k p a c0 c1 ep given

  -- ---- an operation on two groups

  pub two-operand : (o : Operation) (k s next t d : ℕ) → AreBelow kept k → s < next → k ≤ next → next < slots site.lanes.group → d ≤ k → (a b p q x : Expr)
      (rd rs rt : ℕ) (c0 c1 c2 c3 : List ℕ) → x ≡ e.Binary o a b → p ≡ a → q ≡ b → MakesOperand c0 c1 site kept k s p
      → MakesOperand c1 c2 site kept next t q → rd ≡ slot site.lanes.group d → rs ≡ slot site.lanes.group s → rt ≡ slot site.lanes.group t
      → Emits c2 c3 (operation_rows o rd rs rt) → MakesOperand c0 c3 site kept d d x
  two-operand o k s next t d below sn kn in-next dk a b p q x rd rs rt c0 c1 c2 c3 eo ep eq given-first given-second ed es et z =
      subst (MakesOperand c0 c3 site kept d d) (sym eo) (record {
        insns = first.insns ++ (second.insns ++ (operation_rows o (slot group d) (slot group s) (slot group t)));
        emits = emits_then first.emits (emits_then second.emits last);
        low = omega arith;
        does = λ w m values reads n f begins held may.
            let l = begins.size in
            let may-both = parts-may o a b w m reads values n may in
            let one = first.does w m values reads n f begins held may-both.0 in
            let h1 = begins-still site w m values n f one.after k one.keeps begins in
            let other = second.does w m values reads n one.after h1
            (kept-still site.lanes kept reads values n f one.after k below begins.few one.keeps held) may-both.1 in
            let h2 = begins-still site w m values n one.after other.after next other.keeps h1 in
            let xs = value-still site.lanes reads values n one.after other.after s next a sn begins.few other.keeps one.so in
            let ys = other.so in
            let x : ℕ → ℕ = (λ i. value reads (at i values) a) in
            let y : ℕ → ℕ = (λ i. value reads (at i values) b) in
            let same : (i : ℕ) → word.applied o (x i) (y i) ≡ value reads (at i values) (e.Binary o a b) =
            (λ i. sym (value_binary reads (at i values) o a b)) in
            let low = second.low in
            let dl = slot-lies group d (omega (arith, dk, kn, in-next)) in
            let sl = slot-lies group s (omega (arith, sn, in-next)) in
            let tl = slot-lies group t (omega (arith, low, in-next)) in
            let r = left-of w m l group n (operation_rows o (slot group d) (slot group s) (slot group t)) other.after d (λ i. word.applied o (x i) (y i))
            (λ i lt. applied-below o (x i) (y i) (xs.small i lt) (ys.small i lt))
            (rows-leave w m l group n d dl (slot group s) (slot group t) sl.is_group tl.is_group other.after x y h2.has xs.value_is ys.value_is xs.small
            ys.small o) in
            record {
              after = r.after;
              line = line-then w first.insns (second.insns ++ (operation_rows o (slot group d) (slot group s) (slot group t))) f one.after r.after m m m one.line
                  (line-then w second.insns (operation_rows o (slot group d) (slot group s) (slot group t)) one.after other.after r.after m m m other.line r.line);
              keeps = λ q h.
                  r.keeps q h ∙ other.keeps q (under-up group d next q (omega (arith, dk, kn)) h) ∙ one.keeps q (under-up group d k q dk h);
              so = record {
                value_is = λ i lt. r.value i lt ∙ same i;
                small = λ i lt. subst (λ z. z < 2 ^ 32) (same i) (r.small i lt);
              };
            };
      })
    where
      first : MakesOperand c0 c1 site kept k s a
      first = operand-as k s p a c0 c1 ep given-first

      second : MakesOperand c1 c2 site kept next t b
      second = operand-as next t q b c1 c2 eq given-second

      last : Emits c2 c3 (operation_rows o (slot group d) (slot group s) (slot group t))
      last =
          subst (λ z. Emits c2 c3 (operation_rows o z (slot group s) (slot group t))) ed
          (subst (λ z. Emits c2 c3 (operation_rows o rd z (slot group t))) es (subst (λ z. Emits c2 c3 (operation_rows o rd rs z)) et z))

-- ---- a part first, which stays

pub kept-first : (site : LaneSite) (kept more : List Kept) (own_kept : Kept) (inner : LaneSite) (d k next : ℕ) (x part : Expr) (c0 c1 c2 : List ℕ) → AreBelow kept k
    → d ≤ k → next ≡ k + 1 → own_kept.e.now ≡ part → own_kept.slot ≡ k → more ≡ own_kept ∷ kept → inner ≡ site → IsSmallerPart x part → MakesOperand c0 c1 site kept k k part
    → MakesOperand c1 c2 inner more d d x → MakesOperand c0 c2 site kept d d x
kept-first site kept more own_kept inner d k next x part c0 c1 c2 below dk en ep es em ei is first given = record {
  insns = first.insns ++ second.insns;
  emits = emits_then first.emits second.emits;
  low = omega arith;
  does = λ w m values reads n f b held may.
      let p = first.does w m values reads n f b held (part-may site w m reads values n x part is.0 may) in
      let h = kept-still site.lanes kept reads values n f p.after k below b.few p.keeps held in
      let holds : HoldsValue site.lanes reads values n p.after own_kept.slot own_kept.e.now =
      subst (λ z. HoldsValue site.lanes reads values n p.after z own_kept.e.now) (sym es) (subst (HoldsValue site.lanes reads values n p.after k) (sym ep) p.so) in
      let r = second.does w m values reads n p.after (begins-still site w m values n f p.after k p.keeps b) (holds, h) may in
      record {
        after = r.after;
        line = line-then w first.insns second.insns f p.after r.after m m m p.line r.line;
        keeps = λ q u. r.keeps q u ∙ p.keeps q (under-up site.lanes.group d k q dk u);
        so = r.so;
      };
}
  where
    second : MakesOperand c1 c2 site (own_kept ∷ kept) d d x
    second = subst (λ z. MakesOperand c1 c2 z (own_kept ∷ kept) d d x) ei (subst (λ z. MakesOperand c1 c2 inner z d d x) em given)

-- ---- the whole

pub whole-lanes : (site : LaneSite) (x : Expr) (c0 c1 words : List ℕ) → c1 ≡ c0 ++ words → MakesOperand [] words site [] 0 0 x
    → MakesLanes c0 c1 site.places.now site.scope.now site.lanes 0 x
whole-lanes site x c0 c1 words is made = record {
  insns = made.insns;
  emits = moved;
  does = λ w m values reads n f size are-places holders knows has some few may.
      let r = made.does w m values reads n f
      (record { size = size; are_places = are-places; holders = holders; knows = knows; has = has; some = some; few = few }) tt may in
      record { after = r.after; line = r.line; value = r.so.value_is; small = r.so.small; keeps = r.keeps };
}
  where
    moved : Emits c0 c1 made.insns
    moved = record { words = made.emits.words; appended = is ∙ ap (λ l. c0 ++ l) made.emits.appended; spelled = made.emits.spelled }

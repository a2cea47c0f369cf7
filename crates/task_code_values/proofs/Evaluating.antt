-- The code of an expression leaves its value.
use Rattle.std.proofs.Common.{◌≡◌, ℕ, ◌+◌, ◌*◌, ◌^◌, ◌<◌, ◌≤◌, List, [], ◌∷◌, ◌++◌, length, refl, ap, ◌∙◌, sym, subst, arith, inl, inr}
use Rattle.std.proofs.lemmas.List.{append-nil}
use Rattle.std.specs.Prelude.{◌⊎◌, ◌==◌, if◌then◌else◌}
use Rattle.std.specs.List.{AllByRecursion}
use Rattle.halide_pipeline.specs.declared.expressions.Operation.{Operation}
use Rattle.halide_pipeline.specs.declared.expressions.Source.{Source}
use Rattle.halide_pipeline.specs.Words as word
use Rattle.halide_pipeline.specs.Pixel.{Reads}
use Rattle.halide_pipeline.specs.Points.{Point, Seen}
use Rattle.halide_pipeline.proofs.Seeing.{all_parts}
use Rattle.loop_ir.specs.declared.expressions.Expr.{Expr}
use Rattle.loop_ir.specs.declared.expressions.Expr.TheVariants as e
use Rattle.loop_ir.specs.declared.expressions.Linear.{Linear}
use Rattle.loop_ir.specs.Counters.{Values}
use Rattle.loop_ir.specs.Expressions.{value, value_at, seen, seen_at, loads, linear_value}
use Rattle.loop_ir.specs.Sizes.{Size, size}
use Rattle.loop_ir.proofs.Sizes.{size_number, size_linear, size_binary, size_divide, size_remainder, size_select, size_load}
use Rattle.loop_ir.proofs.Folds.{at_number, at_linear, at_binary, at_divide, at_remainder, at_select, at_load}
use Rattle.loop_ir.proofs.Loads.{values_are_seen}
use Rattle.multi_hart_laws.specs.Alone.{World}
use Rattle.multi_hart_laws.proofs.Paths.{line-then, stay}
use Rattle.task_code_scalar.specs.declared.layouts.BufferLayout.{BufferLayout}
use Rattle.task_code_scalar.specs.declared.layouts.Places.{Places}
use Rattle.task_code_scalar.specs.Code.{place_of}
use Rattle.task_code_scalar.specs.Evaluation.{Loads, LoadsAt}
use Rattle.task_code_scalar.proofs.Evaluation.{applied-below, chosen-below}
use Rattle.task_code_scalar.proofs.Spelling.{emits_then, emits-none}
use Rattle.task_code_registers.specs.declared.scopes.Held.{Held}
use Rattle.task_code_registers.specs.Emitting.{MakesOf}
use Rattle.task_code_registers.specs.Registers.{address_register}
use Rattle.task_code_registers.specs.Scopes.{Knows, AreHolders, IsKept, IsFree}
use Rattle.task_code_registers.proofs.Knowing.{knows-zero, knows-still, working-free, linear-small}
use Rattle.task_code_registers.proofs.Making.{short-then}
use Rattle.task_code_values.specs.declared.points.PointIndex.{PointIndex}
use Rattle.task_code_values.specs.declared.points.PointIndex.TheVariants as indexes
use Rattle.task_code_values.specs.declared.immediates.Immediate.{Immediate}
use Rattle.task_code_values.specs.Immediates.{immediate_value, IsImmediateNumber, IsImmediate}
use Rattle.task_code_values.specs.Making.{IsStack, IsBelow, MakesOfTwo, MakesFrom, MakesHeld, Selects}
use Rattle.task_code_values.specs.Operands.{IsOperand, IsLeafPlace, MakesOperand, IsSum, IsIndex, StandsIn, MakesIndex, MakesPixel}
use Rattle.task_code_values.proofs.Standing.{kept-below, below-apart, below-more}
use Rattle.task_code_values.proofs.Literals.{of-operand}

-- ---- what an expression is worth, and what it loads

module _ (reads : Reads) (values : Values) where
  abbrev worth : Expr → ℕ
  worth sum = value reads values sum

  pub value_number : (n : ℕ) → worth (e.Number n) ≡ n
  unfolding value
  value_number n = at_number ℕ (value_at reads values) n

  pub value_linear : (sum : Linear) → worth (e.Linear sum) ≡ linear_value values sum
  unfolding value
  value_linear sum = at_linear ℕ (value_at reads values) sum

  pub value_binary : (o : Operation) (a b : Expr) → worth (e.Binary o a b) ≡ word.applied o (worth a) (worth b)
  unfolding value
  value_binary o a b = at_binary ℕ (value_at reads values) o a b

  pub value_divide : (a : Expr) (c : ℕ) → worth (e.Divide a c) ≡ word.divide (worth a) c
  unfolding value
  value_divide a c = at_divide ℕ (value_at reads values) a c

  pub value_remainder : (a : Expr) (c : ℕ) → worth (e.Remainder a c) ≡ word.remainder (worth a) c
  unfolding value
  value_remainder a c = at_remainder ℕ (value_at reads values) a c

  pub value_select : (c a b : Expr) → worth (e.Select c a b) ≡ (if worth c == 0 then worth b else worth a)
  unfolding value
  value_select c a b = at_select ℕ (value_at reads values) c a b

  pub value_load : (source : Source) (x y : Expr) → worth (e.Load source x y) ≡ reads source (worth x) (worth y)
  unfolding value
  value_load source x y = at_load ℕ (value_at reads values) source x y

  abbrev seen-points : Expr → List Point
  seen-points sum = loads reads values sum

  loads_number : (n : ℕ) → seen-points (e.Number n) ≡ []
  unfolding seen
  loads_number n = ap (λ (s : Seen). s.points) (at_number Seen (seen_at reads values) n)

  pub loads_binary : (o : Operation) (a b : Expr) → seen-points (e.Binary o a b) ≡ seen-points a ++ seen-points b
  unfolding seen
  loads_binary o a b = ap (λ (s : Seen). s.points) (at_binary Seen (seen_at reads values) o a b)

  pub loads_divide : (a : Expr) (c : ℕ) → seen-points (e.Divide a c) ≡ seen-points a
  unfolding seen
  loads_divide a c = ap (λ (s : Seen). s.points) (at_divide Seen (seen_at reads values) a c)

  pub loads_remainder : (a : Expr) (c : ℕ) → seen-points (e.Remainder a c) ≡ seen-points a
  unfolding seen
  loads_remainder a c = ap (λ (s : Seen). s.points) (at_remainder Seen (seen_at reads values) a c)

  pub loads_select : (c a b : Expr) → seen-points (e.Select c a b) ≡ seen-points c ++ (seen-points a ++ seen-points b)
  unfolding seen
  loads_select c a b = ap (λ (s : Seen). s.points) (at_select Seen (seen_at reads values) c a b)

  pub loads_load : (source : Source) (x y : Expr)
      → seen-points (e.Load source x y) ≡ (seen-points x ++ seen-points y) ++ (record { source = source; x = worth x; y = worth y } ∷ [])
  unfolding seen
  loads_load source x y =
      ap (λ (s : Seen). s.points) (at_load Seen (seen_at reads values) source x y)
      ∙ ap (λ n. (seen-points x ++ seen-points y) ++ (record { source = source; x = n; y = (seen reads values y).value } ∷ [])) (values_are_seen
      reads values x)
      ∙ ap (λ n. (seen-points x ++ seen-points y) ++ (record { source = source; x = worth x; y = n } ∷ [])) (values_are_seen reads values y)

pub one-of : (scope : List Held) (r s : ℕ) → IsOperand scope r r s → (s ≡ r) ⊎ IsKept scope s
one-of scope r s (inl e) = inl e
one-of scope r s (inr o) = o

-- ---- leaves

leaf-place : (r leaf : ℕ) → IsLeafPlace r leaf → (leaf ≡ address_register) ⊎ ((leaf ≡ r) × (r < 32))
leaf-place r leaf (inl g) = inl g
leaf-place r leaf (inr h) = inr (h.0, h.1.1)

leaf-free : (scope : List Held) (r leaf : ℕ) → IsLeafPlace r leaf → AreHolders scope → IsFree scope leaf
leaf-free scope r leaf (inl g) holders = subst (IsFree scope) (sym g) (working-free scope address_register holders (inl (omega arith, omega arith)))
leaf-free scope r leaf (inr h) holders = subst (IsFree scope) (sym h.0) (working-free scope r holders (inr h.1))

leaf-which : (scope : List Held) (r leaf s : ℕ) → (s ≡ leaf) ⊎ IsKept scope s → IsOperand scope r leaf s
leaf-which scope r leaf s (inl g) = inl g
leaf-which scope r leaf s (inr h) = inr (inr h)

module _ (places : Places) (scope : List Held) where
  abbrev Operand : List ℕ → List ℕ → ℕ → ℕ → ℕ → Expr → Type 0
  Operand c0 c1 r leaf s new_expression = MakesOperand c0 c1 places scope r leaf s new_expression

  -- the same of an expression that is the same
  pub operand-as : (new_expression x : Expr) (r leaf s : ℕ) (c0 c1 : List ℕ) → new_expression ≡ x → Operand c0 c1 r leaf s x → Operand c0 c1 r leaf s new_expression
  operand-as new_expression x r leaf s c0 c1 eo z = subst (λ y. Operand c0 c1 r leaf s y) (sym eo) z

  leaf-made : (new_expression : Expr) (r leaf s most : ℕ) (c0 c1 : List ℕ) (says : Values → ℕ) → IsLeafPlace r leaf → most ≡ size new_expression
      → MakesHeld c0 c1 most scope leaf s (λ hart values. says values) → ((reads : Reads) (values : Values) → says values ≡ value reads values new_expression)
      → ((values : Values) → says values < 2 ^ 32) → Operand c0 c1 r leaf s new_expression
  leaf-made new_expression r leaf s most c0 c1 says layout words x is small = record {
    insns = x.insns;
    emits = x.emits;
    short = subst (λ n. length x.insns ≤ n) words x.short;
    source = x.source;
    which = leaf-which scope r leaf s x.which;
    does = λ w m values reads f l holders knows may.
        let a = x.does w m w.hart values f l holders (leaf-free scope r leaf layout holders) knows in
        record {
          after = a.after;
          line = a.line;
          value = a.value ∙ is reads values;
          small = subst (λ n. n < 2 ^ 32) (is reads values) (small values);
          keeps = λ q k. let b = below-apart r leaf q (leaf-place r leaf layout) k in a.others q b.0 b.1.0 b.1.1;
        };
  }

  pub number-operand : (new_expression : Expr) (n r leaf s : ℕ) (c0 c1 : List ℕ) → new_expression ≡ e.Number n → IsLeafPlace r leaf → n < 2 ^ 32
      → MakesHeld c0 c1 2 scope leaf s (λ hart values. n) → Operand c0 c1 r leaf s new_expression
  number-operand new_expression n r leaf s c0 c1 eo layout small x =
      operand-as new_expression (e.Number n) r leaf s c0 c1 eo
      (leaf-made (e.Number n) r leaf s 2 c0 c1 (λ values. n) layout (sym (ap (λ (z : Size). z.words) (size_number n))) x
      (λ reads values. sym (value_number reads values n)) (λ values. small))

  pub linear-operand : (new_expression : Expr) (sum : Linear) (r leaf s : ℕ) (c0 c1 : List ℕ) → new_expression ≡ e.Linear sum → IsLeafPlace r leaf
      → MakesHeld c0 c1 (2 + 4 * length sum.terms) scope leaf s (λ hart values. linear_value values sum) → Operand c0 c1 r leaf s new_expression
  linear-operand new_expression sum r leaf s c0 c1 eo layout x =
      operand-as new_expression (e.Linear sum) r leaf s c0 c1 eo
      (leaf-made (e.Linear sum) r leaf s (2 + 4 * length sum.terms) c0 c1 (λ values. linear_value values sum) layout
      (sym (ap (λ (z : Size). z.words) (size_linear sum))) x
      (λ reads values. sym (value_linear reads values sum)) (λ values. linear-small values sum))

  -- ---- parts

  known : (hart : ℕ) (values : Values) (f g : ℕ → ℕ) (r : ℕ) → 20 ≤ r → AreHolders scope → ((q : ℕ) → IsBelow r q → g q ≡ f q) → Knows hart scope values f
      → Knows hart scope values g
  known hart values f g r low holders same knows = knows-still hart scope values f g (λ q h. same q (kept-below scope q r low holders h)) knows

  -- an operand stays while another one is made above
  first-stays : (r s k : ℕ) → 20 ≤ r → r < k → AreHolders scope → IsOperand scope r r s → IsBelow k s
  first-stays r s k low above holders (inl g) = (inr (omega (arith, g, low)), inl (omega (arith, g, above)))
  first-stays r s k low above holders (inr (inl g)) = (inr (omega (arith, g, low)), inl (omega (arith, g, above)))
  first-stays r s k low above holders (inr (inr h)) = kept-below scope s k (omega (arith, low, above)) holders h

  abbrev May : World → List ℕ → Reads → List Point → Type 0
  May w m reads points = AllByRecursion (Loads w places m reads) points

  module _ (r : ℕ) (low : 20 ≤ r) (high : r < 32) where
    pub binary-operand : (o : Operation) (a b : Expr) (s t : ℕ) (c0 c1 c2 c3 : List ℕ) → Operand c0 c1 r r s a → Operand c1 c2 (r + 1) address_register t b
        → MakesOfTwo c2 c3 4 r s t (word.applied o) → Operand c0 c3 r r r (e.Binary o a b)
    binary-operand o a b s t c0 c1 c2 c3 x y z = record {
      insns = x.insns ++ (y.insns ++ z.insns);
      emits = emits_then x.emits (emits_then y.emits z.emits);
      short =
          let rest = short-then y.insns z.insns (size b) 4 (size b + 4) y.short z.short (omega arith) in
          let n = ap (λ (k : Size). k.words) (size_binary o a b) in
          short-then x.insns (y.insns ++ z.insns) (size a) (size b + 4) (size (e.Binary o a b)) x.short rest (omega (arith, n));
      source = (high, ((λ g. omega (arith, g, low)), (λ g. omega (arith, g, low))));
      which = inl refl;
      does = λ w m values reads f l holders knows may.
          let parts = all_parts (Loads w places m reads) (loads reads values a) (loads reads values b) (subst (May w m reads) (loads_binary reads
          values o a b) may) in
          let p = x.does w m values reads f l holders knows parts.0 in
          let kp = known w.hart values f p.after r low holders p.keeps knows in
          let q = y.does w m values reads p.after l holders kp parts.1 in
          let kq = known w.hart values p.after q.after (r + 1) (omega (arith, low)) holders q.keeps kp in
          let es = q.keeps s (first-stays r s (r + 1) low (omega arith) holders x.which) ∙ p.value in
          let u = z.does w m q.after l (knows-zero w.hart scope values q.after kq) (subst (λ n. n < 2 ^ 32) (sym es) p.small) (subst (λ n. n < 2 ^
          32) (sym q.value) q.small) in
          let is = sym (value_binary reads values o a b) in
          record {
            after = u.after;
            line = line-then w x.insns (y.insns ++ z.insns) f p.after u.after m m m p.line (line-then w y.insns z.insns p.after q.after u.after m m m
                q.line u.line);
            value = u.value ∙ ap (λ n. word.applied o n (q.after t)) es ∙ ap (word.applied o (value reads values a)) q.value ∙ is;
            small = subst (λ n. n < 2 ^ 32) is (applied-below o (value reads values a) (value reads values b) p.small q.small);
            keeps = λ n k. let d = below-apart r r n (inr (refl, high)) k in
                u.others n d.0 d.1.0 d.1.1 ∙ q.keeps n (below-more r (r + 1) n (omega arith) k) ∙ p.keeps n k;
          };
    }

    -- of one operand
    from-operand : (new_expression a : Expr) (s most : ℕ) (says : ℕ → ℕ) (c0 c1 c2 : List ℕ)
        → size a + most ≤ size new_expression
        → ((reads : Reads) (values : Values) → loads reads values new_expression ≡ loads reads values a)
        → ((reads : Reads) (values : Values) → value reads values new_expression ≡ says (value reads values a))
        → Operand c0 c1 r r s a → MakesFrom c1 c2 most scope r s says → Operand c0 c2 r r r new_expression
    from-operand new_expression a s most says c0 c1 c2 fits same is x z = record {
      insns = x.insns ++ z.insns;
      emits = emits_then x.emits z.emits;
      short = short-then x.insns z.insns (size a) most (size new_expression) x.short z.short fits;
      source = (high, ((λ g. omega (arith, g, low)), (λ g. omega (arith, g, low))));
      which = inl refl;
      does = λ w m values reads f l holders knows may.
          let p = x.does w m values reads f l holders knows (subst (May w m reads) (same reads values) may) in
          let kp = known w.hart values f p.after r low holders p.keeps knows in
          let u = z.does w m w.hart values p.after l holders kp (subst (λ n. n < 2 ^ 32) (sym p.value) p.small) in
          let v = ap says p.value ∙ sym (is reads values) in
          record {
            after = u.after;
            line = line-then w x.insns z.insns f p.after u.after m m m p.line u.line;
            value = u.value ∙ v;
            small = subst (λ n. n < 2 ^ 32) v u.small;
            keeps = λ n k. u.keeps n k ∙ p.keeps n k;
          };
    }

    -- of one operand and a literal
    immediate-operand : (o : Operation) (a : Expr) (n s : ℕ) (i : Immediate) (c0 c1 c2 : List ℕ) → n < 2 ^ 32 → IsImmediateNumber o n i
        → Operand c0 c1 r r s a → MakesOf c1 c2 3 r s (immediate_value i) → Operand c0 c2 r r r (e.Binary o a (e.Number n))
    immediate-operand o a n s i c0 c1 c2 small makes x z =
        let w = ap (λ (k : Size). k.words) (size_binary o a (e.Number n)) in
        let m = ap (λ (k : Size). k.words) (size_number n) in
        from-operand (e.Binary o a (e.Number n)) a s 3 (λ v. word.applied o v n) c0 c1 c2 (omega (arith, w, m))
        (λ reads values. loads_binary reads values o a (e.Number n) ∙ ap (λ xs. loads reads values a ++ xs) (loads_number reads values n)
        ∙ append-nil (loads reads values a))
        (λ reads values. value_binary reads values o a (e.Number n) ∙ ap (word.applied o (value reads values a)) (value_number reads values n)) x
        (of-operand scope 3 r s (immediate_value i) (λ v. word.applied o v n) c1 c2 low high makes (λ v l. applied-below o v n l small) z)

    pub divide-operand : (a : Expr) (c s : ℕ) (c0 c1 c2 : List ℕ) → Operand c0 c1 r r s a → MakesFrom c1 c2 6 scope r s (λ v. word.divide v c)
        → Operand c0 c2 r r r (e.Divide a c)
    divide-operand a c s c0 c1 c2 x z =
        from-operand (e.Divide a c) a s 6 (λ v. word.divide v c) c0 c1 c2 (let n = ap (λ (k : Size). k.words) (size_divide a c) in omega (arith, n))
        (λ reads values. loads_divide reads values a c) (λ reads values. value_divide reads values a c) x z

    pub remainder-operand : (a : Expr) (c s : ℕ) (c0 c1 c2 : List ℕ) → Operand c0 c1 r r s a → MakesFrom c1 c2 8 scope r s (λ v. word.remainder v c)
        → Operand c0 c2 r r r (e.Remainder a c)
    remainder-operand a c s c0 c1 c2 x z =
        from-operand (e.Remainder a c) a s 8 (λ v. word.remainder v c) c0 c1 c2 (let n = ap (λ (k : Size). k.words) (size_remainder a c) in omega (arith, n))
        (λ reads values. loads_remainder reads values a c) (λ reads values. value_remainder reads values a c) x z

    pub select-operand : (c a b : Expr) (s t u : ℕ) (c0 c1 c2 c3 c4 : List ℕ) → r + 2 < 32 → Operand c0 c1 r r s c → Operand c1 c2 (r + 1) (r + 1) t a
        → Operand c2 c3 (r + 2) (r + 2) u b → Selects c3 c4 r s t u → Operand c0 c4 r r r (e.Select c a b)
    select-operand c a b s t u c0 c1 c2 c3 c4 room x y z o = record {
      insns = x.insns ++ (y.insns ++ (z.insns ++ o.insns));
      emits = emits_then x.emits (emits_then y.emits (emits_then z.emits o.emits));
      short =
          let n = ap (λ (k : Size). k.words) (size_select c a b) in
          let last = short-then z.insns o.insns (size b) 4 (size b + 4) z.short o.short (omega arith) in
          let rest = short-then y.insns (z.insns ++ o.insns) (size a) (size b + 4) (size a + (size b + 4)) y.short last
          (omega arith) in
          short-then x.insns (y.insns ++ (z.insns ++ o.insns)) (size c) (size a + (size b + 4)) (size (e.Select c a b))
          x.short rest
          (omega (arith, n));
      source = (high, ((λ g. omega (arith, g, low)), (λ g. omega (arith, g, low))));
      which = inl refl;
      does = λ w m values reads f l holders knows may.
          let all = all_parts (Loads w places m reads) (loads reads values c) (loads reads values a ++ loads reads values b)
          (subst (May w m reads) (loads_select reads values c a b) may) in
          let arms = all_parts (Loads w places m reads) (loads reads values a) (loads reads values b) all.1 in
          let p = x.does w m values reads f l holders knows all.0 in
          let kp = known w.hart values f p.after r low holders p.keeps knows in
          let q = y.does w m values reads p.after l holders kp arms.0 in
          let kq = known w.hart values p.after q.after (r + 1) (omega (arith, low)) holders q.keeps kp in
          let g = z.does w m values reads q.after l holders kq arms.1 in
          let kg = known w.hart values q.after g.after (r + 2) (omega (arith, low)) holders g.keeps kq in
          let es = g.keeps s (first-stays r s (r + 2) low (omega arith) holders x.which) ∙ q.keeps s (first-stays r s (r + 1) low (omega arith)
          holders x.which) ∙ p.value in
          let et = g.keeps t (first-stays (r + 1) t (r + 2) (omega (arith, low)) (omega arith) holders y.which) ∙ q.value in
          let v = o.does w m g.after l (knows-zero w.hart scope values g.after kg) (subst (λ n. n < 2 ^ 32) (sym et) q.small) (subst (λ n. n < 2 ^
          32) (sym g.value) g.small) in
          let is = sym (value_select reads values c a b) in
          let vc = value reads values c in
          let va = value reads values a in
          let vb = value reads values b in
          record {
            after = v.after;
            line = line-then w x.insns (y.insns ++ (z.insns ++ o.insns)) f p.after v.after m m m p.line
                (line-then w y.insns (z.insns ++ o.insns) p.after q.after v.after m m m q.line (line-then w z.insns o.insns q.after g.after v.after m
                m m g.line v.line));
            value = v.value ∙ ap (λ n. if n == 0 then g.after u else g.after t) es ∙ ap (λ n. if vc == 0 then n else g.after t) g.value
                ∙ ap (λ n. if vc == 0 then vb else n) et ∙ is;
            small = subst (λ n. n < 2 ^ 32) is (chosen-below (vc == 0) vb va (2 ^ 32) g.small q.small);
            keeps = λ n k. let d = below-apart r r n (inr (refl, high)) k in
                v.others n d.0 d.1.0 d.1.1 ∙ g.keeps n (below-more r (r + 2) n (omega arith) k) ∙ q.keeps n (below-more r (r + 1) n (omega arith) k)
                ∙ p.keeps n k;
          };
    }

    -- ---- loads

    -- an index stays while another one is found above
    index-stays : (index : PointIndex) (values : Values) (f g : ℕ → ℕ) (v : ℕ) → ((s : ℕ) → index ≡ indexes.Register s → g s ≡ f s)
        → IsIndex values f index v → IsIndex values g index v
    index-stays (indexes.Sum new_expression) values f g v same is = is
    index-stays (indexes.Register s) values f g v same is = same s refl ∙ is

    pub load-operand : (source : Source) (layout : BufferLayout) (x y : Expr) (column row : PointIndex) (c0 c1 c2 c3 : List ℕ) → layout ≡ place_of places source
        → MakesIndex c0 c1 places scope r column x → MakesIndex c1 c2 places scope (r + 1) row y → MakesPixel c2 c3 scope layout column row r
        → Operand c0 c3 r r r (e.Load source x y)
    load-operand source layout x y column row c0 c1 c2 c3 ep a b z = record {
      insns = a.insns ++ (b.insns ++ z.insns);
      emits = emits_then a.emits (emits_then b.emits z.emits);
      short =
          let n = ap (λ (k : Size). k.words) (size_load source x y) in
          let la = a.short in
          let lb = b.short in
          let lz = z.short in
          let rest = short-then b.insns z.insns (length b.insns) (length z.insns) (length b.insns + length z.insns) (omega arith) (omega arith)
          (omega arith) in
          short-then a.insns (b.insns ++ z.insns) (length a.insns) (length b.insns + length z.insns) (size (e.Load source x y)) (omega arith) rest
          (omega (arith, n, la, lb, lz));
      source = (high, ((λ g. omega (arith, g, low)), (λ g. omega (arith, g, low))));
      which = inl refl;
      does = λ w m values reads f l holders knows may.
          let xv = value reads values x in
          let yv = value reads values y in
          let all = all_parts (Loads w places m reads) (loads reads values x ++ loads reads values y) (record { source = source; x = xv; y = yv } ∷ [])
          (subst (May w m reads) (loads_load reads values source x y) may) in
          let parts = all_parts (Loads w places m reads) (loads reads values x) (loads reads values y) all.0 in
          let can = subst (λ p. LoadsAt w p m xv yv (reads source xv yv)) (sym ep) all.1.0 in
          let p = a.does w m values reads f l holders knows parts.0 in
          let kp = known w.hart values f p.after r low holders p.keeps knows in
          let q = b.does w m values reads p.after l holders kp parts.1 in
          let kq = known w.hart values p.after q.after (r + 1) (omega (arith, low)) holders q.keeps kp in
          let ex = index-stays column values p.after q.after xv (λ s es. q.keeps s (first-stays r s (r + 1) low (omega arith) holders (stands-which
          column s es a))) p.value in
          let u = z.does w m values q.after xv yv (reads source xv yv) l holders kq ex q.value p.small q.small can in
          let is = sym (value_load reads values source x y) in
          record {
            after = u.after;
            line = line-then w a.insns (b.insns ++ z.insns) f p.after u.after m m m p.line (line-then w b.insns z.insns p.after q.after u.after m m m
                q.line u.line);
            value = u.value ∙ is;
            small = subst (λ n. n < 2 ^ 32) is u.small;
            keeps = λ n k. u.keeps n k ∙ q.keeps n (below-more r (r + 1) n (omega arith) k) ∙ p.keeps n k;
          };
    }
      where
        stands-which : (index : PointIndex) (s : ℕ) → index ≡ indexes.Register s → MakesIndex c0 c1 places scope r index x → IsOperand scope r r s
        stands-which index s es i = (subst (λ k. StandsIn scope r k) es i.stands).1.1

  -- ---- as the emitter calls them

  -- a value that is no leaf is in the stack's register
  operand-own : (new_expression : Expr) (r leaf : ℕ) (c0 c1 : List ℕ) → Operand c0 c1 r r r new_expression
      → Operand c0 c1 r leaf r new_expression
  operand-own new_expression r leaf c0 c1 x = record { insns = x.insns; emits = x.emits; short = x.short; source = x.source; which = inr (inl refl); does = x.does }

  module _ (r : ℕ) (low : 20 ≤ r) (new_expression : Expr) (leaf : ℕ) where
    abbrev Part : List ℕ → List ℕ → ℕ → ℕ → ℕ → Expr → Type 0
    Part c0 c1 q l s x = Operand c0 c1 q l s x

    pub binary-arm : (o : Operation) (a b x y : Expr) (s t : ℕ) (c0 c1 c2 c3 : List ℕ) → r < 32 → new_expression ≡ e.Binary o a b → x ≡ a → y ≡ b → Part c0 c1 r r s x
        → Part c1 c2 (r + 1) address_register t y → MakesOfTwo c2 c3 4 r s t (word.applied o) → Operand c0 c3 r leaf r new_expression
    binary-arm o a b x y s t c0 c1 c2 c3 high eo ex ey u v z =
        operand-as new_expression (e.Binary o a b) r leaf r c0 c3 eo (operand-own (e.Binary o a b) r leaf c0 c3
        (binary-operand r low high o a b s t c0 c1 c2 c3 (subst (Part c0 c1 r r s) ex u) (subst (Part c1 c2 (r + 1) address_register t) ey v) z))

    pub immediate-arm : (o : Operation) (a b x y : Expr) (s : ℕ) (i : Immediate) (c0 c1 c2 : List ℕ) → r < 32 → new_expression ≡ e.Binary o a b → x ≡ a → y ≡ b
        → Part c0 c1 r r s x
        → IsImmediate o y i → MakesOf c1 c2 3 r s (immediate_value i) → Operand c0 c2 r leaf r new_expression
    immediate-arm o a b x y s i c0 c1 c2 high eo ex ey u is z =
        let en : b ≡ e.Number is.number = sym ey ∙ is.is in
        operand-as new_expression (e.Binary o a (e.Number is.number)) r leaf r c0 c2 (eo ∙ ap (λ k. e.Binary o a k) en)
        (operand-own (e.Binary o a (e.Number is.number)) r leaf c0 c2
        (immediate-operand r low high o a is.number s i c0 c1 c2 is.small is.makes (subst (Part c0 c1 r r s) ex u) z))

    pub divide-arm : (a x : Expr) (c s : ℕ) (c0 c1 c2 : List ℕ) → r < 32 → new_expression ≡ e.Divide a c → x ≡ a → Part c0 c1 r r s x
        → MakesFrom c1 c2 6 scope r s (λ v. word.divide v c) → Operand c0 c2 r leaf r new_expression
    divide-arm a x c s c0 c1 c2 high eo ex u z =
        operand-as new_expression (e.Divide a c) r leaf r c0 c2 eo (operand-own (e.Divide a c) r leaf c0 c2
        (divide-operand r low high a c s c0 c1 c2 (subst (Part c0 c1 r r s) ex u) z))

    pub remainder-arm : (a x : Expr) (c s : ℕ) (c0 c1 c2 : List ℕ) → r < 32 → new_expression ≡ e.Remainder a c → x ≡ a → Part c0 c1 r r s x
        → MakesFrom c1 c2 8 scope r s (λ v. word.remainder v c) → Operand c0 c2 r leaf r new_expression
    remainder-arm a x c s c0 c1 c2 high eo ex u z =
        operand-as new_expression (e.Remainder a c) r leaf r c0 c2 eo (operand-own (e.Remainder a c) r leaf c0 c2
        (remainder-operand r low high a c s c0 c1 c2 (subst (Part c0 c1 r r s) ex u) z))

    pub select-arm : (c a b x y g : Expr) (s t u : ℕ) (c0 c1 c2 c3 c4 : List ℕ) → r + 2 < 32 → new_expression ≡ e.Select c a b → x ≡ c → y ≡ a → g ≡ b
        → Part c0 c1 r r s x
        → Part c1 c2 (r + 1) (r + 1) t y → Part c2 c3 (r + 2) (r + 2) u g → Selects c3 c4 r s t u → Operand c0 c4 r leaf r new_expression
    select-arm c a b x y g s t u c0 c1 c2 c3 c4 room eo ex ey eg p q k z =
        operand-as new_expression (e.Select c a b) r leaf r c0 c4 eo (operand-own (e.Select c a b) r leaf c0 c4
        (select-operand r low (omega (arith, room)) c a b s t u c0 c1 c2 c3 c4 room (subst (Part c0 c1 r r s) ex p) (subst (Part c1 c2 (r + 1) (r +
        1) t) ey q)
        (subst (Part c2 c3 (r + 2) (r + 2) u) eg k) z))

    pub load-arm : (source : Source) (layout : BufferLayout) (a b x y : Expr) (column row : PointIndex) (c0 c1 c2 c3 : List ℕ) → r < 32
        → new_expression ≡ e.Load source a b → x ≡ a → y ≡ b
        → layout ≡ place_of places source → MakesIndex c0 c1 places scope r column x → MakesIndex c1 c2 places scope (r + 1) row y
        → MakesPixel c2 c3 scope layout column row r → Operand c0 c3 r leaf r new_expression
    load-arm source layout a b x y column row c0 c1 c2 c3 high eo ex ey ep u v z =
        operand-as new_expression (e.Load source a b) r leaf r c0 c3 eo (operand-own (e.Load source a b) r leaf c0 c3
        (load-operand r low high source layout a b column row c0 c1 c2 c3 ep (subst (MakesIndex c0 c1 places scope r column) ex u)
        (subst (MakesIndex c1 c2 places scope (r + 1) row) ey v) z))

  -- ---- indexes

  pub index-sum : (new_expression : Expr) (sum : Linear) (r : ℕ) (c : List ℕ) → IsSum new_expression sum → MakesIndex c c places scope r (indexes.Sum sum) new_expression
  index-sum new_expression sum r c is = record {
    insns = [];
    emits = emits-none c;
    short = let k = is.short in omega (arith, k);
    stands = tt;
    held = is.held scope;
    does = λ w m values reads f l holders knows may. record {
      after = f;
      line = λ at s. stay w at f m;
      value = sym (is.value_is reads values);
      small = subst (λ n. n < 2 ^ 32) (sym (is.value_is reads values)) (linear-small values sum);
      keeps = λ q k. refl;
    };
  }

  pub index-register : (new_expression : Expr) (r s : ℕ) (c0 c1 : List ℕ) → IsStack r → Operand c0 c1 r r s new_expression → MakesIndex c0 c1 places scope r
      (indexes.Register s) new_expression
  index-register new_expression r s c0 c1 is x = record {
    insns = x.insns;
    emits = x.emits;
    short = let k = x.short in omega (arith, k);
    stands = (is, (x.source, x.which));
    held = λ have. tt;
    does = λ w m values reads f l holders knows may.
        let p = x.does w m values reads f l holders knows may in
        record { after = p.after; line = p.line; value = p.value; small = p.small; keeps = p.keeps };
  }

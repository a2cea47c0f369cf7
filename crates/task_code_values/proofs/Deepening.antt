-- The code of an expression leaves its value also where values wait in the hart's frame.
use Rattle.std.proofs.Common.{◌≡◌, ℕ, ◌+◌, ◌^◌, ◌<◌, ◌≤◌, List, [], ◌∷◌, ◌++◌, length, true, refl, ap, ◌∙◌, sym}
use Rattle.std.proofs.Common.{subst, arith, inl, inr}
use Rattle.std.specs.Prelude.{◌⊎◌}
use Rattle.std.specs.List.{AllByRecursion, list_all}
use Rattle.std.proofs.lemmas.Bool.{and_parts}
use Rattle.std.proofs.lemmas.List.Folds.{list_all-append}
use Rattle.halide_pipeline.specs.declared.expressions.Operation.{Operation}
use Rattle.halide_pipeline.specs.declared.expressions.Source.{Source}
use Rattle.halide_pipeline.specs.Words as word
use Rattle.halide_pipeline.specs.Pixel.{Planes, Reads, reads_of}
use Rattle.halide_pipeline.specs.Points.{Point}
use Rattle.loop_ir.specs.declared.expressions.Expr.{Expr}
use Rattle.loop_ir.specs.declared.expressions.Expr.TheVariants as e
use Rattle.loop_ir.specs.declared.expressions.Linear.{Linear}
use Rattle.loop_ir.specs.Counters.{Values}
use Rattle.loop_ir.specs.Expressions.{value, loads}
use Rattle.loop_ir.specs.Sizes.{Size, kept, size_of, size}
use Rattle.loop_ir.proofs.Sizes.{size_binary, size_divide, size_remainder, size_load}
use Rattle.multi_hart_laws.proofs.Paths.{line-then, stay}
use Rattle.task_code_scalar.specs.declared.layouts.BufferLayout.{BufferLayout}
use Rattle.task_code_scalar.specs.declared.layouts.Places.{Places}
use Rattle.task_code_scalar.specs.Code.{place_of}
use Rattle.task_code_scalar.specs.Doing.{Setting, IsSetting, HoldsFuncs}
use Rattle.task_code_scalar.specs.Evaluation.{Loads, LoadsAt}
use Rattle.task_code_scalar.proofs.Evaluation.{applied-below}
use Rattle.task_code_scalar.proofs.Spelling.{emits_then, emits-none}
use Rattle.task_code_scalar.proofs.Loading.{loads-may, all-loaded}
use Rattle.task_code_registers.specs.declared.scopes.Held.{Held}
use Rattle.task_code_registers.specs.Registers.{address_register, first_value, IsSource}
use Rattle.task_code_registers.specs.Scopes.{Knows, AreHolders, IsKept}
use Rattle.task_code_registers.proofs.Knowing.{knows-zero, knows-still, linear-small}
use Rattle.task_code_registers.proofs.Making.{short-then}
use Rattle.task_code_values.specs.declared.points.PointIndex.TheVariants as indexes
use Rattle.task_code_values.specs.declared.spilling.OperandRegisters.{OperandRegisters}
use Rattle.task_code_values.specs.declared.points.PointIndexes.{PointIndexes}
use Rattle.task_code_values.specs.Making.{IsBelow, MakesOfTwo, MakesFrom}
use Rattle.task_code_values.specs.Operands.{IsOperand, IsSum, IsIndex, MakesOperand, MakesPixel}
use Rattle.task_code_values.specs.Spilling.{second_value, Pairs, IsFirst, MakesBoth, MakesRow}
use Rattle.task_code_values.specs.Storing.{MakesValue}
use Rattle.task_code_values.proofs.Standing.{kept-below, below-apart, below-more}
use Rattle.task_code_values.proofs.Evaluating.{value_binary, value_divide, value_remainder, value_load, loads_binary, loads_divide}
use Rattle.task_code_values.proofs.Evaluating.{loads_remainder, loads_load}

low-20 : 20 ≤ first_value
low-20 = omega arith

pub source-20 : IsSource first_value
source-20 = (omega arith, ((λ g. omega (arith, g)), (λ g. omega (arith, g))))

pub high-20 : first_value < 32
high-20 = omega arith

module _ (places : Places) (scope : List Held) where
  pub known : (hart : ℕ) (values : Values) (f g : ℕ → ℕ) → AreHolders scope → ((q : ℕ) → IsBelow first_value q → g q ≡ f q) → Knows hart scope values f
      → Knows hart scope values g
  known hart values f g holders same knows = knows-still hart scope values f g (λ q h. same q (kept-below scope q first_value low-20 holders h)) knows

  abbrev pub Passes : Setting → List Point → Type 0
  Passes own points = list_all own.loaded points ≡ true

  pub passes-parts : (own : Setting) (xs ys : List Point) → Passes own (xs ++ ys) → Passes own xs × Passes own ys
  passes-parts own xs ys is = and_parts (list_all own.loaded xs) (list_all own.loaded ys) (sym (list_all-append own.loaded xs ys) ∙ is)

  -- ---- a value, and a second one beside it

  pub binary-deep : (o : Operation) (a b : Expr) (first s : ℕ) (both : OperandRegisters) (c0 c1 c2 c3 : List ℕ) → MakesValue c0 c1 places scope first s a
      → MakesBoth c1 c2 places scope first s both b → MakesOfTwo c2 c3 4 first_value both.first both.second (word.applied o)
      → MakesValue c0 c3 places scope first first_value (e.Binary o a b)
  binary-deep o a b first s both c0 c1 c2 c3 x y z = record {
    insns = x.insns ++ (y.insns ++ z.insns);
    emits = emits_then x.emits (emits_then y.emits z.emits);
    short =
        let n = ap (λ (k : Size). k.words) (size_binary o a b) in
        let rest = short-then y.insns z.insns (size b + kept (size_of b)) 4 (size b + kept (size_of b) + 4) y.short z.short (omega arith) in
        short-then x.insns (y.insns ++ z.insns) (size a) (size b + kept (size_of b) + 4) (size (e.Binary o a b)) x.short rest
        (omega (arith, n));
    source = source-20;
    which = inl refl;
    does = λ own good at values holders f memory funcs holds knows may.
        let w = own.world in
        let reads = reads_of own.inputs funcs in
        let parts = passes-parts own (loads reads values a) (loads reads values b) (subst (Passes own) (loads_binary reads values o a b) may) in
        let p = x.does own good at values holders f memory funcs holds knows parts.0 in
        let kp = known w.hart values f p.after holders p.keeps knows in
        let small-p : p.after s < 2 ^ 32 = subst (λ n. n < 2 ^ 32) (sym p.value) p.small in
        let q = y.does own good at values holders p.after p.left funcs p.holds kp parts.1 small-p in
        let kq = known w.hart values p.after q.after holders q.keeps kp in
        let es = q.first_is ∙ p.value in
        let u = z.does w q.left q.after q.holds.size (knows-zero w.hart scope values q.after kq) (subst (λ n. n < 2 ^ 32) (sym es) p.small)
        (subst (λ n. n < 2 ^ 32) (sym q.second_is) q.small) in
        let is = sym (value_binary reads values o a b) in
        record {
          after = u.after;
          left = q.left;
          line = line-then w x.insns (y.insns ++ z.insns) f p.after u.after memory p.left q.left p.line
              (line-then w y.insns z.insns p.after q.after u.after p.left q.left q.left q.line u.line);
          value = u.value ∙ ap (λ n. word.applied o n (q.after both.second)) es ∙ ap (word.applied o (value reads values a)) q.second_is ∙ is;
          small = subst (λ n. n < 2 ^ 32) is (applied-below o (value reads values a) (value reads values b) p.small q.small);
          keeps = λ n k. let d = below-apart first_value first_value n (inr (refl, high-20)) k in u.others n d.0 d.1.0 d.1.1 ∙ q.keeps n k ∙ p.keeps n k;
          holds = q.holds;
          before = λ byte out. q.before byte out ∙ p.before byte out;
          are_bytes = λ are. q.are_bytes (p.are_bytes are);
        };
  }

  from-deep : (own a : Expr) (first s most : ℕ) (says : ℕ → ℕ) (c0 c1 c2 : List ℕ) → size a + most ≤ size own
      → ((reads : Reads) (values : Values) → loads reads values own ≡ loads reads values a)
      → ((reads : Reads) (values : Values) → value reads values own ≡ says (value reads values a))
      → MakesValue c0 c1 places scope first s a → MakesFrom c1 c2 most scope first_value s says → MakesValue c0 c2 places scope first first_value own
  from-deep whole a first s most says c0 c1 c2 fits same is x z = record {
    insns = x.insns ++ z.insns;
    emits = emits_then x.emits z.emits;
    short = short-then x.insns z.insns (size a) most (size whole) x.short z.short fits;
    source = source-20;
    which = inl refl;
    does = λ own good at values holders f memory funcs holds knows may.
        let w = own.world in
        let reads = reads_of own.inputs funcs in
        let p = x.does own good at values holders f memory funcs holds knows (subst (Passes own) (same reads values) may) in
        let kp = known w.hart values f p.after holders p.keeps knows in
        let u = z.does w p.left w.hart values p.after p.holds.size holders kp (subst (λ n. n < 2 ^ 32) (sym p.value) p.small) in
        let v = ap says p.value ∙ sym (is reads values) in
        record {
          after = u.after;
          left = p.left;
          line = line-then w x.insns z.insns f p.after u.after memory p.left p.left p.line u.line;
          value = u.value ∙ v;
          small = subst (λ n. n < 2 ^ 32) v u.small;
          keeps = λ n k. u.keeps n k ∙ p.keeps n k;
          holds = p.holds;
          before = p.before;
          are_bytes = p.are_bytes;
        };
  }

  pub divide-deep : (a : Expr) (c first s : ℕ) (c0 c1 c2 : List ℕ) → MakesValue c0 c1 places scope first s a → MakesFrom c1 c2 6 scope first_value s
      (λ v. word.divide v c)
      → MakesValue c0 c2 places scope first first_value (e.Divide a c)
  divide-deep a c first s c0 c1 c2 x z =
      from-deep (e.Divide a c) a first s 6 (λ v. word.divide v c) c0 c1 c2 (let n = ap (λ (k : Size). k.words) (size_divide a c) in omega (arith, n))
      (λ reads values. loads_divide reads values a c) (λ reads values. value_divide reads values a c) x z

  pub remainder-deep : (a : Expr) (c first s : ℕ) (c0 c1 c2 : List ℕ) → MakesValue c0 c1 places scope first s a
      → MakesFrom c1 c2 8 scope first_value s (λ v. word.remainder v c) → MakesValue c0 c2 places scope first first_value (e.Remainder a c)
  remainder-deep a c first s c0 c1 c2 x z =
      from-deep (e.Remainder a c) a first s 8 (λ v. word.remainder v c) c0 c1 c2 (let n = ap (λ (k : Size). k.words) (size_remainder a c) in omega
      (arith, n))
      (λ reads values. loads_remainder reads values a c) (λ reads values. value_remainder reads values a c) x z

  -- ---- loads

  can-load : (own : Setting) → IsSetting own → own.places ≡ places → (values : Values) (funcs : Planes) (memory : List ℕ)
      → HoldsFuncs own memory funcs → (source : Source)
      (layout : BufferLayout) (x y : ℕ) → layout ≡ place_of places source → own.loaded (record { source = source; x = x; y = y }) ≡ true
      → LoadsAt own.world layout memory x y (reads_of own.inputs funcs source x y)
  can-load own good at values funcs memory holds source layout x y ep is =
      subst (λ p. LoadsAt own.world p memory x y (reads_of own.inputs funcs source x y)) (sym ep)
      (subst (λ ps. LoadsAt own.world (place_of ps source) memory x y (reads_of own.inputs funcs source x y)) at
      (loads-may own good funcs memory holds (record { source = source; x = x; y = y }) is))

  load-parts : (own : Setting) (reads : Reads) (values : Values) (source : Source) (x y : Expr) → Passes own (loads reads values (e.Load source x y))
      → (Passes own (loads reads values x) × Passes own (loads reads values y))
      × (own.loaded (record { source = source; x = value reads values x; y = value reads values y }) ≡ true)
  load-parts own reads values source x y may =
      let point : Point = record { source = source; x = value reads values x; y = value reads values y } in
      let all = passes-parts own (loads reads values x ++ loads reads values y) (point ∷ []) (subst (Passes own) (loads_load reads values source x y) may) in
      (passes-parts own (loads reads values x) (loads reads values y) all.0, (and_parts (own.loaded point) true all.1).0)

  pub load-deep : (source : Source) (layout : BufferLayout) (x y : Expr) (point : PointIndexes) (first s : ℕ) (c0 c1 c2 c3 : List ℕ) → layout ≡ place_of places source
      → MakesValue c0 c1 places scope first s x → MakesRow c1 c2 places scope first s point y → MakesPixel c2 c3 scope layout point.column point.row
      first_value
      → MakesValue c0 c3 places scope first first_value (e.Load source x y)
  load-deep source layout x y point first s c0 c1 c2 c3 ep p0 y0 z = record {
    insns = p0.insns ++ (y0.insns ++ z.insns);
    emits = emits_then p0.emits (emits_then y0.emits z.emits);
    short =
        let n = ap (λ (k : Size). k.words) (size_load source x y) in
        let ly = y0.short in
        let lz = z.short in
        let rest = short-then y0.insns z.insns (length y0.insns) (length z.insns) (length y0.insns + length z.insns) (omega arith) (omega arith)
        (omega arith) in
        short-then p0.insns (y0.insns ++ z.insns) (size x) (length y0.insns + length z.insns) (size (e.Load source x y)) p0.short rest
        (omega (arith, n, ly, lz));
    source = source-20;
    which = inl refl;
    does = λ own good at values holders f memory funcs holds knows may.
        let w = own.world in
        let reads = reads_of own.inputs funcs in
        let parts = load-parts own reads values source x y may in
        let p = p0.does own good at values holders f memory funcs holds knows parts.0.0 in
        let kp = known w.hart values f p.after holders p.keeps knows in
        let xv = value reads values x in
        let yv = value reads values y in
        let q = y0.does own good at values holders p.after p.left funcs p.holds kp parts.0.1 (subst (λ n. n < 2 ^ 32) (sym p.value) p.small) in
        let kq = known w.hart values p.after q.after holders q.keeps kp in
        let can = can-load own good at values funcs q.left q.holds source layout xv yv ep parts.1 in
        let ex = subst (λ n. IsIndex values q.after point.column n) p.value q.column_is in
        let u = z.does w q.left values q.after xv yv (reads source xv yv) q.holds.size holders kq ex q.row_is p.small q.small can in
        let is = sym (value_load reads values source x y) in
        record {
          after = u.after;
          left = q.left;
          line = line-then w p0.insns (y0.insns ++ z.insns) f p.after u.after memory p.left q.left p.line
              (line-then w y0.insns z.insns p.after q.after u.after p.left q.left q.left q.line u.line);
          value = u.value ∙ is;
          small = subst (λ n. n < 2 ^ 32) is u.small;
          keeps = λ n k. u.keeps n k ∙ q.keeps n k ∙ p.keeps n k;
          holds = q.holds;
          before = λ byte out. q.before byte out ∙ p.before byte out;
          are_bytes = λ are. q.are_bytes (p.are_bytes are);
        };
  }

  -- a row that is a sum
  pub row-sum : (own-row : Expr) (sum : Linear) (word s : ℕ) (c : List ℕ) → IsFirst scope s → IsSum own-row sum
      → MakesRow c c places scope word s (record { column = indexes.Register s; row = indexes.Sum sum }) own-row
  row-sum own-row sum word s c is row = record {
    insns = [];
    emits = emits-none c;
    short = let k = row.short in omega (arith, k);
    column_stands = ((low-20, high-20), (is.0, first-operand is.1));
    row_stands = tt;
    column_held = tt;
    row_held = row.held scope;
    does = λ own good at values holders f memory funcs holds knows may small. record {
      after = f;
      left = memory;
      line = λ i st. stay own.world i f memory;
      column_is = refl;
      row_is = sym (row.value_is (reads_of own.inputs funcs) values);
      small = subst (λ n. n < 2 ^ 32) (sym (row.value_is (reads_of own.inputs funcs) values)) (linear-small values sum);
      keeps = λ q k. refl;
      holds = holds;
      before = λ byte out. refl;
      are_bytes = λ are. are;
    };
  }
    where
      first-operand : (s ≡ first_value) ⊎ IsKept scope s → IsOperand scope first_value first_value s
      first-operand (inl e) = inl e
      first-operand (inr h) = inr (inr h)

  -- and another one
  pub row-paired : (own-row : Expr) (word s : ℕ) (c0 c1 : List ℕ) → kept (size_of own-row) ≡ 15 → Pairs c0 c1 places scope word s own-row
      → MakesRow c0 c1 places scope word s (record { column = indexes.Register first_value; row = indexes.Register second_value }) own-row
  row-paired own-row word s c0 c1 waits x = record {
    insns = x.insns;
    emits = x.emits;
    short = let k = x.short in omega (arith, k, waits);
    column_stands = ((low-20, high-20), (source-20, inl refl));
    row_stands = ((omega arith, omega arith), ((omega arith, ((λ g. omega (arith, g)), (λ g. omega (arith, g)))), inl refl));
    column_held = tt;
    row_held = λ have. tt;
    does = λ own good at values holders f memory funcs holds knows may small.
        let a = x.does own good at values holders f memory funcs holds knows may small in
        record {
          after = a.after;
          left = a.left;
          line = a.line;
          column_is = a.first_is;
          row_is = a.second_is;
          small = a.small;
          keeps = a.keeps;
          holds = a.holds;
          before = a.before;
          are_bytes = a.are_bytes;
        };
  }

  -- ---- a second operand

  pub both-leaf : (own-second : Expr) (word s t : ℕ) (c0 c1 : List ℕ) → IsFirst scope s → MakesOperand c0 c1 places scope second_value
      address_register t own-second
      → MakesBoth c0 c1 places scope word s (record { first = s; second = t }) own-second
  both-leaf own-second word s t c0 c1 is x = record {
    insns = x.insns;
    emits = x.emits;
    short = let k = x.short in omega (arith, k);
    first_source = is.0;
    second_source = x.source;
    does = λ own good at values holders f memory funcs holds knows may small.
        let w = own.world in
        let reads = reads_of own.inputs funcs in
        let can = subst (λ ps. AllByRecursion (Loads w ps memory reads) (loads reads values own-second)) at
        (all-loaded own good funcs memory holds (loads reads values own-second) may) in
        let a = x.does w memory values reads f holds.size holders knows can in
        record {
          after = a.after;
          left = memory;
          line = a.line;
          first_is = a.keeps s (first-below is.1 holders);
          second_is = a.value;
          small = a.small;
          keeps = λ q k. a.keeps q (below-more first_value second_value q (omega arith) k);
          holds = holds;
          before = λ byte out. refl;
          are_bytes = λ are. are;
        };
  }
    where
      first-below : (s ≡ first_value) ⊎ IsKept scope s → AreHolders scope → IsBelow second_value s
      first-below (inl g) holders = (inr (omega (arith, g)), inl (omega (arith, g)))
      first-below (inr h) holders = kept-below scope s second_value (omega arith) holders h

  pub both-paired : (own-second : Expr) (word s : ℕ) (c0 c1 : List ℕ) → kept (size_of own-second) ≡ 15 → Pairs c0 c1 places scope word s own-second
      → MakesBoth c0 c1 places scope word s (record { first = first_value; second = second_value }) own-second
  both-paired own-second word s c0 c1 waits x = record {
    insns = x.insns;
    emits = x.emits;
    short = let k = x.short in omega (arith, k, waits);
    first_source = source-20;
    second_source = (omega arith, ((λ g. omega (arith, g)), (λ g. omega (arith, g))));
    does = x.does;
  }

  -- ---- as the emitters call them

  pub value-as : (own x : Expr) (first s : ℕ) (c0 c1 : List ℕ) → own ≡ x → MakesValue c0 c1 places scope first s x → MakesValue c0 c1 places scope first s own
  value-as own x first s c0 c1 eo z = subst (MakesValue c0 c1 places scope first s) (sym eo) z

  pub binary-deep-arm : (own : Expr) (o : Operation) (a b x y : Expr) (first s : ℕ) (both : OperandRegisters) (c0 c1 c2 c3 : List ℕ) → own ≡ e.Binary o a b
      → x ≡ a → y ≡ b
      → MakesValue c0 c1 places scope first s x → MakesBoth c1 c2 places scope first s both y → MakesOfTwo c2 c3 4 first_value both.first both.second
      (word.applied o)
      → MakesValue c0 c3 places scope first first_value own
  binary-deep-arm own o a b x y first s both c0 c1 c2 c3 eo ex ey u v z =
      value-as own (e.Binary o a b) first first_value c0 c3 eo
      (binary-deep o a b first s both c0 c1 c2 c3 (subst (MakesValue c0 c1 places scope first s) ex u) (subst (MakesBoth c1 c2 places scope first s
      both) ey v) z)

  pub divide-deep-arm : (own a x : Expr) (c first s : ℕ) (c0 c1 c2 : List ℕ) → own ≡ e.Divide a c → x ≡ a → MakesValue c0 c1 places scope first s x
      → MakesFrom c1 c2 6 scope first_value s (λ v. word.divide v c) → MakesValue c0 c2 places scope first first_value own
  divide-deep-arm own a x c first s c0 c1 c2 eo ex u z =
      value-as own (e.Divide a c) first first_value c0 c2 eo (divide-deep a c first s c0 c1 c2 (subst (MakesValue c0 c1 places scope first s) ex u) z)

  pub remainder-deep-arm : (own a x : Expr) (c first s : ℕ) (c0 c1 c2 : List ℕ) → own ≡ e.Remainder a c → x ≡ a → MakesValue c0 c1 places scope first s x
      → MakesFrom c1 c2 8 scope first_value s (λ v. word.remainder v c) → MakesValue c0 c2 places scope first first_value own
  remainder-deep-arm own a x c first s c0 c1 c2 eo ex u z =
      value-as own (e.Remainder a c) first first_value c0 c2 eo (remainder-deep a c first s c0 c1 c2 (subst (MakesValue c0 c1 places scope first s) ex u) z)

  pub load-deep-arm : (own : Expr) (source : Source) (layout : BufferLayout) (a b x y : Expr) (point : PointIndexes) (first s : ℕ) (c0 c1 c2 c3 : List ℕ)
      → own ≡ e.Load source a b
      → x ≡ a → y ≡ b → layout ≡ place_of places source → MakesValue c0 c1 places scope first s x → MakesRow c1 c2 places scope first s point y
      → MakesPixel c2 c3 scope layout point.column point.row first_value → MakesValue c0 c3 places scope first first_value own
  load-deep-arm own source layout a b x y point first s c0 c1 c2 c3 eo ex ey ep u v z =
      value-as own (e.Load source a b) first first_value c0 c3 eo
      (load-deep source layout a b point first s c0 c1 c2 c3 ep (subst (MakesValue c0 c1 places scope first s) ex u) (subst (MakesRow c1 c2 places
      scope first s point) ey v) z)

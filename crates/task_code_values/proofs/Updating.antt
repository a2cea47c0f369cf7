-- The code of a store of what is made of the pixel that it overwrites.
use Rattle.std.proofs.Common.{◌≡◌, ℕ, ◌+◌, ◌%◌, ◌^◌, ◌<◌, List, [], ◌∷◌, ◌++◌, length, true, refl, ap, ◌∙◌, sym, subst, arith}
use Rattle.std.proofs.Common.{inl, inr, length-append}
use Rattle.std.specs.List.{AllByRecursion, list_all}
use Rattle.std.proofs.lemmas.Bool.{and_parts}
use Rattle.std.proofs.lemmas.List.Folds.{list_all-append}
use Rattle.rv_insn.specs.declared.instructions.Insn.{Insn}
use Rattle.rv_insn.specs.declared.instructions.Insn.TheVariants.{Load as Fetch, Store as Save}
use Rattle.rv_insn.specs.declared.operations.StoreOp.TheVariants as save_ops
use Rattle.hart_core.specs.Scalar.{plus}
use Rattle.halide_pipeline.specs.declared.expressions.Operation.{Operation}
use Rattle.halide_pipeline.specs.declared.expressions.Source.TheVariants as sources
use Rattle.halide_pipeline.specs.Pixel.{reads_of}
use Rattle.halide_pipeline.specs.Points.{Point}
use Rattle.halide_pipeline.specs.Words as word
use Rattle.halide_pipeline.proofs.Seeing.{all_parts}
use Rattle.loop_ir.specs.declared.expressions.Expr.{Expr}
use Rattle.loop_ir.specs.declared.expressions.Expr.TheVariants as e
use Rattle.loop_ir.specs.declared.statements.Store.{Store}
use Rattle.loop_ir.specs.Counters.{Values}
use Rattle.loop_ir.specs.Expressions.{value, loads}
use Rattle.loop_ir.specs.Sizes.{Size, size}
use Rattle.loop_ir.proofs.Sizes.{size_binary, size_load}
use Rattle.loop_ir.specs.Soundness.{store_loads}
use Rattle.loop_ir.proofs.Sound.{sound_store}
use Rattle.loop_ir.proofs.Trees.{run_store}
use Rattle.multi_hart_laws.specs.Paths.{end}
use Rattle.multi_hart_laws.proofs.Paths.{line-then}
use Rattle.task_code_scalar.specs.declared.layouts.BufferLayout.{BufferLayout}
use Rattle.task_code_scalar.specs.declared.layouts.Places.{Places}
use Rattle.task_code_scalar.specs.Code.{place_of, address, lower}
use Rattle.task_code_scalar.specs.Evaluation.{Loads, LoadsAt, load_op}
use Rattle.task_code_scalar.specs.Layout.{func_point, address_of}
use Rattle.task_code_scalar.specs.Words.{Emits}
use Rattle.task_code_scalar.proofs.Evaluation.{applied-below}
use Rattle.task_code_scalar.proofs.Spelling.{emits_then}
use Rattle.task_code_scalar.proofs.Loading.{all-loaded}
use Rattle.task_code_scalar.proofs.Tracing.{hit-store}
use Rattle.task_code_registers.specs.declared.scopes.Held.{Held}
use Rattle.task_code_registers.specs.Emitting.{MakesOf}
use Rattle.task_code_registers.specs.Registers.{address_register, first_value}
use Rattle.task_code_registers.specs.Scopes.{AreHolders, IsKept}
use Rattle.task_code_registers.proofs.Going.{no_hits, Does, went-hits, went-is, still}
use Rattle.task_code_registers.proofs.Looping.{did-went}
use Rattle.task_code_registers.proofs.Knowing.{knows-still, knows-zero}
use Rattle.task_code_registers.proofs.Making.{short-then}
use Rattle.task_code_values.specs.declared.immediates.Immediate.{Immediate}
use Rattle.task_code_values.specs.declared.points.PointIndex.{PointIndex}
use Rattle.task_code_values.specs.declared.points.PointIndex.TheVariants as indexes
use Rattle.task_code_values.specs.Immediates.{immediate_value, IsImmediate}
use Rattle.task_code_values.specs.Making.{IsBelow, MakesOfTwo}
use Rattle.task_code_values.specs.Operands.{IsIndex, IsOperand, MakesIndex, MakesOperand, StandsIn}
use Rattle.task_code_values.specs.Scattering.{ReachesPoint}
use Rattle.task_code_values.specs.Variables.{are_held}
use Rattle.task_code_values.specs.Spilling.{second_value, third_value}
use Rattle.task_code_values.specs.Storing.{MakesStore}
use Rattle.task_code_values.specs.Updating.{Changes}
use Rattle.task_code_values.proofs.Evaluating.{value_number, value_binary, value_load, loads_binary, loads_load}
use Rattle.task_code_values.proofs.Parts.{held-binary}
use Rattle.task_code_values.proofs.Pointing.{at-offset, can-pixel, fetched}
use Rattle.task_code_values.proofs.Saving.{does-then, equal-parts, is-single, saved}
use Rattle.task_code_values.proofs.Standing.{below-apart, below-more, kept-below}

-- ---- what is made of the second value

module _ (places : Places) (scope : List Held) (o : Operation) (other : Expr) where
  pub changed-by : (t : ℕ) (c0 c1 c2 : List ℕ) → MakesOperand c0 c1 places scope third_value address_register t other
      → MakesOfTwo c1 c2 4 second_value second_value t (word.applied o) → Changes c0 c2 places scope o other
  changed-by t c0 c1 c2 y z = record {
    insns = y.insns ++ z.insns;
    emits = emits_then y.emits z.emits;
    short = short-then y.insns z.insns (size other) 4 (size other + 4) y.short z.short (omega arith);
    does = λ w m values reads f l holders knows may small.
        let p = y.does w m values reads f l holders knows may in
        let kp = knows-still w.hart scope values f p.after (λ n h. p.keeps n (kept-below scope n third_value (omega arith) holders h)) knows in
        let es = p.keeps second_value (inr (omega arith), inl (omega arith)) in
        let u = z.does w m p.after l (knows-zero w.hart scope values p.after kp) (subst (λ n. n < 2 ^ 32) (sym es) small)
        (subst (λ n. n < 2 ^ 32) (sym p.value) p.small) in
        record {
          after = u.after;
          line = line-then w y.insns z.insns f p.after u.after m m m p.line u.line;
          value = u.value ∙ ap (λ n. word.applied o n (p.after t)) es ∙ ap (word.applied o (f second_value)) p.value;
          small = applied-below o (f second_value) (value reads values other) small p.small;
          keeps = λ n k. let d = below-apart second_value second_value n (inr (refl, omega arith)) k in
              u.others n d.0 d.1.0 d.1.1 ∙ p.keeps n (below-more second_value third_value n (omega arith) k);
        };
  }

  pub changed-at-once : (i : Immediate) (c0 c1 : List ℕ) → IsImmediate o other i → MakesOf c0 c1 3 second_value second_value (immediate_value i)
      → Changes c0 c1 places scope o other
  changed-at-once i c0 c1 is x = record {
    insns = x.insns;
    emits = x.emits;
    short = let k = x.short in omega (arith, k);
    does = λ w m values reads f l holders knows may small.
        let u = x.does w m f l (knows-zero w.hart scope values f knows) small in
        let ev : value reads values other ≡ is.number = ap (value reads values) is.is ∙ value_number reads values is.number in
        let v : word.applied o (f second_value) (value reads values other) ≡ immediate_value i (f second_value) =
        ap (word.applied o (f second_value)) ev ∙ is.makes (f second_value) small in
        record {
          after = u.after;
          line = u.line;
          value = u.value ∙ sym v;
          small = subst (λ n. word.applied o (f second_value) n < 2 ^ 32) (sym ev) (applied-below o (f second_value) is.number small is.small);
          keeps = λ n k. let d = below-apart second_value second_value n (inr (refl, omega arith)) k in u.others n d.0 d.1.0 d.1.1;
        };
  }

-- ---- the store

module _ (places : Places) (scope : List Held) (store : Store) (o : Operation) (other : Expr) (layout : BufferLayout) (column row : PointIndex) (offset : ℕ)
    (c0 c1 c2 c3 c4 c5 c6 : List ℕ) where
  abbrev pixel : Expr
  pixel = e.Load (sources.Func store.func) store.x store.y

  pub update-made : store.value ≡ e.Binary o pixel other → layout ≡ place_of places (sources.Func store.func)
      → MakesIndex c0 c1 places scope first_value column store.x → MakesIndex c1 c2 places scope second_value row store.y
      → ReachesPoint c2 c3 scope layout column row first_value offset
      → Emits c3 c4 (Fetch (load_op layout.pixels) second_value first_value (lower offset) ∷ []) → Changes c4 c5 places scope o other
      → Emits c5 c6 (Save save_ops.Sw first_value second_value (lower offset) ∷ []) → MakesStore c0 c6 places scope store
  update-made ev ep x y z last-load change last = record {
    insns = x.insns ++ (y.insns ++ (z.insns ++ (fetching ++ (change.insns ++ saving))));
    emits = emits_then x.emits (emits_then y.emits (emits_then z.emits (emits_then last-load (emits_then change.emits last))));
    short =
        let n = all-lengths x.insns y.insns z.insns change.insns in
        let nx = x.short in
        let ny = y.short in
        let nz = z.short in
        let nc = change.short in
        let w1 = ap (λ (k : Expr). size k) ev in
        let w2 = ap (λ (k : Size). k.words) (size_binary o pixel other) in
        let w3 = ap (λ (k : Size). k.words) (size_load (sources.Func store.func) store.x store.y) in
        omega (arith, n, nx, ny, nz, nc, w1, w2, w3);
    does = λ own good at-places values sound sure holders f memory funcs holds knows.
        let w = own.world in
        let reads = reads_of own.inputs funcs in
        let xv = value reads values store.x in
        let yv = value reads values store.y in
        let k = and_parts (own.written store.func xv yv) (list_all own.loaded (store_loads reads values store))
        (sym (sound_store reads own.written own.loaded store values) ∙ sound funcs holds.are_words) in
        let p = and_parts (list_all own.loaded (loads reads values store.x)) _
        (sym (list_all-append own.loaded (loads reads values store.x) (loads reads values store.y ++ loads reads values store.value)) ∙ k.1) in
        let q = and_parts (list_all own.loaded (loads reads values store.y)) (list_all own.loaded (loads reads values store.value))
        (sym (list_all-append own.loaded (loads reads values store.y) (loads reads values store.value)) ∙ p.1) in
        let size = holds.size in
        let can = λ (points : List Point) (is : list_all own.loaded points ≡ true).
        subst (λ ps. AllByRecursion (Loads w ps memory reads) points) at-places (all-loaded own good funcs memory holds points is) in
        let may = Loads w places memory reads in
        let of-value = subst (λ l. AllByRecursion may l) (loads_binary reads values o pixel other)
        (subst (λ v. AllByRecursion may (loads reads values v)) ev (can (loads reads values store.value) q.1)) in
        let both = all_parts may (loads reads values pixel) (loads reads values other) of-value in
        let here-point : List Point = record { source = sources.Func store.func; x = xv; y = yv } ∷ [] in
        let of-pixel = all_parts may (loads reads values store.x ++ loads reads values store.y) here-point
        (subst (λ l. AllByRecursion may l) (loads_load reads values (sources.Func store.func) store.x store.y) both.0) in
        let can-pixel-here = subst (λ pl. LoadsAt w pl memory xv yv (reads (sources.Func store.func) xv yv)) (sym ep) of-pixel.1.0 in
        let a = x.does w memory values reads f size holders knows (can (loads reads values store.x) p.0) in
        let sa = λ (n : ℕ) (h : IsKept scope n). a.keeps n (kept-below scope n first_value (omega arith) holders h) in
        let ka = knows-still w.hart scope values f a.after sa knows in
        let b = y.does w memory values reads a.after size holders ka (can (loads reads values store.y) q.0) in
        let sb = λ (n : ℕ) (h : IsKept scope n). b.keeps n (kept-below scope n second_value (omega arith) holders h) in
        let kb = knows-still w.hart scope values a.after b.after sb ka in
        let ex = index-stays column values a.after b.after xv
        (λ r er. b.keeps r (column-below holders r (subst (λ i. StandsIn scope first_value i) er x.stands).1.1)) a.value in
        let may-store = good.laid.stores store.func xv yv k.0 in
        let here : address_of w own.places (func_point store.func xv yv) ≡ address layout w.hart xv yv =
        ap (λ ps. address (place_of ps (sources.Func store.func)) w.hart xv yv) at-places ∙ ap (λ pl. address pl w.hart xv yv) (sym ep) in
        let low : address layout w.hart xv yv < 2 ^ 32 = subst (λ n. n < 2 ^ 32) here may-store.low in
        let g = z.does w memory values b.after xv yv size holders kb ex b.value low in
        let sg = λ (n : ℕ) (h : IsKept scope n). g.keeps n (kept-below scope n first_value (omega arith) holders h) in
        let kg = knows-still w.hart scope values b.after g.after sg kb in
        let d = fetched w memory size layout g.after second_value first_value offset (address layout w.hart xv yv) (reads (sources.Func store.func) xv yv)
        (omega arith, omega arith) (omega arith) z.fits z.small g.value (can-pixel w layout memory xv yv (reads (sources.Func store.func) xv yv) can-pixel-here)
        in
        let sd = λ (n : ℕ) (h : IsKept scope n). d.keeps n (kept-below scope n second_value (omega arith) holders h) in
        let kd = knows-still w.hart scope values g.after d.after sd kg in
        let t = change.does w memory values reads d.after size holders kd both.1 (subst (λ n. n < 2 ^ 32) (sym d.value) d.small) in
        let st = λ (n : ℕ) (h : IsKept scope n). t.keeps n (kept-below scope n second_value (omega arith) holders h) in
        let is-value : word.applied o (d.after second_value) (value reads values other) ≡ value reads values store.value =
        ap (λ n. word.applied o n (value reads values other)) (d.value ∙ sym (value_load reads values (sources.Func store.func) store.x store.y))
        ∙ sym (value_binary reads values o pixel other) ∙ ap (value reads values) (sym ev) in
        let first-stays : t.after first_value ≡ g.after first_value =
        t.keeps first_value (inr (omega arith), inl (omega arith)) ∙ d.keeps first_value (inr (omega arith), inl (omega arith)) in
        let at-a : plus (t.after first_value) (lower offset) ≡ address_of w own.places (func_point store.func xv yv) =
        at-offset (t.after first_value) offset _ z.fits z.small (ap (λ n. (n + offset) % 2 ^ 32) first-stays ∙ g.value ∙ sym here) in
        let one : Does own x.insns (length x.insns) f memory (IsKept scope) funcs no_hits =
        still own (λ i. i) (λ i. end i x.insns) (length x.insns) a.after holds sa (λ i s. a.line i s) in
        let two : Does own y.insns (length y.insns) a.after memory (IsKept scope) funcs no_hits =
        still own (λ i. i) (λ i. end i y.insns) (length y.insns) b.after holds sb (λ i s. b.line i s) in
        let three : Does own z.insns (length z.insns) b.after memory (IsKept scope) funcs no_hits =
        still own (λ i. i) (λ i. end i z.insns) (length z.insns) g.after holds sg (λ i s. g.line i s) in
        let four : Does own fetching 1 g.after memory (IsKept scope) funcs no_hits =
        still own (λ i. i) (λ i. end i fetching) 1 d.after holds sd (λ i s. d.line i s) in
        let five : Does own change.insns (length change.insns) d.after memory (IsKept scope) funcs no_hits =
        still own (λ i. i) (λ i. end i change.insns) (length change.insns) t.after holds st (λ i s. t.line i s) in
        let six = saved own good values (IsKept scope) store first_value second_value (lower offset) t.after memory funcs (omega arith) (omega arith) holds k.0
        (is-single own good values store sure funcs holds.are_words) (subst (λ n. n < 2 ^ 32) is-value t.small) at-a (t.value ∙ is-value) in
        did-went (went-hits own
        (λ func i j h. equal-parts store.func func xv i yv j (sym (hit-store own.points own.inputs func i j store values funcs) ∙ h))
        (went-is own (sym (all-lengths x.insns y.insns z.insns change.insns)) (sym (run_store own.points own.inputs store values funcs))
        (does-then own good values one (does-then own good values two (does-then own good values three (does-then own good values four
        (does-then own good values five six)))))));
  }
    where
      fetching : List Insn
      fetching = Fetch (load_op layout.pixels) second_value first_value (lower offset) ∷ []

      saving : List Insn
      saving = Save save_ops.Sw first_value second_value (lower offset) ∷ []

      all-lengths : (is js ks ls : List Insn) → length (is ++ (js ++ (ks ++ ((Fetch (load_op layout.pixels) second_value first_value (lower offset) ∷ [])
          ++ (ls ++ (Save save_ops.Sw first_value second_value (lower offset) ∷ []))))))
          ≡ length is + (length js + (length ks + (1 + (length ls + 1))))
      all-lengths is js ks ls =
          let s = Save save_ops.Sw first_value second_value (lower offset) ∷ [] in
          let rest = (Fetch (load_op layout.pixels) second_value first_value (lower offset) ∷ []) ++ (ls ++ s) in
          let a = length-append is (js ++ (ks ++ rest)) in
          let b = length-append js (ks ++ rest) in
          let c = length-append ks rest in
          let d = length-append ls s in
          omega (arith, a, b, c, d)

      column-below : AreHolders scope → (r : ℕ) → IsOperand scope first_value first_value r → IsBelow second_value r
      column-below holders r (inl g) = (inr (omega (arith, g)), inl (omega (arith, g)))
      column-below holders r (inr (inl g)) = (inr (omega (arith, g)), inl (omega (arith, g)))
      column-below holders r (inr (inr h)) = kept-below scope r second_value (omega arith) holders h

      index-stays : (index : PointIndex) (values : Values) (f g : ℕ → ℕ) (n : ℕ) → ((r : ℕ) → index ≡ indexes.Register r → g r ≡ f r)
          → IsIndex values f index n → IsIndex values g index n
      index-stays (indexes.Sum own) values f g n same is = is
      index-stays (indexes.Register r) values f g n same is = same r refl ∙ is

-- the other expression's loop variables have registers
pub other-held : (scope : List Held) (store : Store) (o : Operation) (other : Expr)
    → store.value ≡ e.Binary o (e.Load (sources.Func store.func) store.x store.y) other → are_held scope store.value ≡ true → are_held scope other ≡ true
other-held scope store o other ev held = (held-binary scope store.value o (e.Load (sources.Func store.func) store.x store.y) other ev held).1

-- The code of a store does the store.
use Rattle.std.proofs.Common.{◌≡◌, ℕ, ◌+◌, ◌*◌, ◌^◌, ◌<◌, List, [], ◌∷◌, ◌++◌, length, Bool, true, false, refl, ap, ◌∙◌, sym, subst, arith}
use Rattle.std.proofs.Common.{inl, inr, length-append}
use Rattle.std.specs.Prelude.{◌≢◌, ◌⊎◌, ◌==◌, ◌&&◌, ℤ}
use Rattle.std.specs.List.{AllByRecursion, list_all}
use Rattle.std.proofs.lemmas.Bool.{and_parts, true≢false, not-true, eq-eqb}
use Rattle.std.proofs.lemmas.Bool.Decides.{nat_tests}
use Rattle.std.proofs.lemmas.List.Folds.{list_all-append}
use Rattle.rv_insn.specs.declared.instructions.Insn.{Insn}
use Rattle.rv_insn.specs.declared.instructions.Insn.TheVariants.{Store as Save}
use Rattle.rv_insn.specs.declared.operations.StoreOp.TheVariants as save_ops
use Rattle.memory.specs.Access.{Word, put_number}
use Rattle.hart_core.specs.Scalar.{plus}
use Rattle.halide_pipeline.specs.declared.expressions.Source.TheVariants as sources
use Rattle.halide_pipeline.specs.Pixel.{Planes, reads_of}
use Rattle.loop_ir.specs.declared.expressions.Expr.{Expr}
use Rattle.loop_ir.specs.declared.expressions.Linear.{Linear}
use Rattle.loop_ir.specs.declared.statements.Store.{Store}
use Rattle.loop_ir.specs.declared.statements.Stmt.TheVariants as s
use Rattle.loop_ir.specs.Counters.{Values}
use Rattle.loop_ir.specs.Expressions.{value, loads, linear_value}
use Rattle.loop_ir.specs.Running.{stored}
use Rattle.loop_ir.specs.Runs.{Runs}
use Rattle.loop_ir.specs.Soundness.{store_loads}
use Rattle.loop_ir.specs.Sizes.{size}
use Rattle.loop_ir.proofs.Runs.{runs_store}
use Rattle.loop_ir.proofs.Sound.{sound_store}
use Rattle.loop_ir.proofs.Trees.{run_store}
use Rattle.multi_hart_laws.specs.Alone.{World}
use Rattle.multi_hart_laws.specs.Paths.{Path, Writable, end}
use Rattle.multi_hart_laws.proofs.Jumps as rules
use Rattle.multi_hart_laws.proofs.Paths.{stand-front, stand-back, end-append}
use Rattle.task_code_scalar.specs.declared.layouts.BufferLayout.{BufferLayout}
use Rattle.task_code_scalar.specs.declared.layouts.Places.{Places}
use Rattle.task_code_scalar.specs.Code.{place_of, address, lower}
use Rattle.task_code_scalar.specs.Evaluation.{Loads}
use Rattle.task_code_scalar.specs.Layout.{func_point, address_of, AreWords}
use Rattle.task_code_scalar.specs.Doing.{Setting, IsSetting, RunsIn, HoldsFuncs}
use Rattle.task_code_scalar.specs.Words.{Emits}
use Rattle.task_code_scalar.proofs.Spelling.{emits_then}
use Rattle.task_code_scalar.proofs.Loading.{all-loaded}
use Rattle.task_code_scalar.proofs.Storing.{stored-is, size-stays, bytes-stay, is-touched, words-put, stored-holds, others-stay}
use Rattle.task_code_scalar.proofs.Tracing.{hit-store}
use Rattle.task_code_registers.specs.declared.scopes.AffineForm.{AffineForm}
use Rattle.task_code_registers.specs.declared.scopes.Held.{Held}
use Rattle.task_code_registers.specs.declared.sums.At.{At}
use Rattle.task_code_registers.specs.Doing.{Did}
use Rattle.task_code_registers.specs.Emitting.{MakesFormAddress, sum_words}
use Rattle.task_code_registers.specs.Points.{IsPoint}
use Rattle.task_code_registers.specs.Registers.{address_register, first_value}
use Rattle.task_code_registers.specs.Scopes.{AreHolders, IsKept, have_registers}
use Rattle.task_code_registers.proofs.Going.{Hits, no_hits, Went, Does, went-then, went-hits, went-is, within, still}
use Rattle.task_code_registers.proofs.Knowing.{knows-still, kept-apart, working-free}
use Rattle.task_code_registers.proofs.Making.{short-then, base-most}
use Rattle.task_code_values.specs.declared.points.PointIndex.{PointIndex}
use Rattle.task_code_values.specs.declared.points.PointIndex.TheVariants as indexes
use Rattle.task_code_values.specs.Making.{IsBelow}
use Rattle.task_code_values.specs.Operands.{IsSum, IsIndex, IsOperand, StandsIn, MakesIndex, MakesOperand}
use Rattle.task_code_values.specs.Scattering.{ReachesPoint}
use Rattle.task_code_values.specs.Spilling.{second_value, third_value}
use Rattle.task_code_values.specs.Storing.{LeavesDeep, MakesValue, FitsDirect, MakesStore, store_words}
use Rattle.task_code_values.proofs.Standing.{kept-below, below-more}
use Rattle.task_code_values.proofs.Pointing.{at-offset, own-word}

-- ---- values on the stack alone

pub value-stacked : (places : Places) (scope : List Held) (first r : ℕ) (expression : Expr) (c0 c1 : List ℕ) → MakesOperand c0 c1 places scope first_value
    first_value r expression
    → MakesValue c0 c1 places scope first r expression
value-stacked places scope first r expression c0 c1 x = record {
  insns = x.insns;
  emits = x.emits;
  short = x.short;
  source = x.source;
  which = one x.which;
  does = λ set good at values holders f memory funcs holds knows may.
      let w = set.world in
      let reads = reads_of set.inputs funcs in
      let can = subst (λ ps. AllByRecursion (Loads w ps memory reads) (loads reads values expression)) at (all-loaded set good funcs memory holds
      (loads reads values expression) may) in
      let a = x.does w memory values reads f holds.size holders knows can in
      record {
        after = a.after;
        left = memory;
        line = a.line;
        value = a.value;
        small = a.small;
        keeps = a.keeps;
        holds = holds;
        before = λ byte out. refl;
        are_bytes = λ are. are;
      };
}
  where
    one : (r ≡ first_value) ⊎ ((r ≡ first_value) ⊎ IsKept scope r) → (r ≡ first_value) ⊎ IsKept scope r
    one (inl e) = inl e
    one (inr o) = o

-- ---- the store itself

pub equal-parts : (a b c d g h : ℕ) → (a == b && (c == d && g == h)) ≡ true → (a ≡ b) × ((c ≡ d) × (g ≡ h))
equal-parts a b c d g h t =
    let k = and_parts (a == b) (c == d && g == h) t in
    let j = and_parts (c == d) (g == h) k.1 in
    (same a b k.0, (same c d j.0, same g h j.1))
  where
    same : (m n : ℕ) → (m == n) ≡ true → m ≡ n
    same m n u = grind (arith, nat_tests)

module _ (setting : Setting) (good : IsSetting setting) (values : Values) where
  abbrev w : World
  w = setting.world

  -- a single store is of no Func that is stored in runs
  pub is-single : (store : Store) → RunsIn setting (s.Store store) values → (funcs : Planes) → AreWords funcs → setting.in_runs store.func ≡ false
  is-single store sure funcs words = by-test (setting.in_runs store.func) refl
    where
      by-test : (t : Bool) → setting.in_runs store.func ≡ t → setting.in_runs store.func ≡ false
      by-test true e =
          let r = reads_of setting.inputs funcs in
          let k = sym (ap (λ (a : Runs). a.are_runs values) (runs_store r store.func 0 0 (setting.run store.func 0 0) store))
          ∙ sure funcs words store.func e 0 0 in
          absurd (true≢false (sym (eq-eqb store.func store.func refl) ∙ not-true (store.func == store.func) k))
      by-test false e = e

  abbrev spot : Store → Planes → ℕ
  spot store funcs =
      address_of w setting.places (func_point store.func (value (reads_of setting.inputs funcs) values store.x) (value (reads_of setting.inputs funcs) values store.y))

  abbrev store_hits : Store → Planes → Hits
  store_hits store funcs func x y =
      (store.func ≡ func) × ((value (reads_of setting.inputs funcs) values store.x ≡ x) × (value (reads_of setting.inputs funcs) values store.y ≡ y))

  -- the last instruction, with any base and offset
  pub saved : (keeps_it : ℕ → Type 0) (store : Store) (b r : ℕ) (z : ℤ) (f : ℕ → ℕ) (memory : List ℕ) (funcs : Planes) → b < 32 → r < 32
      → HoldsFuncs setting memory funcs
      → setting.written store.func (value (reads_of setting.inputs funcs) values store.x) (value (reads_of setting.inputs funcs) values store.y) ≡ true
      → setting.in_runs store.func ≡ false → value (reads_of setting.inputs funcs) values store.value < 2 ^ 32 → plus (f b) z ≡ spot store funcs
      → f r ≡ value (reads_of setting.inputs funcs) values store.value
      → Does setting (Save save_ops.Sw b r z ∷ []) 1 f memory keeps_it (stored setting.points (reads_of setting.inputs funcs) store values funcs) (store_hits store funcs)
  saved keeps_it store b r z f memory funcs lb lr holds is single small at-a er =
      let reads = reads_of setting.inputs funcs in
      let x = value reads values store.x in
      let y = value reads values store.y in
      let v = value reads values store.value in
      let a = spot store funcs in
      let may = good.laid.stores store.func x y is in
      let m' = put_number memory Word a v in
      let left-is = stored-is memory a (f r) ∙ ap (put_number memory Word a) er in
      let writable : Writable w Word a =
      record { there = may.may; keeps = good.at_once 1 store.func (λ k. x) (λ k. y) (λ k b. is) (λ runs. absurd (true≢false (sym runs ∙ single))) } in
      let line = rules.store w f memory holds.size save_ops.Sw b r a z lb lr at-a writable in
      record {
        after = f;
        left = m';
        path = λ at s. subst (λ m. Path w at (at + 4) 1 f memory f m) left-is (line at s);
        keeps = λ q kept. refl;
        holds = record {
          size = size-stays memory a v ∙ holds.size;
          are_bytes = bytes-stay memory a v holds.are_bytes;
          are_words = words-put setting.points store.func x y v funcs holds.are_words small;
          holds = stored-holds w setting.places setting.written setting.loaded good.laid setting.points setting.inputs funcs memory store.func x y v is
              (good.have store.func x y is) holds.size small holds.holds;
        };
        elsewhere = λ byte other. others-stay w setting.places setting.written setting.loaded good.laid memory store.func x y v byte is other;
        are_bytes = bytes-stay memory a v;
        writes = λ func i j byte at hit of s.
            let e : a ≡ address_of w setting.places (func_point func i j) =
            ap (λ k. address_of w setting.places (func_point k x y)) hit.0 ∙ ap (λ k. address_of w setting.places (func_point func k y)) hit.1.0
            ∙ ap (λ k. address_of w setting.places (func_point func i k)) hit.1.1 in
            let above = of.above in
            let below = of.below in
            rules.store-writes w f memory holds.size save_ops.Sw b r a z at byte lb at-a writable s.0 (is-touched a byte (omega (arith, e, above))
            (omega (arith, e, below)));
      }

  -- ---- parts of code, one after the other

  -- what is after other code
  pub does-then : {is js : List Insn} {f : ℕ → ℕ} {memory : List ℕ} {keeps_it : ℕ → Type 0} {n k : ℕ} {middle funcs : Planes} {hits : Hits}
      → (a : Does setting is n f memory keeps_it middle no_hits) → Does setting js k a.after a.left keeps_it funcs hits
      → Does setting (is ++ js) (n + k) f memory keeps_it funcs hits
  does-then {is} {js} {f} {memory} {keeps_it} {n} {k} {middle} {funcs} {hits} a b =
      let first : Went setting (is ++ js) (λ at. at) (λ at. end at is) n f memory keeps_it middle no_hits =
      within setting (λ at. at) (λ at. end at is) (λ at s. stand-front w.text at is js s) (λ at. refl) a in
      let second : Went setting (is ++ js) (λ at. end at is) (λ at. end at (is ++ js)) k a.after a.left keeps_it funcs hits =
      within setting (λ at. end at is) (λ at. end at (is ++ js)) (λ at s. stand-back w.text at is js s) (λ at. sym (end-append at is js)) b in
      went-hits setting (λ func x y h. inr h) (went-then setting first second)

  abbrev pub deep-does : {is : List Insn} {f : ℕ → ℕ} {memory : List ℕ} {funcs : Planes} {r v : ℕ} (scope : List Held) → AreHolders scope
      → (a : LeavesDeep setting funcs is 0 f memory first_value r v) → Does setting is (length is) f memory (IsKept scope) funcs no_hits
  deep-does scope holders a = record {
    after = a.after;
    left = a.left;
    path = λ at s. a.line at s;
    keeps = λ q h. a.keeps q (kept-below scope q first_value (omega arith) holders h);
    holds = a.holds;
    elsewhere = λ byte other. a.before byte other.frame;
    are_bytes = a.are_bytes;
    writes = λ func x y byte at hit of s. absurd hit;
  }

pub did-went : {own : Setting} {is : List Insn} {n : ℕ} {f : ℕ → ℕ} {memory : List ℕ} {keeps_it : ℕ → Type 0} {funcs : Planes} {stored : ℕ → ℕ → ℕ → Bool}
    → Does own is n f memory keeps_it funcs (λ func x y. stored func x y ≡ true) → Did own is n f memory keeps_it funcs stored
did-went a = record {
  after = a.after;
  left = a.left;
  block = a.path;
  keeps = a.keeps;
  holds = a.holds;
  elsewhere = a.elsewhere;
  are_bytes = a.are_bytes;
  writes = λ func x y byte at is of s. a.writes func x y byte at is of s;
}

-- ---- a store whose indexes are sums

pub store-made : (places : Places) (scope : List Held) (store : Store) (x y : Linear) (form : AffineForm) (layout : BufferLayout) (at : At) (r : ℕ) (c0 c1 c2 c3 : List ℕ)
    → IsSum store.x x → IsSum store.y y → layout ≡ place_of places (sources.Func store.func) → IsPoint layout x y form
    → MakesValue c0 c1 places scope 0 r store.value → MakesFormAddress c1 c2 scope form address_register at
    → Emits c2 c3 (Save save_ops.Sw at.register r (lower at.offset) ∷ []) → MakesStore c0 c3 places scope store
store-made places scope store x y form layout at r c0 c1 c2 c3 ex ey ep point v t z = record {
  insns = v.insns ++ (t.insns ++ (Save save_ops.Sw at.register r (lower at.offset) ∷ []));
  emits = emits_then v.emits (emits_then t.emits z);
  short =
      let few = point.few in
      let nx = ex.short in
      let ny = ey.short in
      let most = base-most form.per_hart in
      let rest = short-then t.insns (Save save_ops.Sw at.register r (lower at.offset) ∷ []) (sum_words form.per_hart form.sum.terms) 1
      (7 + 4 * (length x.terms + length y.terms)) t.short (omega arith) (omega (arith, few, most)) in
      short-then v.insns (t.insns ++ (Save save_ops.Sw at.register r (lower at.offset) ∷ [])) (size store.value) (7 + 4 * (length x.terms +
      length y.terms))
      (store_words store) v.short rest (omega (arith, nx, ny));
  does = λ own good at-places values sound sure holders f memory funcs holds knows.
      let w = own.world in
      let reads = reads_of own.inputs funcs in
      let xv = value reads values store.x in
      let yv = value reads values store.y in
      let k = and_parts (own.written store.func xv yv) (list_all own.loaded (store_loads reads values store))
      (sym (sound_store reads own.written own.loaded store values) ∙ sound funcs holds.are_words) in
      let p = and_parts (list_all own.loaded (loads reads values store.x)) _
      (sym (list_all-append own.loaded (loads reads values store.x) (loads reads values store.y ++ loads reads values store.value)) ∙ k.1) in
      let q = and_parts (list_all own.loaded (loads reads values store.y)) (list_all own.loaded (loads reads values store.value))
      (sym (list_all-append own.loaded (loads reads values store.y) (loads reads values store.value)) ∙ p.1) in
      let a = v.does own good at-places values holders f memory funcs holds knows q.1 in
      let first = deep-does own good values scope holders a in
      let ka = knows-still w.hart scope values f a.after first.keeps knows in
      let free = working-free scope address_register holders (inl (omega arith, omega arith)) in
      let b = t.does w a.left w.hart values a.after a.holds.size holders free ka in
      let r15 = value-apart holders v.which in
      let may-store = good.laid.stores store.func xv yv k.0 in
      let here : address_of w own.places (func_point store.func xv yv) ≡ address layout w.hart (linear_value values x) (linear_value values y) =
      ap (λ ps. address (place_of ps (sources.Func store.func)) w.hart xv yv) at-places ∙ ap (λ pl. address pl w.hart xv yv) (sym ep)
      ∙ ap (λ i. address layout w.hart i yv) (ex.value_is reads values) ∙ ap (λ j. address layout w.hart (linear_value values x) j) (ey.value_is reads
      values) in
      let low : address layout w.hart (linear_value values x) (linear_value values y) < 2 ^ 32 = subst (λ n. n < 2 ^ 32) here may-store.low in
      let at-a : plus (b.after at.register) (lower at.offset) ≡ address_of w own.places (func_point store.func xv yv) =
      at-offset (b.after at.register) at.offset _ t.fits t.small
      (b.value ∙ point.value w.hart values ∙ own-word (address layout w.hart (linear_value values x) (linear_value values y)) low ∙ sym here) in
      let second : Does own t.insns (length t.insns) a.after a.left (IsKept scope) funcs no_hits =
      still own (λ i. i) (λ i. end i t.insns) (length t.insns) b.after a.holds (λ n h. let u = kept-apart scope n holders h in b.others n (free n h)
      u.0 u.1) (λ i st. b.line i st) in
      let last = saved own good values (IsKept scope) store at.register r (lower at.offset) b.after a.left funcs t.low v.source.0 a.holds k.0
      (is-single own good values store sure funcs holds.are_words) a.small at-a (b.others r r15 v.source.1.0 v.source.1.1 ∙ a.value) in
      let e = length-both v.insns t.insns (Save save_ops.Sw at.register r (lower at.offset)) in
      did-went (went-hits own
      (λ func i j h. equal-parts store.func func xv i yv j (sym (hit-store own.points own.inputs func i j store values funcs) ∙ h))
      (went-is own (sym e) (sym (run_store own.points own.inputs store values funcs))
      (does-then own good values first (does-then own good values second last))));
}
  where
    value-apart : AreHolders scope → (r ≡ first_value) ⊎ IsKept scope r → r ≢ address_register
    value-apart holders (inl e) g = omega (arith, e, g)
    value-apart holders (inr h) g = working-free scope address_register holders (inl (omega arith, omega arith)) r h g

    length-both : (is js : List Insn) (k : Insn) → length (is ++ (js ++ (k ∷ []))) ≡ length is + (length js + 1)
    length-both is js k =
        let a = length-append is (js ++ (k ∷ [])) in
        let b = length-append js (k ∷ []) in
        omega (arith, a, b)

-- ---- loop variables

pub point-held : (places : Places) (scope : List Held) (store : Store) (layout : BufferLayout) (x y : Linear) (form : AffineForm) → IsPoint layout x y form
    → IsSum store.x x → IsSum store.y y
    → FitsDirect places scope store → have_registers scope form.sum.terms ≡ true
point-held places scope store layout x y form point ex ey fits = point.have scope (ex.held scope fits.column_held) (ey.held scope fits.row_held)

-- ---- a store whose indexes are computed

module _ (places : Places) (scope : List Held) (store : Store) (layout : BufferLayout) (column row : PointIndex) (s offset : ℕ) (c0 c1 c2 c3 c4 c5 : List ℕ) where
  pub scattered-made : layout ≡ place_of places (sources.Func store.func)
      → MakesValue c0 c1 places scope 0 s store.value
      → MakesIndex c1 c2 places scope second_value column store.x → MakesIndex c2 c3 places scope third_value row store.y
      → ReachesPoint c3 c4 scope layout column row second_value offset → Emits c4 c5 (Save save_ops.Sw second_value s (lower offset) ∷ [])
      → MakesStore c0 c5 places scope store
  scattered-made ep v x y z last = record {
    insns = v.insns ++ (x.insns ++ (y.insns ++ (z.insns ++ saving)));
    emits = emits_then v.emits (emits_then x.emits (emits_then y.emits (emits_then z.emits last)));
    short =
        let n = all-lengths v.insns x.insns y.insns z.insns in
        let nv = v.short in
        let nx = x.short in
        let ny = y.short in
        let nz = z.short in
        omega (arith, n, nv, nx, ny, nz);
    does = λ own good at-places values sound sure holders f memory funcs holds knows.
        let w = own.world in
        let reads = reads_of own.inputs funcs in
        let xv = value reads values store.x in
        let yv = value reads values store.y in
        let k = and_parts (own.written store.func xv yv) (list_all own.loaded (store_loads reads values store))
        (sym (sound_store reads own.written own.loaded store values) ∙ sound funcs holds.are_words) in
        let p = and_parts (list_all own.loaded (loads reads values store.x)) _
        (sym (list_all-append own.loaded (loads reads values store.x) (loads reads values store.y ++ loads reads values store.value)) ∙ k.1) in
        let q = and_parts (list_all own.loaded (loads reads values store.y)) (list_all own.loaded (loads reads values store.value))
        (sym (list_all-append own.loaded (loads reads values store.y) (loads reads values store.value)) ∙ p.1) in
        let a = v.does own good at-places values holders f memory funcs holds knows q.1 in
        let can-x = subst (λ ps. AllByRecursion (Loads w ps a.left reads) (loads reads values store.x)) at-places (all-loaded own good funcs a.left
        a.holds (loads reads values store.x) p.0) in
        let can-y = subst (λ ps. AllByRecursion (Loads w ps a.left reads) (loads reads values store.y)) at-places (all-loaded own good funcs a.left
        a.holds (loads reads values store.y) q.0) in
        let first = deep-does own good values scope holders a in
        let ka = knows-still w.hart scope values f a.after first.keeps knows in
        let b = x.does w a.left values reads a.after a.holds.size holders ka can-x in
        let sb = λ (n : ℕ) (h : IsKept scope n). b.keeps n (kept-below scope n second_value (omega arith) holders h) in
        let kb = knows-still w.hart scope values a.after b.after sb ka in
        let d = y.does w a.left values reads b.after a.holds.size holders kb can-y in
        let sd = λ (n : ℕ) (h : IsKept scope n). d.keeps n (kept-below scope n third_value (omega arith) holders h) in
        let kd = knows-still w.hart scope values b.after d.after sd kb in
        let ex = index-stays column values b.after d.after xv
        (λ r er. d.keeps r (column-below holders r (subst (λ i. StandsIn scope second_value i) er x.stands).1.1)) b.value in
        let may-store = good.laid.stores store.func xv yv k.0 in
        let here : address_of w own.places (func_point store.func xv yv) ≡ address layout w.hart xv yv =
        ap (λ ps. address (place_of ps (sources.Func store.func)) w.hart xv yv) at-places ∙ ap (λ pl. address pl w.hart xv yv) (sym ep) in
        let low : address layout w.hart xv yv < 2 ^ 32 = subst (λ n. n < 2 ^ 32) here may-store.low in
        let g = z.does w a.left values d.after xv yv a.holds.size holders kd ex d.value low in
        let sg = λ (n : ℕ) (h : IsKept scope n). g.keeps n (kept-below scope n second_value (omega arith) holders h) in
        let at-a : plus (g.after second_value) (lower offset) ≡ address_of w own.places (func_point store.func xv yv) =
        at-offset (g.after second_value) offset _ z.fits z.small (g.value ∙ sym here) in
        let under = value-below holders v.which in
        let ev = g.keeps s under ∙ d.keeps s (below-more second_value third_value s (omega arith) under) ∙ b.keeps s under ∙ a.value in
        let two : Does own x.insns (length x.insns) a.after a.left (IsKept scope) funcs no_hits =
        still own (λ i. i) (λ i. end i x.insns) (length x.insns) b.after a.holds sb (λ i st. b.line i st) in
        let three : Does own y.insns (length y.insns) b.after a.left (IsKept scope) funcs no_hits =
        still own (λ i. i) (λ i. end i y.insns) (length y.insns) d.after a.holds sd (λ i st. d.line i st) in
        let four : Does own z.insns (length z.insns) d.after a.left (IsKept scope) funcs no_hits =
        still own (λ i. i) (λ i. end i z.insns) (length z.insns) g.after a.holds sg (λ i st. g.line i st) in
        let five = saved own good values (IsKept scope) store second_value s (lower offset) g.after a.left funcs (omega arith) v.source.0 a.holds k.0
        (is-single own good values store sure funcs holds.are_words) a.small at-a ev in
        did-went (went-hits own
        (λ func i j h. equal-parts store.func func xv i yv j (sym (hit-store own.points own.inputs func i j store values funcs) ∙ h))
        (went-is own (sym (all-lengths v.insns x.insns y.insns z.insns)) (sym (run_store own.points own.inputs store values funcs))
        (does-then own good values first (does-then own good values two (does-then own good values three (does-then own good values four five))))));
  }
    where
      saving : List Insn
      saving = Save save_ops.Sw second_value s (lower offset) ∷ []

      all-lengths : (is js ks ls : List Insn) → length (is ++ (js ++ (ks ++ (ls ++ (Save save_ops.Sw second_value s (lower offset) ∷ [])))))
          ≡ length is + (length js + (length ks + (length ls + 1)))
      all-lengths is js ks ls =
          let o = Save save_ops.Sw second_value s (lower offset) ∷ [] in
          let a = length-append is (js ++ (ks ++ (ls ++ o))) in
          let b = length-append js (ks ++ (ls ++ o)) in
          let c = length-append ks (ls ++ o) in
          let d = length-append ls o in
          omega (arith, a, b, c, d)

      value-below : AreHolders scope → (s ≡ first_value) ⊎ IsKept scope s → IsBelow second_value s
      value-below holders (inl e) = (inr (omega (arith, e)), inl (omega (arith, e)))
      value-below holders (inr h) = kept-below scope s second_value (omega arith) holders h

      column-below : AreHolders scope → (r : ℕ) → IsOperand scope second_value second_value r → IsBelow third_value r
      column-below holders r (inl e) = (inr (omega (arith, e)), inl (omega (arith, e)))
      column-below holders r (inr (inl e)) = (inr (omega (arith, e)), inl (omega (arith, e)))
      column-below holders r (inr (inr h)) = kept-below scope r third_value (omega arith) holders h

      index-stays : (index : PointIndex) (values : Values) (f g : ℕ → ℕ) (n : ℕ) → ((r : ℕ) → index ≡ indexes.Register r → g r ≡ f r)
          → IsIndex values f index n → IsIndex values g index n
      index-stays (indexes.Sum own) values f g n same is = is
      index-stays (indexes.Register r) values f g n same is = same r refl ∙ is

-- What a vectorized loop's code does is what its iterations do in order.
use Rattle.std.proofs.Common.{◌≡◌, ℕ, ◌+◌, ◌^◌, ◌<◌, ◌≤◌, ◌-◌, List, [], ◌∷◌, ◌++◌, length, Bool, true, refl, ap, ◌∙◌, sym, subst, arith, inl, inr}
use Rattle.std.proofs.Common.{length-append}
use Rattle.std.specs.Prelude.{◌⊎◌, ◌&&◌, Option, Some, None}
use Rattle.std.specs.List.{AllByRecursion, list_all}
use Rattle.std.proofs.lemmas.Bool.{and_parts}
use Rattle.std.proofs.lemmas.List.Folds.{list_all-append}
use Rattle.rv_insn.specs.declared.instructions.Insn.{Insn}
use Rattle.rv_insn.specs.declared.instructions.Insn.TheVariants.{Vector}
use Rattle.rv_insn.specs.declared.vector_instructions.VectorInsn.TheVariants as v
use Rattle.rv_insn.specs.declared.vector_instructions.Addressing.{Addressing}
use Rattle.rv_insn.specs.declared.vector_operations.ElementWidth.TheVariants.{Bits32}
use Rattle.halide_pipeline.specs.declared.expressions.Source.TheVariants as sources
use Rattle.halide_pipeline.specs.Pixel.{Planes, Reads, reads_of}
use Rattle.loop_ir.specs.declared.expressions.Expr.{Expr}
use Rattle.loop_ir.specs.declared.statements.LoopKind.TheVariants.{Vectorized}
use Rattle.loop_ir.specs.declared.statements.Store.{Store}
use Rattle.loop_ir.specs.declared.statements.Stmt.{Stmt}
use Rattle.loop_ir.specs.declared.statements.Stmt.TheVariants as s
use Rattle.loop_ir.specs.AtOnce.{Effect, effect}
use Rattle.loop_ir.specs.Counters.{Values, with}
use Rattle.loop_ir.specs.Expressions.{value, loads}
use Rattle.loop_ir.specs.LoopLanes.{is_lane_count, are_apart, all_step_up, loop_lanes, LoopLanes}
use Rattle.loop_ir.specs.Running.{run}
use Rattle.loop_ir.specs.Soundness.{is_sound, store_loads}
use Rattle.loop_ir.proofs.AtOnce.{effect_store, in_order}
use Rattle.loop_ir.proofs.LoopLanes.{lanes_of_loop}
use Rattle.loop_ir.proofs.Sound.{sound_for, sound_store}
use Rattle.loop_ir.proofs.Trees.{run_for}
use Rattle.multi_hart_laws.specs.Paths.{end}
use Rattle.multi_hart_laws.proofs.Paths.{stand-front, stand-back, end-append}
use Rattle.task_code_scalar.specs.declared.layouts.BufferLayout.{BufferLayout}
use Rattle.task_code_scalar.specs.declared.layouts.Places.{Places}
use Rattle.task_code_scalar.specs.Code.{place_of, address}
use Rattle.task_code_scalar.specs.Evaluation.{ArePlaces, Loads}
use Rattle.task_code_scalar.specs.Doing.{Setting, IsSetting, AreRun, HoldsFuncs, stored_points}
use Rattle.task_code_scalar.specs.Words.{Emits}
use Rattle.task_code_scalar.proofs.Looping.{each-iteration}
use Rattle.task_code_scalar.proofs.Spelling.{emits_then}
use Rattle.task_code_scalar.proofs.Loading.{all-loaded}
use Rattle.task_code_scalar.proofs.Tracing.{hit-for}
use Rattle.task_code_registers.specs.declared.scopes.Held.{Held}
use Rattle.task_code_registers.specs.Doing.{Did}
use Rattle.task_code_registers.specs.Scopes.{IsKept}
use Rattle.task_code_registers.proofs.Going.{Hits, no_hits, Went, Does, within, went-then, went-hits, went-is, still}
use Rattle.task_code_registers.proofs.Knowing.{knows-still}
use Rattle.task_code_registers.proofs.Looping.{did-went}
use Rattle.task_code_lanes.specs.Groups.{slot}
use Rattle.task_code_lane_values.specs.declared.vectorized.VectorLanes.{VectorLanes}
use Rattle.task_code_lanes.proofs.Effects.{HitBy, laid, laid-same, laid-cut}
use Rattle.task_code_lanes.proofs.Configured.{few-lanes}
use Rattle.task_code_lanes.proofs.Runs.{same-runs, pixels-are-run, loop-runs}
use Rattle.task_code_lanes.proofs.Storing.{hits-at-once}
use Rattle.task_code_vector_loops.specs.AtOnce.{MayRun}
use Rattle.task_code_vector_loops.specs.Runs.{all_lanes, run_of, StoresAs, EmitsRun}
use Rattle.task_code_vector_loops.specs.inner.Parting.{MakesRun}
use Rattle.task_code_vector_loops.proofs.Aiming.{MakesAims}
use Rattle.task_code_vector_loops.proofs.Storing.{row-saved}

-- ---- parts of code, one after the other

does-then : (setting : Setting) {is js : List Insn} {f : ℕ → ℕ} {memory : List ℕ} {keeps_it : ℕ → Type 0} {n k : ℕ} {middle funcs : Planes} {hits : Hits}
    → (a : Does setting is n f memory keeps_it middle no_hits) → Does setting js k a.after a.left keeps_it funcs hits
    → Does setting (is ++ js) (n + k) f memory keeps_it funcs hits
does-then setting {is} {js} {f} {memory} {keeps_it} {n} {k} {middle} {funcs} {hits} a b =
    let first : Went setting (is ++ js) (λ at. at) (λ at. end at is) n f memory keeps_it middle no_hits =
    within setting (λ at. at) (λ at. end at is) (λ at s. stand-front setting.world.text at is js s) (λ at. refl) a in
    let second : Went setting (is ++ js) (λ at. end at is) (λ at. end at (is ++ js)) k a.after a.left keeps_it funcs
    hits =
    within setting (λ at. end at is) (λ at. end at (is ++ js)) (λ at s. stand-back setting.world.text at is js s) (λ at. sym (end-append at is js)) b in
    went-hits setting (λ func x y h. inr h) (went-then setting first second)

-- what was done, as parts know it
went-of : {own : Setting} {code : List Insn} {n : ℕ} {f : ℕ → ℕ} {memory : List ℕ} {keeps_it : ℕ → Type 0} {funcs : Planes} {stored : ℕ → ℕ → ℕ → Bool}
    → Did own code n f memory keeps_it funcs stored → Does own code n f memory keeps_it funcs (λ func x y. stored func x y ≡ true)
went-of a = record {
  after = a.after;
  left = a.left;
  path = a.block;
  keeps = a.keeps;
  holds = a.holds;
  elsewhere = a.elsewhere;
  are_bytes = a.are_bytes;
  writes = λ func x y byte at hit of s. a.writes func x y byte at hit of s;
}

-- ---- what is asked of iterations

module _ (setting : Setting) (good : IsSetting setting) (lanes_of : VectorLanes) (body : Stmt) (store : Store) (values named : Values) (n : ℕ)
    (agrees : StoresAs lanes_of body store values named n) (may : MayRun setting (run_of lanes_of body) values) (funcs : Planes) (memory : List ℕ)
    (holds : HoldsFuncs setting memory funcs) where
  abbrev pub all : ℕ
  all = all_lanes lanes_of

  abbrev pub at : ℕ → Values
  at k = with lanes_of.counter k values

  -- with values of names
  abbrev pub at_named : ℕ → Values
  at_named k = with lanes_of.counter k named

  abbrev pub reads : Reads
  reads = reads_of setting.inputs funcs

  record Apart : Type 0 where
    one : (loop_lanes reads body).is_one_store ≡ true
    apart : are_apart (loop_lanes reads body) at all ≡ true

  apart-parts : Apart
  apart-parts =
      let r = loop_lanes reads body in
      let e = sym (ap (λ (o : LoopLanes). o.may_be_at_once values) (lanes_of_loop reads lanes_of.counter all Vectorized body)) ∙ may.at_once funcs holds.are_words in
      let a = and_parts (is_lane_count all && (r.is_one_store && (are_apart r at all && all_step_up r at all))) _ e in
      let b = and_parts (is_lane_count all) _ a.0 in
      let d = and_parts r.is_one_store (are_apart r at all && all_step_up r at all) b.1 in
      let g = and_parts (are_apart r at all) (all_step_up r at all) d.1 in
      record { one = d.0; apart = g.0 }

  abbrev pub xs : ℕ → ℕ
  xs k = value reads (at_named k) store.x

  abbrev pub ys : ℕ → ℕ
  ys k = value reads (at_named k) store.y

  abbrev pub pixel : ℕ → ℕ
  pixel k = value reads (at_named k) store.value

  -- what an iteration may store and load
  pub record MayStore (k : ℕ) : Type 0 where
    pub writes : setting.written store.func (xs k) (ys k) ≡ true
    pub of_x : list_all setting.loaded (loads reads (at_named k) store.x) ≡ true
    pub of_y : list_all setting.loaded (loads reads (at_named k) store.y) ≡ true
    pub of_value : list_all setting.loaded (loads reads (at_named k) store.value) ≡ true

  pub may-store : (k : ℕ) → k < n → MayStore k
  may-store k few =
      let less : k < all = let l = agrees.few in omega (arith, few, l) in
      let whole = each-iteration all (λ iteration. is_sound reads setting.written setting.loaded body (at iteration))
      (sym (sound_for reads setting.written setting.loaded lanes_of.counter all Vectorized body values) ∙ may.sound funcs holds.are_words) k less in
      let is = agrees.sound reads setting.written setting.loaded k few whole in
      let t = and_parts (setting.written store.func (xs k) (ys k)) (list_all setting.loaded (store_loads reads (at_named k) store))
      (sym (sound_store reads setting.written setting.loaded store (at_named k)) ∙ is) in
      let p = and_parts (list_all setting.loaded (loads reads (at_named k) store.x)) _
      (sym (list_all-append setting.loaded (loads reads (at_named k) store.x) (loads reads (at_named k) store.y ++ loads reads (at_named k) store.value)) ∙ t.1) in
      let q = and_parts (list_all setting.loaded (loads reads (at_named k) store.y)) (list_all setting.loaded (loads reads (at_named k) store.value))
      (sym (list_all-append setting.loaded (loads reads (at_named k) store.y) (loads reads (at_named k) store.value)) ∙ p.1) in
      record { writes = t.0; of_x = p.0; of_y = q.0; of_value = q.1 }

  abbrev effects : ℕ → Option Effect
  effects k = effect reads body (at k)

  abbrev stores_at : ℕ → Option Effect
  stores_at k = effect reads (s.Store store) (at_named k)

  abbrev pub pixels : ℕ → Option Effect
  pixels k = Some (record { func = store.func; x = xs k; y = ys k; pixel = pixel k })

  absent : (e : Effect) → None ≡ Some e → ⊥
  absent e is = cc is

  cut : (k : ℕ) → k < all → (e : Effect) → effects k ≡ Some e → k < n
  cut k less e is = by (side k n)
    where
      side : (a b : ℕ) → (a < b) ⊎ (b ≤ a)
      side a b = grind arith

      by : (k < n) ⊎ (n ≤ k) → k < n
      by (inl l) = l
      by (inr l) = absurd (absent e (sym (agrees.none reads k l less) ∙ is))

  hit-fewer : (func x y : ℕ) → HitBy effects all func x y → HitBy stores_at n func x y
  hit-fewer func x y hit =
      let few = cut hit.lane hit.below hit.stored hit.is in
      record {
        lane = hit.lane;
        below = few;
        stored = hit.stored;
        is = sym (agrees.stores reads hit.lane few) ∙ hit.is;
        func_is = hit.func_is;
        x_is = hit.x_is;
        y_is = hit.y_is;
      }

  hit-more : (func x y : ℕ) → HitBy stores_at n func x y → HitBy effects all func x y
  hit-more func x y hit = record {
    lane = hit.lane;
    below = let a = hit.below in let b = agrees.few in omega (arith, a, b);
    stored = hit.stored;
    is = agrees.stores reads hit.lane hit.below ∙ hit.is;
    func_is = hit.func_is;
    x_is = hit.x_is;
    y_is = hit.y_is;
  }

  hit-pixel : (func x y : ℕ) → HitBy stores_at n func x y → HitBy pixels n func x y
  hit-pixel func x y hit = record {
    lane = hit.lane;
    below = hit.below;
    stored = hit.stored;
    is = sym (effect_store reads store (at_named hit.lane)) ∙ hit.is;
    func_is = hit.func_is;
    x_is = hit.x_is;
    y_is = hit.y_is;
  }

  -- a run of the Func is stored, or none
  pub are-run : setting.in_runs store.func ≡ true → AreRun setting n store.func xs ys
  are-run =
      pixels-are-run setting values reads store at_named n agrees.some
      (same-runs setting values effects stores_at all n hit-more hit-fewer
      (loop-runs setting lanes_of.counter all body values may.in_runs reads apart-parts.one funcs holds.are_words))

  -- what is stored at once is what is stored in order
  pub laid-is : laid setting.points pixels n funcs ≡ run setting.points setting.inputs (run_of lanes_of body) values
      funcs
  laid-is =
      let b = agrees.few in
      let whole : (all - n) + n ≡ all = omega (arith, b) in
      laid-same setting.points pixels effects n (λ k few. sym (effect_store reads store (at_named k)) ∙ sym (agrees.stores reads k few)) funcs
      ∙ sym (laid-cut setting.points effects (all - n) n (λ j low high. agrees.none reads j low (omega (arith, whole, high))) funcs)
      ∙ ap (λ k. laid setting.points effects k funcs) whole
      ∙ sym (run_for setting.points setting.inputs lanes_of.counter all Vectorized body values funcs
      ∙ in_order setting.points setting.inputs body at funcs all apart-parts.one apart-parts.apart)

  pub all-hit : (func x y : ℕ) → stored_points setting (run_of lanes_of body) values funcs func x y ≡ true → HitBy pixels n func x y
  all-hit func x y h =
      hit-pixel func x y (hit-fewer func x y (hits-at-once setting.points setting.inputs body at funcs apart-parts.one all apart-parts.apart func x y
      (sym (hit-for setting.points setting.inputs func x y lanes_of.counter all Vectorized body values funcs) ∙ h)))

-- ---- values and a store

pub stored-as : (places : Places) (scope : List Held) (lanes_of : VectorLanes) (count : Values → ℕ) (store : Store) (layout : BufferLayout) (b u : ℕ)
    (addressing : Addressing) (c0 c1 c2 c3 : List ℕ) → layout ≡ place_of places (sources.Func store.func) → u ≡ slot lanes_of.group 0
    → MakesRun c0 c1 places scope lanes_of count 0 store.value → MakesAims c1 c2 places scope lanes_of count store layout b addressing
    → Emits c2 c3 (Vector (v.StoreElements Bits32 u b addressing true) ∷ []) → EmitsRun c0 c3 places scope lanes_of count store
stored-as places scope lanes_of count store layout b u addressing c0 c1 c2 c3 ep eu p t z =
    let last_code : List Insn = Vector (v.StoreElements Bits32 (slot lanes_of.group 0) b addressing true) ∷ [] in
    record {
      insns = p.insns ++ (t.insns ++ last_code);
      emits = emits_then p.emits (emits_then t.emits (subst (λ r. Emits c2 c3 (Vector (v.StoreElements Bits32 r b addressing true) ∷ [])) eu z));
      does = λ own good at-places values named body holders agrees may f memory funcs holds knows.
          let w = own.world in
          let n = count named in
          let group = lanes_of.group in
          let reads_now : Reads = reads_of own.inputs funcs in
          let at : ℕ → Values = (λ k. with lanes_of.counter k named) in
          let xv : ℕ → ℕ = (λ k. value reads_now (at k) store.x) in
          let yv : ℕ → ℕ = (λ k. value reads_now (at k) store.y) in
          let pv : ℕ → ℕ = (λ k. value reads_now (at k) store.value) in
          let each = may-store own good lanes_of body store values named n agrees may funcs memory holds in
          let loaded = λ (e : Expr) (k : ℕ) (may-load : list_all own.loaded (loads reads_now (at k) e) ≡ true).
          subst (λ ps. AllByRecursion (Loads w ps memory reads_now) (loads reads_now (at k) e)) at-places
          (all-loaded own good funcs memory holds (loads reads_now (at k) e) may-load) in
          let are : ArePlaces places = subst ArePlaces at-places good.are_places in
          let a = p.does w memory named reads_now f holds.size are holders knows agrees.some agrees.few
          (λ k few. let q = each k few in loaded store.value k q.of_value) in
          let ka = knows-still w.hart scope (at 0) f a.after a.keeps knows in
          let c = t.does w memory named reads_now a.after holds.size are holders ka a.has agrees.some agrees.few
          (λ k few. let q = each k few in loaded store.x k q.of_x) (λ k few. let q = each k few in loaded store.y k q.of_y) in
          let here = λ (k : ℕ).
          ap (λ ps. address (place_of ps (sources.Func store.func)) w.hart (xv k) (yv k)) at-places ∙ ap (λ pl. address pl w.hart (xv k) (yv k)) (sym ep) in
          let where-is = λ (k : ℕ) (few : k < n).
          let q = each k few in
          let m = good.laid.stores store.func (xv k) (yv k) q.writes in
          c.reaches k few (subst (λ i. i < 2 ^ 32) (here k) m.low) ∙ sym (here k) in
          let first : Does own p.insns (length p.insns) f memory (IsKept scope) funcs no_hits =
          still own (λ i. i) (λ i. end i p.insns) (length p.insns) a.after holds a.keeps (λ i st. a.line i st) in
          let second : Does own t.insns (length t.insns) a.after memory (IsKept scope) funcs no_hits =
          still own (λ i. i) (λ i. end i t.insns) (length t.insns) c.after holds c.keeps (λ i st. c.line i st) in
          let last = row-saved own good (IsKept scope) group store.func n (let e = agrees.few in let l = few-lanes group in omega (arith, e, l)) xv yv pv
          (λ k few. let q = each k few in q.writes) a.small (are-run own good lanes_of body store values named n agrees may funcs memory holds) addressing b
          c.after memory funcs t.low t.fit holds c.has where-is
          (λ k few. c.stays k few ∙ a.value k few) in
          let e = length-both p.insns t.insns (Vector (v.StoreElements Bits32 (slot group 0) b addressing true)) in
          did-went (went-hits own (all-hit own good lanes_of body store values named n agrees may funcs memory holds)
          (went-is own (sym e) (laid-is own good lanes_of body store values named n agrees may funcs memory holds)
          (does-then own first (does-then own second last))));
    }
  where
    length-both : (is js : List Insn) (k : Insn) → length (is ++ (js ++ (k ∷ []))) ≡ length is + (length js + 1)
    length-both is js k =
        let a = length-append is (js ++ (k ∷ [])) in
        let b = length-append js (k ∷ []) in
        omega (arith, a, b)

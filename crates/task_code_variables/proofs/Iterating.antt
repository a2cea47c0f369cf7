-- The code of an iteration collects its pixel, where guards let it pass.
use Rattle.std.proofs.Common.{◌≡◌, ℕ, ◌+◌, ◌*◌, ◌^◌, ◌<◌, ◌≤◌, List, [], ◌∷◌, ◌++◌, length, length-append, Bool, true, false, cond, refl, ap, ◌∙◌}
use Rattle.std.proofs.Common.{sym, subst, arith, inl, inr}
use Rattle.std.specs.Prelude.{if◌then◌else◌, nat_lt, Option, Some, None}
use Rattle.std.specs.List.{list_all}
use Rattle.std.proofs.lemmas.Bool.{and_parts, ltb-true, true≢false}
use Rattle.std.proofs.lemmas.Bool.Decides.{nat_tests}
use Rattle.rv_insn.specs.declared.instructions.Insn.{Insn}
use Rattle.halide_pipeline.specs.declared.expressions.Source.TheVariants as sources
use Rattle.halide_pipeline.specs.Pixel.{Planes, reads_of}
use Rattle.loop_ir.specs.declared.expressions.Counter.{Counter}
use Rattle.loop_ir.specs.declared.statements.Store.{Store}
use Rattle.loop_ir.specs.declared.statements.Stmt.{Stmt}
use Rattle.loop_ir.specs.declared.statements.Stmt.TheVariants as s
use Rattle.loop_ir.specs.declared.statements.Whole.{Whole}
use Rattle.loop_ir.specs.AtOnce.{Effect, effect}
use Rattle.loop_ir.specs.Counters.{Values, with}
use Rattle.loop_ir.specs.Expressions.{value}
use Rattle.loop_ir.specs.Running.{whole_value}
use Rattle.loop_ir.specs.Soundness.{is_sound, store_loads}
use Rattle.loop_ir.proofs.AtOnce.{effect_store, effect_bind}
use Rattle.loop_ir.proofs.Sizes.{whole_bind, whole_store}
use Rattle.loop_ir.proofs.Sound.{sound_bind, sound_store}
use Rattle.multi_hart_laws.specs.Paths.{Path, Stand, end, lane}
use Rattle.multi_hart_laws.proofs.Paths.{line-then, stand-front, stand-back, end-append}
use Rattle.task_code_scalar.specs.declared.layouts.Places.{Places}
use Rattle.task_code_scalar.specs.Code.{address, place_of}
use Rattle.task_code_scalar.specs.Doing.{Setting, IsSetting, SoundIn, HoldsFuncs}
use Rattle.task_code_scalar.proofs.Binding.{whole-small}
use Rattle.task_code_scalar.proofs.Spelling.{emits_then}
use Rattle.task_code_lanes.specs.declared.groups.LaneGroup.{LaneGroup}
use Rattle.task_code_lanes.specs.Groups.{registers}
use Rattle.task_code_lanes.proofs.Slots.{slot-at, stack-low}
use Rattle.task_code_registers.specs.declared.scopes.AffineForm.{AffineForm}
use Rattle.task_code_registers.specs.declared.scopes.Held.{Held}
use Rattle.task_code_registers.specs.Registers.{address_register}
use Rattle.task_code_registers.specs.Scopes.{AreHolders, IsKept, Knows, are_registers, form_value}
use Rattle.task_code_registers.proofs.Going.{Went, no_hits, went-then, within, still}
use Rattle.task_code_registers.proofs.Knowing.{kept-apart, kept-low, knows-still, working-free}
use Rattle.task_code_loops.specs.Beginning.{variable}
use Rattle.task_code_loops.specs.Guarding.{Comes, GuardsWords}
use Rattle.task_code_loops.proofs.Knowledge.{variable-value}
use Rattle.task_code_values.specs.Parking.{PreparesStore, point_address}
use Rattle.task_code_variables.specs.Collecting.{Collected, Collects, CollectsIf, Marks, PutsIntoLane, SameLanes, address_in}
use Rattle.task_code_variables.specs.Renaming.{IsRenamedStore, StandFor, numbered, value_in}
use Rattle.task_code_variables.specs.Splits.{EntersSplit, IsKeptOrLane}
use Rattle.task_code_variables.proofs.Nesting.{stand-with, value-same}
use Rattle.task_code_variables.proofs.Stores.{fewer-words, sound-renamed}

-- ---- lanes that were the same before

marks-from : (group : LaneGroup) (i pixel at : ℕ) (f g after : ℕ → ℕ) → ((q : ℕ) → lane 2 0 ≤ q → g q ≡ f q) → Marks group i pixel at g after
    → Marks group i pixel at f after
marks-from group i pixel at f g after same a = record {
  has = a.has;
  pixel_is = a.pixel_is;
  address_is = a.address_is;
  pixels_stay = λ k b. a.pixels_stay k b ∙ same _ (let o = stack-low group in omega (arith, o));
  addresses_stay = λ k b.
      a.addresses_stay k b
      ∙ same _ (let o = stack-low group in let l = slot-at group 1 (omega arith) in let n = l.low in omega (arith, o, n));
}

pub collects-from : (setting : Setting) (group : LaneGroup) (i : ℕ) (o : Option Effect) (f g after : ℕ → ℕ) → SameLanes f g → CollectsIf setting group i o g after
    → CollectsIf setting group i o f after
collects-from setting group i None f g after same a = λ q high. a q high ∙ same q high
collects-from setting group i (Some e) f g after same a = record {
  written = a.written;
  small = a.small;
  marks = marks-from group i e.pixel (address_in setting e) f g after (λ q high. same q (omega (arith, high))) a.marks;
}

-- ---- a store

module _ (places : Places) (scope : List Held) (around : List Counter) (group : LaneGroup) (r t : ℕ) (store new_store : Store) (is : IsRenamedStore around store new_store)
    (all : are_registers scope ≡ true) where
  same-address : (setting : Setting) (funcs : Planes) (values numbers : Values) → StandFor around values numbers
      → point_address setting funcs numbers new_store ≡ point_address setting funcs values store
  same-address setting funcs values numbers stand =
      let reads = reads_of setting.inputs funcs in
      let hart = setting.world.hart in
      ap (λ k. address (place_of setting.places (sources.Func k)) hart (value reads numbers new_store.x) (value reads numbers new_store.y)) is.func_is
      ∙ ap (λ k. address (place_of setting.places (sources.Func store.func)) hart k (value reads numbers new_store.y)) (is.column.value_is values numbers stand reads)
      ∙ ap (λ k. address (place_of setting.places (sources.Func store.func)) hart (value reads values store.x) k) (is.row.value_is values numbers stand reads)

  pub store-collects : (c0 c1 c2 : List ℕ) → PreparesStore c0 c1 places scope t new_store → PutsIntoLane c1 c2 group r t
      → Collects c0 c2 places scope around group r (s.Store store)
  store-collects c0 c1 c2 x y = record {
    insns = x.insns ++ y.insns;
    emits = emits_then x.emits y.emits;
    short =
        let n = length-append x.insns y.insns in
        let a = x.short in
        let b = y.short in
        let k = fewer-words around store new_store is in
        let w = whole_store store in
        omega (arith, n, a, b, k, w);
    turns = λ numbers. length (x.insns ++ y.insns);
    does = λ setting good at-places values numbers stand holders sound kept i few f memory funcs holds knows er.
        let w = setting.world in
        let reads = reads_of setting.inputs funcs in
        let xv = value reads values store.x in
        let yv = value reads values store.y in
        let pv = value reads values store.value in
        let k = and_parts (setting.written store.func xv yv) (list_all setting.loaded (store_loads reads values store))
        (sym (sound_store reads setting.written setting.loaded store values) ∙ sound funcs holds.are_words) in
        let may = good.laid.stores store.func xv yv k.0 in
        let a = x.does setting good at-places numbers (sound-renamed around store new_store is values numbers stand setting sound) holders f memory funcs holds knows in
        let ev : value reads numbers new_store.value ≡ pv = is.pixel.value_is values numbers stand reads in
        let ea : a.after address_register ≡ point_address setting funcs values store = a.address ∙ same-address setting funcs values numbers stand in
        let apart = kept-apart scope r holders kept in
        let b = y.does w a.left a.after i pv (point_address setting funcs values store) a.holds.size apart.1 x.source.1.1 few (a.keeps r kept ∙ er)
        (a.pixel ∙ ev) ea (subst (λ n. n < 2 ^ 32) ev a.small) may.low in
        record {
          did = record {
            after = b.after;
            left = a.left;
            block = line-then w x.insns y.insns f a.after b.after memory a.left a.left a.line b.line;
            keeps = λ q h. let k = kept-apart scope q holders h in b.keeps q (kept-low scope q all h) k.1 ∙ a.keeps q h;
            holds = a.holds;
            elsewhere = λ byte other. a.before byte other.frame;
            are_bytes = a.are_bytes;
            writes = λ func j l byte at hit. absurd (true≢false (sym hit));
          };
          collects = subst (λ e. CollectsIf setting group i e f b.after) (sym (effect_store reads store values))
              (record {
                written = k.0;
                small = subst (λ n. n < 2 ^ 32) ev a.small;
                marks = marks-from group i pv (point_address setting funcs values store) f a.after b.after a.lanes b.marks;
              });
        };
  }

-- ---- a split loop's body

module _ (places : Places) (scope inner : List Held) (around : List Counter) (group : LaneGroup) (r : ℕ) (counter : Counter) (whole : Whole) (extent : ℕ)
    (body : Stmt) where
  abbrev number : Counter
  number = numbered (length around)

  abbrev form : AffineForm
  form = variable number

  abbrev within_at : ℕ → Values → Values
  within_at v numbers = with number v numbers

  is-below : (n k : ℕ) → n < k → nat_lt n k ≡ true
  is-below n k less = grind (arith, nat_tests, less)

  not-below : (n k : ℕ) → nat_lt n k ≡ false → k ≤ n
  not-below n k e = grind (arith, nat_tests, e)

  module _ (c0 c1 c2 words : List ℕ) (enters : EntersSplit c0 c1 scope inner around whole) (x : Collects [] words places inner (counter ∷ around) group r body)
      (guards : GuardsWords c1 c2 inner form extent words) where
    abbrev tests : List Insn
    tests = (guards x.insns x.emits).insns

    abbrev before : ℕ
    before = (guards x.insns x.emits).before

    abbrev past : ℕ
    past = (guards x.insns x.emits).past

    abbrev front : List Insn
    front = (guards x.insns x.emits).front

    abbrev all_of : List Insn
    all_of = enters.insns ++ tests

    abbrev cost : Bool → Values → ℕ
    cost t numbers = length enters.insns + (if t then before + x.turns numbers else past)

    module _ (setting : Setting) (good : IsSetting setting) (at-places : setting.places ≡ places) (values numbers : Values) (stand : StandFor around values numbers)
        (holders : AreHolders scope) (sound : SoundIn setting (s.Bind counter whole extent body) values) (kept : IsKept scope r) (i : ℕ)
        (few : i < 4 * registers group) (f : ℕ → ℕ) (memory : List ℕ) (funcs : Planes) (holds : HoldsFuncs setting memory funcs)
        (knows : Knows setting.world.hart scope numbers f) (er : f r ≡ i) where
      abbrev hart : ℕ
      hart = setting.world.hart

      abbrev v : ℕ
      v = whole_value whole values

      abbrev entered : Values
      entered = with counter v values

      abbrev inside : Values
      inside = within_at v numbers

      abbrev step_after : ℕ → ℕ
      step_after = (enters.does setting.world memory hart values numbers f holds.size holders stand knows).after

      step_keeps : (q : ℕ) → IsKeptOrLane scope q → step_after q ≡ f q
      step_keeps = (enters.does setting.world memory hart values numbers f holds.size holders stand knows).keeps

      known : Knows hart inner inside step_after
      known = (enters.does setting.world memory hart values numbers f holds.size holders stand knows).mark

      to-inner : (q : ℕ) → IsKept scope q → IsKept inner q
      to-inner q h = subst (λ l. IsKept l q) (sym enters.is) (inr h)

      inner-holders : AreHolders inner
      inner-holders = enters.holders holders

      fv : form_value hart inside form ≡ v
      fv = variable-value number hart v numbers (whole-small whole values)

      abbrev one : Went setting all_of (λ at. at) (λ at. end at enters.insns) (length enters.insns) f memory (IsKept scope) funcs no_hits
      one = still setting (λ at. at) (λ at. end at enters.insns) (length enters.insns) step_after holds (λ q h. step_keeps q (inl h))
          (λ at st.
          (enters.does setting.world memory hart values numbers f holds.size holders stand knows).line at (stand-front setting.world.text at enters.insns tests st))

      loop_invariant : {to : ℕ → ℕ} {n : ℕ} (c : Comes setting.world tests to n step_after memory) (q : ℕ) → IsKept inner q → c.after q ≡ step_after q
      loop_invariant c q h =
          let t = kept-apart inner q inner-holders h in
          c.keeps q t.0 t.1 (λ e. working-free inner address_register inner-holders (inl (omega arith, omega arith)) q h e)

      lanes : {to : ℕ → ℕ} {n : ℕ} (c : Comes setting.world tests to n step_after memory) → SameLanes f c.after
      lanes c q high =
          c.keeps q (λ e. omega (arith, e, high)) (λ e. omega (arith, e, high)) (λ e. omega (arith, e, high)) ∙ step_keeps q (inr high)

      abbrev two : (to : ℕ → ℕ) (n : ℕ) (c : Comes setting.world tests to n step_after memory) → Went setting all_of (λ at. end at enters.insns)
          (λ at. to (end at enters.insns)) n step_after memory (IsKept scope) funcs no_hits
      two to n c = still setting (λ at. end at enters.insns) (λ at. to (end at enters.insns)) n c.after holds (λ q h. loop_invariant c q (to-inner q h))
          (λ at st. c.path (end at enters.insns) (stand-back setting.world.text at enters.insns tests st))

      is-effect : (t : Bool) → nat_lt v extent ≡ t → effect (reads_of setting.inputs funcs) (s.Bind counter whole extent body) values
          ≡ cond t (effect (reads_of setting.inputs funcs) body entered) None
      is-effect t e = effect_bind (reads_of setting.inputs funcs) counter whole extent body values
          ∙ ap (λ b. cond b (effect (reads_of setting.inputs funcs) body entered) None) e

      inner-sound : nat_lt v extent ≡ true → SoundIn setting body entered
      inner-sound e p are =
          sym (ap (λ b. if b then (is_sound (reads_of setting.inputs p) setting.written setting.loaded body entered)
          else true) e)
          ∙ sym (sound_bind (reads_of setting.inputs p) setting.written setting.loaded counter whole extent body values) ∙ sound p are

      passed : nat_lt v extent ≡ false → Collected setting all_of (cost false inside) f memory scope funcs group i
          (effect (reads_of setting.inputs funcs) (s.Bind counter whole extent body) values)
      passed e =
          let c = (guards x.insns x.emits).passes setting.world hart inside step_after memory inner-holders holds.size
          known
          (subst (λ n. extent ≤ n) (sym fv) (not-below v extent e)) in
          let went = went-then setting one (two (λ at. end at tests) past c) in
          record {
            did = record {
              after = c.after;
              left = memory;
              block = λ at st.
                  subst (λ p. Path setting.world at p (cost false inside) f memory c.after memory) (sym (end-append at enters.insns tests)) (went.path at st);
              keeps = went.keeps;
              holds = holds;
              elsewhere = λ byte other. refl;
              are_bytes = λ are. are;
              writes = λ func j l byte at hit. absurd (true≢false (sym hit));
            };
            collects = subst (λ o. CollectsIf setting group i o f c.after) (sym (is-effect false e)) (lanes c);
          }

      made : nat_lt v extent ≡ true → Collected setting all_of (cost true inside) f memory scope funcs group i
          (effect (reads_of setting.inputs funcs) (s.Bind counter whole extent body) values)
      made e =
          let g = guards x.insns x.emits in
          let c = g.enters setting.world hart inside step_after memory inner-holders holds.size known
          (subst (λ n. n < extent) (sym fv) (ltb-true v extent e)) in
          let knows-so = knows-still hart inner inside step_after c.after (loop_invariant c) known in
          let er-so : c.after r ≡ i = loop_invariant c r (to-inner r kept) ∙ step_keeps r (inl kept) ∙ er in
          let d = x.does setting good at-places entered inside (stand-with around counter values numbers v stand) inner-holders (inner-sound e) (to-inner r kept)
          i few c.after memory funcs holds knows-so er-so in
          let inner-went : Went setting x.insns (λ at. at) (λ at. end at x.insns) (x.turns inside) c.after memory (IsKept scope) funcs no_hits = record {
            after = d.did.after;
            left = d.did.left;
            path = d.did.block;
            keeps = λ q h. d.did.keeps q (to-inner q h);
            holds = d.did.holds;
            elsewhere = d.did.elsewhere;
            are_bytes = d.did.are_bytes;
            writes = λ func j l byte at hit. absurd hit;
          } in
          let three : Went setting all_of (λ at. end (end at enters.insns) front) (λ at. end at all_of) (x.turns inside) c.after memory (IsKept scope) funcs
          no_hits =
          within setting (λ at. end (end at enters.insns) front) (λ at. end at all_of)
          (λ at st. stand-back setting.world.text (end at enters.insns) front x.insns
          (subst (Stand setting.world.text (end at enters.insns)) g.is (stand-back setting.world.text at enters.insns tests st)))
          (λ at. sym (end-append (end at enters.insns) front x.insns) ∙ sym (ap (end (end at enters.insns)) g.is) ∙ sym (end-append at enters.insns tests))
          inner-went in
          let went = went-then setting one (went-then setting (two (λ at. end at front) before c) three) in
          record {
            did = record {
              after = d.did.after;
              left = d.did.left;
              block = went.path;
              keeps = went.keeps;
              holds = went.holds;
              elsewhere = went.elsewhere;
              are_bytes = went.are_bytes;
              writes = λ func j l byte at hit. absurd (true≢false (sym hit));
            };
            collects = subst (λ o. CollectsIf setting group i o f d.did.after) (sym (is-effect true e))
                (collects-from setting group i (effect (reads_of setting.inputs funcs) body entered) f c.after d.did.after (lanes c) d.collects);
          }

      by-test : (t : Bool) → nat_lt v extent ≡ t → Collected setting all_of (cost t inside) f memory scope funcs group i
          (effect (reads_of setting.inputs funcs) (s.Bind counter whole extent body) values)
      by-test true e = made e
      by-test false e = passed e

    pub split-collects : Collects c0 c2 places scope around group r (s.Bind counter whole extent body)
    split-collects = record {
      insns = all_of;
      emits = emits_then enters.emits (guards x.insns x.emits).emits;
      short =
          let n = length-append enters.insns tests in
          let a = enters.short in
          let b = (guards x.insns x.emits).short in
          let l = x.short in
          let w = whole_bind counter whole extent body in
          omega (arith, n, a, b, l, w);
      turns = λ numbers. cost (nat_lt (whole_value whole (value_in around numbers)) extent) (within_at (whole_value whole (value_in around numbers)) numbers);
      does = λ setting good at-places values numbers stand holders sound kept i few f memory funcs holds knows er.
          let v = whole_value whole values in
          subst (λ n. Collected setting all_of (cost (nat_lt n extent) (within_at n numbers)) f memory scope funcs group
          i
          (effect (reads_of setting.inputs funcs) (s.Bind counter whole extent body) values))
          (value-same places scope inner around counter whole extent body values numbers stand)
          (by-test setting good at-places values numbers stand holders sound kept i few f memory funcs holds knows er (nat_lt v extent) refl);
    }

-- ---- as the emitter calls them

pub collects-as : (places : Places) (scope : List Held) (around : List Counter) (group : LaneGroup) (r : ℕ) (statement x : Stmt) (c0 c1 : List ℕ) → statement ≡ x
    → Collects c0 c1 places scope around group r x → Collects c0 c1 places scope around group r statement
collects-as places scope around group r statement x c0 c1 is made = subst (Collects c0 c1 places scope around group r) (sym is) made

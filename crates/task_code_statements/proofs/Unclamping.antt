-- A store without clamps that cut nothing off does what the store with them does.
use Rattle.std.proofs.Common.{◌≡◌, ℕ, ◌-◌, ◌<◌, List, [], ◌∷◌, ◌++◌, Bool, true, false, length, refl, ap, ◌∙◌, sym, subst, arith}
use Rattle.std.specs.Prelude.{◌==◌, ◌&&◌, not, nat_lt}
use Rattle.std.specs.List.{list_all}
use Rattle.std.proofs.lemmas.Bool.{and_parts}
use Rattle.std.proofs.lemmas.List.Folds.{list_all-append}
use Rattle.memory.specs.Access.{Byte, number_in, AreBytes, byte_at, data_start}
use Rattle.hart_core.specs.Scalar.{load_size}
use Rattle.halide_pipeline.specs.declared.expressions.Source.{Source}
use Rattle.halide_pipeline.specs.declared.expressions.Source.TheVariants as sources
use Rattle.halide_pipeline.specs.Pixel.{Planes, Reads, reads_of}
use Rattle.halide_pipeline.specs.Points.{Point}
use Rattle.loop_ir.specs.Buffers.{Points, put}
use Rattle.loop_ir.specs.Counters.{Values}
use Rattle.loop_ir.specs.Expressions.{value, loads}
use Rattle.loop_ir.specs.Running.{run}
use Rattle.loop_ir.specs.Runs.{Runs}
use Rattle.loop_ir.specs.Soundness.{is_sound_store, store_loads}
use Rattle.loop_ir.proofs.Runs.{runs_store}
use Rattle.loop_ir.proofs.Sound.{sound_store}
use Rattle.loop_ir.proofs.Trees.{run_store}
use Rattle.loop_ir.specs.declared.statements.Store.{Store}
use Rattle.loop_ir.specs.declared.statements.Stmt.TheVariants as s
use Rattle.task_code_scalar.specs.declared.layouts.Places.{Places}
use Rattle.task_code_scalar.specs.Doing.{Setting, SoundIn, RunsIn, HoldsFuncs, stored_points}
use Rattle.task_code_scalar.specs.Evaluation.{load_op}
use Rattle.task_code_scalar.specs.Layout.{address_of}
use Rattle.task_code_scalar.proofs.Tracing.{hit-store}
use Rattle.task_code_registers.specs.declared.scopes.Held.{Held}
use Rattle.task_code_loops.specs.declared.bounds.Bound.{Bound}
use Rattle.task_code_loops.specs.declared.known.KnownSum.{KnownSum}
use Rattle.task_code_loops.specs.Bounds.{AreBelow}
use Rattle.task_code_loops.specs.Known.{AreKnown}
use Rattle.task_code_clamps.specs.Clamps.{AreBytesAt}
use Rattle.task_code_clamps.specs.Clamps as clamps
use Rattle.task_code_clamps.specs.Ranges.{IsByte}
use Rattle.task_code_values.specs.Storing.{MakesStore}
use Rattle.task_code_names.specs.declared.names.Named.{Named}
use Rattle.task_code_names.specs.Names.{AreNames, IsNamedStore}
use Rattle.task_code_statements.specs.declared.contexts.Context.{Context}
use Rattle.task_code_statements.specs.Contexts.{Meets}
use Rattle.task_code_statements.specs.Making.{IsMadeStore}
use Rattle.task_code_statements.specs.Rewriting.{IsSameStore}
use Rattle.task_code_statements.specs.Statements.{EmitsStatement}
use Rattle.task_code_statements.proofs.Following.{did-is}
use Rattle.task_code_statements.specs.Plain.{IsPlainStore}
use Rattle.task_code_statements.proofs.Naming.{run-plain, runs-plain, sound-plain, stored-plain}
use Rattle.task_code_statements.proofs.Storing.{sound-made, runs-made, run-made, stored-made}

-- ---- bytes

byte-below : (text memory : List ℕ) → AreBytes memory → (a : ℕ) → byte_at text memory a < 256
byte-below text memory are a = by-test (nat_lt a data_start) refl
  where
    by-test : (t : Bool) → nat_lt a data_start ≡ t → byte_at text memory a < 256
    by-test true is = rw is (omega arith)
    by-test false is = rw is (are (a - data_start))

number-below : (text memory : List ℕ) → AreBytes memory → (a : ℕ) → number_in text memory Byte a < 256
number-below text memory are a = let b = byte-below text memory are a in omega (arith, b)

module _ (setting : Setting) (memory : List ℕ) (funcs : Planes) (holds : HoldsFuncs setting memory funcs) where
  -- what memory holds of an input of bytes is a byte
  input-byte : (k x y : ℕ) → setting.loaded (record { source = sources.Input k; x = x; y = y }) ≡ true
      → IsByte setting.places (sources.Input k) (setting.inputs k x y)
  input-byte k x y is bytes =
      let a = address_of setting.world setting.places (record { source = sources.Input k; x = x; y = y }) in
      let h = holds.holds (record { source = sources.Input k; x = x; y = y }) is in
      let n : number_in setting.world.text memory Byte a ≡ setting.inputs k x y =
      subst (λ p. number_in setting.world.text memory (load_size (load_op p)) a ≡ setting.inputs k x y) bytes h in
      subst (λ v. v < 256) n (number-below setting.world.text memory holds.are_bytes a)

  point-byte : (p : Planes) (x y : ℕ) (source : Source) → setting.loaded (record { source = source; x = x; y = y }) ≡
      true
      → IsByte setting.places source (reads_of setting.inputs p source x y)
  point-byte p x y (sources.Input k) is = input-byte k x y is
  point-byte p x y (sources.Func k) is = tt

  -- whatever Funcs' buffers hold
  all-bytes : (p : Planes) (points : List Point) → list_all setting.loaded points ≡ true → AreBytesAt setting.places (reads_of setting.inputs p) points
  all-bytes p [] is = tt
  all-bytes p (point ∷ points) is =
      let k = and_parts (setting.loaded point) (list_all setting.loaded points) is in
      (point-byte p point.x point.y point.source k.0, all-bytes p points k.1)

-- ---- two stores that are the same where buffers hold this

record AreSame (reads : Reads) (values : Values) (store new_store : Store) : Type 0 where
  pub func_is : new_store.func ≡ store.func
  pub x_is : value reads values new_store.x ≡ value reads values store.x
  pub y_is : value reads values new_store.y ≡ value reads values store.y
  pub value_is : value reads values new_store.value ≡ value reads values store.value
  pub x_loads : loads reads values new_store.x ≡ loads reads values store.x
  pub y_loads : loads reads values new_store.y ≡ loads reads values store.y
  pub value_loads : loads reads values new_store.value ≡ loads reads values store.value

sound-same : (reads : Reads) (values : Values) (store new_store : Store) (written : Points) (loaded : Point → Bool) → AreSame reads values store new_store
    → is_sound_store reads written loaded new_store values ≡ is_sound_store reads written loaded store values
sound-same reads values store new_store written loaded same =
    let x = value reads values store.x in
    let y = value reads values store.y in
    let one : written new_store.func (value reads values new_store.x) (value reads values new_store.y) ≡ written
    store.func x y =
    ap (λ k. written k (value reads values new_store.x) (value reads values new_store.y)) same.func_is
    ∙ ap (λ k. written store.func k (value reads values new_store.y)) same.x_is ∙ ap (written store.func x) same.y_is in
    ap (λ b. b && list_all loaded (loads reads values new_store.x ++ (loads reads values new_store.y ++ loads reads values new_store.value))) one
    ∙ ap (λ l. written store.func x y && list_all loaded (l ++ (loads reads values new_store.y ++ loads reads values new_store.value))) same.x_loads
    ∙ ap (λ l. written store.func x y && list_all loaded (loads reads values store.x ++ (l ++ loads reads values new_store.value))) same.y_loads
    ∙ ap (λ l. written store.func x y && list_all loaded (loads reads values store.x ++ (loads reads values store.y ++ l))) same.value_loads

module _ (setting : Setting) (values : Values) (store new_store : Store) where
  run-same : (funcs : Planes) → AreSame (reads_of setting.inputs funcs) values store new_store
      → run setting.points setting.inputs (s.Store new_store) values funcs ≡ run setting.points setting.inputs
      (s.Store store) values funcs
  run-same funcs same =
      let reads = reads_of setting.inputs funcs in
      run_store setting.points setting.inputs new_store values funcs
      ∙ ap (λ k. put setting.points k (value reads values new_store.x) (value reads values new_store.y) (value reads values new_store.value) funcs) same.func_is
      ∙ ap (λ k. put setting.points store.func k (value reads values new_store.y) (value reads values new_store.value) funcs) same.x_is
      ∙ ap (λ k. put setting.points store.func (value reads values store.x) k (value reads values new_store.value) funcs) same.y_is
      ∙ ap (λ k. put setting.points store.func (value reads values store.x) (value reads values store.y) k funcs) same.value_is
      ∙ sym (run_store setting.points setting.inputs store values funcs)

  stored-same : (funcs : Planes) (func x y : ℕ) → AreSame (reads_of setting.inputs funcs) values store new_store
      → stored_points setting (s.Store new_store) values funcs func x y ≡ stored_points setting (s.Store store) values
      funcs func x y
  stored-same funcs func x y same =
      let reads = reads_of setting.inputs funcs in
      hit-store setting.points setting.inputs func x y new_store values funcs
      ∙ ap (λ k. k == func && (value reads values new_store.x == x && value reads values new_store.y == y)) same.func_is
      ∙ ap (λ k. store.func == func && (k == x && value reads values new_store.y == y)) same.x_is
      ∙ ap (λ k. store.func == func && (value reads values store.x == x && k == y)) same.y_is
      ∙ sym (hit-store setting.points setting.inputs func x y store values funcs)

  runs-same : new_store.func ≡ store.func → RunsIn setting (s.Store store) values
      → RunsIn setting (s.Store new_store) values
  runs-same func_is sure p words func in_runs x y =
      let reads = reads_of setting.inputs p in
      ap (λ (r : Runs). r.are_runs values) (runs_store reads func x y (setting.run func x y) new_store)
      ∙ ap (λ k. not (k == func)) func_is
      ∙ sym (ap (λ (r : Runs). r.are_runs values) (runs_store reads func x y (setting.run func x y) store))
      ∙ sure p words func in_runs x y

-- ---- without clamps

module _ (setting : Setting) (values : Values) (bounds : List Bound) (below : AreBelow bounds values) (memory : List ℕ) (funcs : Planes)
    (holds : HoldsFuncs setting memory funcs) (store new_store : Store) (is : clamps.IsSameStore setting.places bounds store new_store) where
  are-same : (p : Planes) → is_sound_store (reads_of setting.inputs p) setting.written setting.loaded store values ≡
      true
      → AreSame (reads_of setting.inputs p) values store new_store
  are-same p sound =
      let reads = reads_of setting.inputs p in
      let k = and_parts (setting.written store.func (value reads values store.x) (value reads values store.y))
      (list_all setting.loaded (store_loads reads values store)) sound in
      let u = and_parts (list_all setting.loaded (loads reads values store.x)) _
      (sym (list_all-append setting.loaded (loads reads values store.x) (loads reads values store.y ++ loads reads values store.value)) ∙ k.1) in
      let v = and_parts (list_all setting.loaded (loads reads values store.y)) (list_all setting.loaded (loads reads values store.value))
      (sym (list_all-append setting.loaded (loads reads values store.y) (loads reads values store.value)) ∙ u.1) in
      let bx = all-bytes setting memory funcs holds p (loads reads values store.x) u.0 in
      let by = all-bytes setting memory funcs holds p (loads reads values store.y) v.0 in
      let bv = all-bytes setting memory funcs holds p (loads reads values store.value) v.1 in
      record {
        func_is = is.func_is;
        x_is = is.column.value_is reads values below bx;
        y_is = is.row.value_is reads values below by;
        value_is = is.pixel.value_is reads values below bv;
        x_loads = is.column.loads_are reads values below bx;
        y_loads = is.row.loads_are reads values below by;
        value_loads = is.pixel.loads_are reads values below bv;
      }

  sound-unclamped : SoundIn setting (s.Store store) values → SoundIn setting (s.Store new_store) values
  sound-unclamped sound p words =
      let reads = reads_of setting.inputs p in
      let e = sym (sound_store reads setting.written setting.loaded store values) ∙ sound p words in
      sound_store reads setting.written setting.loaded new_store values ∙ sound-same reads values store new_store setting.written setting.loaded (are-same p e) ∙ e

  here-same : SoundIn setting (s.Store store) values → AreSame (reads_of setting.inputs funcs) values store new_store
  here-same sound =
      are-same funcs (sym (sound_store (reads_of setting.inputs funcs) setting.written setting.loaded store values) ∙ sound funcs holds.are_words)

pub made-is : (places : Places) (context : Context) (known : List KnownSum) (bounds : List Bound) (names : List Named) (store first second new_store : Store)
    → known ≡ context.known.items → bounds ≡ context.bounds.items → names ≡ context.names.items → IsSameStore known store first
    → clamps.IsSameStore places bounds first second → IsNamedStore names second new_store → IsMadeStore places context store new_store
made-is places context known bounds names store first second new_store ek eb en one two three = record {
  first = first;
  second = second;
  by_others = subst (λ k. IsSameStore k store first) ek one;
  without_clamps = subst (λ b. clamps.IsSameStore places b first second) eb two;
  by_names = subst (λ n. IsNamedStore n second new_store) en three;
}

pub made-emits : (places : Places) (scope : List Held) (context : Context) (store final : Store) (c0 c1 : List ℕ) → IsPlainStore store
    → IsMadeStore places context store final → MakesStore c0 c1 places scope final → EmitsStatement c0 c1 places scope (Meets context) (s.Store store)
made-emits places scope context store final c0 c1 simple m x = record {
  insns = x.insns;
  emits = x.emits;
  turns = λ named. length x.insns;
  does = λ own good at values named named-are holders meets may f memory funcs holds knows.
      let known = context.known.items in
      let bounds = context.bounds.items in
      let names = context.names.items in
      let made = m.first in
      let last = m.second in
      let is = m.by_others in
      let called = m.by_names in
      let are = meets.known in
      let below = meets.below in
      let all = meets.named in
      let plain-here = subst (λ ps. clamps.IsSameStore ps bounds made last) (sym at) m.without_clamps in
      let sound = sound-made (AreKnown known) store made is named are own (sound-plain store simple values named named-are own may.sound) in
      let sure = runs-made (AreKnown known) store made is named are own (runs-plain store simple values named named-are own may.in_runs) in
      let same = here-same own named bounds below memory funcs holds made last plain-here sound in
      let last-sound = sound-unclamped own named bounds below memory funcs holds made last plain-here sound in
      let last-sure = runs-same own named made last plain-here.func_is sure in
      did-is refl
      (run-made (AreNames names) last final called named all own funcs ∙ run-same own named made last funcs same
      ∙ run-made (AreKnown known) store made is named are own funcs ∙ run-plain store simple values named named-are own funcs)
      (λ func i j hit.
      stored-made (AreNames names) last final called named all own funcs func i j ∙ stored-same own named made last funcs func i j same
      ∙ stored-made (AreKnown known) store made is named are own funcs func i j ∙ stored-plain store simple values named named-are own funcs func i j ∙ hit)
      (x.does own good at named (sound-made (AreNames names) last final called named all own last-sound)
      (runs-made (AreNames names) last final called named all own last-sure) holders f memory funcs holds knows);
}

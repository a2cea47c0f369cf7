-- A store by numbered variables is the store that they stand in.
use Rattle.std.proofs.Common.{◌≡◌, ℕ, ◌≤◌, Bool, List, ◌++◌, length, refl, ap, ◌∙◌, sym, arith}
use Rattle.std.specs.Prelude.{◌==◌, ◌&&◌, not}
use Rattle.std.specs.List.{list_all}
use Rattle.halide_pipeline.specs.Pixel.{Planes, Reads, reads_of}
use Rattle.halide_pipeline.specs.Points.{Point}
use Rattle.loop_ir.specs.declared.expressions.Counter.{Counter}
use Rattle.loop_ir.specs.declared.statements.Store.{Store}
use Rattle.loop_ir.specs.declared.statements.Stmt.TheVariants as s
use Rattle.loop_ir.specs.Buffers.{Points, put}
use Rattle.loop_ir.specs.Counters.{Values}
use Rattle.loop_ir.specs.Expressions.{value, loads}
use Rattle.loop_ir.specs.Runs.{Runs}
use Rattle.loop_ir.specs.Running.{run}
use Rattle.loop_ir.specs.Sizes.{store_size}
use Rattle.loop_ir.specs.Soundness.{is_sound_store}
use Rattle.loop_ir.proofs.Runs.{runs_store}
use Rattle.loop_ir.proofs.Sizes.{whole_store}
use Rattle.loop_ir.proofs.Sound.{sound_store}
use Rattle.loop_ir.proofs.Trees.{run_store}
use Rattle.task_code_scalar.specs.declared.layouts.Places.{Places}
use Rattle.task_code_scalar.specs.Doing.{Setting, SoundIn, RunsIn, stored_points}
use Rattle.task_code_scalar.proofs.Tracing.{hit-store}
use Rattle.task_code_registers.specs.declared.scopes.Held.{Held}
use Rattle.task_code_values.specs.Storing.{MakesStore, store_words}
use Rattle.task_code_statements.proofs.Following.{did-is}
use Rattle.task_code_variables.specs.Renaming.{IsRenamedStore, StandFor}
use Rattle.task_code_variables.specs.Statements.{AppendsStatement}

module _ (around : List Counter) (store new_store : Store) (is : IsRenamedStore around store new_store)
    (values numbers : Values)
    (stand : StandFor around values numbers) where
  same-sound : (reads : Reads) (written : Points) (loaded : Point → Bool)
      → is_sound_store reads written loaded new_store numbers ≡ is_sound_store reads written loaded store values
  same-sound reads written loaded =
      let x = value reads values store.x in
      let y = value reads values store.y in
      let one : written new_store.func (value reads numbers new_store.x) (value reads numbers new_store.y) ≡ written
      store.func x y =
      ap (λ k. written k (value reads numbers new_store.x) (value reads numbers new_store.y)) is.func_is
      ∙ ap (λ k. written store.func k (value reads numbers new_store.y)) (is.column.value_is values numbers stand reads)
      ∙ ap (written store.func x) (is.row.value_is values numbers stand reads) in
      ap (λ b. b && list_all loaded (loads reads numbers new_store.x ++ (loads reads numbers new_store.y ++ loads reads numbers new_store.value))) one
      ∙ ap (λ l. written store.func x y && list_all loaded (l ++ (loads reads numbers new_store.y ++ loads reads numbers new_store.value)))
      (is.column.loads_are values numbers stand reads)
      ∙ ap (λ l. written store.func x y && list_all loaded (loads reads values store.x ++ (l ++ loads reads numbers new_store.value)))
      (is.row.loads_are values numbers stand reads)
      ∙ ap (λ l. written store.func x y && list_all loaded (loads reads values store.x ++ (loads reads values store.y ++ l)))
      (is.pixel.loads_are values numbers stand reads)

  module _ (setting : Setting) where
    pub sound-renamed : SoundIn setting (s.Store store) values → SoundIn setting (s.Store new_store) numbers
    sound-renamed sound p words =
        let reads = reads_of setting.inputs p in
        sound_store reads setting.written setting.loaded new_store numbers ∙ same-sound reads setting.written
        setting.loaded
        ∙ sym (sound_store reads setting.written setting.loaded store values) ∙ sound p words

    runs-renamed : RunsIn setting (s.Store store) values → RunsIn setting (s.Store new_store) numbers
    runs-renamed sure p words func in_runs x y =
        let reads = reads_of setting.inputs p in
        ap (λ (r : Runs). r.are_runs numbers) (runs_store reads func x y (setting.run func x y) new_store)
        ∙ ap (λ k. not (k == func)) is.func_is
        ∙ sym (ap (λ (r : Runs). r.are_runs values) (runs_store reads func x y (setting.run func x y) store))
        ∙ sure p words func in_runs x y

    run-renamed : (funcs : Planes) → run setting.points setting.inputs (s.Store new_store) numbers funcs ≡ run setting.points setting.inputs (s.Store store) values funcs
    run-renamed funcs =
        let reads = reads_of setting.inputs funcs in
        run_store setting.points setting.inputs new_store numbers funcs
        ∙ ap (λ k. put setting.points k (value reads numbers new_store.x) (value reads numbers new_store.y) (value reads numbers new_store.value) funcs) is.func_is
        ∙ ap (λ k. put setting.points store.func k (value reads numbers new_store.y)
        (value reads numbers new_store.value) funcs)
        (is.column.value_is values numbers stand reads)
        ∙ ap (λ k. put setting.points store.func (value reads values store.x) k (value reads numbers new_store.value)
        funcs)
        (is.row.value_is values numbers stand reads)
        ∙ ap (λ k. put setting.points store.func (value reads values store.x) (value reads values store.y) k funcs)
        (is.pixel.value_is values numbers stand reads)
        ∙ sym (run_store setting.points setting.inputs store values funcs)

    stored-renamed : (funcs : Planes) (func x y : ℕ)
        → stored_points setting (s.Store new_store) numbers funcs func x y ≡ stored_points setting (s.Store store) values funcs func x y
    stored-renamed funcs func x y =
        let reads = reads_of setting.inputs funcs in
        hit-store setting.points setting.inputs func x y new_store numbers funcs
        ∙ ap (λ k. k == func && (value reads numbers new_store.x == x && value reads numbers new_store.y == y))
        is.func_is
        ∙ ap (λ k. store.func == func && (k == x && value reads numbers new_store.y == y)) (is.column.value_is values numbers stand reads)
        ∙ ap (λ k. store.func == func && (value reads values store.x == x && k == y)) (is.row.value_is values numbers stand reads)
        ∙ sym (hit-store setting.points setting.inputs func x y store values funcs)

pub fewer-words : (around : List Counter) (store new_store : Store) → IsRenamedStore around store new_store → store_words new_store ≤ store_size store
fewer-words around store new_store is =
    let x = is.column.short in
    let y = is.row.short in
    let v = is.pixel.short in
    omega (arith, x, y, v)

pub store-appends : (places : Places) (scope : List Held) (around : List Counter) (store new_store : Store) (c0 c1 : List ℕ) → IsRenamedStore around store new_store
    → MakesStore c0 c1 places scope new_store → AppendsStatement c0 c1 places scope around (s.Store store)
store-appends places scope around store new_store c0 c1 is x = record {
  insns = x.insns;
  emits = x.emits;
  short =
      let k = x.short in
      let n = fewer-words around store new_store is in
      let w = whole_store store in
      omega (arith, k, n, w);
  turns = λ numbers. length x.insns;
  does = λ own good at values numbers stand holders may f memory funcs holds knows.
      did-is refl (run-renamed around store new_store is values numbers stand own funcs)
      (λ func i j hit. stored-renamed around store new_store is values numbers stand own funcs func i j ∙ hit)
      (x.does own good at numbers (sound-renamed around store new_store is values numbers stand own may.sound)
      (runs-renamed around store new_store is values numbers stand own may.in_runs) holders f memory funcs holds knows);
}

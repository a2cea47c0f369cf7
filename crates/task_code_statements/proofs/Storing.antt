-- A store by other loop variables than the known ones is that store.
use Rattle.std.proofs.Common.{◌≡◌, ℕ, List, ◌++◌, Bool, ap, ◌∙◌, sym, subst}
use Rattle.std.specs.Prelude.{◌==◌, ◌&&◌, not}
use Rattle.std.specs.List.{list_all}
use Rattle.halide_pipeline.specs.Pixel.{Planes, Reads, reads_of}
use Rattle.halide_pipeline.specs.Points.{Point}
use Rattle.loop_ir.specs.declared.statements.Store.{Store}
use Rattle.loop_ir.specs.declared.statements.Stmt.{Stmt}
use Rattle.loop_ir.specs.declared.statements.Stmt.TheVariants as s
use Rattle.loop_ir.specs.Buffers.{Points, put}
use Rattle.loop_ir.specs.Counters.{Values}
use Rattle.loop_ir.specs.Expressions.{value, loads}
use Rattle.loop_ir.specs.Runs.{Runs}
use Rattle.loop_ir.specs.Running.{run}
use Rattle.loop_ir.specs.Soundness.{is_sound_store}
use Rattle.loop_ir.proofs.Runs.{runs_store}
use Rattle.loop_ir.proofs.Sound.{sound_store}
use Rattle.loop_ir.proofs.Trees.{run_store}
use Rattle.task_code_scalar.specs.declared.layouts.Places.{Places}
use Rattle.task_code_scalar.specs.Doing.{Setting, SoundIn, RunsIn, stored_points}
use Rattle.task_code_scalar.proofs.Tracing.{hit-store}
use Rattle.task_code_registers.specs.declared.scopes.Held.{Held}
use Rattle.task_code_names.specs.Alike.{IsAlikeStore}
use Rattle.task_code_statements.specs.Statements.{EmitsStatement}

module _ (is_so : Values → Type 0) (store new_store : Store) (is : IsAlikeStore is_so store new_store) (values : Values) (are : is_so values) where
  pub same-sound : (reads : Reads) (written : Points) (loaded : Point → Bool)
      → is_sound_store reads written loaded new_store values ≡ is_sound_store reads written loaded store values
  same-sound reads written loaded =
      let x = value reads values store.x in
      let y = value reads values store.y in
      let one : written new_store.func (value reads values new_store.x) (value reads values new_store.y) ≡ written
      store.func x y =
      ap (λ k. written k (value reads values new_store.x) (value reads values new_store.y)) is.func_is
      ∙ ap (λ k. written store.func k (value reads values new_store.y)) (is.column.value_is reads values are)
      ∙ ap (written store.func x) (is.row.value_is reads values are) in
      ap (λ b. b && list_all loaded (loads reads values new_store.x ++ (loads reads values new_store.y ++ loads reads values new_store.value))) one
      ∙ ap (λ l. written store.func x y && list_all loaded (l ++ (loads reads values new_store.y ++ loads reads values new_store.value))) (is.column.loads_are
      reads values are)
      ∙ ap (λ l. written store.func x y && list_all loaded (loads reads values store.x ++ (l ++ loads reads values new_store.value))) (is.row.loads_are reads
      values are)
      ∙ ap (λ l. written store.func x y && list_all loaded (loads reads values store.x ++ (loads reads values store.y ++ l))) (is.pixel.loads_are reads
      values are)

  module _ (setting : Setting) where
    pub sound-made : SoundIn setting (s.Store store) values → SoundIn setting (s.Store new_store) values
    sound-made sound p words =
        let reads = reads_of setting.inputs p in
        sound_store reads setting.written setting.loaded new_store values ∙ same-sound reads setting.written
        setting.loaded
        ∙ sym (sound_store reads setting.written setting.loaded store values) ∙ sound p words

    pub runs-made : RunsIn setting (s.Store store) values → RunsIn setting (s.Store new_store) values
    runs-made sure p words func in_runs x y =
        let reads = reads_of setting.inputs p in
        ap (λ (r : Runs). r.are_runs values) (runs_store reads func x y (setting.run func x y) new_store)
        ∙ ap (λ k. not (k == func)) is.func_is
        ∙ sym (ap (λ (r : Runs). r.are_runs values) (runs_store reads func x y (setting.run func x y) store))
        ∙ sure p words func in_runs x y

    pub run-made : (funcs : Planes) → run setting.points setting.inputs (s.Store new_store) values funcs ≡ run setting.points setting.inputs (s.Store store) values funcs
    run-made funcs =
        let reads = reads_of setting.inputs funcs in
        run_store setting.points setting.inputs new_store values funcs
        ∙ ap (λ k. put setting.points k (value reads values new_store.x) (value reads values new_store.y) (value reads values new_store.value) funcs) is.func_is
        ∙ ap (λ k. put setting.points store.func k (value reads values new_store.y) (value reads values new_store.value) funcs) (is.column.value_is reads values are)
        ∙ ap (λ k. put setting.points store.func (value reads values store.x) k (value reads values new_store.value) funcs) (is.row.value_is reads values are)
        ∙ ap (λ k. put setting.points store.func (value reads values store.x) (value reads values store.y) k funcs) (is.pixel.value_is reads values are)
        ∙ sym (run_store setting.points setting.inputs store values funcs)

    pub stored-made : (funcs : Planes) (func x y : ℕ)
        → stored_points setting (s.Store new_store) values funcs func x y ≡ stored_points setting (s.Store store) values funcs func x y
    stored-made funcs func x y =
        let reads = reads_of setting.inputs funcs in
        hit-store setting.points setting.inputs func x y new_store values funcs
        ∙ ap (λ k. k == func && (value reads values new_store.x == x && value reads values new_store.y == y)) is.func_is
        ∙ ap (λ k. store.func == func && (k == x && value reads values new_store.y == y)) (is.column.value_is reads values are)
        ∙ ap (λ k. store.func == func && (value reads values store.x == x && k == y)) (is.row.value_is reads values are)
        ∙ sym (hit-store setting.points setting.inputs func x y store values funcs)

pub arm : (places : Places) (scope : List Held) (is_so : Values → Type 0) (statement x : Stmt) (c0 c1 : List ℕ)
    → statement ≡ x
    → EmitsStatement c0 c1 places scope is_so x → EmitsStatement c0 c1 places scope is_so statement
arm places scope is_so statement x c0 c1 is e = subst (λ y. EmitsStatement c0 c1 places scope is_so y) (sym is) e

-- What a store without names does depends on no name.
use Rattle.std.proofs.Common.{◌≡◌, ℕ, ◌++◌, Bool, ap, ◌∙◌, sym}
use Rattle.std.specs.Prelude.{◌==◌, ◌&&◌}
use Rattle.std.specs.List.{list_all}
use Rattle.halide_pipeline.specs.Pixel.{Planes, Reads, reads_of}
use Rattle.halide_pipeline.specs.Points.{Point}
use Rattle.loop_ir.specs.declared.statements.Store.{Store}
use Rattle.loop_ir.specs.declared.statements.Stmt.TheVariants as s
use Rattle.loop_ir.specs.Buffers.{Points, put}
use Rattle.loop_ir.specs.Counters.{Values}
use Rattle.loop_ir.specs.Expressions.{value, loads}
use Rattle.loop_ir.specs.Running.{run}
use Rattle.loop_ir.specs.Runs.{Runs}
use Rattle.loop_ir.specs.Soundness.{is_sound_store}
use Rattle.loop_ir.proofs.Runs.{runs_store}
use Rattle.loop_ir.proofs.Sound.{sound_store}
use Rattle.loop_ir.proofs.Trees.{run_store}
use Rattle.task_code_scalar.specs.Doing.{Setting, SoundIn, RunsIn, stored_points}
use Rattle.task_code_scalar.proofs.Tracing.{hit-store}
use Rattle.task_code_vector_loops.specs.Naming.{AreNamed}
use Rattle.task_code_statements.specs.Plain.{IsPlainStore}

module _ (store : Store) (plain : IsPlainStore store) (values named : Values) (are : AreNamed values named) where
  pub plain-sound : (reads : Reads) (written : Points) (loaded : Point → Bool)
      → is_sound_store reads written loaded store named ≡ is_sound_store reads written loaded store values
  plain-sound reads written loaded =
      let x = value reads values store.x in
      let y = value reads values store.y in
      ap (λ k. written store.func k (value reads named store.y)
      && list_all loaded (loads reads named store.x ++ (loads reads named store.y ++ loads reads named store.value))) (plain.column.value_is reads values named
      are)
      ∙ ap (λ k. written store.func x k
      && list_all loaded (loads reads named store.x ++ (loads reads named store.y ++ loads reads named store.value))) (plain.row.value_is reads values named
      are)
      ∙ ap (λ k. written store.func x y && list_all loaded (k ++ (loads reads named store.y ++ loads reads named store.value))) (plain.column.loads_are
      reads values named are)
      ∙ ap (λ k. written store.func x y && list_all loaded (loads reads values store.x ++ (k ++ loads reads named store.value))) (plain.row.loads_are reads
      values named are)
      ∙ ap (λ k. written store.func x y && list_all loaded (loads reads values store.x ++ (loads reads values store.y ++ k))) (plain.pixel.loads_are reads
      values named are)

  module _ (setting : Setting) where
    pub sound-plain : SoundIn setting (s.Store store) values → SoundIn setting (s.Store store) named
    sound-plain sound p words =
        let reads = reads_of setting.inputs p in
        sound_store reads setting.written setting.loaded store named ∙ plain-sound reads setting.written setting.loaded
        ∙ sym (sound_store reads setting.written setting.loaded store values) ∙ sound p words

    pub runs-plain : RunsIn setting (s.Store store) values → RunsIn setting (s.Store store) named
    runs-plain sure p words func in_runs x y =
        let reads = reads_of setting.inputs p in
        ap (λ (r : Runs). r.are_runs named) (runs_store reads func x y (setting.run func x y) store)
        ∙ sym (ap (λ (r : Runs). r.are_runs values) (runs_store reads func x y (setting.run func x y) store))
        ∙ sure p words func in_runs x y

    pub run-plain : (funcs : Planes) → run setting.points setting.inputs (s.Store store) named funcs ≡ run setting.points setting.inputs (s.Store store) values funcs
    run-plain funcs =
        let reads = reads_of setting.inputs funcs in
        run_store setting.points setting.inputs store named funcs
        ∙ ap (λ k. put setting.points store.func k (value reads named store.y) (value reads named store.value) funcs) (plain.column.value_is reads values named are)
        ∙ ap (λ k. put setting.points store.func (value reads values store.x) k (value reads named store.value) funcs) (plain.row.value_is reads values named are)
        ∙ ap (λ k. put setting.points store.func (value reads values store.x) (value reads values store.y) k funcs) (plain.pixel.value_is reads values named are)
        ∙ sym (run_store setting.points setting.inputs store values funcs)

    pub stored-plain : (funcs : Planes) (func x y : ℕ)
        → stored_points setting (s.Store store) named funcs func x y ≡ stored_points setting (s.Store store) values funcs func x y
    stored-plain funcs func x y =
        let reads = reads_of setting.inputs funcs in
        hit-store setting.points setting.inputs func x y store named funcs
        ∙ ap (λ k. store.func == func && (k == x && value reads named store.y == y)) (plain.column.value_is reads values named are)
        ∙ ap (λ k. store.func == func && (value reads values store.x == x && k == y)) (plain.row.value_is reads values named are)
        ∙ sym (hit-store setting.points setting.inputs func x y store values funcs)

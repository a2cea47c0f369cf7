-- The store of a pure definition loads no point of its own Func; each store is one.
use Rattle.std.proofs.Common.{◌≡◌, ℕ, Bool, true, false, List, [], ◌∷◌, ◌++◌, Some, None, refl, ap, ◌∙◌, arith}
use Rattle.std.specs.Prelude.{slice_get}
use Rattle.std.specs.List.{AllByRecursion, list_all}
use Rattle.std.proofs.lemmas.Bool.{ne_eqb}
use Rattle.halide_pipeline.specs.declared.definitions.Func.{Func}
use Rattle.halide_pipeline.specs.declared.expressions.Source.{Source}
use Rattle.halide_pipeline.specs.declared.expressions.Source.TheVariants as sources
use Rattle.halide_pipeline.specs.declared.expressions.Variable.TheVariants as variables
use Rattle.halide_pipeline.specs.WellFormed.{dimensions, IsWellFormed, is_argument}
use Rattle.halide_pipeline.specs.Pipelines.{Pipeline}
use Rattle.halide_pipeline.specs.Words as word
use Rattle.halide_pipeline.specs.Pixel.{Reads, at_point}
use Rattle.halide_pipeline.specs.Points.{Point, Hold}
use Rattle.schedule_lines.specs.declared.stages.Loop.{Loop}
use Rattle.schedule_lines.specs.declared.stages.Stage.{Stage}
use Rattle.schedule.specs.declared.schedules.Schedule.{Schedule}
use Rattle.schedule_loops.specs.declared.extents.Extents.{Extents}
use Rattle.schedule_loops.specs.Stages.{IsStageOf, KeepsRules}
use Rattle.bounds_inlining.specs.Inlining.{inlined}
use Rattle.bounds_inlining.specs.Laws.{seen_variable}
use Rattle.bounds_inlining.specs.Values.{seeing}
use Rattle.bounds_laws.proofs.PutIn.{flags}
use Rattle.bounds_laws.proofs.StayingReads.{IsBelow, AreBelow, within}
use Rattle.loop_ir.specs.declared.statements.Stmt.{Stmt}
use Rattle.loop_ir.specs.declared.statements.Stmt.TheVariants as s
use Rattle.loop_ir.specs.declared.statements.Store.{Store}
use Rattle.loop_ir.specs.Counters.{Values}
use Rattle.loop_ir.specs.Expressions.{linear_value}
use Rattle.loop_ir.specs.LoopLanes.{LoopLanes, everywhere, all_points, all_but, is_source_of}
use Rattle.loop_ir.specs.Soundness.{is_sound, store_loads}
use Rattle.loop_ir.proofs.LoopLanes.{lanes_store}
use Rattle.loop_ir.proofs.Sound.{sound_store}
use Rattle.lowering_nests.specs.LoopLanes.{IsLeaf, LoadsNoneOf, MayBeUnder}
use Rattle.schedule_loops.specs.Runs.{is_vectorized_loop}
use Rattle.lowering_expressions.specs.declared.calls.Corner.{Corner}
use Rattle.lowering_expressions.specs.Lowering.{placed, place as place_in}
use Rattle.lowering.specs.PurePhases.{IsSoundPure, whole_at}
use Rattle.lowering.proofs.UpdateLanes.{source_stays, all_hold, missed_elsewhere}
use Rattle.lowering.proofs.VectorLoops.{vectorized, others_are}

-- ---- a store is one

pub store_leaf : (store : Store) → IsLeaf (s.Store store)
store_leaf store = record {
  once = λ reads. ap (λ (loop_lanes : LoopLanes). loop_lanes.is_one_store) (lanes_store reads store);
  steps_up = λ reads now next small_now small_next never. ap (λ (loop_lanes : LoopLanes). loop_lanes.steps_up now next) (lanes_store reads store);
  at_once = λ reads values. ap (λ (loop_lanes : LoopLanes). loop_lanes.may_be_at_once values) (lanes_store reads store);
  touches = λ reads values. sound_store reads everywhere all_points store values ∙ all_pass (store_loads reads values store);
}
  where
    all_pass : (points : List Point) → list_all all_points points ≡ true
    all_pass [] = refl
    all_pass (point ∷ points) = all_pass points

-- ---- a pure definition reads Funcs before it alone

no_source : (func_index : ℕ) (source : Source) → IsBelow func_index source → is_source_of func_index source ≡ false
no_source func_index (sources.Input input) below = refl
no_source func_index (sources.Func func) below = ne_eqb func func_index
    (λ (e : func ≡ func_index). absurd (omega (arith, below, e)))

module _ (pipeline : Pipeline) (schedule : Schedule) (rules : IsWellFormed pipeline) (func_index : ℕ) (func : Func) (func_is : slice_get pipeline.funcs func_index
    ≡ Some func)
    (corners : List Corner) (corner : Corner) (store : Stmt) (sound : IsSoundPure corners (flags pipeline schedule) pipeline.funcs func_index corner func.pure store)
  where
    module _ (reads : Reads) (earlier later : Values) where
      abbrev read_at : Values → List Point
      read_at now =
          (inlined (seeing (placed corners now reads)) (flags pipeline schedule) pipeline.funcs func_index
          (seen_variable (at_point (word.add (whole_at now func_index variables.FirstArgument)
          (linear_value now corner.x))
          (word.add (whole_at now func_index variables.SecondArgument) (linear_value now corner.y)))) func.pure).points

      below : AreBelow func_index (read_at later)
      below =
          within (placed corners later reads) (flags pipeline schedule) pipeline.inputs pipeline.funcs rules.funcs func_index func_index (omega arith)
          (is_argument (dimensions func))
          (seen_variable (at_point (word.add (whole_at later func_index variables.FirstArgument) (linear_value later corner.x))
          (word.add (whole_at later func_index variables.SecondArgument) (linear_value later corner.y))))
          (λ v. tt) func.pure (rules.funcs func_index func func_is).pure

      abbrev passes : Point → Bool
      passes point = is_sound reads (all_but point) all_points store earlier

      one_missed : (source : Source) (a b : ℕ) → IsBelow func_index source → passes (place_in corners later (record { source = source; x = a; y = b })) ≡ true
      one_missed source a b below_it =
          sound reads (all_but (place_in corners later (record { source = source; x = a; y = b }))) all_points earlier
          (missed_elsewhere func_index (whole_at earlier func_index variables.FirstArgument) (whole_at earlier func_index variables.SecondArgument)
          (place_in corners later (record { source = source; x = a; y = b }))
          (ap (is_source_of func_index) (source_stays corners later source a b) ∙ no_source func_index source below_it))
          (all_hold (λ own. all_points (place_in corners earlier own)) (λ own. refl) (read_at earlier))

      all_missed : (list : List Point) → AreBelow func_index list → Hold (λ own. passes (place_in corners later own))
          list
      all_missed [] are = tt
      all_missed (own ∷ list) are = (one_missed own.source own.x own.y are.0, all_missed list are.1)

      pub loads_none : LoadsNoneOf reads store earlier later
      loads_none = sound reads everywhere passes later refl (all_missed (read_at later) below)

    pub pure_under : (extents : Extents) (stage : Stage) (is : IsStageOf func None stage) (kept : KeepsRules stage) (inside outside : List Loop)
        → stage.loops ≡ inside ++ outside → MayBeUnder func_index extents stage.splits inside outside store
    pure_under extents stage is kept [] outside loops_are = tt
    pure_under extents stage is kept (own ∷ inside) outside loops_are = (
      λ e. record {
        count = (vectorized func None extents stage is kept own (inside ++ outside) loops_are e).count;
        apart = λ reads values small are earlier later before last one other one_is other_is. loads_none reads _ _;
      },
      inside_only inside outside (others_are func None extents stage is kept own (inside ++ outside) loops_are),
    )
      where
        inside_only : (inside outside : List Loop) → AllByRecursion (λ other. is_vectorized_loop other ≡ false) (inside ++ outside)
            → AllByRecursion (λ other. is_vectorized_loop other ≡ false) inside
        inside_only [] outside all = tt
        inside_only (one ∷ inside) outside all = (all.0, inside_only inside outside all.1)

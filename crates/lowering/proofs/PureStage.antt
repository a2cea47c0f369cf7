-- The phase of a pure definition is that of a Func's first stage.
use Rattle.std.proofs.Common.{◌≡◌, ℕ, Bool, List, refl, ap, subst, ◌∙◌}
use Rattle.std.specs.Prelude.{◌&&◌}
use Rattle.halide_pipeline.specs.declared.definitions.Func.{Func}
use Rattle.halide_pipeline.specs.Pipelines.{Pipeline}
use Rattle.halide_pipeline.specs.Pixel.{Plane, Planes, with_plane, pure_plane, stage, pixels}
use Rattle.schedule.specs.declared.plans.FuncPlan.{FuncPlan}
use Rattle.schedule.specs.declared.schedules.Schedule.{Schedule}
use Rattle.schedule.specs.declared.placements.FuncPlacement.{FuncPlacement}
use Rattle.schedule.specs.Uses.{IsReached}
use Rattle.bounds.specs.declared.boxes.SourceBox.{SourceBox}
use Rattle.bounds.specs.declared.verdict.Boxes.{Boxes}
use Rattle.bounds.specs.Extents.{extents_of}
use Rattle.loop_ir.specs.declared.statements.Phase.{Phase}
use Rattle.loop_ir.specs.Running.{run_task}
use Rattle.lowering.specs.Phases.{DoesPhase}
use Rattle.lowering.specs.Planes.{held, box_points}
use Rattle.schedule_loops.specs.Visits.{owns}
use Rattle.lowering.specs.PurePhases.{DoesPure, ProducedArePrivate, RootsAreShared}
use Rattle.lowering.specs.Stages.{is_private, is_private_in, is_at_loop, DoesStage}

found_is : (standings : List FuncPlacement) (func_index : ℕ) (placement : FuncPlacement) → IsReached standings func_index placement → is_private standings func_index ≡ is_at_loop placement.place
found_is standings func_index placement there = ap is_private_in there.standing ∙ ap (λ (b : Bool). b && is_at_loop placement.place) there.reached

roots_are_shared : (standings : List FuncPlacement) → RootsAreShared standings (is_private standings)
roots_are_shared standings other own there root = found_is standings other own there ∙ ap is_at_loop root

produced_are_private : (standings : List FuncPlacement) (consumer : ℕ) → ProducedArePrivate standings (is_private standings) consumer
produced_are_private standings consumer place own at there placed same = found_is standings place own there ∙ ap is_at_loop placed

first_stage : (func_index : ℕ) (func : Func) (inputs earlier : Planes) → pure_plane func.pure inputs earlier ≡ stage func_index func inputs earlier 0
unfolding stage
first_stage func_index func inputs earlier = refl

pub does_stage : (pipeline : Pipeline) (schedule : Schedule) (boxes : Boxes) (func_index : ℕ) (func : Func) (plan : FuncPlan) (source_box : SourceBox) (phase : Phase)
    → DoesPure pipeline schedule boxes func_index func plan source_box phase
    → DoesStage pipeline schedule boxes func_index func 0 (owns (extents_of source_box) plan.pure) phase
does_stage pipeline schedule boxes func_index func plan source_box phase does inputs begun =
    subst (λ (p : Plane). DoesPhase (box_points boxes.funcs) (is_private schedule.standings) func_index (held boxes.funcs (pixels pipeline.funcs inputs func_index))
    (held boxes.funcs (with_plane func_index p (pixels pipeline.funcs inputs func_index))) phase.tasks (owns (extents_of source_box) plan.pure)
    (run_task (box_points boxes.funcs) inputs phase))
    (first_stage func_index func inputs (pixels pipeline.funcs inputs func_index))
    (does (is_private schedule.standings) (roots_are_shared schedule.standings) (produced_are_private schedule.standings func_index) inputs begun)

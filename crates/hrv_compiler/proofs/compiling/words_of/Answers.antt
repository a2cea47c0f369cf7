use Rattle.std.proofs.Common.{◌≡◌, ◌≤◌, ◌*◌, List, length, subst, sym}
use Rattle.halide_pipeline.specs.Pipelines.{Pipeline}
use Rattle.schedule.specs.declared.schedules.Schedule.{Schedule}
use Rattle.bounds.specs.declared.verdict.Boxes.{Boxes}
use Rattle.bounds_weights.specs.Weight.{weight}
use Rattle.lowering.specs.Lowered.{AreLowered}
use Rattle.lowering.specs.Registers.{TakeFew}
use Rattle.lowering.specs.Sizes as sizes
use Rattle.std.specs.List.{AllByRecursion}
use Rattle.loop_ir.specs.declared.statements.Phase.{Phase}
use Rattle.task_code_scalar.specs.declared.layouts.Places.{Places}
use Rattle.task_code_scalar.specs.Faults.{LieLow}
use Rattle.memory.specs.Access.{most_words}
use Rattle.vector_codegen_laws.specs.Programs.{HasFewTasks, HasRegisters, IsProgramTo, words_asked}
use Rattle.hrv_compiler.proofs.Rooms.{ask_for_few, lie_low, have_few_tasks, have_registers}
use Rattle.hrv_compiler.proofs.compiling.words_of.Goals as goal

-- what is so of the parts that were lent is so of those of the plan
of_plan : {pipeline own : Pipeline} {schedule its : Schedule} {boxes held : Boxes} (So : Pipeline → Schedule → Boxes → Type 0)
    → pipeline ≡ own → schedule ≡ its → boxes ≡ held → So pipeline schedule boxes → So own its held
of_plan {own = own} {schedule = schedule} {its = its} {boxes = boxes} So first second third so =
    subst (λ (b : Boxes). So own its b) third (subst (λ (s : Schedule). So own s boxes) second (subst (λ (p : Pipeline). So p schedule boxes) first so))

pub generated-requires-clause-low : goal.generated-requires-clause-low
generated-requires-clause-low c =
    subst (λ (p : Places). LieLow p.frames) (sym c.in_ok-places.ensures) (lie_low c.args.plan.now.pipeline c.args.plan.now.schedule c.args.plan.now.boxes
    c.boxes.ensures.plan.boxes)

pub generated-requires-clause-registers : goal.generated-requires-clause-registers
generated-requires-clause-registers c =
    subst (λ (l : List Phase). AllByRecursion (HasRegisters c.in_ok-places.places) l) (sym c.as_slice.ensures.value)
    (subst (λ (p : Places). AllByRecursion (HasRegisters p) c.in_ok-phases.phases.items) (sym c.in_ok-places.ensures)
    (have_registers c.args.plan.now.pipeline c.args.plan.now.schedule c.args.plan.now.boxes c.boxes.ensures.plan.boxes c.requires.shallow
    c.in_ok-phases.phases.items
    (of_plan (λ p s b. TakeFew p s c.in_ok-phases.phases.items) c.pipeline.ensures.value c.schedule.ensures.value c.boxes.ensures.value
    c.in_ok-phases.ensures.few)))

pub generated-requires-clause-tasks : goal.generated-requires-clause-tasks
generated-requires-clause-tasks c =
    subst (λ (l : List Phase). AllByRecursion HasFewTasks l) (sym c.as_slice.ensures.value)
    (have_few_tasks c.pipeline.result.now c.schedule.result.now c.in_ok-phases.phases.items c.in_ok-phases.ensures.few)

pub generated-requires-clause-short : goal.generated-requires-clause-short
generated-requires-clause-short c =
    subst (λ (l : List Phase). words_asked l ≤ most_words) (sym c.as_slice.ensures.value)
    (ask_for_few c.args.plan.now.pipeline c.args.plan.now.schedule c.requires.light c.in_ok-phases.phases.items
    (of_plan (λ p s b. sizes.words_of c.in_ok-phases.phases.items ≤ 64 * weight p s) c.pipeline.ensures.value c.schedule.ensures.value c.boxes.ensures.value
    c.in_ok-phases.ensures.light))

pub returns-clause-ok : goal.returns-clause-ok
returns-clause-ok c =
    let words = c.in_ok-program.program.words.items in
    let ends = c.in_ok-program.program.ends.items in
    let made =
    subst (λ (p : Places). IsProgramTo p c.in_ok-phases.phases.items words ends) c.in_ok-places.ensures
    (subst (λ (l : List Phase). IsProgramTo c.in_ok-places.places l words ends) c.as_slice.ensures.value c.in_ok-program.ensures.ok) in
    record {
      phases = c.in_ok-phases.phases.items;
      are_lowered = of_plan (λ p s b. AreLowered p s b (length p.funcs) c.in_ok-phases.phases.items) c.pipeline.ensures.value c.schedule.ensures.value
          c.boxes.ensures.value c.in_ok-phases.ensures.phases;
      is_program = made.program;
      ends_are = made.ends_are;
    }

-- A turn that writes a point of a vectorized Func writes the points of one run of its vectorized loop, and nothing else: those that its pure
-- definition visits while this loop takes all its values, guards obeyed, and its other loops stay.
--
-- It is said of Funcs at root without updates, and names no code. A vectorized loop is the innermost one of its stage: a schedule is refused else
-- (`schedule/specs/Legal.antt`).
-- This project's own.
use Rattle.std.specs.Prelude.{◌≡◌, ◌<◌, ◌≤◌, ℕ, true, List, []}
use Rattle.halide_pipeline.specs.declared.definitions.Func.{Func}
use Rattle.schedule.specs.declared.plans.FuncPlan.{FuncPlan}
use Rattle.bounds.specs.declared.boxes.SourceBox.{SourceBox}
use Rattle.bounds.specs.Extents.{extent, extents_of, point_address}
use Rattle.loader.specs.Image.{ImageContents}
use Rattle.multi_hart.specs.Run.{is_in, run}
use Rattle.bounds.specs.Stages.{IsAtRoot}
use Rattle.schedule_loops.specs.Runs.{is_vectorized_first}
use Rattle.vector_codegen_laws.specs.Runs.{IsOneRun}
use Rattle.work_sharing.specs.Turns.{written_next}
use Rattle.hrv_compiler.specs.Assigned.{byte_of_point}
use Rattle.hrv_compiler.specs.Compiled.{CompiledContents}
use Rattle.hrv_compiler.specs.Correct.{opening}

module _ (compiled_contents : CompiledContents) where
  -- The Func at a place is computed at root and has no updates, and the innermost loop of its pure definition is vectorized.
  pub record IsInVectors (func_index : ℕ) : Type 0 where
    pub func : Func
    pub plan : FuncPlan
    pub box : SourceBox
    pub at_root : IsAtRoot compiled_contents.pipeline compiled_contents.schedule compiled_contents.boxes func_index func
        plan box
    pub no_updates : func.updates ≡ []
    pub vectorized : is_vectorized_first plan.pure.loops ≡ true

  -- On 1 to 8 harts and after every list of turns: where a hart's next turn writes a byte of a point of such a Func, counted from the corner of its
  -- box, it writes one run.
  abbrev pub WritesWholeRuns : ImageContents → Type 0
  WritesWholeRuns image =
      (func_index : ℕ) (is : IsInVectors func_index) (harts : ℕ)
      → 0 < harts → harts ≤ 8 → (turns : List ℕ) (hart x y byte : ℕ) → x < extent is.box.x → y < extent is.box.y → byte < 4
      → is_in (byte_of_point compiled_contents.boxes func_index x y byte)
      (written_next (run (opening image harts) turns) hart) ≡ true
      → IsOneRun (point_address compiled_contents.boxes func_index) (extents_of is.box) is.plan.pure (written_next (run (opening image harts) turns) hart)

-- The text that says where everything of a program lies: a fact a line. This project's own.
use Rattle.std.specs.Prelude.{ℕ, zero, suc, List, [], ◌++◌}
use Rattle.halide_pipeline.specs.Pipelines.{Pipeline}
use Rattle.schedule.specs.declared.schedules.Schedule.{Schedule}
use Rattle.bounds.specs.declared.verdict.Boxes.{Boxes}
use Rattle.hrv_map.specs.declared.names.SourceNames.{SourceNames}
use Rattle.hrv_map.specs.declared.phases.CodePhase.{CodePhase}
use Rattle.hrv_map.specs.Lines.{control_line, frames_line, func_lines, input_lines}
use Rattle.hrv_map.specs.Names.{names_of}
use Rattle.hrv_map.specs.Phases.{phases_from, stages_from, tasks_each}
use Rattle.hrv_map.specs.Stages.{phase_lines}
use Rattle.task_code_statements.specs.declared.stages.CodeStage.{CodeStage}

-- of the first this many phases
unfoldable pub control_lines : ℕ → List ℕ
control_lines zero = []
control_lines (suc phase) = control_lines phase ++ control_line phase

-- where the parts of the data lie
unfoldable pub layout_text : SourceNames → Pipeline → Schedule → Boxes → List ℕ
layout_text names pipeline schedule boxes =
    control_lines boxes.layout.phases ++ input_lines names.inputs boxes.layout.inputs 0 pipeline.inputs
    ++ func_lines names.funcs schedule boxes 0 pipeline.funcs ++ frames_line boxes.layout

-- the phases in the order of their code, each of which ends at a word of the text
unfoldable pub phases_of : Pipeline → Schedule → Boxes → List ℕ → List CodePhase
phases_of pipeline schedule boxes ends =
    phases_from 0 0 (stages_from schedule boxes 0 pipeline.funcs) (tasks_each pipeline schedule boxes (stages_from schedule boxes 0 pipeline.funcs)) ends

-- the layout, the phases, and the stages inside of them
unfoldable pub text_of : SourceNames → Pipeline → Schedule → Boxes → List ℕ → List CodeStage → List ℕ
text_of names pipeline schedule boxes ends stages =
    layout_text names pipeline schedule boxes ++ phase_lines names.funcs (phases_of pipeline schedule boxes ends) stages

-- The text of a pipeline under a schedule, with the names that the algorithm's text gives.
abbrev pub map_text : List ℕ → Pipeline → Schedule → Boxes → List ℕ → List CodeStage → List ℕ
map_text algorithm pipeline schedule boxes ends stages = text_of (names_of algorithm) pipeline schedule boxes ends stages

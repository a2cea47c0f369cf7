-- The stages that are phases, and where the code of each lies. This project's own.
--
-- The phases are the stages of the Funcs that are computed at root, in order of the text: of each its pure definition, then its updates.
use Rattle.std.specs.Prelude.{ℕ, ◌+◌, ◌*◌, List, [], ◌∷◌, ◌++◌, codes, Option, Some, None, slice_get, unwrap_or}
use Rattle.std.specs.Fmt.{decimal}
use Rattle.memory.specs.Access.{text_start}
use Rattle.disassembler.specs.Listing.{hexadecimal_text}
use Rattle.halide_pipeline.specs.declared.definitions.Func.{Func}
use Rattle.halide_pipeline.specs.declared.definitions.Update.{Update}
use Rattle.halide_pipeline.specs.Pipelines.{Pipeline}
use Rattle.schedule_lines.specs.declared.stages.StageName.{StageName}
use Rattle.schedule.specs.declared.schedules.Schedule.{Schedule}
use Rattle.schedule.specs.declared.placements.ComputeLevel.{ComputeLevel}
use Rattle.schedule.specs.declared.placements.ComputeLevel.TheVariants as places
use Rattle.schedule.specs.declared.placements.FuncPlacement.{FuncPlacement}
use Rattle.bounds.specs.declared.boxes.SourceBox.{SourceBox}
use Rattle.bounds.specs.declared.verdict.Boxes.{Boxes}
use Rattle.bounds.specs.Extents.{box_in}
use Rattle.bounds.specs.Tasks.{tasks}
use Rattle.hrv_map.specs.declared.phases.CodePhase.{CodePhase}
use Rattle.hrv_map.specs.Lines.{newline}
use Rattle.hrv_map.specs.Names.{name_at}

-- ---- which stages there are

-- the updates of a Func from a place on
unfoldable pub updates_from : ℕ → ℕ → List Update → List StageName
updates_from func at [] = []
updates_from func at (update ∷ updates) = record { func = func; update = Some at } ∷ updates_from func (at + 1) updates

-- those of a Func at root, if it has a box
abbrev pub stages_in : ℕ → Func → Option SourceBox → List StageName
stages_in index func None = []
stages_in index func (Some own) = record { func = index; update = None } ∷ updates_from index 0 func.updates

abbrev pub stages_where : ℕ → Func → Option SourceBox → ComputeLevel → List StageName
stages_where index func source_box places.Root = stages_in index func source_box
stages_where index func source_box (places.At at) = []
stages_where index func source_box places.Inlined = []
stages_where index func source_box places.Nowhere = []

abbrev pub stages_if : ℕ → Func → Option SourceBox → Option FuncPlacement → List StageName
stages_if index func source_box None = []
stages_if index func source_box (Some standing) = stages_where index func source_box standing.place

module _ (schedule : Schedule) (boxes : Boxes) where
  -- of the Funcs from a place on
  unfoldable pub stages_from : ℕ → List Func → List StageName
  stages_from place [] = []
  stages_from place (func ∷ funcs) =
      stages_if place func (box_in (slice_get boxes.funcs place)) (slice_get schedule.standings place) ++ stages_from (place + 1) funcs

-- ---- their tasks and their code

module _ (pipeline : Pipeline) (schedule : Schedule) (boxes : Boxes) where
  -- how many tasks the phase of each stage has
  unfoldable pub tasks_each : List StageName → List ℕ
  tasks_each [] = []
  tasks_each (stage ∷ stages) = unwrap_or (tasks pipeline schedule boxes.funcs stage) 0 ∷ tasks_each stages

-- The phases with these stages and numbers of tasks, the first of which has this number and begins at this word of the text. Each ends at the word
-- that is given, where the next one begins.
unfoldable pub phases_from : ℕ → ℕ → List StageName → List ℕ → List ℕ → List CodePhase
phases_from number first [] counts ends = []
phases_from number first (stage ∷ stages) [] ends = []
phases_from number first (stage ∷ stages) (count ∷ counts) [] = []
phases_from number first (stage ∷ stages) (count ∷ counts) (end ∷ ends) =
    record { number = number; stage = stage; tasks = count; first = first; end = end } ∷ phases_from (number + 1) end stages counts ends

-- ---- their lines

-- nothing, or `.PLACE` of an update
abbrev pub update_text : Option ℕ → List ℕ
update_text None = []
update_text (Some at) = codes "." ++ decimal at

-- ` tasks N code FIRST BEHIND`, by the first word's address and that past the last
unfoldable pub code_text : CodePhase → List ℕ
code_text phase =
    update_text phase.stage.update ++ codes " tasks " ++ decimal phase.tasks ++ codes " code "
    ++ hexadecimal_text 8 (text_start + 4 * phase.first) ++ codes " " ++ hexadecimal_text 8 (text_start + 4 * phase.end) ++ newline

-- `phase PHASE stage NAME tasks N code FIRST BEHIND`
unfoldable pub phase_line : List (List ℕ) → CodePhase → List ℕ
phase_line names phase = (codes "phase " ++ decimal phase.number ++ codes " stage ") ++ name_at names phase.stage.func ++ code_text phase

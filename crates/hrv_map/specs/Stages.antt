-- The lines of phases, with those of the stages that are computed inside of them. This project's own.
--
-- Stages are given in the order of their code, each with words of the text. A line is printed of those alone whose words are inside their phase's.
use Rattle.std.specs.Prelude.{ℕ, ◌+◌, ◌*◌, Bool, false, ◌&&◌, if◌then◌else◌, nat_le, nat_lt, List, [], ◌∷◌, ◌++◌, codes}
use Rattle.std.specs.Fmt.{decimal}
use Rattle.memory.specs.Access.{text_start}
use Rattle.disassembler.specs.Listing.{hexadecimal_text}
use Rattle.task_code_statements.specs.declared.stages.CodeStage.{CodeStage}
use Rattle.hrv_map.specs.declared.phases.CodePhase.{CodePhase}
use Rattle.hrv_map.specs.Lines.{newline}
use Rattle.hrv_map.specs.Names.{name_at}
use Rattle.hrv_map.specs.Phases.{phase_line, update_text}

-- its words are some of the phase's
abbrev pub is_inside : CodePhase → CodeStage → Bool
is_inside phase stage = nat_le phase.first stage.first && nat_lt stage.first stage.end && nat_le stage.end phase.end

-- what is after the name: ` FIRST BEHIND`, by the first word's address and that past the last
unfoldable pub range_text : CodeStage → List ℕ
range_text code_stage =
    update_text code_stage.stage.update ++ codes " " ++ hexadecimal_text 8 (text_start + 4 * code_stage.first)
    ++ codes " " ++ hexadecimal_text 8 (text_start + 4 * code_stage.end) ++ newline

module _ (names : List (List ℕ)) where
  -- `code PHASE stage NAME FIRST BEHIND`
  unfoldable pub stage_line : CodePhase → CodeStage → List ℕ
  stage_line phase own = (codes "code " ++ decimal phase.number ++ codes " stage ") ++ name_at names own.stage.func ++ range_text own

  abbrev pub line_inside : CodePhase → CodeStage → List ℕ
  line_inside phase own = if is_inside phase own then stage_line phase own else []

-- of the first ones, up to one that begins after the phase
unfoldable pub stage_lines : List (List ℕ) → CodePhase → List CodeStage → List ℕ
stage_lines names phase [] = []
stage_lines names phase (own ∷ others) = if nat_lt own.first phase.end then line_inside names phase own ++ stage_lines names phase others else []

-- that one, and those after it
unfoldable pub stages_behind : CodePhase → List CodeStage → List CodeStage
stages_behind phase [] = []
stages_behind phase (own ∷ others) = if nat_lt own.first phase.end then stages_behind phase others else own ∷ others

-- of each phase its line, and those of the stages inside
unfoldable pub phase_lines : List (List ℕ) → List CodePhase → List CodeStage → List ℕ
phase_lines names [] stages = []
phase_lines names (phase ∷ phases) stages =
    phase_line names phase ++ stage_lines names phase stages ++ phase_lines names phases (stages_behind phase stages)

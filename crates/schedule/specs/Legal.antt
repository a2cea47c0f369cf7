-- What is wrong with the final loops of the Funcs that the output reaches, and with where these are computed.
--
-- The rules are judged in order: each is judged of all Funcs before the next one is. The line that is named is the
-- first of those that mark a loop which breaks the rule, or that compute a Func which does.
-- This project's own.
use Rattle.std.specs.Prelude.{ℕ, min, Bool, true, false, not, ◌&&◌, ◌||◌, ◌==◌, if◌then◌else◌, List, [], ◌∷◌, length, Option, Some, None}
use Rattle.schedule_lines.specs.declared.faults.ScheduleFault.{ScheduleFault}
use Rattle.schedule_lines.specs.declared.faults.ScheduleFault.TheVariants as fault
use Rattle.schedule.specs.declared.legality.LoopRule.{LoopRule}
use Rattle.schedule.specs.declared.legality.LoopRule.TheVariants as rules_of
use Rattle.schedule.specs.declared.plans.ComputeLine.{ComputeLine}
use Rattle.schedule.specs.declared.plans.FuncPlan.{FuncPlan}
use Rattle.schedule_lines.specs.declared.stages.Loop.{Loop}
use Rattle.schedule_lines.specs.declared.stages.Mark.TheVariants as marks
use Rattle.schedule_lines.specs.declared.stages.Marked.{Marked}
use Rattle.schedule_lines.specs.declared.stages.Stage.{Stage}
use Rattle.schedule.specs.declared.placements.ComputeLevel.{ComputeLevel}
use Rattle.schedule.specs.declared.placements.ComputeLevel.TheVariants as places
use Rattle.schedule.specs.declared.placements.FuncPlacement.{FuncPlacement}
use Rattle.schedule_lines.specs.Directives.{is_marked, is_reduction}

-- ---- the rules of marked loops

-- this many elements are worked on at once
abbrev pub is_vector_length : Option ℕ → Bool
is_vector_length None = false
is_vector_length (Some factor) = factor == 4 || factor == 8 || factor == 16

-- A vectorized loop is the innermost, so a stage has no second one; it is the inner loop of a split by 4, 8 or 16,
-- and not over a reduction variable.
abbrev pub is_bad_vector : Bool → Loop → Bool
is_bad_vector is_innermost stage_loop = not is_innermost || not (is_vector_length stage_loop.inner_of) || is_reduction
    stage_loop.variable

-- A loop breaks a rule. What is asked beside it: whether its Func is at root, and whether it is the innermost and
-- the outermost of its stage.
abbrev pub breaks : LoopRule → Bool → Bool → Bool → Loop → Bool
breaks rules_of.ParallelOutermost is_root is_innermost is_outermost stage_loop = is_marked marks.Parallel stage_loop && (not is_outermost || not is_root)
breaks rules_of.ParallelOverArgument is_root is_innermost is_outermost stage_loop = is_marked marks.Parallel stage_loop && is_reduction stage_loop.variable
breaks rules_of.ParallelUnshifted is_root is_innermost is_outermost stage_loop = is_marked marks.Parallel stage_loop && stage_loop.is_from_shift
breaks rules_of.VectorizedInnermost is_root is_innermost is_outermost stage_loop = is_marked marks.Vectorized stage_loop && is_bad_vector is_innermost stage_loop

-- ---- the first line that marks a loop which breaks a rule

abbrev pub earlier : Option ℕ → Option ℕ → Option ℕ
earlier None line = line
earlier (Some first) None = Some first
earlier (Some first) (Some second) = Some (min first second)

abbrev pub line_of : Option Marked → Option ℕ
line_of None = None
line_of (Some marked) = Some marked.line

abbrev pub is_empty : List Loop → Bool
is_empty [] = true
is_empty (first ∷ others) = false

-- of the loops from one on, going outward
abbrev pub loops_line : LoopRule → Bool → Bool → List Loop → Option ℕ
loops_line rule is_root is_innermost [] = None
loops_line rule is_root is_innermost (first ∷ outside) =
    earlier
    (if breaks rule is_root is_innermost (is_empty outside) first then line_of first.marked else None)
    (loops_line rule is_root false outside)

abbrev pub stage_line : LoopRule → Bool → Stage → Option ℕ
stage_line rule is_root stage = loops_line rule is_root true stage.loops

abbrev pub stages_line : LoopRule → Bool → List Stage → Option ℕ
stages_line rule is_root [] = None
stages_line rule is_root (first ∷ others) = earlier (stage_line rule is_root first) (stages_line rule is_root others)

abbrev pub plan_line : LoopRule → Bool → FuncPlan → Option ℕ
plan_line rule is_root plan = earlier (stage_line rule is_root plan.pure) (stages_line rule is_root plan.updates)

abbrev pub is_root : ComputeLevel → Bool
is_root places.Root = true
is_root _ = false

-- of all Funcs, each with what becomes of it
abbrev pub rule_line : LoopRule → List FuncPlacement → List FuncPlan → Option ℕ
rule_line rule [] plans = None
rule_line rule (standing ∷ standings) [] = None
rule_line rule (standing ∷ standings) (plan ∷ plans) =
    earlier
    (if standing.is_reached then plan_line rule (is_root standing.place) plan else None)
    (rule_line rule standings plans)

-- ---- where Funcs are computed

abbrev pub is_nowhere : ComputeLevel → Bool
is_nowhere places.Nowhere = true
is_nowhere _ = false

abbrev pub compute_line : Option ComputeLine → Option ℕ
compute_line None = None
compute_line (Some own) = Some own.line

-- the first line that computes a Func nowhere
abbrev pub nowhere_line : List FuncPlacement → List FuncPlan → Option ℕ
nowhere_line [] plans = None
nowhere_line (standing ∷ standings) [] = None
nowhere_line (standing ∷ standings) (plan ∷ plans) =
    earlier
    (if standing.is_reached && is_nowhere standing.place then compute_line plan.compute else None)
    (nowhere_line standings plans)

abbrev pub is_inlined : ComputeLevel → Bool
is_inlined places.Inlined = true
is_inlined _ = false

-- A Func with updates, or of whose loops a line speaks, is inlined.
abbrev pub has_lost : List FuncPlacement → List FuncPlan → Bool
has_lost [] plans = false
has_lost (standing ∷ standings) [] = false
has_lost (standing ∷ standings) (plan ∷ plans) =
    (standing.is_reached && is_inlined standing.place && (plan.is_directed || not (length plan.updates == 0)))
    || has_lost standings plans

-- ---- the first rule that is broken, and its line; 0 where no line breaks it

abbrev pub or_next : Option ℕ → ScheduleFault → Option (ℕ × ScheduleFault) → Option (ℕ × ScheduleFault)
or_next (Some line) wrong next = Some (line, wrong)
or_next None wrong next = next

abbrev pub last_verdict : Bool → Option (ℕ × ScheduleFault)
last_verdict is_lost = if is_lost then Some (0, fault.Inlined) else None

unfoldable pub verdict : List FuncPlacement → List FuncPlan → Option (ℕ × ScheduleFault)
verdict standings plans =
    or_next (rule_line rules_of.ParallelOutermost standings plans) fault.ParallelNotOutermost
    (or_next (rule_line rules_of.ParallelOverArgument standings plans) fault.ParallelReduction
    (or_next (rule_line rules_of.ParallelUnshifted standings plans) fault.ParallelInShift
    (or_next (rule_line rules_of.VectorizedInnermost standings plans) fault.VectorizedLoop
    (or_next (nowhere_line standings plans) fault.ComputeAt
    (last_verdict (has_lost standings plans))))))

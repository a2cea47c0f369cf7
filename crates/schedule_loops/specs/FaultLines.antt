-- The line of a fault of marked loops, or of where Funcs are computed, is the least that breaks the rule. The fault of
-- inlined Funcs is judged last and names no line: 0.
-- This project's own.
use Rattle.std.specs.Prelude.{◌≡◌, ◌≤◌, ◌⊎◌, ℕ, suc, ◌==◌, true, List, [], ◌∷◌, length, slice_get, Option, Some, None}
use Rattle.std.specs.List.{AllByRecursion}
use Rattle.schedule_lines.specs.declared.faults.ScheduleFault.{ScheduleFault}
use Rattle.schedule_lines.specs.declared.faults.ScheduleFault.TheVariants as fault
use Rattle.schedule_lines.specs.declared.stages.Loop.{Loop}
use Rattle.schedule_lines.specs.declared.stages.Marked.{Marked}
use Rattle.schedule_lines.specs.declared.stages.Stage.{Stage}
use Rattle.schedule.specs.declared.legality.LoopRule.{LoopRule}
use Rattle.schedule.specs.declared.legality.LoopRule.TheVariants as rules_of
use Rattle.schedule.specs.declared.plans.ComputeLine.{ComputeLine}
use Rattle.schedule.specs.declared.plans.FuncPlan.{FuncPlan}
use Rattle.schedule.specs.declared.placements.ComputeLevel.TheVariants as places
use Rattle.schedule.specs.declared.placements.FuncPlacement.{FuncPlacement}
use Rattle.schedule.specs.Legal.{breaks, has_lost, is_root, nowhere_line, rule_line, verdict}

-- the least line that is so, if any is
abbrev pub IsLeast : (ℕ → Type 0) → Option ℕ → Type 0
IsLeast IsSo None = (line : ℕ) → IsSo line → ⊥
IsLeast IsSo (Some line) = IsSo line × ((other : ℕ) → IsSo other → line ≤ other)

-- the rules of marked loops that are judged before that of the fault
abbrev pub rules_before : ScheduleFault → List LoopRule
rules_before fault.ParallelNotOutermost = []
rules_before fault.ParallelReduction = rules_of.ParallelOutermost ∷ []
rules_before fault.ParallelInShift = rules_of.ParallelOutermost ∷ rules_of.ParallelOverArgument ∷ []
rules_before fault.VectorizedLoop = rules_of.ParallelOutermost ∷ rules_of.ParallelOverArgument ∷ rules_of.ParallelUnshifted ∷ []
rules_before _ = rules_of.ParallelOutermost ∷ rules_of.ParallelOverArgument ∷ rules_of.ParallelUnshifted ∷ rules_of.VectorizedInnermost ∷ []

module _ (standings : List FuncPlacement) (plans : List FuncPlan) where
  -- a Func that the output reaches, with its plan
  pub record IsPlanned (placement : FuncPlacement) (plan : FuncPlan) : Type 0 where
    pub place : ℕ
    pub standing_is : slice_get standings place ≡ Some placement
    pub plan_is : slice_get plans place ≡ Some plan
    pub is_reached : placement.is_reached ≡ true

  -- The line marks a loop of a stage of such a Func, and the loop breaks the rule. A stage's loops stand innermost first.
  pub record BreaksRule (rule : LoopRule) (line : ℕ) : Type 0 where
    pub standing : FuncPlacement
    pub plan : FuncPlan
    pub is_planned : IsPlanned standing plan
    pub stage : Stage
    pub stage_is : (stage ≡ plan.pure) ⊎ ((number : ℕ) × (slice_get plan.updates number ≡ Some stage))
    pub at : ℕ
    pub loop : Loop
    pub loop_is : slice_get stage.loops at ≡ Some loop
    pub marked : Marked
    pub marked_is : loop.marked ≡ Some marked
    pub line_is : marked.line ≡ line
    pub breaks_it : breaks rule (is_root standing.place) (at == 0) (suc at == length stage.loops) loop ≡ true

  -- The line computes such a Func, and where it says the Func can't be computed.
  pub record ComputesNowhere (line : ℕ) : Type 0 where
    pub standing : FuncPlacement
    pub plan : FuncPlan
    pub is_planned : IsPlanned standing plan
    pub compute : ComputeLine
    pub compute_is : plan.compute ≡ Some compute
    pub line_is : compute.line ≡ line
    pub is_nowhere : standing.place ≡ places.Nowhere

  -- No line breaks the rule.
  abbrev pub IsUnbroken : LoopRule → Type 0
  IsUnbroken rule = IsLeast (BreaksRule rule) None

  -- The line is the least that breaks the rule of the fault. No line breaks that of inlined Funcs, which is judged last.
  abbrev pub IsFaultLine : ScheduleFault → ℕ → Type 0
  IsFaultLine fault.ParallelNotOutermost line = IsLeast (BreaksRule rules_of.ParallelOutermost) (Some line)
  IsFaultLine fault.ParallelReduction line = IsLeast (BreaksRule rules_of.ParallelOverArgument) (Some line)
  IsFaultLine fault.ParallelInShift line = IsLeast (BreaksRule rules_of.ParallelUnshifted) (Some line)
  IsFaultLine fault.VectorizedLoop line = IsLeast (BreaksRule rules_of.VectorizedInnermost) (Some line)
  IsFaultLine fault.ComputeAt line = IsLeast ComputesNowhere (Some line)
  IsFaultLine fault.Inlined line = (line ≡ 0) × (has_lost standings plans ≡ true) × IsLeast ComputesNowhere None
  IsFaultLine _ line = ⊥

abbrev pub RuleLinesAreLeast : Type 0
RuleLinesAreLeast = (rule : LoopRule) (standings : List FuncPlacement) (plans : List FuncPlan)
    → IsLeast (BreaksRule standings plans rule) (rule_line rule standings plans)

abbrev pub NowhereLinesAreLeast : Type 0
NowhereLinesAreLeast = (standings : List FuncPlacement) (plans : List FuncPlan)
    → IsLeast (ComputesNowhere standings plans) (nowhere_line standings plans)

-- The first rule that is broken is named, with the least line that breaks it.
abbrev pub VerdictsNameLeastLines : Type 0
VerdictsNameLeastLines = (standings : List FuncPlacement) (plans : List FuncPlan) (line : ℕ) (wrong : ScheduleFault) → verdict standings plans ≡ Some (line, wrong)
    → AllByRecursion (IsUnbroken standings plans) (rules_before wrong) × IsFaultLine standings plans wrong line

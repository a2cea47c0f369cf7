-- The line of a fault of marked loops, or of where Funcs are computed, is the least that breaks the rule.
use Rattle.std.proofs.Common.{◌≡◌, ℕ, zero, suc, Bool, true, false, List, [], ◌∷◌, length, Option, Some, None, refl, sym, subst, ap, ◌∙◌, arith, ◌⊎◌, inl, inr}
use Rattle.std.specs.Prelude.{◌==◌, ◌&&◌, min, slice_get, if◌then◌else◌}
use Rattle.std.proofs.lemmas.Bool.{true≢false, and_parts, and_from, cases_lt}
use Rattle.std.specs.List.{AllByRecursion}
use lib.Dec.{eqb-suc-suc, eqb-suc-zero, eqb-zero-suc}
use Rattle.schedule_lines.specs.declared.faults.ScheduleFault.{ScheduleFault}
use Rattle.schedule_lines.specs.declared.faults.ScheduleFault.TheVariants as fault
use Rattle.schedule_lines.specs.declared.stages.Loop.{Loop}
use Rattle.schedule_lines.specs.declared.stages.Marked.{Marked}
use Rattle.schedule_lines.specs.declared.stages.Stage.{Stage}
use Rattle.schedule.specs.declared.legality.LoopRule.{LoopRule}
use Rattle.schedule.specs.declared.legality.LoopRule.TheVariants as rules_of
use Rattle.schedule.specs.declared.plans.ComputeLine.{ComputeLine}
use Rattle.schedule.specs.declared.plans.FuncPlan.{FuncPlan}
use Rattle.schedule.specs.declared.placements.ComputeLevel.{ComputeLevel}
use Rattle.schedule.specs.declared.placements.ComputeLevel.TheVariants as places
use Rattle.schedule.specs.declared.placements.FuncPlacement.{FuncPlacement}
use Rattle.schedule.specs.Legal.{breaks, compute_line, earlier, is_empty, is_nowhere, is_root, line_of, loops_line, nowhere_line, plan_line, rule_line}
use Rattle.schedule.specs.Legal.{stages_line}
use Rattle.schedule.specs.Legal.{has_lost, last_verdict, or_next, verdict}
use Rattle.schedule_loops.specs.FaultLines.{BreaksRule, ComputesNowhere, IsFaultLine, IsLeast, IsUnbroken, NowhereLinesAreLeast, RuleLinesAreLeast}
use Rattle.schedule_loops.specs.FaultLines.{VerdictsNameLeastLines, rules_before}

-- ---- least lines

least_same : (P Q : ℕ → Type 0) → ((line : ℕ) → P line → Q line) → ((line : ℕ) → Q line → P line) → (own : Option ℕ) → IsLeast P own → IsLeast Q own
least_same P Q into back None none = λ line is. none line (back line is)
least_same P Q into back (Some own) least = (into own least.0, λ other is. least.1 other (back other is))

min_is : (a b : ℕ) → (a ≡ min a b) ⊎ (b ≡ min a b)
min_is a b = elim (cases_lt a b) [ inl less ↦ inl (omega arith) | inr more ↦ inr (omega arith) ]

-- of what is so in either way
least_either : (P Q R : ℕ → Type 0) → ((line : ℕ) → P line → R line) → ((line : ℕ) → Q line → R line) → ((line : ℕ) → R line → P line ⊎ Q line)
    → (a b : Option ℕ) → IsLeast P a → IsLeast Q b → IsLeast R (earlier a b)
least_either P Q R left right split None None p q = λ line is. elim (split line is) [ inl l ↦ p line l | inr r ↦ q line r ]
least_either P Q R left right split None (Some b) p q = (right b q.0, λ other is. elim (split other is) [ inl l ↦ absurd (p other l) | inr r ↦ q.1 other r ])
least_either P Q R left right split (Some a) None p q = (left a p.0, λ other is. elim (split other is) [ inl l ↦ p.1 other l | inr r ↦ absurd (q other r) ])
least_either P Q R left right split (Some a) (Some b) p q = (
  elim (min_is a b) [ inl same ↦ subst R same (left a p.0) | inr same ↦ subst R same (right b q.0) ],
  λ other is. elim (split other is) [ inl l ↦ omega (arith, p.1 other l) | inr r ↦ omega (arith, q.1 other r) ],
)

-- of what is so, where a test holds
least_if : (P : ℕ → Type 0) (test : Bool) (own : Option ℕ) → IsLeast P own → IsLeast (λ line. (test ≡ true) × P line) (if test then own else None)
least_if P true own least = least_same P (λ line. (true ≡ true) × P line) (λ line is. (refl, is)) (λ line is. is.1) own least
least_if P false own least = λ line is. true≢false (sym is.0)

-- ---- loops

-- the line that marks a loop
abbrev IsMarkedAt : Option Marked → ℕ → Type 0
IsMarkedAt own_marked line = (marked : Marked) × (own_marked ≡ Some marked) × (marked.line ≡ line)

marked_least : (marked : Option Marked) → IsLeast (IsMarkedAt marked) (line_of marked)
marked_least None = λ line is. cc
marked_least (Some marked) = ((marked, refl, refl), λ other is. let same : marked.line ≡ other = cc in omega arith)

at_first : (is_innermost : Bool) → (is_innermost && 0 == 0) ≡ is_innermost
at_first true = refl
at_first false = refl

past_first : (is_innermost : Bool) (at : ℕ) → (is_innermost && suc at == 0) ≡ false
past_first true at = eqb-suc-zero at
past_first false at = refl

at_last : (outside : List Loop) → (1 == suc (length outside)) ≡ is_empty outside
at_last [] = refl
at_last (first ∷ outside) = eqb-suc-suc 0 (length (first ∷ outside)) ∙ eqb-zero-suc (length outside)

module _ (rule : LoopRule) (at_root : Bool) where
  abbrev Breaks : Bool → Bool → Loop → ℕ → Type 0
  Breaks is_innermost is_outermost loop line = (breaks rule at_root is_innermost is_outermost loop ≡ true) × IsMarkedAt loop.marked line

  -- Of loops from one on, going outward, one breaks the rule, and the line marks it.
  record AmongLoops (is_innermost : Bool) (loops : List Loop) (line : ℕ) : Type 0 where
    at : ℕ
    loop : Loop
    loop_is : slice_get loops at ≡ Some loop
    breaks_it : Breaks (is_innermost && at == 0) (suc at == length loops) loop line

  first_loop : (is_innermost : Bool) (first : Loop) (outside : List Loop) (line : ℕ) → Breaks is_innermost (is_empty outside) first line
      → AmongLoops is_innermost (first ∷ outside) line
  first_loop is_innermost first outside line is =
      record { at = 0; loop = first; loop_is = refl; breaks_it = rw (at_first is_innermost, at_last outside) is }

  other_loop : (is_innermost : Bool) (first : Loop) (outside : List Loop) (line : ℕ) → AmongLoops false outside line
      → AmongLoops is_innermost (first ∷ outside) line
  other_loop is_innermost first outside line is =
      record {
        at = suc is.at;
        loop = is.loop;
        loop_is = is.loop_is;
        breaks_it = rw (past_first is_innermost is.at, eqb-suc-suc (suc is.at) (length outside))
            is.breaks_it;
      }

  either_loop : (is_innermost : Bool) (first : Loop) (outside : List Loop) (line at : ℕ) (loop : Loop) → slice_get (first ∷ outside) at ≡ Some loop
      → Breaks (is_innermost && at == 0) (suc at == length (first ∷ outside)) loop line → Breaks is_innermost (is_empty outside) first line
      ⊎ AmongLoops false outside line
  either_loop is_innermost first outside line zero loop loop_is is =
      let same : loop ≡ first = cc in
      inl (subst (λ (l : Loop). Breaks is_innermost (is_empty outside) l line) same (rw (at_first is_innermost, at_last outside) at is))
  either_loop is_innermost first outside line (suc at) loop loop_is is =
      inr (record { at = at; loop = loop; loop_is = loop_is; breaks_it = rw (past_first is_innermost at, eqb-suc-suc (suc at) (length outside)) at is })

  loops_least : (is_innermost : Bool) (loops : List Loop) → IsLeast (AmongLoops is_innermost loops) (loops_line rule at_root is_innermost loops)
  loops_least is_innermost [] = λ line is. cc
  loops_least is_innermost (first ∷ outside) =
      least_either (Breaks is_innermost (is_empty outside) first) (AmongLoops false outside) (AmongLoops is_innermost (first ∷ outside))
      (first_loop is_innermost first outside) (other_loop is_innermost first outside)
      (λ line is. either_loop is_innermost first outside line is.at is.loop is.loop_is is.breaks_it) _ _
      (least_if (IsMarkedAt first.marked) (breaks rule at_root is_innermost (is_empty outside) first) (line_of first.marked) (marked_least first.marked))
      (loops_least false outside)

  -- ---- stages

  abbrev OfStage : Stage → ℕ → Type 0
  OfStage stage line = AmongLoops true stage.loops line

  record AmongStages (stages : List Stage) (line : ℕ) : Type 0 where
    number : ℕ
    stage : Stage
    stage_is : slice_get stages number ≡ Some stage
    of_stage : OfStage stage line

  either_stage : (first : Stage) (others : List Stage) (line number : ℕ) (stage : Stage) → slice_get (first ∷ others) number ≡ Some stage → OfStage stage line
      → OfStage first line ⊎ AmongStages others line
  either_stage first others line zero stage stage_is is = let same : stage ≡ first = cc in inl (subst (λ (s : Stage). OfStage s line) same is)
  either_stage first others line (suc number) stage stage_is is = inr (record { number = number; stage = stage; stage_is = stage_is; of_stage = is })

  stages_least : (stages : List Stage) → IsLeast (AmongStages stages) (stages_line rule at_root stages)
  stages_least [] = λ line is. cc
  stages_least (first ∷ others) =
      least_either (OfStage first) (AmongStages others) (AmongStages (first ∷ others))
      (λ line is. record { number = 0; stage = first; stage_is = refl; of_stage = is })
      (λ line is. record { number = suc is.number; stage = is.stage; stage_is = is.stage_is; of_stage = is.of_stage })
      (λ line is. either_stage first others line is.number is.stage is.stage_is is.of_stage) _ _
      (loops_least true first.loops) (stages_least others)

  record OfPlan (plan : FuncPlan) (line : ℕ) : Type 0 where
    stage : Stage
    stage_is : (stage ≡ plan.pure) ⊎ ((number : ℕ) × (slice_get plan.updates number ≡ Some stage))
    of_stage : OfStage stage line

  plan_least : (plan : FuncPlan) → IsLeast (OfPlan plan) (plan_line rule at_root plan)
  plan_least plan =
      least_either (OfStage plan.pure) (AmongStages plan.updates) (OfPlan plan)
      (λ line is. record { stage = plan.pure; stage_is = inl refl; of_stage = is })
      (λ line is. record { stage = is.stage; stage_is = inr (is.number, is.stage_is); of_stage = is.of_stage })
      (λ line is. elim is.stage_is [
        | inl same ↦ inl (subst (λ (s : Stage). OfStage s line) same is.of_stage)
        | inr found ↦ inr (record { number = found.0; stage = is.stage; stage_is = found.1; of_stage = is.of_stage })
      ]) _ _
      (loops_least true plan.pure.loops) (stages_least plan.updates)

-- ---- Funcs

module _ (Own : FuncPlacement → FuncPlan → ℕ → Type 0) where
  record AmongFuncs (standings : List FuncPlacement) (plans : List FuncPlan) (line : ℕ) : Type 0 where
    place : ℕ
    standing : FuncPlacement
    standing_is : slice_get standings place ≡ Some standing
    plan : FuncPlan
    plan_is : slice_get plans place ≡ Some plan
    own : Own standing plan line

  either_func : (placement : FuncPlacement) (standings : List FuncPlacement) (plan : FuncPlan) (plans : List FuncPlan) (line place : ℕ) (s : FuncPlacement) (p : FuncPlan)
      → slice_get (placement ∷ standings) place ≡ Some s → slice_get (plan ∷ plans) place ≡ Some p → Own s p line
      → Own placement plan line ⊎ AmongFuncs standings plans line
  either_func placement standings plan plans line zero s p standing_is plan_is is =
      let same : s ≡ placement = cc in
      let alike : p ≡ plan = cc in
      inl (subst (λ (t : FuncPlacement). Own t plan line) same (subst (λ (q : FuncPlan). Own s q line) alike is))
  either_func placement standings plan plans line (suc place) s p standing_is plan_is is =
      inr (record { place = place; standing = s; standing_is = standing_is; plan = p; plan_is = plan_is; own = is })

  -- the least line of all Funcs, by that of each
  module _ (own_line : FuncPlacement → FuncPlan → Option ℕ) (own_least : (placement : FuncPlacement) (plan : FuncPlan)
      → IsLeast (Own placement plan) (own_line placement plan)) where
    abbrev funcs_line : List FuncPlacement → List FuncPlan → Option ℕ
    funcs_line [] plans = None
    funcs_line (placement ∷ standings) [] = None
    funcs_line (placement ∷ standings) (plan ∷ plans) = earlier (own_line placement plan) (funcs_line standings plans)

    funcs_least : (standings : List FuncPlacement) (plans : List FuncPlan) → IsLeast (AmongFuncs standings plans) (funcs_line standings plans)
    funcs_least [] plans = λ line is. cc
    funcs_least (placement ∷ standings) [] = λ line is. cc
    funcs_least (placement ∷ standings) (plan ∷ plans) =
        least_either (Own placement plan) (AmongFuncs standings plans)
        (AmongFuncs (placement ∷ standings) (plan ∷ plans))
        (λ line is. record { place = 0; standing = placement; standing_is = refl; plan = plan; plan_is = refl; own = is })
        (λ line is. record { place = suc is.place; standing = is.standing; standing_is = is.standing_is; plan = is.plan; plan_is = is.plan_is; own = is.own })
        (λ line is. either_func placement standings plan plans line is.place is.standing is.plan is.standing_is is.plan_is is.own) _ _
        (own_least placement plan) (funcs_least standings plans)

-- ---- the rules

module _ (rule : LoopRule) where
  abbrev OfFunc : FuncPlacement → FuncPlan → ℕ → Type 0
  OfFunc placement plan line = (placement.is_reached ≡ true) × OfPlan rule (is_root placement.place) plan line

  abbrev func_line : FuncPlacement → FuncPlan → Option ℕ
  func_line placement plan = if placement.is_reached then plan_line rule (is_root placement.place) plan else None

  func_least : (placement : FuncPlacement) (plan : FuncPlan) → IsLeast (OfFunc placement plan)
      (func_line placement plan)
  func_least placement plan = least_if (OfPlan rule (is_root placement.place) plan) placement.is_reached _ (plan_least rule (is_root placement.place) plan)

pub rule_lines_are_least : RuleLinesAreLeast
rule_lines_are_least rule standings plans =
    least_same (AmongFuncs (OfFunc rule) standings plans) (BreaksRule standings plans rule)
    (λ line is. let found = is.own.1.of_stage in record {
      standing = is.standing;
      plan = is.plan;
      is_planned = record { place = is.place; standing_is = is.standing_is; plan_is = is.plan_is; is_reached = is.own.0 };
      stage = is.own.1.stage;
      stage_is = is.own.1.stage_is;
      at = found.at;
      loop = found.loop;
      loop_is = found.loop_is;
      marked = found.breaks_it.1.0;
      marked_is = found.breaks_it.1.1;
      line_is = found.breaks_it.1.2;
      breaks_it = found.breaks_it.0;
    })
    (λ line is. record {
      place = is.is_planned.place;
      standing = is.standing;
      standing_is = is.is_planned.standing_is;
      plan = is.plan;
      plan_is = is.is_planned.plan_is;
      own = (
        is.is_planned.is_reached,
        record {
          stage = is.stage;
          stage_is = is.stage_is;
          of_stage = record { at = is.at; loop = is.loop; loop_is = is.loop_is; breaks_it = (is.breaks_it, (is.marked, is.marked_is, is.line_is)) };
        },
      );
    })
    (rule_line rule standings plans) (funcs_least (OfFunc rule) (func_line rule) (func_least rule) standings plans)

-- ---- where Funcs are computed

abbrev IsComputedAt : Option ComputeLine → ℕ → Type 0
IsComputedAt own_compute_line line = (compute : ComputeLine) × (own_compute_line ≡ Some compute) × (compute.line ≡ line)

compute_least : (own_compute_line : Option ComputeLine) → IsLeast (IsComputedAt own_compute_line)
    (compute_line own_compute_line)
compute_least None = λ line is. cc
compute_least (Some own_compute_line) = (
  (own_compute_line, refl, refl),
  λ other is. let same : own_compute_line.line ≡
      other = cc in omega arith,
)

nowhere_is : (level : ComputeLevel) → is_nowhere level ≡ true → level ≡ places.Nowhere
nowhere_is places.Nowhere is = refl
nowhere_is places.Root is = cc
nowhere_is places.Inlined is = cc
nowhere_is (places.At loop) is = cc

-- the line computes the Func, which can't be computed there
abbrev IsLost : FuncPlacement → FuncPlan → ℕ → Type 0
IsLost placement plan line = ((placement.is_reached && is_nowhere placement.place) ≡ true) × IsComputedAt plan.compute
    line

abbrev lost_line : FuncPlacement → FuncPlan → Option ℕ
lost_line placement plan = if placement.is_reached && is_nowhere placement.place then compute_line plan.compute else
    None

lost_least : (placement : FuncPlacement) (plan : FuncPlan) → IsLeast (IsLost placement plan) (lost_line placement plan)
lost_least placement plan = least_if (IsComputedAt plan.compute) (placement.is_reached && is_nowhere placement.place) (compute_line plan.compute)
    (compute_least plan.compute)

pub nowhere_lines_are_least : NowhereLinesAreLeast
nowhere_lines_are_least standings plans =
    least_same (AmongFuncs IsLost standings plans) (ComputesNowhere standings plans)
    (λ line is. let k = and_parts is.standing.is_reached (is_nowhere is.standing.place) is.own.0 in record {
      standing = is.standing;
      plan = is.plan;
      is_planned = record { place = is.place; standing_is = is.standing_is; plan_is = is.plan_is; is_reached = k.0 };
      compute = is.own.1.0;
      compute_is = is.own.1.1;
      line_is = is.own.1.2;
      is_nowhere = nowhere_is is.standing.place k.1;
    })
    (λ line is. record {
      place = is.is_planned.place;
      standing = is.standing;
      standing_is = is.is_planned.standing_is;
      plan = is.plan;
      plan_is = is.is_planned.plan_is;
      own = (
        and_from is.standing.is_reached (is_nowhere is.standing.place) is.is_planned.is_reached (ap is_nowhere is.is_nowhere),
        (
          is.compute,
          is.compute_is,
          is.line_is,
        ),
      );
    })
    (nowhere_line standings plans) (funcs_least IsLost lost_line lost_least standings plans)

-- ---- verdicts

module _ (standings : List FuncPlacement) (plans : List FuncPlan) where
  abbrev IsNamed : ℕ × ScheduleFault → Type 0
  IsNamed named = AllByRecursion (IsUnbroken standings plans) (rules_before named.1) × IsFaultLine standings plans named.1 named.0

  module _ (named : ℕ × ScheduleFault) where
    -- the least line that is so is named, or no line is so and what is judged next names one
    judged : (IsSo : ℕ → Type 0) (own : Option ℕ) (wrong : ScheduleFault) (next : Option (ℕ × ScheduleFault)) → IsLeast IsSo own
        → ((line : ℕ) → IsLeast IsSo (Some line) → IsNamed (line, wrong)) → (IsLeast IsSo None → next ≡ Some named → IsNamed named)
        → or_next own wrong next ≡ Some named → IsNamed named
    judged IsSo None wrong next least here later is = later least is
    judged IsSo (Some line) wrong next least here later is = let same : (line, wrong) ≡ named = cc in subst IsNamed same (here line least)

    rule_judged : (rule : LoopRule) (wrong : ScheduleFault) (next : Option (ℕ × ScheduleFault))
        → ((line : ℕ) → IsLeast (BreaksRule standings plans rule) (Some line) → IsNamed (line, wrong)) → (IsUnbroken standings plans rule → next ≡ Some named
        → IsNamed named)
        → or_next (rule_line rule standings plans) wrong next ≡ Some named → IsNamed named
    rule_judged rule wrong next here later is =
        judged (BreaksRule standings plans rule) (rule_line rule standings plans) wrong next (rule_lines_are_least rule standings plans) here later is

    last_judged : (is_lost : Bool) → (is_lost ≡ true → IsNamed (0, fault.Inlined)) → last_verdict is_lost ≡ Some named → IsNamed named
    last_judged true here is = let same : (0, fault.Inlined) ≡ named = cc in subst IsNamed same (here refl)
    last_judged false here is = cc

    is_named : verdict standings plans ≡ Some named → IsNamed named
    unfolding verdict
    is_named is =
        rule_judged rules_of.ParallelOutermost fault.ParallelNotOutermost _ (λ line least. (tt, least)) (λ first next.
        rule_judged rules_of.ParallelOverArgument fault.ParallelReduction _ (λ line least. ((first, tt), least)) (λ second next.
        rule_judged rules_of.ParallelUnshifted fault.ParallelInShift _ (λ line least. ((first, (second, tt)), least)) (λ third next.
        rule_judged rules_of.VectorizedInnermost fault.VectorizedLoop _ (λ line least. ((first, (second, (third, tt))), least)) (λ fourth next.
        judged (ComputesNowhere standings plans) (nowhere_line standings plans) fault.ComputeAt _ (nowhere_lines_are_least standings plans)
        (λ line least. ((first, (second, (third, (fourth, tt)))), least)) (λ fifth next.
        last_judged (has_lost standings plans) (λ lost. ((first, (second, (third, (fourth, tt)))), (refl, lost, fifth))) next) next) next) next) next) is

pub verdicts_name_least_lines : VerdictsNameLeastLines
verdicts_name_least_lines standings plans line wrong is = is_named standings plans (line, wrong) is

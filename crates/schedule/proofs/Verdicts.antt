-- Where no rule is broken, the loops of Funcs that are reached keep all of them.
use Rattle.std.proofs.Common.{◌≡◌, ℕ, ◌+◌, ◌<◌, Bool, true, false, not, cond, List, [], ◌∷◌, length, Option, Some, None, refl, subst}
use Rattle.std.specs.Prelude.{◌&&◌, ◌||◌, ◌==◌, is_some, slice_get, nat_lt}
use Rattle.std.specs.List.{AllByRecursion}
use Rattle.std.proofs.lemmas.Bool.{and_from, and_parts, or_parts, eqb-true, ltb-true}
use Rattle.halide_pipeline.specs.declared.expressions.Source.{Source}
use Rattle.halide_pipeline.specs.declared.expressions.Source.TheVariants as sources
use Rattle.halide_pipeline.specs.Pipelines.{Pipeline, lookup}
use Rattle.schedule_lines.specs.declared.faults.ScheduleFault.{ScheduleFault}
use Rattle.schedule_lines.specs.declared.faults.ScheduleFault.TheVariants as fault
use Rattle.schedule_lines.specs.declared.lines.Computed.{Computed}
use Rattle.schedule_lines.specs.declared.lines.Computed.TheVariants as computed
use Rattle.schedule_lines.specs.declared.lines.LoopNames.{LoopNames}
use Rattle.schedule_lines.specs.declared.stages.Loop.{Loop}
use Rattle.schedule_lines.specs.declared.stages.Mark.TheVariants as marks
use Rattle.schedule_lines.specs.declared.stages.Marked.{Marked}
use Rattle.schedule_lines.specs.declared.stages.Stage.{Stage}
use Rattle.schedule_lines.specs.Directives.{find, is_marked}
use Rattle.schedule.specs.declared.legality.LoopRule.{LoopRule}
use Rattle.schedule.specs.declared.legality.LoopRule.TheVariants as rules_of
use Rattle.schedule.specs.declared.plans.ComputeLine.{ComputeLine}
use Rattle.schedule.specs.declared.plans.FuncPlan.{FuncPlan}
use Rattle.schedule.specs.declared.placements.LoopPosition.{LoopPosition}
use Rattle.schedule.specs.declared.placements.ComputeLevel.TheVariants as places
use Rattle.schedule.specs.declared.placements.FuncPlacement.{FuncPlacement}
use Rattle.schedule.specs.Accepted.{Pairwise, Numbered, keeps, Keeps, IsLegal, IsConsumer, IsProduced}
use Rattle.schedule.specs.Legal.{breaks, earlier, line_of, is_empty, loops_line, stage_line, stages_line, plan_line, is_root as at_root, rule_line, is_nowhere}
use Rattle.schedule.specs.Legal.{compute_line, nowhere_line, is_inlined, has_lost, or_next, last_verdict, verdict}
use Rattle.schedule.specs.Placements.{is_root, is_consumer, unvectorized, loop_of, consumer_of, consumer, is_called, outside, place_at, place_computed, place_of}
use Rattle.schedule.specs.Placements.{place, standings_from}

-- ---- lines that are none

no_earlier : (a b : Option ℕ) → earlier a b ≡ None → (a ≡ None) × (b ≡ None)
no_earlier None b e = (refl, e)
no_earlier (Some a) None e = cc
no_earlier (Some a) (Some b) e = cc

no_next : (line : Option ℕ) (wrong : ScheduleFault) (next : Option (ℕ × ScheduleFault)) → or_next line wrong next ≡ None → (line ≡ None) × (next ≡ None)
no_next None wrong next e = (refl, e)
no_next (Some line) wrong next e = cc

-- a loop without a mark breaks no rule
unmarked : (rule : LoopRule) (root inner outer : Bool) (stage_loop : Loop) → stage_loop.marked ≡ None → breaks rule root inner outer stage_loop ≡ false
unmarked rules_of.ParallelOutermost root inner outer stage_loop e = rw e refl
unmarked rules_of.ParallelOverArgument root inner outer stage_loop e = rw e refl
unmarked rules_of.ParallelUnshifted root inner outer stage_loop e = rw e refl
unmarked rules_of.VectorizedInnermost root inner outer stage_loop e = rw e refl

no_line : (marked : Option Marked) → line_of marked ≡ None → marked ≡ None
no_line None e = refl
no_line (Some m) e = cc

unbroken_by : (broken : Bool) (rule : LoopRule) (root inner outer : Bool) (stage_loop : Loop) → breaks rule root inner outer stage_loop ≡ broken
    → cond broken (line_of stage_loop.marked) None ≡ None
    → not (breaks rule root inner outer stage_loop) ≡ true
unbroken_by true rule root inner outer stage_loop is e = rw (unmarked rule root inner outer stage_loop
    (no_line stage_loop.marked e)) refl
unbroken_by false rule root inner outer stage_loop is e = rw is refl

loops_keep : (rule : LoopRule) (root inner : Bool) (loops : List Loop) → loops_line rule root inner loops ≡ None → keeps rule root inner loops ≡ true
loops_keep rule root inner [] e = refl
loops_keep rule root inner (first ∷ outside) e =
    let test = breaks rule root inner (is_empty outside) first in
    let parts = no_earlier (cond test (line_of first.marked) None) (loops_line rule root false outside) e in
    and_from (not test) (keeps rule root false outside) (unbroken_by test rule root inner (is_empty outside) first refl parts.0) (loops_keep rule root false
    outside parts.1)

stages_keep : (rule : LoopRule) (root : Bool) (stages : List Stage) → stages_line rule root stages ≡ None → AllByRecursion (Keeps rule root) stages
stages_keep rule root [] e = tt
stages_keep rule root (first ∷ others) e =
    let parts = no_earlier (stage_line rule root first) (stages_line rule root others) e in
    (loops_keep rule root true first.loops parts.0, stages_keep rule root others parts.1)

-- ---- what a Func keeps

-- a Func that is nowhere has a compute line
abbrev HasLine : FuncPlan → FuncPlacement → Type 0
HasLine plan placement = is_nowhere placement.place ≡ true → is_some plan.compute ≡ true

-- no rule is broken
pub record AreKept (plans : List FuncPlan) (found : List FuncPlacement) : Type 0 where
  pub rules : (rule : LoopRule) → rule_line rule found plans ≡ None
  pub places : nowhere_line found plans ≡ None
  pub lost : has_lost found plans ≡ false

reached_line : (reached : Bool) (line : Option ℕ) → reached ≡ true → cond reached line None ≡ None → line ≡ None
reached_line true line is e = e
reached_line false line is e = cc

nowhere_by : (nowhere : Bool) (compute : Option ComputeLine) → (nowhere ≡ true → is_some compute ≡ true) → cond nowhere (compute_line compute) None ≡ None
    → nowhere ≡ false
nowhere_by false compute has e = refl
nowhere_by true None has e = let some : false ≡ true = has refl in cc
nowhere_by true (Some line) has e = cc

reached_nowhere : (reached nowhere : Bool) (line : Option ℕ) → reached ≡ true → cond (reached && nowhere) line None ≡ None → cond nowhere line None ≡ None
reached_nowhere true nowhere line is e = e
reached_nowhere false nowhere line is e = cc

lost_by : (reached inlined directed : Bool) (count : ℕ) → reached ≡ true → inlined ≡ true → (reached && inlined && (directed || not (count == 0))) ≡ false
    → (count ≡ 0) × (directed ≡ false)
lost_by true true true count r i e = cc
lost_by true true false count r i e = (eqb-true count 0 (not_false (count == 0) e), refl)
  where
    not_false : (test : Bool) → not test ≡ false → test ≡ true
    not_false true e = refl
    not_false false e = cc
lost_by false inlined directed count r i e = cc
lost_by true false directed count r i e = cc

func_keeps : (plan : FuncPlan) (placement : FuncPlacement) → HasLine plan placement
    → ((rule : LoopRule) → cond placement.is_reached (plan_line rule (at_root placement.place) plan) None ≡ None)
    → cond (placement.is_reached && is_nowhere placement.place) (compute_line plan.compute) None ≡ None
    → (placement.is_reached && is_inlined placement.place && (plan.is_directed || not (length plan.updates == 0))) ≡
    false
    → IsLegal plan placement
func_keeps plan placement has rules nowhere lost reached =
    let each : (rule : LoopRule) → (stage_line rule (at_root placement.place) plan.pure ≡ None) × (stages_line rule (at_root placement.place) plan.updates ≡ None) =
    λ rule. no_earlier (stage_line rule (at_root placement.place) plan.pure) (stages_line rule (at_root placement.place) plan.updates) (reached_line placement.is_reached
    (plan_line rule (at_root placement.place) plan) reached (rules rule)) in
    record {
      pure = λ rule. loops_keep rule (at_root placement.place) true plan.pure.loops (each rule).0;
      updates = λ rule. stages_keep rule (at_root placement.place) plan.updates (each rule).1;
      somewhere = nowhere_by (is_nowhere placement.place) plan.compute has (reached_nowhere placement.is_reached (is_nowhere placement.place) (compute_line plan.compute) reached
          nowhere);
      no_updates = λ inlined. (lost_by placement.is_reached (is_inlined placement.place) plan.is_directed (length plan.updates) reached inlined lost).0;
      no_lines = λ inlined. (lost_by placement.is_reached (is_inlined placement.place) plan.is_directed (length plan.updates) reached inlined lost).1;
    }

pub funcs_keep : (plans : List FuncPlan) (found : List FuncPlacement) → Pairwise HasLine plans found → AreKept plans found → Pairwise IsLegal plans found
funcs_keep [] [] has kept = tt
funcs_keep [] (own ∷ behind) has kept = absurd has
funcs_keep (plan ∷ plans) [] has kept = absurd has
funcs_keep (plan ∷ plans) (own ∷ behind) has kept =
    let rule_parts : (rule : LoopRule) → (cond own.is_reached (plan_line rule (at_root own.place) plan) None ≡ None) × (rule_line rule behind plans ≡ None) =
    λ rule. no_earlier (cond own.is_reached (plan_line rule (at_root own.place) plan) None) (rule_line rule behind plans) (kept.rules rule) in
    let place_parts = no_earlier (cond (own.is_reached && is_nowhere own.place) (compute_line plan.compute) None) (nowhere_line behind plans) kept.places in
    let lost_parts = or_parts (own.is_reached && is_inlined own.place && (plan.is_directed || not (length plan.updates == 0))) (has_lost behind plans) kept.lost
    in (
      func_keeps plan own has.0 (λ rule. (rule_parts rule).0) place_parts.0 lost_parts.0,
      funcs_keep plans behind has.1 (record { rules = λ rule. (rule_parts rule).1; places = place_parts.1; lost = lost_parts.1 }),
    )

not_lost : (lost : Bool) → last_verdict lost ≡ None → lost ≡ false
not_lost true e = cc
not_lost false e = refl

each : (plans : List FuncPlan) (found : List FuncPlacement) → rule_line rules_of.ParallelOutermost found plans ≡ None
    → rule_line rules_of.ParallelOverArgument found plans ≡ None
    → rule_line rules_of.ParallelUnshifted found plans ≡ None → rule_line rules_of.VectorizedInnermost found plans ≡ None → (rule : LoopRule)
    → rule_line rule found plans ≡ None
each plans found a b d v rules_of.ParallelOutermost = a
each plans found a b d v rules_of.ParallelOverArgument = b
each plans found a b d v rules_of.ParallelUnshifted = d
each plans found a b d v rules_of.VectorizedInnermost = v

pub are_kept : (plans : List FuncPlan) (found : List FuncPlacement) → verdict found plans ≡ None → AreKept plans found
unfolding verdict
are_kept plans found e =
    let last = last_verdict (has_lost found plans) in
    let at_places = or_next (nowhere_line found plans) fault.ComputeAt last in
    let at_vectors = or_next (rule_line rules_of.VectorizedInnermost found plans) fault.VectorizedLoop at_places in
    let at_shifts = or_next (rule_line rules_of.ParallelUnshifted found plans) fault.ParallelInShift at_vectors in
    let at_reductions = or_next (rule_line rules_of.ParallelOverArgument found plans) fault.ParallelReduction at_shifts in
    let outermost = no_next (rule_line rules_of.ParallelOutermost found plans) fault.ParallelNotOutermost at_reductions e in
    let arguments = no_next (rule_line rules_of.ParallelOverArgument found plans) fault.ParallelReduction at_shifts outermost.1 in
    let unshifted = no_next (rule_line rules_of.ParallelUnshifted found plans) fault.ParallelInShift at_vectors arguments.1 in
    let vectors = no_next (rule_line rules_of.VectorizedInnermost found plans) fault.VectorizedLoop at_places unshifted.1 in
    let somewhere = no_next (nowhere_line found plans) fault.ComputeAt last vectors.1 in
    record {
      rules = each plans found outermost.0 arguments.0 unshifted.0 vectors.0;
      places = somewhere.0;
      lost = not_lost (has_lost found plans) somewhere.1;
    }

-- ---- what becomes of each Func

-- a Func that is nowhere has a compute line
line_by : (compute : Option ComputeLine) (is_output : Bool) (pipeline : Pipeline) (plans : List FuncPlan) (at : ℕ) (behind : List FuncPlacement)
    → is_nowhere (cond is_output places.Root (place_of pipeline plans at behind compute)) ≡ true → is_some compute ≡ true
line_by None true pipeline plans at behind e = cc
line_by None false pipeline plans at behind e = cc
line_by (Some line) is_output pipeline plans at behind e = refl

pub have_lines : (pipeline : Pipeline) (plans : List FuncPlan) (at : ℕ) (rest : List FuncPlan) → Pairwise HasLine rest (standings_from pipeline plans at rest)
have_lines pipeline plans at [] = tt
have_lines pipeline plans at (first ∷ others) = (
  line_by first.compute (at == pipeline.output.func) pipeline plans at (standings_from pipeline plans (at + 1) others),
  have_lines pipeline plans (at + 1) others,
)

-- ---- the loop at which a Func is computed

marked_consumer : (vectorized : Bool) (pipeline : Pipeline) (plans : List FuncPlan) (at func : ℕ) (plan : FuncPlan) (name : List ℕ) (stage_loop : Loop)
    (wanted : LoopPosition)
    → at < func → slice_get plans func ≡ Some plan → is_consumer pipeline func plan ≡ true → find name plan.pure.loops ≡ Some stage_loop
    → is_marked marks.Vectorized stage_loop ≡ vectorized
    → cond vectorized None (Some (record { func = func; inside = stage_loop.id })) ≡ Some wanted → IsConsumer pipeline plans at wanted
marked_consumer true pipeline plans at func plan name stage_loop wanted later plan_is consumers found mark e = cc
marked_consumer false pipeline plans at func plan name stage_loop wanted later plan_is consumers found mark e =
    let parts = and_parts (is_root pipeline func plan) (length plan.updates == 0) consumers in
    let here : LoopPosition = record { func = func; inside = stage_loop.id } in
    let wanted_is : here ≡ wanted = cc in
    subst (λ (h : LoopPosition). IsConsumer pipeline plans at h) wanted_is (record {
      later = later;
      plan = plan;
      plan_is = plan_is;
      root = parts.0;
      no_updates = eqb-true (length plan.updates) 0 parts.1;
      name = name;
      loop = stage_loop;
      loop_is = found;
      id_is = refl;
      unvectorized = mark;
    })

found_consumer : (stage_loop : Option Loop) (pipeline : Pipeline) (plans : List FuncPlan) (at func : ℕ) (plan : FuncPlan) (name : List ℕ) (wanted : LoopPosition)
    → at < func → slice_get plans func ≡ Some plan → is_consumer pipeline func plan ≡ true → find name plan.pure.loops ≡ stage_loop
    → unvectorized func stage_loop ≡ Some wanted → IsConsumer pipeline plans at wanted
found_consumer None pipeline plans at func plan name wanted later plan_is consumers stage_loop e = cc
found_consumer (Some own) pipeline plans at func plan name wanted later plan_is consumers stage_loop e =
    marked_consumer (is_marked marks.Vectorized own) pipeline plans at func plan name own wanted later plan_is consumers stage_loop refl e

tested_consumer : (consumers : Bool) (pipeline : Pipeline) (plans : List FuncPlan) (at func : ℕ) (plan : FuncPlan) (name : List ℕ) (wanted : LoopPosition)
    → at < func → slice_get plans func ≡ Some plan → is_consumer pipeline func plan ≡ consumers
    → cond consumers (unvectorized func (find name plan.pure.loops)) None ≡ Some wanted → IsConsumer pipeline plans at wanted
tested_consumer true pipeline plans at func plan name wanted later plan_is consumers e = found_consumer (find name plan.pure.loops) pipeline plans at func plan
    name wanted later plan_is consumers refl e
tested_consumer false pipeline plans at func plan name wanted later plan_is consumers e = cc

planned_consumer : (func_plan : Option FuncPlan) (pipeline : Pipeline) (plans : List FuncPlan) (at func : ℕ) (name : List ℕ) (wanted : LoopPosition)
    → at < func → slice_get plans func ≡ func_plan → loop_of pipeline func name func_plan ≡ Some wanted → IsConsumer pipeline plans at wanted
planned_consumer None pipeline plans at func name wanted later plan_is e = cc
planned_consumer (Some plan) pipeline plans at func name wanted later plan_is e = tested_consumer (is_consumer pipeline func plan) pipeline plans at func plan
    name wanted later plan_is refl e

later_consumer : (later : Bool) (pipeline : Pipeline) (plans : List FuncPlan) (at func : ℕ) (name : List ℕ) (wanted : LoopPosition) → nat_lt at func ≡ later
    → cond later (loop_of pipeline func name (slice_get plans func)) None ≡ Some wanted → IsConsumer pipeline plans at wanted
later_consumer true pipeline plans at func name wanted is e = planned_consumer (slice_get plans func) pipeline plans at func name wanted (ltb-true at func is)
    refl e
later_consumer false pipeline plans at func name wanted is e = cc

named_consumer : (named : Option Source) (pipeline : Pipeline) (plans : List FuncPlan) (at : ℕ) (name : List ℕ) (wanted : LoopPosition)
    → consumer_of pipeline plans at name named ≡ Some wanted
    → IsConsumer pipeline plans at wanted
named_consumer None pipeline plans at name wanted e = cc
named_consumer (Some (sources.Input place)) pipeline plans at name wanted e = cc
named_consumer (Some (sources.Func func)) pipeline plans at name wanted e = later_consumer (nat_lt at func) pipeline plans at func name wanted refl e

used_by : (away : Bool) (position wanted : LoopPosition) → cond away places.Nowhere (places.At position) ≡ places.At wanted → position ≡ wanted
used_by true position wanted e = cc
used_by false position wanted e = cc

consumer_by : (position : Option LoopPosition) (pipeline : Pipeline) (plans : List FuncPlan) (at : ℕ) (names : LoopNames) (behind : List FuncPlacement)
    (wanted : LoopPosition) → consumer pipeline plans at names ≡ position
    → place_at pipeline plans at behind position ≡ places.At wanted → IsConsumer pipeline plans at wanted
consumer_by None pipeline plans at names behind wanted is e = cc
consumer_by (Some own) pipeline plans at names behind wanted is e =
    let own_is : own ≡ wanted = used_by (is_called pipeline at (at + 1) (outside pipeline plans own (at + 1) behind)) own wanted e in
    subst (λ (h : LoopPosition). IsConsumer pipeline plans at h) own_is (named_consumer (lookup names.func pipeline.names) pipeline plans at names.inside own is)

computed_consumer : (said : Computed) (pipeline : Pipeline) (plans : List FuncPlan) (at : ℕ) (behind : List FuncPlacement) (wanted : LoopPosition)
    → place_computed pipeline plans at behind said ≡ places.At wanted → IsConsumer pipeline plans at wanted
computed_consumer computed.Root pipeline plans at behind wanted e = cc
computed_consumer (computed.At names) pipeline plans at behind wanted e = consumer_by (consumer pipeline plans at names) pipeline plans at names behind wanted
    refl e

consumer_of_line : (is_output : Bool) (compute : Option ComputeLine) (pipeline : Pipeline) (plans : List FuncPlan) (at : ℕ) (behind : List FuncPlacement)
    (wanted : LoopPosition)
    → cond is_output places.Root (place_of pipeline plans at behind compute) ≡ places.At wanted → IsConsumer pipeline plans at wanted
consumer_of_line true compute pipeline plans at behind wanted e = cc
consumer_of_line false None pipeline plans at behind wanted e = cc
consumer_of_line false (Some line) pipeline plans at behind wanted e = computed_consumer line.computed pipeline plans at behind wanted e

pub are_produced : (pipeline : Pipeline) (plans : List FuncPlan) (at : ℕ) (rest : List FuncPlan)
    → Numbered (IsProduced pipeline plans) at (standings_from pipeline plans at rest)
are_produced pipeline plans at [] = tt
are_produced pipeline plans at (first ∷ others) = (
  λ wanted e. consumer_of_line (at == pipeline.output.func) first.compute pipeline plans at (standings_from pipeline plans (at + 1) others) wanted e,
  are_produced pipeline plans (at + 1) others,
)

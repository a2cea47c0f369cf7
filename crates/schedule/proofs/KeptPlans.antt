-- Each line that is accepted keeps the plans of all Funcs.
use Rattle.std.proofs.Common.{◌≡◌, ℕ, zero, suc, ◌+◌, ◌≤◌, Bool, true, false, cond, List, [], ◌∷◌, ◌++◌, length, map, Option, Some, None, Result, Ok, Err, refl}
use Rattle.std.proofs.Common.{subst, arith}
use Rattle.std.proofs.Common.{length-append}
use Rattle.std.specs.Prelude.{is_some, slice_get, slice_set, nat_le}
use Rattle.line_text.specs.Lines.{◌>>=◌, located, taken_from}
use Rattle.halide_pipeline.specs.declared.definitions.Func.{Func}
use Rattle.halide_pipeline.specs.declared.definitions.Reduction.{Reduction}
use Rattle.halide_pipeline.specs.declared.definitions.Update.{Update}
use Rattle.halide_pipeline.specs.declared.expressions.Variable.TheVariants as variables
use Rattle.halide_pipeline.specs.Pipelines.{Pipeline}
use Rattle.halide_pipeline.specs.WellFormed.{is_first_in_place, is_second_in_place, are_arguments, are_reductions, IsWellFormed}
use Rattle.schedule_lines.specs.declared.faults.ScheduleFault.{ScheduleFault}
use Rattle.schedule_lines.specs.declared.faults.ScheduleFault.TheVariants as fault
use Rattle.schedule_lines.specs.declared.lines.Computed.{Computed}
use Rattle.schedule_lines.specs.declared.lines.Directive.{Directive}
use Rattle.schedule_lines.specs.declared.lines.Directive.TheVariants as directives
use Rattle.schedule_lines.specs.declared.lines.ScheduleLine.{ScheduleLine}
use Rattle.schedule_lines.specs.declared.lines.ScheduleLine.TheVariants as lines
use Rattle.schedule_lines.specs.declared.lines.LoopDirective.{LoopDirective}
use Rattle.schedule_lines.specs.declared.stages.Loop.{Loop}
use Rattle.schedule_lines.specs.declared.stages.LoopId.TheVariants as ids
use Rattle.schedule_lines.specs.declared.stages.Stage.{Stage}
use Rattle.schedule_lines.specs.declared.stages.StageName.{StageName}
use Rattle.schedule_lines.specs.Directives.{directed}
use Rattle.schedule_lines.specs.Making.{Differ, total, is_stray, IsStage, Begun}
use Rattle.schedule_lines.proofs.Names.{total-append}
use Rattle.schedule_lines.proofs.Steps.{directed_keeps}
use Rattle.schedule.specs.declared.plans.ComputeLine.{ComputeLine}
use Rattle.schedule.specs.declared.plans.FuncPlan.{FuncPlan}
use Rattle.schedule.specs.declared.readers.ScheduleReader.{ScheduleReader}
use Rattle.schedule.specs.declared.readers.LineSubject.{LineSubject}
use Rattle.schedule.specs.declared.readers.LineSubject.TheVariants as targets
use Rattle.schedule.specs.Accepted.{Pairwise, IsUpdateStage, IsPlan}
use Rattle.schedule.specs.Plans.{plan_of, pure_loops, reduction_loops, with_second, with_first_in_place, update_loops, update_stage, stage, with_stage}
use Rattle.schedule.specs.Plans.{with_compute}
use Rattle.schedule.proofs.Differing.{pure_differs, update_differs}
use Rattle.schedule.specs.Reading.{compute_fault, computed_as, computed_of, new_stage_of, directed_of, taken_directive, target, settled, line_of_bytes, taken}
use Rattle.schedule.specs.Reading.{start}

-- ---- lists in pairs

pub pairwise_map : {A B : Type 0} (P : A → B → Type 0) (f : A → B) (xs : List A) → ((k : ℕ) (x : A) → slice_get xs k ≡ Some x → P x (f x))
    → Pairwise P xs (map f xs)
pairwise_map P f [] each = tt
pairwise_map P f (x ∷ xs) each = (each 0 x refl, pairwise_map P f xs (λ k y found. each (suc k) y found))

pub pairwise_set : {A B : Type 0} (P : A → B → Type 0) (xs : List A) (ys : List B) (k : ℕ) (old new : B) → slice_get ys k ≡ Some old
    → ((x : A) → P x old → P x new)
    → Pairwise P xs ys → Pairwise P xs (slice_set ys k new)
pairwise_set P [] [] k old new is keeps pairs = cc
pairwise_set P [] (y ∷ ys) k old new is keeps pairs = absurd pairs
pairwise_set P (x ∷ xs) [] k old new is keeps pairs = absurd pairs
pairwise_set P (x ∷ xs) (y ∷ ys) zero old new is keeps pairs =
    let same : y ≡ old = cc in
    (keeps x (subst (P x) same pairs.0), pairs.1)
pairwise_set P (x ∷ xs) (y ∷ ys) (suc k) old new is keeps pairs = (pairs.0, pairwise_set P xs ys k old new is keeps pairs.1)

-- ---- before any line

few_pure : (second : Option (List ℕ)) (first : List ℕ) (func : Func) → func.second_argument ≡ second → length (pure_loops func) ≤ 5
few_pure None first func e = rw e (omega arith)
few_pure (Some name) first func e = rw e (omega arith)

few_reductions : (second : Option Reduction) (update : Update) → update.second ≡ second → length (reduction_loops update) ≤ 2
few_reductions None update e = rw e (omega arith)
few_reductions (Some reduction) update e = rw e (omega arith)

with_first_by : (in_place : Bool) (loops : List Loop) (x : Loop) → length (cond in_place (loops ++ x ∷ []) loops) ≤ length loops + 1
with_first_by true loops x = omega (arith, length-append loops (x ∷ []))
with_first_by false loops x = omega arith

with_second_by : (in_place : Bool) (second : Option (List ℕ)) (func : Func) (loops : List Loop) → func.second_argument ≡ second
    → length (cond in_place (with_second loops second variables.SecondArgument) loops) ≤ length loops + 1
with_second_by true None func loops e = omega arith
with_second_by true (Some name) func loops e = omega (
  arith,
  length-append loops (record {
    id = ids.Whole variables.SecondArgument;
    name = name;
    variable =
        variables.SecondArgument;
    inner_of = None;
    is_from_shift = false;
    marked = None;
  } ∷ []),
)
with_second_by false second func loops e = omega arith

few_update : (func : Func) (update : Update) → length (update_loops func update) ≤ 5
few_update func update =
    let first = with_first_in_place func update (reduction_loops update) in
    let a = few_reductions update.second update refl in
    let b : length first ≤ length (reduction_loops update) + 1 = with_first_by (is_first_in_place update) (reduction_loops update) _ in
    let d : length (update_loops func update) ≤ length first + 1 = with_second_by (is_second_in_place update) func.second_argument func first refl in
    omega arith

-- no loop is marked

none_stray : (second : Option (List ℕ)) (loops : List Loop) (name : List ℕ) → total is_stray loops ≡ 0
    → total is_stray (with_second loops second variables.SecondArgument) ≡ 0
none_stray None loops name e = e
none_stray (Some own) loops name e = omega (
  arith,
  total-append is_stray loops (record {
    id = ids.Whole variables.SecondArgument;
    name = own;
    variable =
        variables.SecondArgument;
    inner_of = None;
    is_from_shift = false;
    marked = None;
  } ∷ []),
  e,
)

pure_stray : (func : Func) → total is_stray (pure_loops func) ≡ 0
pure_stray func = none_stray func.second_argument _ [] refl

reductions_stray : (second : Option Reduction) (update : Update) → update.second ≡ second → total is_stray (reduction_loops update) ≡ 0
reductions_stray None update e = rw e refl
reductions_stray (Some reduction) update e = rw e refl

first_stray : (in_place : Bool) (loops : List Loop) (x : Loop) → is_stray x ≡ 0 → total is_stray loops ≡ 0
    → total is_stray (cond in_place (loops ++ x ∷ []) loops) ≡ 0
first_stray true loops x none e = omega (arith, total-append is_stray loops (x ∷ []), none, e)
first_stray false loops x none e = e

second_stray : (in_place : Bool) (func : Func) (loops : List Loop) → total is_stray loops ≡ 0
    → total is_stray (cond in_place (with_second loops func.second_argument variables.SecondArgument) loops) ≡ 0
second_stray true func loops e = none_stray func.second_argument loops [] e
second_stray false func loops e = e

update_stray : (func : Func) (update : Update) → total is_stray (update_loops func update) ≡ 0
update_stray func update =
    second_stray (is_second_in_place update) func _ (first_stray (is_first_in_place update) (reduction_loops update) _ refl (reductions_stray update.second
    update refl))

begun : (is_update : Bool) (start : List Loop) → length start ≤ 5 → total is_stray start ≡ 0 → Differ start
    → IsStage is_update start (record { loops = start; splits = [] })
begun is_update start few unrolled differ = record { made = Begun; names = differ; few = few; unrolled = unrolled }

plan_begun : (func : Func) → are_arguments func.first_argument func.second_argument ≡ true
    → ((at : ℕ) (update : Update) → slice_get func.updates at ≡ Some update → are_reductions func.first_argument func.second_argument update ≡ true)
    → IsPlan func (plan_of func)
plan_begun func arguments reductions = record {
  pure = begun false (pure_loops func) (few_pure func.second_argument [] func refl) (pure_stray func) (pure_differs func arguments);
  undirected = λ e. refl;
  updates = pairwise_map (IsUpdateStage func) (update_stage func) func.updates
      (λ at update found. begun true (update_loops func update) (few_update func update) (update_stray func update) (update_differs func update arguments
      (reductions at update found)));
}

-- ---- a plan after a line

abbrev ArePlans : Pipeline → ScheduleReader → Type 0
ArePlans pipeline reader = Pairwise IsPlan pipeline.funcs reader.plans

compute_kept : (func : Func) (plan : FuncPlan) (compute : ComputeLine) → IsPlan func plan → IsPlan func (with_compute plan compute)
compute_kept func plan compute is = record { pure = is.pure; undirected = is.undirected; updates = is.updates }

-- a stage that is there, and the one that a line makes of it
stage_kept : (update : Option ℕ) (func : Func) (plan : FuncPlan) (line : ℕ) (d : LoopDirective) (own_stage new : Stage) → stage plan update ≡ Some own_stage
    → directed (is_some update) own_stage line d ≡ Ok new
    → IsPlan func plan → IsPlan func (with_stage plan update new)
stage_kept None func plan line d own_stage new found e is =
    let same : plan.pure ≡ own_stage = cc in
    record {
      pure = directed_keeps false (pure_loops func) own_stage line d new e (subst (λ (s : Stage). IsStage false (pure_loops func) s) same is.pure);
      undirected = λ directed. absurd cc;
      updates = is.updates;
    }
stage_kept (Some at) func plan line d own_stage new found e is = record {
  pure = is.pure;
  undirected = λ directed. absurd cc;
  updates = pairwise_set (IsUpdateStage func) func.updates plan.updates at own_stage new found
      (λ update kept. directed_keeps true (update_loops func update) own_stage line d new e kept) is.updates;
}

-- ---- lines

abbrev KeepsPlans : Pipeline → ScheduleReader → Result ScheduleReader ScheduleFault → Type 0
KeepsPlans pipeline reader given = (next : ScheduleReader) → given ≡ Ok next → ArePlans pipeline reader → ArePlans pipeline next

computed_by : (faulty : Option ScheduleFault) (pipeline : Pipeline) (reader : ScheduleReader) (func : ℕ) (computed : Computed) (plan : FuncPlan)
    → slice_get reader.plans func ≡ Some plan
    → KeepsPlans pipeline reader (computed_as reader func computed plan faulty)
computed_by (Some wrong) pipeline reader func computed plan found next e are = cc
computed_by None pipeline reader func computed plan found next e are =
    let line : ComputeLine = record { line = reader.lines; computed = computed } in
    let kept : Pairwise IsPlan pipeline.funcs (slice_set reader.plans func (with_compute plan line)) = pairwise_set IsPlan pipeline.funcs reader.plans func plan
    (with_compute plan line) found (λ f is. compute_kept f plan line is) are in
    let next_is : record { lines = reader.lines; plans = slice_set reader.plans func (with_compute plan line) } ≡ next = cc in
    subst (ArePlans pipeline) next_is kept

computed_found : (func_plan : Option FuncPlan) (pipeline : Pipeline) (reader : ScheduleReader) (func : ℕ) (computed : Computed) → slice_get reader.plans func ≡ func_plan
    → KeepsPlans pipeline reader (computed_of pipeline reader func computed func_plan)
computed_found None pipeline reader func computed func_plan next e are = cc
computed_found (Some plan) pipeline reader func computed func_plan next e are = computed_by (compute_fault pipeline func plan) pipeline reader func computed plan
    func_plan next e are

directed_by : (given : Result Stage ScheduleFault) (own_stage : Stage) (pipeline : Pipeline) (reader : ScheduleReader) (name : StageName) (d : LoopDirective)
    (plan : FuncPlan) → slice_get reader.plans name.func ≡ Some plan
    → stage plan name.update ≡ Some own_stage → directed (is_some name.update) own_stage reader.lines d ≡ given
    → KeepsPlans pipeline reader (given >>= λ new. Ok (record {
      lines = reader.lines;
      plans = slice_set reader.plans name.func (with_stage plan name.update new);
    }))
directed_by (Err wrong) own_stage pipeline reader name d plan found at is next e are = cc
directed_by (Ok new) own_stage pipeline reader name d plan found at is next e are =
    let kept : Pairwise IsPlan pipeline.funcs (slice_set reader.plans name.func (with_stage plan name.update new)) =
    pairwise_set IsPlan pipeline.funcs reader.plans name.func plan (with_stage plan name.update new) found (λ f kept. stage_kept name.update f plan reader.lines
    d own_stage new at is kept) are in
    let next_is : record { lines = reader.lines; plans = slice_set reader.plans name.func (with_stage plan name.update new) } ≡ next = cc in
    subst (ArePlans pipeline) next_is kept

directed_stage : (at : Option Stage) (pipeline : Pipeline) (reader : ScheduleReader) (name : StageName) (d : LoopDirective) (plan : FuncPlan)
    → slice_get reader.plans name.func ≡ Some plan → stage plan name.update ≡ at
    → KeepsPlans pipeline reader (new_stage_of name.update reader.lines d at >>= λ new. Ok (record {
      lines = reader.lines;
      plans =
          slice_set reader.plans name.func (with_stage plan name.update new);
    }))
directed_stage None pipeline reader name d plan found at next e are = cc
directed_stage (Some own) pipeline reader name d plan found at next e are =
    directed_by (directed (is_some name.update) own reader.lines d) own pipeline reader name d plan found at refl next e are

directed_found : (func_plan : Option FuncPlan) (pipeline : Pipeline) (reader : ScheduleReader) (name : StageName) (d : LoopDirective)
    → slice_get reader.plans name.func ≡ func_plan
    → KeepsPlans pipeline reader (directed_of reader name d func_plan)
directed_found None pipeline reader name d func_plan next e are = cc
directed_found (Some plan) pipeline reader name d func_plan next e are = directed_stage (stage plan name.update) pipeline reader name d plan func_plan refl next e are

directive_keeps : (to : Option LineSubject) (pipeline : Pipeline) (reader : ScheduleReader) (d : Directive)
    → KeepsPlans pipeline reader (taken_directive pipeline reader to d)
directive_keeps None pipeline reader d next e are = cc
directive_keeps (Some targets.Input) pipeline reader d next e are = cc
directive_keeps (Some (targets.Stage name)) pipeline reader (directives.OfPlace computed) next e are = computed_found (slice_get reader.plans name.func)
    pipeline reader name.func computed refl next e are
directive_keeps (Some (targets.Stage name)) pipeline reader (directives.OfLoops d) next e are = directed_found (slice_get reader.plans name.func) pipeline
    reader name d refl next e are

said_keeps : (said : Result ScheduleLine ScheduleFault) (pipeline : Pipeline) (reader : ScheduleReader)
    → KeepsPlans pipeline reader (said >>= λ l. settled pipeline (record { lines = reader.lines + 1; plans = reader.plans }) l)
said_keeps (Err wrong) pipeline reader next e are = cc
said_keeps (Ok lines.Blank) pipeline reader next e are =
    let next_is : record { lines = reader.lines + 1; plans = reader.plans } ≡ next = cc in
    subst (ArePlans pipeline) next_is are
said_keeps (Ok (lines.Directive subject d)) pipeline reader next e are =
    let behind : ScheduleReader = record { lines = reader.lines + 1; plans = reader.plans } in
    directive_keeps (target pipeline reader.plans subject) pipeline behind d next e are

line_by : (past : Bool) (pipeline : Pipeline) (reader : ScheduleReader) (line : List ℕ)
    → KeepsPlans pipeline reader (cond past (Err fault.Syntax) (line_of_bytes line >>= λ said. settled pipeline (record {
      lines = reader.lines + 1;
      plans =
          reader.plans;
    }) said))
line_by true pipeline reader line next e are = cc
line_by false pipeline reader line next e are = said_keeps (line_of_bytes line) pipeline reader next e are

line_keeps : (pipeline : Pipeline) (reader : ScheduleReader) (line : List ℕ) → KeepsPlans pipeline reader (taken pipeline reader line)
unfolding taken
line_keeps pipeline reader line next e are = line_by (nat_le 256 reader.lines) pipeline reader line next e are

lines_by : (given : Result ScheduleReader ScheduleFault) (pipeline : Pipeline) (number : ℕ) (reader : ScheduleReader) (later : List (List ℕ)) (last : ScheduleReader)
    → KeepsPlans pipeline reader given
    → ((next : ScheduleReader) → taken_from (taken pipeline) (number + 1) next later ≡ Ok last → ArePlans pipeline next → ArePlans pipeline last)
    → located number given (λ next. taken_from (taken pipeline) (number + 1) next later) ≡ Ok last → ArePlans pipeline reader → ArePlans pipeline last
lines_by (Err wrong) pipeline number reader later last keeps goes_on e are = cc
lines_by (Ok next) pipeline number reader later last keeps goes_on e are = goes_on next e (keeps next refl are)

pub lines_keep : (pipeline : Pipeline) (number : ℕ) (reader : ScheduleReader) (lines : List (List ℕ)) (last : ScheduleReader) → taken_from (taken pipeline) number reader lines
    ≡ Ok last
    → ArePlans pipeline reader → ArePlans pipeline last
unfolding taken_from
lines_keep pipeline number reader [] last e are = let last_is : reader ≡ last = cc in subst (ArePlans pipeline) last_is are
lines_keep pipeline number reader (line ∷ later) last e are =
    lines_by (taken pipeline reader line) pipeline number reader later last (line_keeps pipeline reader line)
    (λ next rest kept. lines_keep pipeline (number + 1) next later last rest kept) e are

pub plans_begun : (pipeline : Pipeline) → IsWellFormed pipeline → ArePlans pipeline (start pipeline)
plans_begun pipeline rules =
    pairwise_map IsPlan plan_of pipeline.funcs (λ k func found. plan_begun func (rules.funcs k func found).arguments (rules.funcs k func found).reductions)

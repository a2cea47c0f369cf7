-- The code of a task does the task: it leaves the result's bytes at the points that the task owns.
use Rattle.std.proofs.Common.{◌≡◌, ℕ, ◌^◌, ◌<◌, ◌≤◌, Bool, true, false, cond, List, length, Option, Some, None, refl, sym, ap, subst, ◌∙◌, arith, inl, inr}
use Rattle.std.proofs.Common.{true≢false}
use Rattle.std.specs.List.{list_any}
use Rattle.std.specs.Prelude.{◌⊎◌, ◌==◌, ◌&&◌, ◌||◌, slice_get, nat_lt, Ok}
use Rattle.std.proofs.lemmas.Bool.{and_parts, cases_eq, ne_eqb, eq-eqb, eqb-true, ltb-true}
use Rattle.rv_insn.specs.declared.instructions.Insn.{Insn}
use Rattle.memory.specs.Access.{byte_at, AreBytes}
use Rattle.halide_pipeline.specs.declared.definitions.Input.{Input}
use Rattle.halide_pipeline.specs.declared.expressions.Source.{Source}
use Rattle.halide_pipeline.specs.declared.expressions.Source.TheVariants as sources
use Rattle.halide_pipeline.specs.Pipelines.{Pipeline}
use Rattle.halide_pipeline.specs.WellFormed.{IsWellFormed}
use Rattle.halide_pipeline.specs.Pixel.{Planes, Reads, reads_of, pixels}
use Rattle.halide_pipeline.specs.Points.{Point}
use Rattle.schedule.specs.declared.schedules.Schedule.{Schedule}
use Rattle.schedule.specs.Accepted.{IsAccepted}
use Rattle.schedule_loops.specs.Visits.{counts, is_slice}
use Rattle.bounds_ranges.specs.Laws.{AnswerWords}
use Rattle.bounds.specs.declared.verdict.Boxes.{Boxes}
use Rattle.bounds.specs.Verdict.{inferred}
use Rattle.bounds.specs.Extents.{extents_of}
use Rattle.bounds_laws.specs.Closure.{is_within}
use Rattle.multi_hart_laws.specs.Uses.{Owned, Given}
use Rattle.work_sharing.specs.Turns.{ticket_word}
use Rattle.loop_ir.specs.Buffers.{Points}
use Rattle.loop_ir.specs.Running.{run_task, task_values}
use Rattle.loop_ir.specs.Runs.{stores_in_runs}
use Rattle.loop_ir.specs.Soundness.{Have}
use Rattle.lowering_nests.specs.Nests.{loops_of}
use Rattle.lowering.specs.Phases.{Hold, DoesPhase}
use Rattle.lowering.specs.Planes.{box_points}
use Rattle.lowering.specs.Runs.{is_in_run}
use Rattle.schedule_loops.specs.Runs.{is_vectorized_first, outside_innermost, run_of, are_iterations}
use Rattle.lowering.specs.Stages.{is_private}
use Rattle.lowering.specs.Touching.{is_listed, is_root_at, may_write, may_load_at, may_load}
use Rattle.lowering.proofs.RunLists.{runs_are_listed}
use Rattle.task_code_scalar.specs.Doing.{Setting, IsSetting, SoundIn, RunsIn, HoldsFuncs}
use Rattle.task_code_scalar.specs.Layout.{AreWords, func_point}
use Rattle.vector_codegen.specs.AtOnce.{AtOnceIn}
use Rattle.vector_codegen.specs.Programs.{EachTaskEnds, HasDrawn, TaskEnds}
use Rattle.vector_codegen_laws.specs.Held.{funcs_in, HasInputs, setting, IsTask}
use Rattle.vector_codegen_laws.specs.Points.{RootPoint}
use Rattle.vector_codegen_laws.specs.RunBytes.{RunsAreNamed}
use Rattle.vector_codegen_laws.specs.Settings.{places, size, uses, IsWritten, IsLoaded, Touches, OneOwner}
use Rattle.vector_codegen_laws.specs.Uses.{use_of, byte_in}
use Rattle.vector_codegen_laws.proofs.Holding.{memory-holds-funcs, tasks-find-theirs, tasks-leave-theirs}
use Rattle.vector_codegen_laws.proofs.Laying.{tasks-are-laid}
use Rattle.vector_codegen_laws.proofs.RunBytes.{tasks-may-write-runs}
use Rattle.vector_codegen_laws.specs.Runs.{writes_runs}
use Rattle.vector_codegen_laws.proofs.Facts.{Work, IsKnown, root_point, private_point, listed_root_point, point_there, shared_point}
use Rattle.vector_codegen_laws.proofs.Matters.{owners_of, start_of, result_of, byte_of_planes}
use Rattle.vector_codegen_laws.proofs.Places.{are_places, size_fits}
use Rattle.vector_codegen_laws.proofs.Words.{stages_answer, held_word}

-- what a test by the own place says
by_own : (a b : ℕ) (own other : Bool) → a ≡ b → cond (a == b) own other ≡ true → own ≡ true
by_own a b own other e t = sym (ap (λ (c : Bool). cond c own other) (eq-eqb a b e)) ∙ t

by_other : (a b : ℕ) (own other : Bool) → (a ≡ b → ⊥) → cond (a == b) own other ≡ true → other ≡ true
by_other a b own other d t = sym (ap (λ (c : Bool). cond c own other) (ne_eqb a b d)) ∙ t

or_cases : (a b : Bool) → (a || b) ≡ true → (a ≡ true) ⊎ (b ≡ true)
or_cases true b e = inl refl
or_cases false b e = inr e

record InputWithin (entry : Option Input) (x y : ℕ) : Type 0 where
  input : Input
  is : entry ≡ Some input
  column : x < input.width
  row : y < input.height

input_within : (entry : Option Input) (x y : ℕ) → is_within entry x y ≡ true → InputWithin entry x y
input_within None x y e = absurd (true≢false (sym e))
input_within (Some input) x y e =
    let k = and_parts (nat_lt x input.width) (nat_lt y input.height) e in
    record { input = input; is = refl; column = ltb-true x input.width k.0; row = ltb-true y input.height k.1 }

-- the run that counters name is one of the list
runs_named : (work : Work) → RunsAreNamed (owners_of work)
runs_named work values x y is =
    let extents = extents_of work.own in
    let stage = work.plan.pure in
    let iterations = loops_of work.place values in
    let are : Bool = are_iterations (counts extents stage.splits) (outside_innermost stage.loops) iterations in
    let in_iterations = (and_parts are (list_any (is_slice x y) (run_of extents stage iterations)) is).0 in
    record {
      visits = run_of extents stage iterations;
      there = (runs_are_listed extents stage).0 iterations in_iterations;
      is = λ a b. ap (λ (t : Bool). t && list_any (is_slice a b) (run_of extents stage iterations)) in_iterations;
    }

module _ (pipeline : Pipeline) (schedule : Schedule) (boxes : Boxes) (rules : IsWellFormed pipeline) (accepted : IsAccepted pipeline schedule)
    (is : inferred pipeline schedule ≡ Ok boxes)
    (inputs : Planes) (begun : AnswerWords pipeline.inputs (reads_of inputs (pixels pipeline.funcs inputs 0))) (work : Work) (known : IsKnown pipeline schedule
    boxes work) where
  abbrev all_points : Points
  all_points = box_points boxes.funcs

  abbrev private : ℕ → Bool
  private = is_private schedule.standings

  abbrev start : Planes
  start = start_of pipeline schedule boxes inputs work

  abbrev result : Planes
  result = result_of pipeline schedule boxes inputs work

  pub does : DoesPhase all_points private work.place start result work.phase.tasks work.owned (run_task all_points inputs work.phase)
  does = known.does inputs begun

  pub one_owner : OneOwner (owners_of work)
  one_owner x y first second lf ls of os = does.one_owner x y first second lf ls of os

  pub start_word : (func x y : ℕ) → start func x y < 2 ^ 32
  start_word func x y =
      held_word pipeline rules inputs begun boxes.funcs _ (stages_answer pipeline rules inputs begun work.place work.func known.func_is work.number) func x y

  module _ (k : ℕ) (text : List ℕ) (harts task hart : ℕ) (below : task < work.phase.tasks) (number_is : hart < harts) (few_harts : harts ≤ 8) where
    pub own_point : (x y : ℕ) → work.owned task x y ≡ true → RootPoint pipeline schedule boxes.funcs work.place x y
    own_point x y o = root_point pipeline schedule boxes work.place x y known.standing known.standing_is known.at_root ((does.each task below).there x y o)

    abbrev written : Points
    written = may_write boxes.funcs work.place (work.owned task) work.phase.private

    abbrev loaded : Point → Bool
    loaded = may_load pipeline schedule boxes work.place (work.owned task) work.phase.private

    -- ---- what it touches

    writes_so : (func x y : ℕ) → written func x y ≡ true → IsWritten pipeline schedule boxes.funcs k (owners_of work) task func x y
    writes_so func x y t =
        let listed = is_listed work.phase.private func in
        let there = all_points func x y in
        elim (cases_eq func work.place) [
          | inl e ↦
              let o = by_own func work.place (work.owned task x y) (listed && there) e t in
              inl (subst (λ (n : ℕ). RootPoint pipeline schedule boxes.funcs n x y) (sym e) (own_point x y o), (e, o))
          | inr d ↦
              let both = and_parts listed there (by_other func work.place (work.owned task x y) (listed && there) d t) in
              inr (private_point pipeline schedule boxes func x y (known.produced func both.0) both.1)
        ]

    loads_so : (source : Source) (x y : ℕ) → may_load_at pipeline schedule boxes work.place (work.owned task) work.phase.private source x y ≡ true
        → IsLoaded pipeline schedule boxes.funcs k (owners_of work) task source x y
    loads_so (sources.Input place) x y t =
        let w = input_within (slice_get pipeline.inputs place) x y t in
        record { input = w.input; input_is = w.is; column = w.column; row = w.row }
    loads_so (sources.Func func) x y t =
        let root = is_root_at schedule.standings func in
        let listed = is_listed work.phase.private func in
        let there = all_points func x y in
        elim (cases_eq func work.place) [
          | inl e ↦
              let o = by_own func work.place (work.owned task x y) ((root || listed) && there) e t in
              inl (subst (λ (n : ℕ). RootPoint pipeline schedule boxes.funcs n x y) (sym e) (own_point x y o), λ f. o)
          | inr d ↦
              let both = and_parts (root || listed) there (by_other func work.place (work.owned task x y) ((root || listed) && there) d t) in
              elim (or_cases root listed both.0) [
                | inl r ↦ inl (listed_root_point pipeline schedule boxes func x y r both.1, λ f. absurd (d f))
                | inr l ↦ inr (private_point pipeline schedule boxes func x y (known.produced func l) both.1)
              ]
        ]

    touches : Touches pipeline schedule boxes.funcs k (owners_of work) task written loaded
    touches = record { writes = writes_so; loads = λ point t. loads_so point.source point.x point.y t }

    have : Have written all_points
    have func x y t = elim (writes_so func x y t) [
      | inl w ↦ point_there pipeline schedule boxes func x y w.0
      | inr p ↦
          let listed = is_listed work.phase.private func in
          elim (cases_eq func work.place) [
            | inl e ↦
                subst (λ (n : ℕ). all_points n x y ≡ true) (sym e)
                ((does.each task below).there x y (by_own func work.place (work.owned task x y) (listed && all_points func x y) e t))
            | inr d ↦ (and_parts listed (all_points func x y) (by_other func work.place (work.owned task x y) (listed && all_points func x y) d t)).1
          ]
    ]

    own_loaded : (x y : ℕ) → work.owned task x y ≡ true → loaded (func_point work.place x y) ≡ true
    own_loaded x y o =
        ap (λ (b : Bool). cond b (work.owned task x y) ((is_root_at schedule.standings work.place || is_listed work.phase.private work.place)
        && all_points work.place x y)) (eq-eqb work.place work.place refl) ∙ o

    -- ---- where it runs

    abbrev pub own : Setting
    own = setting pipeline schedule boxes.funcs k (owners_of work) text harts task hart inputs all_points written loaded

    task_is : IsTask pipeline schedule boxes.funcs k (owners_of work) task hart
    task_is = record { few_harts = omega (arith, number_is, few_harts); below = below; one_owner = one_owner; fits = size_fits pipeline schedule boxes is }

    is_setting : IsSetting own
    is_setting = record {
      are_places = are_places pipeline schedule boxes rules accepted is;
      laid = tasks-are-laid pipeline schedule boxes.funcs k (owners_of work) text task hart (omega (arith, number_is, few_harts)) below one_owner
          (size_fits pipeline schedule boxes is) written loaded touches;
      have = have;
      are_words = λ place x y lx ly. begun.words (sources.Input place) x y lx ly;
      at_once = tasks-may-write-runs pipeline schedule boxes.funcs k (owners_of work) text harts task hart inputs all_points written loaded task_is
          (runs_named work) writes_so;
    }

    answers : (funcs : Planes) → AreWords funcs → AnswerWords pipeline.inputs (reads_of inputs funcs)
    answers funcs words = record { words = each; bytes = begun.bytes }
      where
        each : (s : Source) (x y : ℕ) → x < 2 ^ 32 → y < 2 ^ 32 → reads_of inputs funcs s x y < 2 ^ 32
        each (sources.Input place) x y lx ly = begun.words (sources.Input place) x y lx ly
        each (sources.Func place) x y lx ly = words place x y lx ly

    sound : SoundIn own work.phase.body (task_values work.phase.counter task)
    sound funcs words = known.touches task below (reads_of inputs funcs) (answers funcs words)

    at_once : AtOnceIn own work.phase.body (task_values work.phase.counter task)
    at_once funcs words = known.loop_lanes task below (reads_of inputs funcs)

    -- a Func that is written in runs is the phase's own
    module _ (func : ℕ) (asked : (func == work.place && writes_runs work.plan work.number) ≡ true) where
      func_same : work.place ≡ func
      func_same = sym (eqb-true func work.place (and_parts (func == work.place) (writes_runs work.plan work.number) asked).0)

      asked_parts : ((work.number == 0) ≡ true) × (is_vectorized_first work.plan.pure.loops ≡ true)
      asked_parts = and_parts (work.number == 0) (is_vectorized_first work.plan.pure.loops) (and_parts (func == work.place) (writes_runs work.plan work.number)
          asked).1

      first : work.number ≡ 0
      first = eqb-true work.number 0 asked_parts.0

      pub stores_runs : (reads : Reads) (x y : ℕ)
          → stores_in_runs reads func x y (is_in_run (extents_of work.own) work.plan.pure work.place x y) work.phase.body (task_values work.phase.counter task)
          ≡ true
      stores_runs reads x y =
          subst (λ (n : ℕ). stores_in_runs reads n x y (is_in_run (extents_of work.own) work.plan.pure work.place x y) work.phase.body
          (task_values work.phase.counter task) ≡ true) func_same
          (known.stores_in_runs first asked_parts.1 task below reads x y)

    in_runs : RunsIn own work.phase.body (task_values work.phase.counter task)
    in_runs funcs words func asked x y = stores_runs func asked (reads_of inputs funcs) x y

    -- ---- what it finds and leaves

    module _ (found : List ℕ) (size_is : length found ≡ size pipeline schedule boxes.funcs) (bytes : AreBytes found)
        (given : (address : ℕ) → Given task (uses pipeline schedule boxes.funcs k (owners_of work) address)
        → byte_at text found address ≡ byte_of_planes pipeline schedule boxes inputs start address) where
      has_inputs : HasInputs pipeline schedule boxes.funcs text found inputs
      has_inputs address place offset e =
          given address (subst (λ u. Given task u) (sym (ap (use_of boxes.funcs k (owners_of work)) e)) tt)
          ∙ ap (byte_in pipeline.inputs boxes.funcs inputs start) e

      abbrev pub funcs_found : Planes
      funcs_found = funcs_in pipeline schedule boxes.funcs text found hart

      holds_found : HoldsFuncs own found funcs_found
      holds_found =
          memory-holds-funcs pipeline schedule boxes.funcs k (owners_of work) text found harts task hart inputs (pixels pipeline.funcs inputs 0) all_points
          written loaded task_is size_is bytes begun has_inputs
          touches.loads

      pub finds : Hold all_points private work.place (work.owned task) start funcs_found
      finds func x y shared there own_there =
          tasks-find-theirs pipeline schedule boxes.funcs k (owners_of work) text found task hart inputs start task_is given func x y
          (shared_point pipeline schedule boxes accepted is func x y shared there) own_there
          (start_word func x y)

      module _ (f : ℕ → ℕ) (insns : List Insn) (turns : ℕ → ℕ)
          (each_ends : EachTaskEnds (places pipeline schedule boxes.funcs) work.phase (ticket_word k) insns turns) (few : work.phase.tasks < 2 ^ 32)
          (drawn : HasDrawn own task f) where
        pub ends : TaskEnds own work.phase insns (turns task) (ticket_word k) task f found funcs_found
        ends = each_ends own is_setting refl task below sound at_once in_runs f found funcs_found holds_found drawn

        pub leaves : (address : ℕ) → uses pipeline schedule boxes.funcs k (owners_of work) address ≡ Owned task
            → byte_at text ends.left address ≡ byte_of_planes pipeline schedule boxes inputs result address
        leaves address o =
            tasks-leave-theirs pipeline schedule boxes.funcs k (owners_of work) text ends.left harts task hart inputs (run_task all_points inputs work.phase
            task funcs_found) result all_points written loaded task_is
            (ends.are_bytes bytes) ends.holds own_point own_loaded (λ x y t. (does.each task below).does funcs_found finds x y t) address o

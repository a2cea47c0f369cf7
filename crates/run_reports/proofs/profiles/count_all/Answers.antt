use Rattle.std.proofs.Common.{◌≡◌, ◌∙◌, ◌<◌, ℕ, List, ap, arith, length, replicate, subst, sym, take}
use Rattle.std.proofs.lemmas.List.{length-take-le}
use Rattle.std.proofs.lemmas.List.Elements.{recursion_from_All}
use Rattle.std.specs.Prelude.{slice_index_or, slice_set}
use Rattle.std.proofs.lemmas.Option.{slice_get-get_or}
use Rattle.std.proofs.Math.Seq.{take-length}
use Rattle.multi_hart.specs.Run.{KeepsShape, State, run}
use Rattle.multi_hart.proofs.Resting.{run-append}
use Rattle.multi_hart.proofs.TurnByTurn.{shape-run, shape-then}
use Rattle.turn_log.proofs.RunAtLaws.{run_at-below, run_at-none, run_at-stands}
use Rattle.turn_log.proofs.RunLaws.{few_turns_all}
use Rattle.run_reports.specs.Profile.{IsProfile}
use Rattle.run_reports.specs.inner.Counting.{IsAdded}
use Rattle.run_reports.proofs.Adding.{next_profiles, room_behind, turns_taken}
use Rattle.run_reports.proofs.profiles.count_all.Goals as goal

pub overflow_add-place : goal.overflow_add-place
overflow_add-place c =
    let few = few_turns_all c.args.log.now c.harts-harts.ensures.log in
    let within = (run_at-stands c.args.log.now.turns c.runs.place c.in-Some.hart c.in-Some.count (sym c.in-Some.ensures)).within in
    omega (arith, few, within)

pub runs-smaller : goal.runs-smaller
runs-smaller c =
    let stand = run_at-stands c.args.log.now.turns c.runs.place c.in-Some.hart c.in-Some.count (sym c.in-Some.ensures) in
    let some = stand.some in
    let within = stand.within in
    omega (arith, some, within)

pub bounds-profiles-hart : goal.bounds-profiles-hart
bounds-profiles-hart c =
    let log = c.args.log.now in
    let below = run_at-below log.harts log.turns c.runs.place c.in-Some.hart c.in-Some.count
    (recursion_from_All (λ (turn : ℕ). turn < log.harts) log.turns c.harts-harts.ensures.log.turns_below) (sym c.in-Some.ensures) in
    let as_many = c.runs.invariant.counted.as_many in
    omega (arith, below, as_many, c.requires.harts)

pub offset_bounds-profiles-hart : goal.offset_bounds-profiles-hart
offset_bounds-profiles-hart c =
    let log = c.args.log.now in
    let below = run_at-below log.harts log.turns c.runs.place c.in-Some.hart c.in-Some.count
    (recursion_from_All (λ (turn : ℕ). turn < log.harts) log.turns c.harts-harts.ensures.log.turns_below) (sym c.in-Some.ensures) in
    let few = c.harts-harts.ensures.log.few_harts in
    omega (arith, below, few)

pub count_run-requires-clause-there : goal.count_run-requires-clause-there
count_run-requires-clause-there c =
    let log = c.args.log.now in
    let below = run_at-below log.harts log.turns c.runs.place c.in-Some.hart c.in-Some.count
    (recursion_from_All (λ (turn : ℕ). turn < log.harts) log.turns c.harts-harts.ensures.log.turns_below) (sym c.in-Some.ensures) in
    omega (arith, below, c.requires.harts, c.runs.invariant.shape.harts)

pub count_run-requires-clause-as_many : goal.count_run-requires-clause-as_many
count_run-requires-clause-as_many c =
    let log = c.args.log.now in
    let few_harts = run_at-below log.harts log.turns c.runs.place c.in-Some.hart c.in-Some.count
    (recursion_from_All (λ (turn : ℕ). turn < log.harts) log.turns c.harts-harts.ensures.log.turns_below) (sym c.in-Some.ensures) in
    let as_many = c.runs.invariant.counted.as_many in
    let below : c.in-Some.hart < length c.runs.profiles = omega (arith, few_harts, as_many, c.requires.harts) in
    let inv = c.runs.invariant in
    let profiles = c.runs.profiles in
    let hart = c.in-Some.hart in
    let one = slice_index_or profiles hart c.index-profiles-hart.result in
    let got = slice_get-get_or profiles hart c.index-profiles-hart.result below in
    (inv.counted.each hart one got).as_many ∙ ap (λ (text : List ℕ). length text) (sym inv.shape.text)

pub count_run-requires-clause-room : goal.count_run-requires-clause-room
count_run-requires-clause-room c =
    let log = c.args.log.now in
    let few_harts = run_at-below log.harts log.turns c.runs.place c.in-Some.hart c.in-Some.count
    (recursion_from_All (λ (turn : ℕ). turn < log.harts) log.turns c.harts-harts.ensures.log.turns_below) (sym c.in-Some.ensures) in
    let as_many = c.runs.invariant.counted.as_many in
    let below : c.in-Some.hart < length c.runs.profiles = omega (arith, few_harts, as_many, c.requires.harts) in
    let start = c.args.machine.now in
    let turns = c.args.log.now.turns in
    let inv = c.runs.invariant in
    let profiles = c.runs.profiles in
    let hart = c.in-Some.hart in
    let one = slice_index_or profiles hart c.index-profiles-hart.result in
    let got = slice_get-get_or profiles hart c.index-profiles-hart.result below in
    let few = few_turns_all c.args.log.now c.harts-harts.ensures.log in
    let within = (run_at-stands turns c.runs.place hart c.in-Some.count (sym c.in-Some.ensures)).within in
    room_behind (length start.text) hart start (take c.runs.place turns) one c.in-Some.count (inv.counted.each hart one got)
    (omega (arith, few, within, length-take-le c.runs.place turns inv.within))

pub runs-preserved : goal.runs-preserved
runs-preserved c =
    let log = c.args.log.now in
    let few_harts = run_at-below log.harts log.turns c.runs.place c.in-Some.hart c.in-Some.count
    (recursion_from_All (λ (turn : ℕ). turn < log.harts) log.turns c.harts-harts.ensures.log.turns_below) (sym c.in-Some.ensures) in
    let as_many = c.runs.invariant.counted.as_many in
    let below : c.in-Some.hart < length c.runs.profiles = omega (arith, few_harts, as_many, c.requires.harts) in
    let start = c.args.machine.now in
    let turns = c.args.log.now.turns in
    let place = c.runs.place in
    let hart = c.in-Some.hart in
    let count = c.in-Some.count in
    let now = c.runs.machine in
    let inv = c.runs.invariant in
    let profiles = c.runs.profiles in
    let one = slice_index_or profiles hart c.index-profiles-hart.result in
    let got = slice_get-get_or profiles hart c.index-profiles-hart.result below in
    let stand = run_at-stands turns place hart count (sym c.in-Some.ensures) in
    let taken = turns_taken turns place hart count stand in
    let state = c.count_run.ensures.state in
    record {
      within = stand.within;
      shape = shape-then start now _ inv.shape (subst (KeepsShape now) (sym state) (shape-run now (replicate count hart)));
      state = state ∙ ap (λ (s : State). run s (replicate count hart)) inv.state ∙ sym (run-append start (take place turns) (replicate count hart))
          ∙ ap (run start) (sym taken);
      counted = subst (λ (ts : List ℕ). IsProfile start ts (slice_set profiles hart c.count_run.new.profile)) (sym taken)
          (next_profiles start (take place turns) hart count profiles one c.count_run.new.profile inv.counted below got
          (subst (λ (s : State). IsAdded hart s (replicate count hart) one c.count_run.new.profile) inv.state c.count_run.ensures.added));
    }

pub returns-clause-counted : goal.returns-clause-counted
returns-clause-counted c =
    let turns = c.args.log.now.turns in
    let behind = run_at-none turns c.runs.place (sym c.in_default.ensures) in
    let all : c.runs.place ≡ length turns = omega (arith, c.runs.invariant.within, behind) in
    subst (λ (ts : List ℕ). IsProfile c.args.machine.now ts c.runs.profiles) (ap (λ n. take n turns) all ∙ take-length turns) c.runs.invariant.counted

pub returns-clause-state : goal.returns-clause-state
returns-clause-state c =
    let turns = c.args.log.now.turns in
    let behind = run_at-none turns c.runs.place (sym c.in_default.ensures) in
    let all : c.runs.place ≡ length turns = omega (arith, c.runs.invariant.within, behind) in
    c.runs.invariant.state ∙ ap (run c.args.machine.now) (ap (λ n. take n turns) all ∙ take-length turns)

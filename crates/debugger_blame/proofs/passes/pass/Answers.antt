use Rattle.std.proofs.Common.{◌≡◌, ◌∙◌, ◌<◌, ℕ, List, ap, arith, length, replicate, subst, sym, take}
use Rattle.std.proofs.lemmas.List.{length-take-le}
use Rattle.std.proofs.lemmas.List.Elements.{recursion_from_All}
use Rattle.std.proofs.Math.Seq.{take-length}
use Rattle.multi_hart.specs.Run.{KeepsShape, State, run}
use Rattle.multi_hart.proofs.Resting.{run-append}
use Rattle.multi_hart.proofs.TurnByTurn.{shape-run, shape-then}
use Rattle.turn_log.proofs.RunAtLaws.{run_at-below, run_at-none, run_at-stands}
use Rattle.turn_log.proofs.RunLaws.{few_turns_all}
use Rattle.debugger_blame.specs.LastWrites.{Blames}
use Rattle.debugger_blame.proofs.Passing.{hart_turns_taken}
use Rattle.debugger_blame.proofs.passes.pass.Goals as goal

pub pass_run-last-requires-clause-there : goal.pass_run-last-requires-clause-there
pass_run-last-requires-clause-there c =
    let log = c.args.log.now in
    let below = run_at-below log.harts log.turns c.runs.place c.in-Some.hart c.in-Some.count
    (recursion_from_All (λ (turn : ℕ). turn < log.harts) log.turns c.harts-harts.ensures.log.turns_below) (sym c.in-Some.ensures) in
    omega (arith, below, c.requires.harts, c.runs.invariant.shape.harts)

pub pass_run-last-requires-clause-fits : goal.pass_run-last-requires-clause-fits
pass_run-last-requires-clause-fits c =
    let few = few_turns_all c.args.log.now c.harts-harts.ensures.log in
    let within = (run_at-stands c.args.log.now.turns c.runs.place c.in-Some.hart c.in-Some.count (sym c.in-Some.ensures)).within in
    omega (arith, few, within)

pub overflow_add-place : goal.overflow_add-place
overflow_add-place c =
    let few = few_turns_all c.args.log.now c.harts-harts.ensures.log in
    let within = (run_at-stands c.args.log.now.turns c.runs.place c.in-Some.hart c.in-Some.count (sym c.in-Some.ensures)).within in
    omega (arith, few, within)

pub runs-smaller : goal.runs-smaller
runs-smaller c =
    let stand = run_at-stands c.args.log.now.turns c.runs.place c.in-Some.hart c.in-Some.count (sym c.in-Some.ensures) in
    let some = stand.some in
    let within = stand.within in
    omega (arith, some, within)

pub runs-preserved : goal.runs-preserved
runs-preserved c =
    let start = c.args.machine.now in
    let turns = c.args.log.now.turns in
    let place = c.runs.place in
    let hart = c.in-Some.hart in
    let count = c.in-Some.count in
    let now = c.runs.machine in
    let inv = c.runs.invariant in
    let stand = run_at-stands turns place hart count (sym c.in-Some.ensures) in
    let taken = hart_turns_taken turns place hart count stand in
    let state = c.pass_run-last.ensures.state in
    record {
      within = stand.within;
      shape = shape-then start now _ inv.shape (subst (KeepsShape now) (sym state) (shape-run now (replicate count hart)));
      state = state ∙ ap (λ (s : State). run s (replicate count hart)) inv.state ∙ sym (run-append start (take place turns) (replicate count hart))
          ∙ ap (run start) (sym taken);
      blames = subst (λ (ts : List ℕ). Blames start ts c.args.address c.pass_run-last.result) (sym taken)
          (c.pass_run-last.ensures.blames start (take place turns) inv.state (length-take-le place turns inv.within) inv.blames);
    }

pub returns : goal.returns
returns c =
    let start = c.args.machine.now in
    let turns = c.args.log.now.turns in
    let behind = run_at-none turns c.runs.place (sym c.in_default.ensures) in
    let all : c.runs.place ≡ length turns = omega (arith, c.runs.invariant.within, behind) in
    subst (λ (ts : List ℕ). Blames start ts c.args.address c.runs.last) (ap (λ n. take n turns) all ∙ take-length turns) c.runs.invariant.blames

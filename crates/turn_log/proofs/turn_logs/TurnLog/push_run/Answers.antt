use Rattle.std.proofs.Common.{◌≡◌, ◌≢◌, ℕ, ◌+◌, ◌-◌, ◌<◌, ◌≤◌, List, ◌++◌, replicate, length, slice_get, Some, Result, Ok, Err, OnErr, false, ap, sym, subst}
use Rattle.std.proofs.Common.{◌∙◌, arith, rules}
use Rattle.turn_log.specs.TurnLog.{LogState, count_of, most_turns}
use Rattle.turn_log.specs.inner.Kept.{turns_of, is_of, IsKept}
use Rattle.turn_log.specs.inner.RunEnds.{RunEnd}
use Rattle.turn_log.proofs.RunLaws.{few_turns_all}
use Rattle.turn_log.proofs.KeptLaws.{grown, last_at, last_of, last_turn-other}
use Rattle.turn_log.proofs.turn_logs.TurnLog.push_run.Goals as goal

pub overflow_add-end : goal.overflow_add-end
overflow_add-end c =
    let log : LogState = record { harts = c.self.inside.harts; turns = turns_of c.self.inside.runs.items } in
    let few = few_turns_all log c.self.invariant.log in
    let len = c.len.ensures in
    let turns = ap (λ (l : LogState). length l.turns) c.self.view_is in
    let room = c.requires.room in
    omega (arith, few, len, turns, room)

pub new-requires : goal.new-requires
new-requires c =
    let log : LogState = record { harts = c.self.inside.harts; turns = turns_of c.self.inside.runs.items } in
    let few = few_turns_all log c.self.invariant.log in
    let len = c.len.ensures in
    let turns = ap (λ (l : LogState). length l.turns) c.self.view_is in
    let room = c.requires.room in
    omega (arith, few, len, turns, room)

pub invariant_of-self-2 : goal.invariant_of-self-2
invariant_of-self-2 c =
    let runs = c.self.inside.runs.items in
    let run : RunEnd = record { hart = c.args.hart; end = c.len.result + c.args.k } in
    let below = subst (λ (l : LogState). c.args.hart < l.harts) (sym c.self.view_is) c.requires.below in
    let room = subst (λ (l : LogState). count_of l.turns c.args.hart + c.args.k ≤ most_turns) (sym c.self.view_is) c.requires.room in
    let ends = ap (λ (n : ℕ). n + c.args.k) (c.len.ensures ∙ ap (λ (l : LogState). length l.turns) (sym c.self.view_is)) in
    let more = grown c.self.inside.harts c.self.inside.totals runs run c.args.k c.self.invariant below c.requires.some room ends in
    rw (c.in_ok-push_run_end.ensures.ok, c.new.ensures) more.kept

pub returns-clause-ok : goal.returns-clause-ok
returns-clause-ok c =
    let runs = c.self.inside.runs.items in
    let run : RunEnd = record { hart = c.args.hart; end = c.len.result + c.args.k } in
    let below = subst (λ (l : LogState). c.args.hart < l.harts) (sym c.self.view_is) c.requires.below in
    let room = subst (λ (l : LogState). count_of l.turns c.args.hart + c.args.k ≤ most_turns) (sym c.self.view_is) c.requires.room in
    let ends = ap (λ (n : ℕ). n + c.args.k) (c.len.ensures ∙ ap (λ (l : LogState). length l.turns) (sym c.self.view_is)) in
    let more = grown c.self.inside.harts c.self.inside.totals runs run c.args.k c.self.invariant below c.requires.some room ends in
    let made = ap turns_of (rw c.new.ensures at c.in_ok-push_run_end.ensures.ok) ∙ more.turns in
    let log : LogState → LogState = λ l. record { harts = l.harts; turns = l.turns ++ replicate c.args.k c.args.hart } in
    ap (λ (ts : List ℕ). record { harts = c.self.inside.harts; turns = ts }) made ∙ ap log c.self.view_is

on_err : {A E P : Type 0} (r : Result A E) → P → OnErr r P
on_err (Ok value) known = tt
on_err (Err error) known = known

pub returns-in_err-push_run_end-clause-opens : goal.returns-in_err-push_run_end-clause-opens
returns-in_err-push_run_end-clause-opens c =
    let runs = c.self.inside.runs.items in
    let other : is_of (last_of runs) c.args.hart ≡ false = ap (λ o. is_of o c.args.hart) (sym (last_at runs))
    ∙ (rw c.new.ensures at c.in_err-push_run_end.ensures.opens) in
    let Other : LogState → Type 0 = λ l. slice_get l.turns (length l.turns - 1) ≢ Some c.args.hart in
    on_err c.from_residual.result (subst Other c.self.view_is (last_turn-other c.self.inside.harts runs c.args.hart c.self.invariant.runs other))

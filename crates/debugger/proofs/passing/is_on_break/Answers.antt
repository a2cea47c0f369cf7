use Rattle.std.proofs.Common.{ℕ, ◌==◌, sym, ap, subst, ◌∙◌, arith}
use Rattle.std.specs.List.{list_any}
use Rattle.multi_hart.specs.Run.{State, hart_at}
use Rattle.turn_log.specs.TurnLog.{LogState}
use Rattle.turn_log.specs.RunAt.{Stand, run_at}
use Rattle.debugger.proofs.Places.{next-is, none-is, next-here, slice_get-behind}
use Rattle.debugger.proofs.Stopping.{breaks-next, breaks-end}
use Rattle.debugger.proofs.passing.is_on_break.Goals as goal

pub pc-requires : goal.pc-requires
pc-requires c =
    let log = c.args.log.now in
    let next = next-is log c.args.place c.in-Some.hart c.in-Some.field-0-1 c.harts-harts.ensures.log (sym c.run_at.ensures ∙ c.in-Some.is) in
    omega (arith, next.below, c.requires)

pub returns-in-Some : goal.returns-in-Some
returns-in-Some c = λ session log breaks machine.
    let hart = c.in-Some.hart in
    let next = next-is c.args.log.now c.args.place hart c.in-Some.field-0-1 c.harts-harts.ensures.log (sym c.run_at.ensures ∙ c.in-Some.is) in
    c.contains.ensures.value
    ∙ ap (list_any (λ mark. mark == c.pc.result)) breaks
    ∙ ap (λ (pc : ℕ). list_any (λ mark. mark == pc) session.breaks) (c.pc.ensures ∙ ap (λ (s : State). (hart_at s hart).pc) machine)
    ∙ sym (breaks-next session c.args.place hart (next-here session.log.turns c.args.place hart c.in-Some.field-0-1
    (subst (λ (l : LogState). Stand l.turns c.args.place hart c.in-Some.field-0-1) log next.stand)))

pub returns-in-None : goal.returns-in-None
returns-in-None c = λ session log breaks machine.
    let e = ap (λ (l : LogState). run_at l.turns c.args.place) (sym log) ∙ sym c.run_at.ensures ∙ c.in-None.is in
    sym (breaks-end session c.args.place (slice_get-behind session.log.turns c.args.place (none-is session.log c.args.place e)))

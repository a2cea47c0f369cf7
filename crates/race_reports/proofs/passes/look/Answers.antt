use Rattle.std.proofs.Common.{◌≡◌, None, subst, sym}
use Rattle.multi_hart.specs.Run.{State}
use Rattle.race_reports.specs.Races.{race_in}
use Rattle.race_reports.specs.inner.Watching.{IsApartFrom}
use Rattle.race_reports.proofs.Turning.{clear_after, spans_turned}
use Rattle.race_reports.proofs.passes.look.Goals as goal

pub is_apart-requires-clause-spans : goal.is_apart-requires-clause-spans
is_apart-requires-clause-spans c =
    spans_turned c.args.but.now c.args.machine.now c.args.spans.now c.args.hart c.span_at.result c.requires.turned c.span_at.ensures

pub returns-then-is_apart-clause-spans : goal.returns-then-is_apart-clause-spans
returns-then-is_apart-clause-spans c =
    spans_turned c.args.but.now c.args.machine.now c.args.spans.now c.args.hart c.span_at.result c.requires.turned c.span_at.ensures

pub returns-clause-spans : goal.returns-clause-spans
returns-clause-spans c =
    spans_turned c.args.but.now c.args.machine.now c.args.spans.now c.args.hart c.span_at.result c.requires.turned c.span_at.ensures

pub returns-then-is_apart-clause-race : goal.returns-then-is_apart-clause-race
returns-then-is_apart-clause-race c =
    let but = c.args.but.now in
    let known = c.requires.turned in
    sym (subst (λ (s : State). race_in but s ≡ None) (sym known.turned)
    (clear_after but known.before c.args.hart known.clear
    (subst (λ (s : State). IsApartFrom but s c.args.hart 0) known.turned (c.is_apart.ensures c.if-is_apart.true))))

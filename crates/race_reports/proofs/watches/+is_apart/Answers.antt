use Rattle.race_reports.proofs.Turning.{apart_more}
use Rattle.race_reports.proofs.watches.+is_apart.Goals as goal

pub returns : goal.returns
returns t c = λ apart.
    apart_more c.args.but.now c.args.machine.now c.args.hart c.args.number (c.is_apart_from.ensures c.if-not-is_apart_from.false) (c.is_apart.ensures apart)

use Rattle.std.proofs.Common.{◌∙◌, sym}
use Rattle.race_reports.proofs.Turning.{apart_by_lookup}
use Rattle.race_reports.proofs.watches.is_apart_from.Goals as goal

pub returns-then-not-meets : goal.returns-then-not-meets
returns-then-not-meets c = λ so differ.
    apart_by_lookup c.args.but.now c.args.machine.now c.args.spans.now c.args.hart c.args.number _ _ c.requires.spans c.requires.there c.requires.other
    (sym c.meets.ensures ∙ c.if-not-meets.true)

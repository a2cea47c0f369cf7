use Rattle.std.proofs.Common.{◌≡◌, ap, ◌∙◌, get_or, arith}
use Rattle.std.specs.Option.{unwrap_or}
use Rattle.turn_log.specs.TurnLog.{LogState, count_of}
use Rattle.turn_log.proofs.KeptLaws.{counted_at}
use Rattle.turn_log.proofs.turn_logs.TurnLog.count_of.Goals as goal

pub returns : goal.returns
returns c =
    let lookup = c.get.ensures.lookup in
    let value : c.unwrap_or.result ≡ get_or c.self.inside.totals c.args.hart 0 = c.unwrap_or.ensures ∙ ap (λ o. unwrap_or o 0) c.copied.ensures
    ∙ lookup.4 (omega arith) 0 in
    value ∙ counted_at c.self.inside.harts c.self.inside.totals c.self.inside.runs.items c.args.hart c.self.invariant
    ∙ ap (λ (l : LogState). count_of l.turns c.args.hart) c.self.view_is

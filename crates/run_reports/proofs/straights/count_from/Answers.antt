use Rattle.std.proofs.Common.{◌∙◌, sym, arith}
use Rattle.std.proofs.lemmas.Option.{slice_get_within}
use Rattle.run_reports.proofs.Straight.{fewer_straight, more_straight, one_straight}
use Rattle.run_reports.proofs.straights.count_from.Goals as goal

pub returns-then-word_goes_on-clause-straight : goal.returns-then-word_goes_on-clause-straight
returns-then-word_goes_on-clause-straight c = λ words place got rest.
    let least = c.min.ensures in
    more_straight words place c.args.word c.min.result got (sym c.word_goes_on.ensures ∙ c.if-word_goes_on.true)
    (fewer_straight words _ c.args.next c.min.result (omega arith) rest)

pub returns-else-word_goes_on-clause-straight : goal.returns-else-word_goes_on-clause-straight
returns-else-word_goes_on-clause-straight c = λ words place got rest. one_straight words place (slice_get_within words place c.args.word got)

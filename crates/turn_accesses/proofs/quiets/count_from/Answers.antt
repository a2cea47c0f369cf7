use Rattle.std.proofs.Common.{◌∙◌, sym, arith}
use Rattle.turn_accesses.proofs.Counting.{fewer_quiet, more_quiet, none_quiet, none_touched, one_quiet}
use Rattle.turn_accesses.proofs.quiets.count_from.Goals as goal

pub returns-then-is_some : goal.returns-then-is_some
returns-then-is_some c = λ words place got rest. none_quiet words place

pub returns-then-not-word_goes_on : goal.returns-then-not-word_goes_on
returns-then-not-word_goes_on c = λ words place got rest.
    one_quiet words place c.args.word got (none_touched c.args.word c.access_of.result c.access_of.ensures (sym c.is_some.ensures ∙ c.if-is_some.false))

pub returns : goal.returns
returns c = λ words place got rest.
    let least = c.min.ensures in
    more_quiet words place c.args.word c.min.result got (none_touched c.args.word c.access_of.result c.access_of.ensures (sym c.is_some.ensures
    ∙ c.if-is_some.false))
    (sym c.word_goes_on.ensures ∙ c.if-not-word_goes_on.false) (fewer_quiet words _ c.args.next c.min.result (omega arith) rest)

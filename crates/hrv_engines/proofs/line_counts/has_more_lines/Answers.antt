use Rattle.std.proofs.Common.{arith}
use Rattle.std.proofs.lemmas.Bool.Decides.{nat_tests}
use Rattle.std.proofs.lemmas.Grind.{common_steps}
use Rattle.hrv_engines.proofs.ScheduleFronts.{more_lines, one_begun}
use Rattle.hrv_engines.proofs.line_counts.has_more_lines.Goals as goal

pub returns-then-feeds-most : goal.returns-then-feeds-most
returns-then-feeds-most c = λ counted is. more_lines c.args.bytes.now c.args.feeds c.args.most counted (grind (arith, nat_tests))

pub returns-in-Some : goal.returns-in-Some
returns-in-Some c = λ counted is.
    one_begun c.args.bytes.now c.in-Some.field-0-1.now c.in-Some.last.now c.args.feeds c.args.most counted c.if-feeds-most.false c.in-Some.ensures.cases.0
    (grind (arith, nat_tests))

use Rattle.std.proofs.Common.{◌≡◌, ◌≢◌, [], ap, arith}
use Rattle.std.proofs.lemmas.Grind.{common_steps}
use Rattle.line_text.specs.Lines.{lines_of}
use Rattle.assembler.proofs.Surveying.{goes_on, counted, stops}
use Rattle.assembler.proofs.surveys.Survey.of.Goals as goal

pub lines-preserved : goal.lines-preserved
lines-preserved c =
    let some : c.lines.rest.now ≢ [] = grind (arith, common_steps) in
    let number = counted c.lines.survey c.take_line.new.self c.first_line.result.0.now c.in_ok-take_line.ensures in (
      goes_on c.lines.survey c.take_line.new.self _ _ _ _ (c.first_line.ensures.lines some) c.in_ok-take_line.ensures c.lines.invariant.0,
      omega (arith, number, c.first_line.ensures.shorter some, c.lines.invariant.1),
    )

pub returns : goal.returns
unfolding lines_of
returns c =
    let none : c.lines.rest.now ≡ [] = grind (arith, common_steps) in
    stops c.lines.survey _ (lines_of c.lines.rest.now) (ap lines_of none) c.lines.invariant.0

use Rattle.std.proofs.Common.{◌≡◌, Ok, ◌∙◌}
use Rattle.line_text.specs.Lines.{lines_of, taken_from}
use Rattle.schedule.specs.Reading.{start, taken}
use Rattle.schedule.proofs.Whole.{read_keeps, ends}
use Rattle.schedule.proofs.schedules.read.Goals as goal

pub returns-clause-accepted : goal.returns-clause-accepted
returns-clause-accepted c =
    let taken_all : taken_from (taken c.args.pipeline.now) 1 (start c.args.pipeline.now) (lines_of c.args.text.now) ≡ Ok c.read_lines.new.reader =
    rw (c.in_ok-reader.ensures.given, c.as_bytes.ensures.value) at c.in_ok-_count.ensures in
    read_keeps c.args.pipeline.now c.args.text.now c.in_ok-finished.field-0
    (ends c.args.pipeline.now c.args.text.now c.read_lines.new.reader taken_all ∙ c.in_ok-finished.ensures) c.in_ok-reader.ensures.rules

use Rattle.line_text.proofs.LineLaws.{splits}
use Rattle.line_text.proofs.lines.first_line.Goals as goal

pub returns-clause-lines : goal.returns-clause-lines
returns-clause-lines c = λ some. rw (c.after_first.ensures, c.split_at.ensures.front, c.split_at.ensures.back, c.line_len.ensures.value)
    (splits c.args.text.now some)

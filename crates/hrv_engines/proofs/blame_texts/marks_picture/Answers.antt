use Rattle.std.proofs.Common.{◌++◌, ◌∙◌, append-nil, append_assoc, ap, sym}
use Rattle.picture.specs.Reading.{heading, row_text}
use Rattle.hrv_engines.specs.inner.MarkRows.{row_in, rows_in}
use Rattle.hrv_engines.proofs.MarkRows.{rows_in-more, rows_in-none}
use Rattle.hrv_engines.proofs.blame_texts.marks_picture.Goals as goal

pub loop-y-init : goal.loop-y-init
loop-y-init c =
    let first = heading c.args.output.width c.args.output.height in
    c.in_ok-push_picture_heading.ensures ∙ ap (λ text. text ++ first) c.new-text.ensures.bytes
    ∙ sym (append-nil first) ∙ ap (λ rows. first ++ rows) (sym (rows_in-none c.args.marks.now c.args.output))

pub loop-y-preserved : goal.loop-y-preserved
loop-y-preserved c =
    let first = heading c.args.output.width c.args.output.height in
    let before = rows_in c.args.marks.now c.args.output c.loop-y.y in
    let one = row_text (row_in c.args.marks.now c.args.output c.loop-y.y c.args.output.width) in
    c.in_ok-push_mark_row.ensures ∙ ap (λ text. text ++ one) c.loop-y.invariant ∙ append_assoc first before one
    ∙ ap (λ rows. first ++ rows) (sym (rows_in-more c.args.marks.now c.args.output c.loop-y.y))

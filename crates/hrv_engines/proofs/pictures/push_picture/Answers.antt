use Rattle.std.proofs.Common.{◌++◌, sym, ap, ◌∙◌}
use Rattle.std.specs.String.{string_bytes}
use Rattle.std.proofs.lemmas.List.{append-nil, append_assoc}
use Rattle.picture.specs.Reading.{heading, row_text}
use Rattle.hrv_engines.specs.Dump.{rows, row}
use Rattle.hrv_engines.proofs.Printing.{rows-more, joined}
use Rattle.hrv_engines.proofs.pictures.push_picture.Goals as goal

pub loop-y-init : goal.loop-y-init
unfolding rows
loop-y-init c = c.in_ok-push_picture_heading.ensures
    ∙ ap (λ text. string_bytes c.args.text.now ++ text) (sym (append-nil (heading c.args.output.width c.args.output.height)))

pub loop-y-preserved : goal.loop-y-preserved
loop-y-preserved c =
    let first = heading c.args.output.width c.args.output.height in
    let before = first ++ rows c.args.machine.now c.args.output c.loop-y.y in
    joined (string_bytes c.args.text.now) (string_bytes c.loop-y.text) (string_bytes c.push_row.new.text) before _ _ c.loop-y.invariant c.in_ok-push_row.ensures
    (ap (λ text. first ++ text) (rows-more c.args.machine.now c.args.output c.loop-y.y)
    ∙ sym (append_assoc first (rows c.args.machine.now c.args.output c.loop-y.y) (row_text (row c.args.machine.now c.args.output c.loop-y.y
    c.args.output.width))))

use Rattle.std.proofs.Common.{◌++◌, ◌∙◌, append-nil, ap, sym}
use Rattle.std.specs.Prelude.{codes, if◌then◌else◌, ◌==◌, []}
use Rattle.std.specs.String.{string_bytes}
use Rattle.picture.specs.Reading.{number_text}
use Rattle.hrv_engines.proofs.MarkRows.{numbers_in, numbers_in-more, numbers_in-none}
use Rattle.hrv_engines.proofs.Printing.{joined}
use Rattle.hrv_engines.proofs.blame_texts.push_mark_row.Goals as goal

pub loop-x-init : goal.loop-x-init
loop-x-init c =
    sym (append-nil (string_bytes c.args.text.now))
    ∙ ap (λ row. string_bytes c.args.text.now ++ row) (sym (numbers_in-none c.args.marks.now c.args.output c.args.y))

pub loop-x-preserved : goal.loop-x-preserved
loop-x-preserved c =
    let before = numbers_in c.args.marks.now c.args.output c.args.y c.loop-x.x in
    joined (string_bytes c.args.text.now) (string_bytes c.loop-x.text) (string_bytes c.push_separated.new.text) before _ _ c.loop-x.invariant
    c.in_ok-push_separated.ensures
    (numbers_in-more c.args.marks.now c.args.output c.args.y c.loop-x.x
    ∙ ap (λ word. before ++ ((if c.loop-x.x == 0 then [] else codes " ") ++ number_text word)) (sym c.mark_of.ensures))

use Rattle.std.proofs.Common.{◌++◌, sym, ap, ◌∙◌}
use Rattle.std.specs.Prelude.{codes, if◌then◌else◌, ◌==◌, []}
use Rattle.std.specs.String.{string_bytes}
use Rattle.std.proofs.lemmas.List.{append-nil}
use Rattle.picture.specs.Reading.{number_text}
use Rattle.hrv_engines.specs.Dump.{row}
use Rattle.hrv_engines.proofs.Printing.{numbers, numbers-more, joined}
use Rattle.hrv_engines.proofs.pictures.push_row.Goals as goal

pub loop-x-init : goal.loop-x-init
unfolding row
loop-x-init c = sym (append-nil (string_bytes c.args.text.now))

pub loop-x-preserved : goal.loop-x-preserved
loop-x-preserved c =
    let before = numbers c.args.machine.now c.args.output c.args.y c.loop-x.x in
    joined (string_bytes c.args.text.now) (string_bytes c.loop-x.text) (string_bytes c.push_separated.new.text) before _ _ c.loop-x.invariant
    c.in_ok-push_separated.ensures
    (numbers-more c.args.machine.now c.args.output c.args.y c.loop-x.x
    ∙ ap (λ word. before ++ ((if c.loop-x.x == 0 then [] else codes " ") ++ number_text word)) (sym c.pixel_of.ensures))

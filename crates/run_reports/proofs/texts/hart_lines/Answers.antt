use Rattle.std.proofs.Common.{◌∙◌, ◌++◌, sym, ap, arith, length, refl}
use Rattle.std.proofs.lemmas.Option.{slice_get_read}
use Rattle.run_reports.specs.ProfileText.{hart_line, hart_lines}
use Rattle.run_reports.specs.inner.Counting.{counts_in}
use Rattle.run_reports.proofs.Lines.{hart_lines-more, own_line}
use Rattle.run_reports.proofs.texts.hart_lines.Goals as goal

pub loop-hart-init : goal.loop-hart-init
unfolding hart_lines
loop-hart-init c = c.new-text.ensures.bytes

pub loop-hart-preserved : goal.loop-hart-preserved
loop-hart-preserved c =
    let profiles = c.args.profiles.now in
    let hart = c.loop-hart.hart in
    let one = c.index-profiles-hart.result in
    let got = slice_get_read profiles (length profiles) hart one refl (omega arith) c.index-profiles-hart.is in
    c.in_ok-push_hart.ensures
    ∙ ap (λ text. text ++ hart_line hart one.made one.idle) c.loop-hart.invariant
    ∙ ap (λ line. hart_lines (counts_in profiles) hart ++ line) (own_line profiles hart one got)
    ∙ sym (hart_lines-more (counts_in profiles) hart)

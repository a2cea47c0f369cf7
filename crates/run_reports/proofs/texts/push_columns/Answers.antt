use Rattle.std.proofs.Common.{◌∙◌, ◌++◌, ◌∷◌, sym, ap}
use Rattle.std.specs.Fmt.{decimal}
use Rattle.std.specs.String.{string_bytes}
use Rattle.std.proofs.lemmas.List.{append-nil}
use Rattle.run_reports.specs.ProfileText.{columns}
use Rattle.run_reports.specs.inner.Counting.{counts_in}
use Rattle.run_reports.proofs.Lines.{columns-more, joined}
use Rattle.run_reports.proofs.texts.push_columns.Goals as goal

pub loop-hart-init : goal.loop-hart-init
unfolding columns
loop-hart-init c = sym (append-nil (string_bytes c.args.text.now))

pub loop-hart-preserved : goal.loop-hart-preserved
loop-hart-preserved c =
    let counts = counts_in c.args.profiles.now in
    let before = columns counts c.args.place c.loop-hart.hart in
    joined (string_bytes c.args.text.now) (string_bytes c.loop-hart.text) (string_bytes c.write.new.self) before _ _ c.loop-hart.invariant
    c.in_ok-write.ensures.bytes
    (columns-more counts c.args.place c.loop-hart.hart ∙ ap (λ count. before ++ 32 ∷ decimal count) (sym c.count_at-count.ensures.count))

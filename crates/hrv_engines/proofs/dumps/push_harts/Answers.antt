use Rattle.std.proofs.Common.{ap, ◌∙◌, ◌++◌, sym}
use Rattle.std.specs.String.{string_bytes}
use Rattle.std.proofs.lemmas.List.{append-nil}
use Rattle.multi_hart.specs.Run.{hart_at}
use Rattle.hrv_engines.specs.Dump.{hart_text, hart_texts}
use Rattle.hrv_engines.proofs.Printing.{hart_texts-more, joined}
use Rattle.hrv_engines.proofs.dumps.push_harts.Goals as goal

pub loop-hart-init : goal.loop-hart-init
unfolding hart_texts
loop-hart-init c = sym (append-nil (string_bytes c.args.text.now))

pub loop-hart-preserved : goal.loop-hart-preserved
loop-hart-preserved c =
    let state = c.args.machine.now in
    let turns = c.args.log.now.turns in
    let n = c.loop-hart.hart in
    joined (string_bytes c.args.text.now) (string_bytes c.loop-hart.text) (string_bytes c.push_hart.new.text) (hart_texts state turns n)
    _ _ c.loop-hart.invariant c.in_ok-push_hart.ensures
    (hart_texts-more state turns n ∙ ap (λ count. hart_texts state turns n ++ hart_text n (hart_at state n) count) (sym c.count_of.ensures))

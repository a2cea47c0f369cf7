use Rattle.std.proofs.Common.{ap, ◌∙◌, ◌++◌, sym}
use Rattle.std.specs.String.{string_bytes}
use Rattle.std.proofs.lemmas.List.{append-nil}
use Rattle.hart_core.specs.HartState.{register}
use Rattle.multi_hart.specs.Run.{hart_at}
use Rattle.hrv_engines.specs.Dump.{register_line, register_lines}
use Rattle.hrv_engines.proofs.Printing.{register_lines-more, joined}
use Rattle.hrv_engines.proofs.dumps.push_registers.Goals as goal

pub loop-number-preserved : goal.loop-number-preserved
loop-number-preserved c =
    let one = hart_at c.args.machine.now c.args.hart in
    let n = c.loop-number.number in
    joined (string_bytes c.args.text.now) (string_bytes c.loop-number.text) (string_bytes c.push_register.new.text) (register_lines one n)
    _ _ c.loop-number.invariant c.in_ok-push_register.ensures
    (register_lines-more one n ∙ ap (λ v. register_lines one n ++ register_line n v) (sym (c.register-value.ensures
    ∙ ap (register one) c.integer_register.ensures)))

pub loop-number-init : goal.loop-number-init
unfolding register_lines
loop-number-init c = sym (append-nil (string_bytes c.args.text.now))

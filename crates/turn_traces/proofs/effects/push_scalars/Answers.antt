use Rattle.std.proofs.Common.{ap, ◌∙◌, ◌++◌, sym, ℕ}
use Rattle.std.specs.String.{string_bytes}
use Rattle.std.proofs.lemmas.List.{append-nil}
use Rattle.hart_core.specs.HartState.{register}
use Rattle.turn_traces.specs.TraceText.{scalar_text, scalars_text}
use Rattle.turn_traces.proofs.Registers.{joined, scalars_text-more}
use Rattle.turn_traces.proofs.effects.push_scalars.Goals as goal

pub loop-number-init : goal.loop-number-init
unfolding scalars_text
loop-number-init c = sym (append-nil (string_bytes c.args.text.now))

pub loop-number-preserved : goal.loop-number-preserved
loop-number-preserved c =
    let before = c.args.before.now in
    let after = c.args.after.now in
    let n = c.loop-number.number in
    let is = c.scalar_register-register.ensures in
    joined (string_bytes c.args.text.now) (string_bytes c.loop-number.text) (string_bytes c.push_scalar.new.text) (scalars_text before after n)
    _ _ c.loop-number.invariant c.in_ok-push_scalar.ensures
    (scalars_text-more before after n
    ∙ ap (λ (r : ℕ). scalars_text before after n ++ scalar_text (register before r) (register after r) n) (sym is)
    ∙ ap (λ (v : ℕ). scalars_text before after n ++ scalar_text v (register after c.scalar_register-register.result) n) (sym c.register-was.ensures)
    ∙ ap (λ (v : ℕ). scalars_text before after n ++ scalar_text c.register-was.result v n) (sym c.register-is.ensures))

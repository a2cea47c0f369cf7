use Rattle.std.proofs.Common.{ap, ◌∙◌, ◌++◌, sym, ℕ, List}
use Rattle.std.specs.String.{string_bytes}
use Rattle.std.proofs.lemmas.List.{append-nil}
use Rattle.hart_core.specs.HartState.{vector}
use Rattle.turn_traces.specs.TraceText.{vector_text, vectors_text}
use Rattle.turn_traces.proofs.Registers.{joined, vectors_text-more}
use Rattle.turn_traces.proofs.effects.push_vectors.Goals as goal

pub loop-number-init : goal.loop-number-init
unfolding vectors_text
loop-number-init c = sym (append-nil (string_bytes c.args.text.now))

pub loop-number-preserved : goal.loop-number-preserved
loop-number-preserved c =
    let before = c.args.before.now in
    let after = c.args.after.now in
    let n = c.loop-number.number in
    let is = c.vector_register-register.ensures in
    joined (string_bytes c.args.text.now) (string_bytes c.loop-number.text) (string_bytes c.push_vector.new.text) (vectors_text before after n)
    _ _ c.loop-number.invariant c.in_ok-push_vector.ensures
    (vectors_text-more before after n
    ∙ ap (λ (r : ℕ). vectors_text before after n ++ vector_text (vector before r) (vector after r) n) (sym is)
    ∙ ap (λ (v : List ℕ). vectors_text before after n ++ vector_text v (vector after c.vector_register-register.result) n) (sym c.vector-was.ensures)
    ∙ ap (λ (v : List ℕ). vectors_text before after n ++ vector_text c.vector-was.result v n) (sym c.vector-is.ensures))

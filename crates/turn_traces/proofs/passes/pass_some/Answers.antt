use Rattle.std.proofs.Common.{◌≡◌, ◌∙◌, ◌++◌, ℕ, List, ap, arith, sym}
use Rattle.turn_traces.proofs.Lines.{any_line, none_due, unchanged}
use Rattle.turn_traces.proofs.passes.pass_some.Goals as goal

pub returns-then-passed-gt0-clause-text : goal.returns-then-passed-gt0-clause-text
returns-then-passed-gt0-clause-text c =
    unchanged c.args.text.now.items _ (none_due c.args.wanted.now c.args.turns.number c.args.turns.hart c.passed_over-passed.result c.args.machine.now
    c.passed_over-passed.ensures.passed)

pub returns-in_ok-push_turn-in-None-clause-text : goal.returns-in_ok-push_turn-in-None-clause-text
returns-in_ok-push_turn-in-None-clause-text c =
    let none : c.passed_over-passed.result ≡ 0 = omega (arith, c.if-passed-gt0.false) in
    c.in_ok-push_turn-in-None.ensures.text
    ∙ ap (λ (line : List ℕ). c.args.text.now.items ++ line)
    (sym (any_line c.args.wanted.now c.args.turns.number c.args.turns.hart c.args.machine.now c.in-None.is (c.passed_over-passed.ensures.due none)))

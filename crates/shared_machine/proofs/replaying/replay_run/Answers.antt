use Rattle.std.proofs.Common.{◌+◌, ◌-◌, ◌*◌, sym, ap, ◌∙◌}
use Rattle.shared_machine.proofs.MadeAgain.{stretch-made}
use Rattle.shared_machine.proofs.replaying.replay_run.Goals as goal

pub returns-clause-machine : goal.returns-clause-machine
returns-clause-machine c =
    let made = c.step_on-made.result in
    c.step_on-made.ensures.state ∙ sym (stretch-made c.args.machine.now c.args.hart c.args.turns made.made made.last c.requires.below
    c.step_on-made.ensures.stretch).0

pub returns-clause-sum : goal.returns-clause-sum
returns-clause-sum c =
    let made = c.step_on-made.result in
    ap (λ k. k * (made.made - 1) + c.code-2.result) c.code.ensures ∙ ap (λ k. 16 * (made.made - 1) + k) c.code-2.ensures
    ∙ sym (stretch-made c.args.machine.now c.args.hart c.args.turns made.made made.last c.requires.below c.step_on-made.ensures.stretch).1

use Rattle.std.proofs.Common.{◌∙◌, arith}
use Rattle.std.specs.Prelude.{◌≢◌}
use Rattle.rv_insn.specs.declared.outcomes.Outcome.TheVariants.{Stepped}
use Rattle.multi_hart.proofs.Stepping.{stretched, idles}
use Rattle.multi_hart.proofs.machines.Machine.run_same.Goals as goal

pub returns-else-stretch-turns-clause-state : goal.returns-else-stretch-turns-clause-state
returns-else-stretch-turns-clause-state c =
    let s = c.step_on-stretch.ensures.stretch in
    let ended : c.step_on-stretch.result.last ≢ Stepped = λ is. c.if-stretch-turns.false (s.whole is) in
    c.step_on-stretch.ensures.state
    ∙ stretched c.args.self.now c.args.hart c.step_on-stretch.result.made c.args.turns c.requires.there s.some (omega (arith, s.few, c.if-stretch-turns.false))
    (λ is. ended (s.last_is ∙ is))

pub returns-else-stretch-turns-clause-outcome : goal.returns-else-stretch-turns-clause-outcome
returns-else-stretch-turns-clause-outcome c =
    let s = c.step_on-stretch.ensures.stretch in
    let ended : c.step_on-stretch.result.last ≢ Stepped = λ is. c.if-stretch-turns.false (s.whole is) in
    idles c.args.self.now c.args.hart c.step_on-stretch.result.made c.args.turns c.requires.there s.some (omega (arith, s.few, c.if-stretch-turns.false))
    (λ is. ended (s.last_is ∙ is))

use Rattle.std.proofs.Common.{◌≡◌, ap, arith, length, refl}
use Rattle.multi_hart.specs.Run.{State, turn}
use Rattle.multi_hart.proofs.TurnByTurn.{shape-turn}
use Rattle.race_reports.proofs.passes.step.Goals as goal

pub look-requires-clause-turned : goal.look-requires-clause-turned
look-requires-clause-turned c = record {
  before = c.args.machine.now;
  there = c.requires.there;
  clear = c.requires.clear;
  turned = c.turn.ensures.state;
  were = c.args.spans.now;
  spans_were = c.requires.spans;
  others = λ span. refl;
}

pub look-requires-clause-as_many : goal.look-requires-clause-as_many
look-requires-clause-as_many c =
    let many = c.requires.spans.as_many in
    let shape = shape-turn c.args.machine.now c.args.hart in
    let after : length c.turn.new.self.harts ≡ length (turn c.args.machine.now c.args.hart).harts = ap (λ (s : State). length s.harts) c.turn.ensures.state in
    omega (arith, many, shape.harts, after)

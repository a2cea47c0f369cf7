use Rattle.std.proofs.Common.{◌≡◌, length, ap, ◌∙◌, arith}
use Rattle.multi_hart.proofs.TurnByTurn.{length-opening_harts}
use Rattle.multi_hart.proofs.machines.Machine.new.Goals as goal

pub returns-clause-harts : goal.returns-clause-harts
returns-clause-harts c =
    let all : c.loop-number.number ≡ c.args.harts = omega arith in
    ap length c.into_boxed_slice.ensures.items ∙ ap length c.loop-number.invariant ∙ length-opening_harts c.args.entry c.args.harts c.loop-number.number ∙ all

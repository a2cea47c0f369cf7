use Rattle.std.proofs.Common.{ℕ, ◌*◌, ◌≤◌, subst}
use Rattle.bounds_weights.specs.Weight.{flags_of}
use Rattle.loop_ir.specs.Sizes.{whole_size}
use Rattle.lowering.specs.Consuming.{DoesNests}
use Rattle.lowering.specs.Sizes.{shares}
use Rattle.lowering.proofs.consuming.stage_nests.Goals as goal

pub returns : goal.returns
returns c = record {
  func = c.args.computed.now.func.now;
  plan = c.args.computed.now.plan.now;
  own = c.args.computed.now.own.now;
  parts = c.requires.parts;
  does = subst (λ (n : ℕ). DoesNests c.args.plan.now.pipeline c.args.plan.now.schedule c.args.plan.now.boxes c.args.at c.args.computed.now.place
      c.args.computed.now.func.now c.args.computed.now.own.now n c.in_ok-statement.statement) c.len-count.ensures c.in_ok-statement.ensures.does;
  alone = c.in_ok-statement.ensures.alone;
  sound = c.in_ok-statement.ensures.sound;
  few = c.in_ok-statement.ensures.few;
  needs = c.in_ok-statement.ensures.needs;
  small = subst (λ (n : ℕ). whole_size c.in_ok-statement.statement ≤ 64 * shares (flags_of c.args.plan.now.schedule.standings) c.args.plan.now.pipeline.funcs
      c.args.computed.now.func.now c.args.computed.now.plan.now n) c.len-count.ensures c.in_ok-statement.ensures.sizes;
  at_once = c.in_ok-statement.ensures.at_once;
  about = c.in_ok-statement.ensures.about;
}

use Rattle.std.proofs.Common.{arith, false}
use Rattle.turn_accesses.specs.declared.spans.Span.{Span}
use Rattle.turn_accesses.proofs.Walking.{IsWay}
use Rattle.race_reports.proofs.Quieting.{quiet_clear, quiet_turned, text_few}
use Rattle.race_reports.proofs.passes.pass_quiet.Goals as goal

pub look-race-requires-clause-turned : goal.look-race-requires-clause-turned
look-race-requires-clause-turned c =
    let now = c.args.machine.now in
    let stretch = c.step_on-made.ensures.stretch in
    let least = c.min.ensures in
    let way : IsWay now c.args.hart c.args.quiet c.step_on-made.result.made = record {
      below = c.requires.there;
      few = text_few c.args.insns.now now.text c.requires.meant c.requires.few;
      quiet = c.requires.quiet;
      within = omega (arith, stretch.few);
      steps = stretch.steps;
    } in
    let nowhere : Span = record { first = 0; end = 0; stores = false } in
    quiet_turned c.args.but.now now c.step_on-made.new.self c.args.spans.now nowhere c.args.hart c.args.quiet c.step_on-made.result.made way stretch.some
    c.step_on-made.ensures.state c.requires.clear c.requires.spans

pub returns-clause-clear : goal.returns-clause-clear
returns-clause-clear c =
    let now = c.args.machine.now in
    let stretch = c.step_on-made.ensures.stretch in
    let least = c.min.ensures in
    let way : IsWay now c.args.hart c.args.quiet c.step_on-made.result.made = record {
      below = c.requires.there;
      few = text_few c.args.insns.now now.text c.requires.meant c.requires.few;
      quiet = c.requires.quiet;
      within = omega (arith, stretch.few);
      steps = stretch.steps;
    } in
    let nowhere : Span = record { first = 0; end = 0; stores = false } in
    quiet_clear c.args.but.now now c.args.spans.now nowhere c.args.hart c.args.quiet c.step_on-made.result.made way c.requires.clear c.requires.spans

pub look-race-requires-clause-as_many : goal.look-race-requires-clause-as_many
look-race-requires-clause-as_many c =
    let many = c.requires.spans.as_many in
    let shape = c.step_on-made.ensures.shape in
    omega (arith, many, shape.harts)

use Rattle.std.proofs.Common.{ℕ, subst, arith}
use Rattle.debugger_blame.specs.inner.Quiet.{IsQuietFrom}
use Rattle.debugger_blame.proofs.Passing.{shape_of}
use Rattle.debugger_blame.proofs.Quiet.{IsWay, few_words, quiet_then, hart_turns_marked}
use Rattle.debugger_blame.proofs.marks.mark_some.Goals as goal

pub returns-then-quiet-gt0-clause-marks : goal.returns-then-quiet-gt0-clause-marks
returns-then-quiet-gt0-clause-marks c = λ begin done from place are.
    let now = c.args.machine.now in
    let hart = c.args.hart_turns.hart in
    let made = c.step_on.result.made in
    let count = c.quiet_at.result in
    let stepped = c.step_on.ensures.stretch in
    let least = c.min.ensures in
    let wide = c.from-quiet.ensures in
    let way : IsWay now hart count made = record {
      below = c.requires.there;
      few = few_words c.args.insns.now now.text c.requires.meant c.requires.few;
      quiet = subst (λ (pc : ℕ). IsQuietFrom now.text pc count) c.pc.ensures (c.quiet_at.ensures now.text c.requires.quiet (omega arith));
      within = omega (arith, stepped.few);
      steps = stepped.steps;
    } in
    hart_turns_marked c.args.range.marking c.args.range.first begin done now hart made c.args.marks.now from (quiet_then now hart count made way) are

pub returns-clause-marks : goal.returns-clause-marks
returns-clause-marks c = λ begin done from place are. c.mark_turn.ensures.marks begin done from place are

pub returns-clause-shape : goal.returns-clause-shape
returns-clause-shape c = shape_of c.args.machine.now c.mark_turn.new.machine c.args.hart_turns.hart c.mark_turn.ensures.state

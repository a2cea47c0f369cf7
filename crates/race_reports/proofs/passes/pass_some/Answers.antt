use Rattle.std.proofs.Common.{◌≡◌, ◌≤◌, ◌∙◌, ℕ, ap, arith, subst, sym}
use Rattle.multi_hart.specs.Run.{State, hart_at}
use Rattle.turn_accesses.specs.Quiet.{IsQuietFrom}
use Rattle.multi_hart.proofs.Resting.{run-staying, turn-resting}
use Rattle.race_reports.specs.Races.{race_in}
use Rattle.race_reports.specs.inner.Watching.{AreSpans}
use Rattle.race_reports.proofs.passes.pass_some.Goals as goal

pub returns-in_default : goal.returns-in_default
returns-in_default c =
    let old = c.args.machine.now in
    let but = c.args.but.now in
    let stays = turn-resting old c.args.hart c.requires.there (λ is. c.in_default.not-Running (c.status.ensures ∙ is)) in
    let same : c.run_same.new.self ≡ old = c.run_same.ensures.state ∙ run-staying old c.args.hart c.args.most stays in
    record {
      some = c.requires.some;
      within = omega arith;
      state = c.run_same.ensures.state;
      spans = subst (λ (s : State). AreSpans s c.args.spans.now) (sym same) c.requires.spans;
      clear = λ k below. ap (race_in but) (run-staying old c.args.hart k stays) ∙ c.requires.clear;
      race = sym (ap (race_in but) same ∙ c.requires.clear);
    }

pub pass_quiet-requires-clause-quiet : goal.pass_quiet-requires-clause-quiet
pass_quiet-requires-clause-quiet c =
    let now = c.args.machine.now in
    let wide = c.from-quiet.ensures in
    let some : 1 ≤ c.quiet_at.result = omega arith in
    let same : c.quiet_at.result ≡ c.from-quiet.result = omega (arith, wide) in
    let pc : ℕ = (hart_at now c.args.hart).pc in
    subst (λ (n : ℕ). IsQuietFrom now.text pc n) same
    (subst (λ (at_pc : ℕ). IsQuietFrom now.text at_pc c.quiet_at.result) c.pc.ensures (c.quiet_at.ensures now.text c.requires.quiet some))

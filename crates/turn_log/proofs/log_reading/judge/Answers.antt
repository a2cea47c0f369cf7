use Rattle.std.proofs.Common.{◌≡◌, ℕ, ◌-◌, false, eqb, List, length, Option, Some, ap, sym, ◌∙◌, arith}
use Rattle.std.specs.Prelude.{slice_get}
use Rattle.std.specs.Option.{option_eq}
use Rattle.turn_log.specs.TurnLog.{count_of}
use Rattle.turn_log.specs.LogSpelling.{begins_with}
use Rattle.turn_log.proofs.LogFields.{judged_again}
use Rattle.turn_log.proofs.Judging.{begins_with-last, total_of-before, judged_too_many}
use Rattle.turn_log.proofs.log_reading.judge.Goals as goal

pub returns-then-saturating_add-gt-MOST_TURNS : goal.returns-then-saturating_add-gt-MOST_TURNS
returns-then-saturating_add-gt-MOST_TURNS c = λ before is.
    let last = ap (λ (ts : List ℕ). option_eq eqb (slice_get ts (length ts - 1)) (Some c.args.run.hart)) is.turns in
    let other : begins_with before c.args.run.hart ≡ false = begins_with-last before c.args.run.hart is.some ∙ sym last
    ∙ ap (λ (o : Option ℕ). option_eq eqb o (Some c.args.run.hart)) (sym c.last_hart.ensures) ∙ sym c.if-eq.ensures in
    let total = total_of-before before c.args.run.hart ∙ ap (λ (ts : List ℕ). count_of ts c.args.run.hart) (sym is.turns) in
    judged_too_many c.args.log.now.harts before c.args.run (omega arith) c.if-run-eq0.false other
    (omega (arith, total, c.count_of.ensures, c.saturating_add.ensures))

pub returns : goal.returns
returns c = λ before is.
    let last = ap (λ (ts : List ℕ). option_eq eqb (slice_get ts (length ts - 1)) (Some c.args.run.hart)) is.turns in
    let other : begins_with before c.args.run.hart ≡ false = begins_with-last before c.args.run.hart is.some ∙ sym last
    ∙ ap (λ (o : Option ℕ). option_eq eqb o (Some c.args.run.hart)) (sym c.last_hart.ensures) ∙ sym c.if-eq.ensures in
    let total = total_of-before before c.args.run.hart ∙ ap (λ (ts : List ℕ). count_of ts c.args.run.hart) (sym is.turns) in
    judged_again c.args.log.now.harts before c.args.run
    (record {
      below = omega arith;
      some = let some = c.if-run-eq0.false in omega (arith, some);
      other = other;
      few =
          omega (arith, total, c.count_of.ensures, c.saturating_add.ensures);
    })

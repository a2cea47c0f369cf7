use Rattle.std.proofs.Common.{◌≡◌, ◌∙◌, ◌+◌, ◌-◌, ◌*◌, ◌/◌, ℕ, sym, subst, length, arith}
use Rattle.std.proofs.lemmas.Bool.{ltb-true}
use Rattle.std.proofs.lemmas.Grind.{get_or_default_zero}
use Rattle.memory.specs.Access.{text_start}
use Rattle.turn_accesses.specs.Quiet.{AreQuiet}
use Rattle.turn_accesses.proofs.quiets.quiet_at.Goals as goal

pub returns-in-Some : goal.returns-in-Some
returns-in-Some c = λ text are some.
    let counts = c.args.counts.now in
    let place : ℕ = (c.args.pc - text_start) / 4 in
    let stands : c.args.pc ≡ text_start + 4 * place = omega arith in
    let found = c.in-Some.ensures.lookup in
    let within = ltb-true place (length counts) (sym found.0) in
    record {
      place = place;
      stands = stands;
      quiet = subst (λ (n : ℕ). AreQuiet text place n) (sym (found.1 ∙ get_or_default_zero counts place c.in-Some.count.now within)) (are.each place);
    }

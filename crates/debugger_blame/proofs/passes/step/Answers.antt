use Rattle.std.proofs.Common.{◌≡◌, ◌∙◌, sym, true}
use Rattle.std.specs.Prelude.{◌≢◌}
use Rattle.rv_insn.specs.declared.outcomes.Outcome.TheVariants.{Stepped}
use Rattle.multi_hart.specs.Run.{outcome}
use Rattle.work_sharing.specs.Turns.{is_word_in, written_next}
use Rattle.debugger_blame.proofs.LastTurns.{is_blamed, not_blamed}
use Rattle.debugger_blame.proofs.Outcomes.{stored_by, unstepped, unstored}
use Rattle.debugger_blame.proofs.Passing.{hart_there}
use Rattle.debugger_blame.proofs.passes.step.Goals as goal

pub returns-then-not-would_write-clause-blames : goal.returns-then-not-would_write-clause-blames
returns-then-not-would_write-clause-blames c = λ begin done from place blames.
    let there = hart_there c.args.machine.now c.args.hart c.requires.there in
    not_blamed begin done c.args.machine.now c.args.hart c.args.address c.args.last from
    (unstored c.args.machine.now c.args.hart c.args.address c.would_write.result there c.would_write.ensures c.if-not-would_write.true) blames

pub returns-in_default-clause-blames : goal.returns-in_default-clause-blames
returns-in_default-clause-blames c = λ begin done from place blames.
    let there = hart_there c.args.machine.now c.args.hart c.requires.there in
    let other : outcome c.args.machine.now c.args.hart ≢ Stepped = λ is. c.in_default.not-Stepped (c.turn-2.ensures.outcome ∙ is) in
    not_blamed begin done c.args.machine.now c.args.hart c.args.address c.args.last from
    (unstepped c.args.machine.now c.args.hart c.args.address there other) blames

pub returns-clause-blames : goal.returns-clause-blames
returns-clause-blames c = λ begin done from place blames.
    let there = hart_there c.args.machine.now c.args.hart c.requires.there in
    let writes : is_word_in c.args.address (written_next c.args.machine.now c.args.hart) ≡ true =
    stored_by c.args.machine.now c.args.hart c.args.address c.would_write.result there c.would_write.ensures (sym c.turn-2.ensures.outcome ∙ c.in-Stepped.is)
    ∙ c.if-not-would_write.false in
    is_blamed begin done c.args.machine.now c.turn-2.new.self c.args.address _ from c.turn-2.ensures.state writes place c.pc-pc.ensures c.word_at-before.ensures
    c.word_at-after.ensures

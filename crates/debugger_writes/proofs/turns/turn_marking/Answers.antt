use Rattle.std.proofs.Common.{◌≡◌, ◌∙◌, None, ap, sym}
use Rattle.std.specs.Option.{option_copied}
use Rattle.std.specs.Prelude.{option_and_then}
use Rattle.memory.specs.Access.{fetched}
use Rattle.multi_hart.specs.Run.{State, hart_at}
use Rattle.debugger_writes.specs.Stored.{store_in}
use Rattle.debugger_writes.proofs.Marking.{marks_quiet, quiet_memory}
use Rattle.debugger_writes.proofs.turns.turn_marking.Goals as goal

pub returns-in-None-clause-marks : goal.returns-in-None-clause-marks
returns-in-None-clause-marks c =
    let now = c.args.machine.now in
    let hart = c.args.hart in
    let none : option_and_then store_in (fetched now.text (hart_at now hart).pc) ≡ None =
    ap (λ pc. option_and_then store_in (fetched now.text pc)) (sym c.pc.ensures) ∙ sym (c.store_at.ensures now.text c.requires.meant)
    ∙ ap (λ o. option_copied o) c.in-None.is in
    marks_quiet now.memory c.turn-outcome.new.self.memory c.args.written.now (ap (λ (s : State). s.memory) c.turn-outcome.ensures.state
    ∙ quiet_memory now hart c.requires.there none)

pub returns-in-None-clause-quiet : goal.returns-in-None-clause-quiet
returns-in-None-clause-quiet c = λ quiet.
    let now = c.args.machine.now in
    let hart = c.args.hart in
    let none : option_and_then store_in (fetched now.text (hart_at now hart).pc) ≡ None =
    ap (λ pc. option_and_then store_in (fetched now.text pc)) (sym c.pc.ensures) ∙ sym (c.store_at.ensures now.text c.requires.meant)
    ∙ ap (λ o. option_copied o) c.in-None.is in
    ap (λ (s : State). s.memory) c.turn-outcome.ensures.state ∙ quiet_memory now hart c.requires.there none

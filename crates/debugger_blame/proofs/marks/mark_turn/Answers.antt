use Rattle.std.proofs.Common.{◌≡◌, ◌∙◌, ◌++◌, ◌∷◌, [], None, Some, ap, sym}
use Rattle.std.specs.Option.{option_copied}
use Rattle.std.specs.Prelude.{option_and_then}
use Rattle.memory.specs.Access.{fetched}
use Rattle.multi_hart.specs.Run.{hart_at}
use Rattle.debugger_blame.specs.Marks.{mark_of}
use Rattle.debugger_writes.specs.Stored.{store_in}
use Rattle.debugger_blame.proofs.MarksMade.{mark_made, quiet_marked, turn_marked}
use Rattle.debugger_blame.proofs.Outcomes.{quiet_without_store}
use Rattle.debugger_blame.proofs.Passing.{hart_there}
use Rattle.debugger_blame.proofs.marks.mark_turn.Goals as goal

pub returns-in_default-clause-marks : goal.returns-in_default-clause-marks
returns-in_default-clause-marks c = λ begin done from place are.
    let now = c.args.machine.now in
    let hart = c.args.hart in
    let none : option_and_then store_in (fetched now.text (hart_at now hart).pc) ≡ None =
    ap (λ pc. option_and_then store_in (fetched now.text pc)) (sym c.pc.ensures) ∙ sym (c.store_at.ensures now.text c.requires.meant)
    ∙ ap (λ o. option_copied o) c.in_default.is in
    quiet_marked c.args.range.marking c.args.range.first begin done now hart c.args.marks.now from (quiet_without_store now hart
    (hart_there now hart c.requires.there) none) are

pub returns-clause-marks : goal.returns-clause-marks
returns-clause-marks c = λ begin done from place are.
    let now = c.args.machine.now in
    let hart = c.args.hart in
    let marking = c.args.range.marking in
    turn_marked marking c.args.range.first begin done now hart c.mark_of-mark.result c.args.marks.now c.mark_store.new.marks from
    c.mark_store.auto.marks
    (mark_made marking done hart c.args.place c.mark_of-mark.result place c.mark_of-mark.ensures.harts c.mark_of-mark.ensures.turns
    ∙ ap (λ n. mark_of marking (done ++ hart ∷ []) (Some n)) (sym place))
    c.mark_store.ensures.marks are

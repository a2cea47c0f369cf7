use Rattle.std.proofs.Common.{◌≡◌, ◌∙◌, Some, ap, sym}
use Rattle.std.specs.Option.{option_copied}
use Rattle.std.specs.Prelude.{option_and_then}
use Rattle.memory.specs.Access.{fetched}
use Rattle.hart_core.specs.Scalar.{illegal_fault}
use Rattle.multi_hart.specs.Run.{hart_at}
use Rattle.work_sharing.specs.Turns.{is_word_in}
use Rattle.debugger_writes.specs.Stored.{places_stored, store_in}
use Rattle.debugger_writes.proofs.Outcomes.{store_is}
use Rattle.debugger_blame.proofs.passes.would_write.Goals as goal

pub returns-in-Some : goal.returns-in-Some
returns-in-Some c = λ insn means legal.
    let now = c.args.machine.now in
    let hart = hart_at now c.args.hart in
    let store : option_and_then store_in (fetched now.text hart.pc) ≡ Some c.in-Some.insn.now =
    ap (λ pc. option_and_then store_in (fetched now.text pc)) (sym c.pc.ensures) ∙ sym (c.store_at.ensures now.text c.requires.meant)
    ∙ ap (λ o. option_copied o) c.in-Some.is in
    let same = store_is (fetched now.text hart.pc) insn c.in-Some.insn.now means store in
    (rw (c.hart.ensures) at c.stores_to.ensures) (sym (ap (λ one. illegal_fault one hart) same) ∙ legal)
    ∙ ap (λ one. is_word_in c.args.address (places_stored one hart)) (sym same)

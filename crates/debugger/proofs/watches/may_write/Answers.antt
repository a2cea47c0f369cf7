use Rattle.std.proofs.Common.{◌≡◌, ◌∙◌, ℕ, None, Some, All, ap, subst, sym}
use Rattle.std.specs.Option.{option_copied}
use Rattle.std.specs.Prelude.{option_and_then}
use Rattle.memory.specs.Access.{fetched}
use Rattle.hart_core.specs.HartState.{HartState}
use Rattle.hart_core.specs.Scalar.{illegal_fault}
use Rattle.multi_hart.specs.Run.{hart_at, turn}
use Rattle.multi_hart.proofs.TurnByTurn.{shape-turn}
use Rattle.debugger_writes.specs.Stored.{places_stored, store_in}
use Rattle.debugger_writes.proofs.Marking.{quiet_memory}
use Rattle.debugger.specs.inner.Watching.{LeavesWord}
use Rattle.debugger.proofs.Stopping.{differs-none}
use Rattle.debugger.proofs.Watching.{store_leaves}
use Rattle.debugger.proofs.watches.may_write.Goals as goal

pub returns-in-Some : goal.returns-in-Some
returns-in-Some c = λ isnt.
    let now = c.args.machine.now in
    let hart = c.args.hart in
    let insn = c.in-Some.insn.now in
    let stores : option_and_then store_in (fetched now.text (hart_at now hart).pc) ≡ Some insn =
    ap (λ (pc : ℕ). option_and_then store_in (fetched now.text pc)) (sym c.pc.ensures) ∙ sym (c.store_at.ensures now.text c.requires.meant)
    ∙ ap option_copied c.in-Some.is in
    store_leaves now hart insn c.args.watches.now c.requires.there stores
    (subst (λ (h : HartState). illegal_fault insn h ≡ None → All (LeavesWord (places_stored insn h)) c.args.watches.now) c.hart.ensures
    (c.stores_to.ensures isnt))

pub returns-in-None : goal.returns-in-None
returns-in-None c = λ _.
    let now = c.args.machine.now in
    let hart = c.args.hart in
    let none : option_and_then store_in (fetched now.text (hart_at now hart).pc) ≡ None =
    ap (λ (pc : ℕ). option_and_then store_in (fetched now.text pc)) (sym c.pc.ensures) ∙ sym (c.store_at.ensures now.text c.requires.meant)
    ∙ ap option_copied c.in-None.is in
    differs-none now (turn now hart) c.args.watches.now (shape-turn now hart).text (quiet_memory now hart c.requires.there none)

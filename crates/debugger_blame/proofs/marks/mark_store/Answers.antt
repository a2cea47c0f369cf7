use Rattle.std.proofs.Common.{◌≡◌, ◌∙◌, ◌∷◌, [], ap, sym}
use Rattle.std.specs.Prelude.{◌≢◌}
use Rattle.rv_insn.specs.declared.outcomes.Outcome.TheVariants.{Stepped}
use Rattle.hart_core.specs.Scalar.{illegal_fault}
use Rattle.memory.specs.Access.{fetched, touched}
use Rattle.multi_hart.specs.Run.{hart_at, outcome}
use Rattle.work_sharing.specs.Turns.{is_word_in}
use Rattle.hart_core.specs.VectorRows.{accesses_at}
use Rattle.debugger_writes.specs.Stored.{places_stored}
use Rattle.debugger_writes.proofs.Outcomes.{store_is}
use Rattle.debugger_blame.proofs.Outcomes.{not_stepped, stepped}
use Rattle.debugger_blame.proofs.Passing.{hart_there}
use Rattle.debugger_blame.proofs.WordsTouched.{marked_so, none_marked}
use Rattle.debugger_blame.proofs.marks.mark_store.Goals as goal

pub returns-in_default-turn : goal.returns-in_default-turn
returns-in_default-turn c =
    let there = hart_there c.args.machine.now c.args.hart c.requires.there in
    let other : outcome c.args.machine.now c.args.hart ≢ Stepped = λ is. c.in_default-turn.not-Stepped (c.turn.ensures.outcome ∙ is) in
    record {
      state = c.turn.ensures.state;
      marks = marked_so c.args.first _ _ c.args.mark c.args.marks.now c.args.marks.now
          (λ word. ap (is_word_in word) (not_stepped c.args.machine.now c.args.hart there other)) (none_marked c.args.first c.args.mark c.args.marks.now);
    }

pub returns-clause-marks : goal.returns-clause-marks
returns-clause-marks c =
    let now = c.args.machine.now in
    let hart = c.args.hart in
    let there = hart_there now hart c.requires.there in
    let did = stepped now hart there (sym c.turn.ensures.outcome ∙ c.in-Stepped.is) in
    let same = store_is (fetched now.text (hart_at now hart).pc) did.insn c.args.insn.now did.meant_is c.requires.stores in
    let legal : illegal_fault c.args.insn.now (hart_at now hart) ≡ _ = sym (ap (λ insn. illegal_fault insn (hart_at now hart)) same) ∙ did.legal in
    let stored = (rw (c.hart.ensures) at c.in-Some.ensures.one) legal in
    let writes = did.writes_it ∙ ap (λ insn. places_stored insn (hart_at now hart)) same ∙ sym stored in
    marked_so c.args.first (λ word. is_word_in word (touched (accesses_at c.in-Some.number.width (c.in-Some.number.address ∷ [])))) _ c.args.mark
    c.args.marks.now
    c.mark_numbers.new.marks (λ word. ap (is_word_in word) writes) c.mark_numbers.ensures

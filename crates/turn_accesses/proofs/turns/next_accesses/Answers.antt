use Rattle.std.proofs.Common.{◌≡◌, ◌∙◌, List, Option, Some, ap, length, sym}
use Rattle.std.proofs.lemmas.List.{length-map}
use Rattle.std.specs.Option.{option_copied}
use Rattle.std.specs.Prelude.{option_and_then}
use Rattle.rv_insn.specs.declared.instructions.Insn.{Insn}
use Rattle.memory.specs.Access.{fetched}
use Rattle.hart_core.specs.Turn.{fault, judged}
use Rattle.multi_hart.specs.Run.{reads, writes}
use Rattle.turn_accesses.specs.Accesses.{access_in}
use Rattle.turn_accesses.proofs.Standing.{at_access}
use Rattle.turn_accesses.proofs.turns.next_accesses.Goals as goal

pub returns-in-Some-clause-reads : goal.returns-in-Some-clause-reads
returns-in-Some-clause-reads c = λ text is.
    let hart = c.args.hart.now in
    let insn = c.in-Some.insn.now in
    let stands : option_and_then access_in (fetched text hart.pc) ≡ Some insn =
    ap (λ pc. option_and_then access_in (fetched text pc)) (sym c.pc.ensures) ∙ sym (c.access_at.ensures text is) ∙ ap (λ o. option_copied o) c.in-Some.is in
    let words : length text ≡ length c.args.insns.now = sym (ap (λ (l : List (Option Insn)). length l) is ∙ length-map text access_in) in
    c.touched_by.ensures.reads ∙ ap (λ n. reads (judged insn (fault n c.args.bytes insn hart)) hart) (sym words)
    ∙ sym (at_access text c.args.bytes hart insn (λ n. reads n hart) (sym c.status.ensures ∙ c.in-Running.is) stands)

pub returns-in-Some-clause-writes : goal.returns-in-Some-clause-writes
returns-in-Some-clause-writes c = λ text is.
    let hart = c.args.hart.now in
    let insn = c.in-Some.insn.now in
    let stands : option_and_then access_in (fetched text hart.pc) ≡ Some insn =
    ap (λ pc. option_and_then access_in (fetched text pc)) (sym c.pc.ensures) ∙ sym (c.access_at.ensures text is) ∙ ap (λ o. option_copied o) c.in-Some.is in
    let words : length text ≡ length c.args.insns.now = sym (ap (λ (l : List (Option Insn)). length l) is ∙ length-map text access_in) in
    c.touched_by.ensures.writes ∙ ap (λ n. writes (judged insn (fault n c.args.bytes insn hart)) hart) (sym words)
    ∙ sym (at_access text c.args.bytes hart insn (λ n. writes n hart) (sym c.status.ensures ∙ c.in-Running.is) stands)

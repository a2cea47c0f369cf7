use Rattle.std.proofs.Common.{◌≡◌, ◌∙◌, [], None, List, Option, Some, ap, length, sym}
use Rattle.std.proofs.lemmas.List.{length-map}
use Rattle.std.specs.Option.{option_copied}
use Rattle.std.specs.Prelude.{option_and_then}
use Rattle.rv_insn.specs.declared.instructions.Insn.{Insn}
use Rattle.memory.specs.Access.{fetched}
use Rattle.hart_core.specs.Turn.{fault, judged, next_of}
use Rattle.multi_hart.specs.Run.{reads, writes}
use Rattle.turn_accesses.specs.Accesses.{access_in}
use Rattle.turn_accesses.proofs.Spanning.{covers_same}
use Rattle.turn_accesses.proofs.Standing.{at_access, no_access_reads, no_access_writes, resting_reads, resting_writes}
use Rattle.turn_accesses.proofs.turns.next_span.Goals as goal

pub returns-in_default : goal.returns-in_default
returns-in_default c = λ text is.
    let hart = c.args.hart.now in
    let bytes = c.args.bytes in
    covers_same c.nowhere.result [] [] (reads (next_of text bytes hart) hart) (writes (next_of text bytes hart) hart)
    (resting_reads text bytes hart (λ runs. c.in_default.not-Running (c.status.ensures ∙ runs)))
    (resting_writes text bytes hart (λ runs. c.in_default.not-Running (c.status.ensures ∙ runs))) c.nowhere.ensures

pub returns-in-None : goal.returns-in-None
returns-in-None c = λ text is.
    let hart = c.args.hart.now in
    let bytes = c.args.bytes in
    let none : option_and_then access_in (fetched text hart.pc) ≡ None =
    ap (λ pc. option_and_then access_in (fetched text pc)) (sym c.pc.ensures) ∙ sym (c.access_at.ensures text is) ∙ ap (λ o. option_copied o) c.in-None.is in
    covers_same c.nowhere-in-None.result [] [] (reads (next_of text bytes hart) hart) (writes (next_of text bytes hart) hart)
    (no_access_reads text bytes hart none) (no_access_writes text bytes hart none) c.nowhere-in-None.ensures

pub returns-in-Some : goal.returns-in-Some
returns-in-Some c = λ text is.
    let hart = c.args.hart.now in
    let bytes = c.args.bytes in
    let insn = c.in-Some.insn.now in
    let stands : option_and_then access_in (fetched text hart.pc) ≡ Some insn =
    ap (λ pc. option_and_then access_in (fetched text pc)) (sym c.pc.ensures) ∙ sym (c.access_at.ensures text is) ∙ ap (λ o. option_copied o) c.in-Some.is in
    let words : length text ≡ length c.args.insns.now = sym (ap (λ (l : List (Option Insn)). length l) is ∙ length-map text access_in) in
    let runs = sym c.status.ensures ∙ c.in-Running.is in
    covers_same c.span_touched.result (reads (judged insn (fault (length c.args.insns.now) bytes insn hart)) hart)
    (writes (judged insn (fault (length c.args.insns.now) bytes insn hart)) hart) (reads (next_of text bytes hart) hart) (writes (next_of text bytes hart) hart)
    (at_access text bytes hart insn (λ n. reads n hart) runs stands ∙ ap (λ n. reads (judged insn (fault n bytes insn hart)) hart) words)
    (at_access text bytes hart insn (λ n. writes n hart) runs stands ∙ ap (λ n. writes (judged insn (fault n bytes insn hart)) hart) words)
    c.span_touched.ensures

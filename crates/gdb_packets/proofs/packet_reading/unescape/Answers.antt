use Rattle.std.proofs.Common.{◌∙◌, sym, arith}
use Rattle.std.proofs.lemmas.List.{at_drop_more, at_drop_all}
use Rattle.std.proofs.lemmas.Grind.{common_steps}
use Rattle.gdb_packets.specs.Packets.{in_fronts, unescaped_from}
use Rattle.gdb_packets.proofs.Unescaping.{cut, whole}
use Rattle.gdb_packets.proofs.packet_reading.unescape.Goals as goal

pub loop-byte-preserved : goal.loop-byte-preserved
loop-byte-preserved c =
    let at = c.loop-byte in
    sym (at_drop_more (λ rest. in_fronts at.payload.items (unescaped_from at.is_escaped rest)) c.args.body.now at.byte-index 0 (grind (arith, common_steps))
    ∙ c.in_ok-is_escaped.ensures _)
    ∙ at.invariant

pub returns-then-is_escaped : goal.returns-then-is_escaped
returns-then-is_escaped c =
    let at = c.loop-byte in
    cut at.payload.items at.is_escaped _ c.if-is_escaped.true
    (sym (at_drop_all (λ rest. in_fronts at.payload.items (unescaped_from at.is_escaped rest)) c.args.body.now at.byte-index c.loop-byte-test.false)
    ∙ at.invariant)

pub returns : goal.returns
returns c =
    let at = c.loop-byte in
    whole at.payload.items at.is_escaped _ c.if-is_escaped.false
    (sym (at_drop_all (λ rest. in_fronts at.payload.items (unescaped_from at.is_escaped rest)) c.args.body.now at.byte-index c.loop-byte-test.false)
    ∙ at.invariant)

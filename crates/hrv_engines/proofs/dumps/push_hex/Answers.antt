use Rattle.std.proofs.Common.{◌++◌, ◌∷◌, [], take, get_or, ap, ◌∙◌, arith}
use Rattle.std.specs.String.{string_bytes}
use Rattle.hrv_engines.specs.Dump.{hex_of}
use Rattle.hrv_engines.proofs.Printing.{hex_of-more, hex_of-one, joined}
use Rattle.hrv_engines.proofs.dumps.push_hex.Goals as goal

pub loop-byte-preserved : goal.loop-byte-preserved
loop-byte-preserved c =
    let byte = get_or c.args.bytes.now c.loop-byte.byte-index 0 in
    let written = rw (c.in_radix.ensures, c.laid_out.ensures) at c.in_ok-write.ensures.bytes in
    let one = hex_of-one byte (omega (arith, c.type_inv.bytes c.loop-byte.byte-index)) in
    joined (string_bytes c.args.text.now) (string_bytes c.loop-byte.text) (string_bytes c.write.new.self)
    (hex_of (take c.loop-byte.byte-index c.args.bytes.now)) (hex_of (byte ∷ [])) _ c.loop-byte.invariant (written
    ∙ ap (λ digits. string_bytes c.loop-byte.text ++ digits) one) (hex_of-more c.args.bytes.now c.loop-byte.byte-index (omega arith))

use Rattle.std.proofs.Common.{arith}
use Rattle.lanes.proofs.FourBits.{four_written}
use Rattle.lanes.proofs.masks.write_four_mask_bits.Goals as goal

pub returns-then-part-eq0 : goal.returns-then-part-eq0
returns-then-part-eq0 c = λ tests four is.
    four_written c.args.register.now c.args.part 0 c.args.bits c.with_low_bits.result tests (omega arith) c.requires (omega arith) (omega arith) four is
    c.with_low_bits.ensures

pub returns-else-part-eq0 : goal.returns-else-part-eq0
returns-else-part-eq0 c = λ tests four is.
    four_written c.args.register.now c.args.part 4 c.args.bits c.with_high_bits.result tests (omega arith) c.requires (omega arith) (omega arith) four is
    c.with_high_bits.ensures

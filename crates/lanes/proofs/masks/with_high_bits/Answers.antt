use Rattle.std.proofs.Common.{◌*◌, ◌%◌, bit_and, bit_or, ◌∙◌, ap}
use Rattle.lanes.proofs.FourBits.{high_bits}
use Rattle.lanes.proofs.masks.with_high_bits.Goals as goal

pub returns : goal.returns
returns c = λ a b d e is. ap (λ n. bit_or (bit_and c.args.byte 15) (n * 16 % 256)) is ∙ high_bits a b d e c.args.byte c.ranges.byte.fits

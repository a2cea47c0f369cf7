use Rattle.std.proofs.Common.{bit_and, bit_or, ◌∙◌, ap}
use Rattle.lanes.proofs.FourBits.{low_bits}
use Rattle.lanes.proofs.masks.with_low_bits.Goals as goal

pub returns : goal.returns
returns c = λ a b d e is. ap (bit_or (bit_and c.args.byte 240)) is ∙ low_bits a b d e c.args.byte c.ranges.byte.fits

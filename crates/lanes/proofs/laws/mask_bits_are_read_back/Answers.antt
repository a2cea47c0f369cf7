use Rattle.lanes.proofs.MaskReadings.{mask_bits_back}
use Rattle.lanes.proofs.laws.mask_bits_are_read_back.Goals as goal

pub returns : goal.returns
returns c = mask_bits_back

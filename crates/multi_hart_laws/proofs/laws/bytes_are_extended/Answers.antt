use Rattle.multi_hart_laws.proofs.ByteRows.{extends}
use Rattle.multi_hart_laws.proofs.laws.bytes_are_extended.Goals as goal

pub returns : goal.returns
returns c = extends

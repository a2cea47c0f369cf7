use Rattle.multi_hart_laws.proofs.ByteLoads.{loads-bytes, byte-written, bytes-apart}
use Rattle.multi_hart_laws.proofs.laws.bytes_are_loaded.Goals as goal

pub returns-clause-row : goal.returns-clause-row
returns-clause-row c = loads-bytes

pub returns-clause-bytes : goal.returns-clause-bytes
returns-clause-bytes c = byte-written

pub returns-clause-others : goal.returns-clause-others
returns-clause-others c = bytes-apart

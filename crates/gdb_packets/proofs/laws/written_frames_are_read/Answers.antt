use Rattle.gdb_packets.proofs.WrittenLaws.{written_read}
use Rattle.gdb_packets.proofs.laws.written_frames_are_read.Goals as goal

pub returns : goal.returns
returns c = written_read

use Rattle.gdb_packets.proofs.FrameLaws.{frame_read}
use Rattle.gdb_packets.proofs.laws.frames_are_read.Goals as goal

pub returns : goal.returns
returns c = frame_read

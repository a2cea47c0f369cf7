use Rattle.gdb_packets.proofs.FrameLaws.{readings-append, behind-append}
use Rattle.gdb_packets.proofs.laws.pieces_are_read_in_turn.Goals as goal

pub returns : goal.returns
returns c = record { readings = readings-append; places = behind-append }

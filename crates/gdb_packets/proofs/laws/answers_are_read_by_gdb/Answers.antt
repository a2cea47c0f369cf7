use Rattle.gdb_packets.proofs.EscapeLaws.{answer_again}
use Rattle.gdb_packets.proofs.laws.answers_are_read_by_gdb.Goals as goal

pub returns : goal.returns
returns c = answer_again

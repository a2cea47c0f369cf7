use Rattle.std.proofs.Common.{arith}
use Rattle.gdb_packets.specs.Packets.{outside}
use Rattle.gdb_packets.proofs.KeptLaws.{kept_behind}
use Rattle.gdb_packets.proofs.laws.little_is_kept.Goals as goal

pub returns : goal.returns
returns c = λ limit bytes. kept_behind limit outside bytes (omega arith)

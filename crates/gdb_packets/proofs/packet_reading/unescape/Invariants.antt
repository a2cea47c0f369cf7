use Rattle.std.proofs.Common.{◌≡◌, drop, false}
use Rattle.gdb_packets.specs.Packets.{in_fronts, unescaped_from}
use Rattle.gdb_packets.proofs.packet_reading.unescape.Given as goal

abbrev pub invariant-loop-byte : goal.invariant-loop-byte
invariant-loop-byte l = in_fronts l.payload.items (unescaped_from l.is_escaped (drop l.byte-index l.body)) ≡ unescaped_from false l.body

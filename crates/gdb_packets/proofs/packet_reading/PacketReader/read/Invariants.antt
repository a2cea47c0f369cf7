use Rattle.std.proofs.Common.{◌≡◌, drop, map}
use Rattle.gdb_packets.specs.Packets.{place_of, view}
use Rattle.gdb_packets.proofs.Pieces.{Left}
use Rattle.gdb_packets.proofs.packet_reading.PacketReader.read.Given as goal

abbrev pub invariant-loop-byte : goal.invariant-loop-byte
invariant-loop-byte l = record {
  limit : l.self.limit ≡ l.fn.self.limit;
  left : Left l.fn.self.limit (place_of l.fn.self) l.bytes (map view l.fn.found.items) (place_of l.self) (drop l.byte-index l.bytes) (map view l.found.items);
}

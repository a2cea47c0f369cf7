use Rattle.std.proofs.Common.{◌≡◌, ◌++◌, take}
use Rattle.gdb_packets.specs.Packets.{escaped, check_sum}
use Rattle.gdb_packets.proofs.packet_writing.push_escaped.Given as goal

abbrev pub invariant-loop-byte : goal.invariant-loop-byte
invariant-loop-byte l =
    (l.out.items ≡ l.fn.out.items ++ escaped (take l.byte-index l.payload)) × (l.sum ≡ check_sum (escaped (take l.byte-index l.payload)))

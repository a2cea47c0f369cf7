use Rattle.std.proofs.Common.{◌≡◌, ◌*◌, ◌/◌, map, take, length}
use Rattle.lanes.specs.Words.{register_of}
use Rattle.lanes.proofs.registers.bytes_of.Given as goal

-- the bytes of the elements so far are written
abbrev pub invariant-loop-index : goal.invariant-loop-index
invariant-loop-index g l =
    let width = g.K.LaneKind.width in
    record {
      count : length l.register ≡ 16;
      so_far : take (l.index * (width / 8)) l.register ≡ register_of width (take l.index (map g.K.LaneKind.number l.elements));
    }

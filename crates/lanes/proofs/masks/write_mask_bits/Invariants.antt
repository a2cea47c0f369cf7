use Rattle.std.proofs.Common.{◌≡◌, ◌+◌, drop}
use Rattle.lanes.specs.Words.{with_mask_bits_from}
use Rattle.lanes.proofs.masks.write_mask_bits.Given as goal

-- the bits that are left, written into the register so far, are all bits written into the first one
abbrev pub invariant-loop-index : goal.invariant-loop-index
invariant-loop-index g l =
    with_mask_bits_from (l.first + l.index) (drop l.index l.active) (drop l.index l.bits) l.register ≡ with_mask_bits_from l.first l.active l.bits l.fn.register

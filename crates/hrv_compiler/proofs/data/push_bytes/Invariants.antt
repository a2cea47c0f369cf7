use Rattle.std.proofs.Common.{◌≡◌, ◌++◌, length, take, nat_lt, true}
use Rattle.std.specs.List.{list_all}
use Rattle.hrv_compiler.proofs.data.push_bytes.Given as goal

abbrev pub invariant-loop-left : goal.invariant-loop-left
invariant-loop-left l = record {
  same : l.bytes.items ++ l.left ≡ l.initial.bytes.items ++ l.pixels;
  small : list_all (λ pixel. nat_lt pixel 256) l.left ≡ true;
}

abbrev pub decreases-loop-left : goal.decreases-loop-left
decreases-loop-left l = length l.left

abbrev pub invariant-loop-pixel : goal.invariant-loop-pixel
invariant-loop-pixel l = l.bytes.items ≡ l.initial.bytes.items ++ take l.pixel-index l.pixel-items

use Rattle.std.proofs.Common.{◌≡◌, ◌++◌, length, take}
use Rattle.hrv_compiler.specs.Images.{word_bytes}
use Rattle.hrv_compiler.proofs.data.push_words.Given as goal

abbrev pub invariant-loop-left : goal.invariant-loop-left
invariant-loop-left l = l.bytes.items ++ word_bytes l.left ≡ l.initial.bytes.items ++ word_bytes l.pixels

abbrev pub decreases-loop-left : goal.decreases-loop-left
decreases-loop-left l = length l.left

abbrev pub invariant-loop-pixel : goal.invariant-loop-pixel
invariant-loop-pixel l = l.bytes.items ≡ l.initial.bytes.items ++ word_bytes (take l.pixel-index l.pixel-items)

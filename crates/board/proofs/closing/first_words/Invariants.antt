use Rattle.std.proofs.Common.{◌≡◌, ℕ, ◌<◌, length}
use Rattle.std.specs.Prelude.{slice_index}
use Rattle.std.specs.Mem.Slots.{slots_items}
use Rattle.board.proofs.closing.first_words.Given as goal

abbrev pub invariant-loop-hart : goal.invariant-loop-hart
invariant-loop-hart l = (length l.words ≡ 8) × ((hart : ℕ) → hart < l.hart → slice_index l.words hart ≡ slice_index (slots_items l.closed.words) hart)

-- Words that are marked. This project's own.
use Rattle.std.specs.Prelude.{◌≡◌, ℕ, ◌+◌, ◌*◌, ◌<◌, Bool, nat_le, nat_lt, ◌&&◌, if◌then◌else◌, List, length, slice_index}

-- the byte is one of the word's
abbrev pub is_byte_of_word : ℕ → ℕ → Bool
is_byte_of_word word place = nat_le word place && nat_lt place (word + 4)

-- each of the words from the first one on for which the test holds has the mark, and all others what they had
pub record Marked (first : ℕ) (test : ℕ → Bool) (mark : ℕ) (old new : List ℕ) : Type 0 where
  pub each : (k : ℕ) → k < length old → slice_index new k ≡ (if test (first + 4 * k) then mark else slice_index old k)

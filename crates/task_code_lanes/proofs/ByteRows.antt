-- Lanes of pixels that are bytes and lie one after the other.
use Rattle.std.proofs.Common.{◌≡◌, ℕ, ◌+◌, ◌*◌, ◌%◌, ◌^◌, ◌<◌, List, length, Bool, true, false, arith}
use Rattle.std.specs.Prelude.{◌-◌, ◌/◌, if◌then◌else◌, nat_lt, slice_index}
use Rattle.memory.specs.Access.{text_start, data_start, byte_at, AreBytes}
use Rattle.multi_hart_laws.specs.Alone.{World}
use Rattle.task_code_scalar.specs.declared.layouts.Pixels.TheVariants as pixels
use Rattle.task_code_scalar.specs.declared.layouts.BufferLayout.{BufferLayout}
use Rattle.task_code_scalar.specs.Evaluation.{LoadsAt}
use Rattle.task_code_lanes.specs.declared.groups.LaneGroup.{LaneGroup}
use Rattle.task_code_lanes.proofs.Slots.{SlotLies}

one-byte : (t : Bool) (p q : ℕ) → p < 256 → q < 256 → (if t then p else q) < 256
one-byte true p q a b = a
one-byte false p q a b = b

rest-small : (n : ℕ) → n % 256 < 256
rest-small n = omega arith

-- what lies at an address is a byte, where memory holds bytes
pub byte-small : (text m : List ℕ) (a : ℕ) → AreBytes m → byte_at text m a < 256
byte-small text m a are =
    one-byte (nat_lt a data_start) (slice_index text ((a - text_start) / 4) / 256 ^ ((a - text_start) % 4) % 256) (slice_index m (a - data_start))
    (rest-small _) (are (a - data_start))

module _ (w : World) (m : List ℕ) (l : length m ≡ w.size) (group : LaneGroup) (n : ℕ) (k : ℕ) (lies : SlotLies group k) where
  module _ (layout : BufferLayout) (bytes : layout.pixels ≡ pixels.Bytes) (x y pixel : ℕ → ℕ) (can : (i : ℕ) → i < n → LoadsAt w layout m (x i) (y i) (pixel i)) where
    abbrev a : ℕ → ℕ
    a i = layout.start + layout.distance * w.hart + 1 * (y i * layout.width + x i)

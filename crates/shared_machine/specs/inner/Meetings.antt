-- What comes of the places for which threads meet.
-- This project's own.
use Rattle.std.specs.Prelude.{◌≡◌, ℕ, ◌<◌, Option, None, Some, List, length, slice_index_or}

-- R holds of what was at each place and of what is there now
pub record EachIs {T : Type 0} (R : T → T → Type 0) (olds news : List T) : Type 0 where
  pub len : length news ≡ length olds
  pub each : (k : ℕ) (d : T) → k < length olds → R (slice_index_or olds k d) (slice_index_or news k d)

-- by what was decided, the work of all places is done or left
unfoldable pub Came : {A T : Type 0} → (T → T → Type 0) → (T → T → Type 0) → Option A → List T → List T → Type 0
Came done left None olds news = EachIs left olds news
Came done left (Some all) olds news = EachIs done olds news

-- What a run leaves whose harts make turns until they stop or have made this many.
-- This project's own.
use Rattle.std.specs.Prelude.{◌≡◌, ◌≢◌, ℕ, ◌+◌, ◌<◌, ◌≤◌, List}
use Rattle.hart_core.specs.declared.harts.Status.TheVariants.{Running}
use Rattle.multi_hart.specs.Run.{hart_at}
use Rattle.turn_log.specs.TurnLog.{LogState, IsLog, count_of, most_turns}
use Rattle.loader.specs.Image.{ImageContents}
use Rattle.shared_machine.specs.Log.{BeginsWith, state_after}

-- A log of an image with this many harts, which begins with turns that were made before. No hart has made more than `limit` turns beyond
-- these. One that has made fewer isn't running at the end, unless it has made as many as any hart may make.
pub record IsRunOf (image : ImageContents) (harts : ℕ) (first : List ℕ) (limit : ℕ) (log : LogState) : Type 0 where
  pub is_log : IsLog log
  pub same : log.harts ≡ harts
  pub begins : BeginsWith log.turns first
  pub few : (hart : ℕ) → hart < harts → count_of log.turns hart ≤ count_of first hart + limit
  pub ends : (hart : ℕ) → hart < harts → count_of log.turns hart < count_of first hart + limit → count_of log.turns hart < most_turns
      → (hart_at (state_after image harts log.turns) hart).status ≢ Running

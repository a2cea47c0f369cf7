-- What a run of an image answers whose turns a seed draws: one log, and the dump after it. This project's own.
use Rattle.std.specs.Prelude.{◌≡◌, ℕ, List, [], Ok}
use Rattle.turn_log.specs.TurnLog.{LogState}
use Rattle.turn_log.specs.LogSpelling.{spelled}
use Rattle.drawn_runs.specs.Drawing.{drawn_run}
use Rattle.drawn_runs.specs.declared.drawing.DrawRules.{DrawRules}
use Rattle.loader.specs.Image.{ImageContents}
use Rattle.loader.specs.Loading.{machine_of}
use Rattle.loader.specs.Spelling.{image_of}
use Rattle.hrv_engines.specs.Run.{IsRun}

-- the log of all turns that are drawn from the image's start
abbrev pub drawn_log : DrawRules → ImageContents → ℕ → LogState
drawn_log rules image harts = record { harts = harts; turns = (drawn_run rules (machine_of image harts) []).turns }

-- The bytes of a log and of a text are those of a run of this many harts, and the log is the one that is drawn.
pub record IsDrawnRun (harts : ℕ) (rules : DrawRules) (image_bytes log_bytes text : List ℕ) : Type 0 where
  pub is_run : IsRun harts rules.limit image_bytes log_bytes text
  pub is_drawn : log_bytes ≡ spelled (drawn_log rules is_run.image harts)

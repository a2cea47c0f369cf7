-- What is told of a pixel's last write, beside the value that a dump shows there. This project's own.
use Rattle.std.specs.Prelude.{◌≡◌, ℕ, List, Option, Some, None}
use Rattle.multi_hart.specs.Run.{State}
use Rattle.turn_log.specs.TurnLog.{LogState}
use Rattle.loader.specs.Image.{ImageContents}
use Rattle.loader.specs.Loading.{machine_of}
use Rattle.loader.specs.declared.outputs.Output.{Output}
use Rattle.debugger_blame.specs.LastWrites.{held, last_turn_of_word}
use Rattle.hrv_engines.specs.Blame.{write_at}
use Rattle.hrv_engines.specs.Dump.{pixel, pixel_address}
use Rattle.hrv_engines.specs.Replay.{replayed}

-- The last of the turns that wrote a word, the one of this number, left the value there, as `after` of its write says; or none wrote it, and it
-- held the value before them.
abbrev pub IsLeft : State → List ℕ → ℕ → ℕ → Option ℕ → Type 0
IsLeft begin turns word value None = held begin word ≡ value
IsLeft begin turns word value (Some number) = (write_at begin turns word number).after ≡ value

-- what is told of a pixel's word, beside the value that a dump shows there
abbrev pub TellsPixel : ImageContents → LogState → Output → ℕ → ℕ → Type 0
TellsPixel image log output x y =
    IsLeft (machine_of image log.harts) log.turns (pixel_address output x y) (pixel (replayed image log) output x y)
    (last_turn_of_word (pixel_address output x y) (machine_of image log.harts) log.turns)

-- What is told of a pixel's last write is what a dump shows there.
use Rattle.std.proofs.Common.{◌≡◌, ◌<◌, ◌∙◌, ℕ, refl, sym, ap, length, Option, Some, None}
use Rattle.std.specs.Prelude.{IsTrue, unwrap_or}
use Rattle.loader.specs.Image.{ImageContents, IsImage, is_output}
use Rattle.loader.specs.Loading.{machine_of}
use Rattle.loader.specs.declared.outputs.Output.{Output}
use Rattle.turn_log.specs.TurnLog.{LogState}
use Rattle.debugger_blame.specs.LastWrites.{held, last_turn_of_word, left_by}
use Rattle.debugger_blame.proofs.LastLeft.{words-stay}
use Rattle.hrv_engines.specs.BlamedPixels.{IsLeft, TellsPixel}
use Rattle.hrv_engines.specs.Dump.{pixel, pixel_address}
use Rattle.hrv_engines.specs.Replay.{replayed}
use Rattle.hrv_engines.proofs.Pixels.{pixel_word}
use Rattle.hrv_engines.proofs.Runs.{output-fits}

pub told : (image : ImageContents) (log : LogState) (output : Output) (x y : ℕ) → IsImage image → image.output ≡ Some output → x < output.width
    → y < output.height → TellsPixel image log output x y
told image log output x y rules out wide high =
    by_last (last_turn_of_word word (machine_of image log.harts) log.turns) (sym (words-stay (machine_of image log.harts) log.turns word) ∙ shown)
  where
    word : ℕ
    word = pixel_address output x y

    fits : IsTrue (is_output (length (replayed image log).memory) output)
    fits = output-fits image log.harts log.turns (replayed image log) (Some output) refl (sym out) rules

    shown : held (replayed image log) word ≡ pixel (replayed image log) output x y
    shown = ap (λ o. unwrap_or o 0) (pixel_word (replayed image log) output x y fits wide high)

    by_last : (o : Option ℕ) → left_by (machine_of image log.harts) log.turns word o ≡ pixel (replayed image log) output x y
        → IsLeft (machine_of image log.harts) log.turns word (pixel (replayed image log) output x y) o
    by_last None e = e
    by_last (Some number) e = e

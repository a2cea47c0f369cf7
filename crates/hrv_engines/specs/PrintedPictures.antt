-- What a printed text has of a drawing: where a compiled image has run to its end, the text ends with the picture that is drawn of the
-- same algorithm and pictures. This project's own.
use Rattle.std.specs.Prelude.{◌≡◌, ℕ, List, ◌++◌, true, Ok}
use Rattle.std.specs.declared.alloc.Global.{Global}
use Rattle.multi_hart.specs.Run.{all_finished}
use Rattle.turn_log.specs.TurnLog.{LogState, IsLog}
use Rattle.turn_log.specs.LogSpelling.{log_of}
use Rattle.loader.specs.Image.{ImageContents}
use Rattle.loader.specs.Spelling.{image_of}
use Rattle.hrv_engines.specs.Replay.{replayed}
use Rattle.hrv_engines.specs.Drawing.{IsDrawing}

-- The bytes spell an image and a log, and after the log's turns all harts have finished.
pub record EndsFinished (image_bytes log_bytes : List ℕ) (image : ImageContents) (log : LogState) : Type 0 where
  pub is_image : image_of image_bytes ≡ Ok image
  pub is_log : log_of log_bytes ≡ Ok log
  pub rules : IsLog log
  pub finished : all_finished (replayed image log) ≡ true

-- The text is what is said of the harts, and then exactly what is drawn of these texts of an algorithm and of pictures.
pub record EndsWithDrawing (alloc : Global) (texts : List ℕ × List (List ℕ)) (harts text : List ℕ) : Type 0 where
  pub drawing : List ℕ
  pub is_drawing : IsDrawing alloc texts drawing
  pub is_text : text ≡ harts ++ drawing

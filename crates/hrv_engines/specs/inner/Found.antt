-- What an image and a log are found to be when a record of them is verified. This project's own.
use Rattle.std.specs.Prelude.{◌≡◌, ℕ, List, Option, Some, None, Result, Ok, Err}
use Rattle.turn_log.specs.TurnLog.{LogState}
use Rattle.turn_log.specs.LogSpelling.{log_of}
use Rattle.turn_log.specs.declared.log_faults.LogFault.{LogFault}
use Rattle.loader.specs.Image.{ImageContents}
use Rattle.run_records.specs.RecordText.{Contents}
use Rattle.sha2.specs.Sha256.{sha256}
use Rattle.hrv_engines.specs.Records.{IsEnd, contents}
use Rattle.hrv_engines.specs.declared.verify.Found.{Found}

-- as a record of these would say it; the limit isn't compared
abbrev pub contents_found : ℕ → Found → Contents
contents_found limit found = contents found.image found.log found.end.harts limit found.end.ending

-- an image of this digest, and the bytes of a log
pub record IsFound (image : ImageContents) (digest log_bytes : List ℕ) (found : Found) : Type 0 where
  pub is_image : found.image ≡ digest
  pub is_log : found.log ≡ sha256 log_bytes
  pub is_end : IsEnd image log_bytes found.end

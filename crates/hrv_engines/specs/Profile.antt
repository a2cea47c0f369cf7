-- What an image and a log mean when it is asked where the log's turns go: their profile, or the first refusal.
-- This project's own.
use Rattle.std.specs.Prelude.{◌≡◌, ℕ, List, Result, Ok, Err}
use Rattle.turn_log.specs.TurnLog.{LogState}
use Rattle.turn_log.specs.LogSpelling.{log_of}
use Rattle.turn_log.specs.declared.log_faults.LogFault.{LogFault}
use Rattle.loader.specs.Image.{ImageContents}
use Rattle.loader.specs.Spelling.{image_of}
use Rattle.loader.specs.Loading.{machine_of}
use Rattle.loader.specs.declared.faults.LoadFault.{LoadFault}
use Rattle.run_reports.specs.ProfileText.{profile_text}
use Rattle.hrv_engines.specs.declared.faults.Refusal.{Refusal}
use Rattle.hrv_engines.specs.declared.faults.Refusal.TheVariants.{Load, Log}

-- the profile of the log's turns, from the image's start
abbrev pub profile_of : ImageContents → LogState → List ℕ
profile_of image log = profile_text (machine_of image log.harts) log.turns

abbrev pub with_log : ImageContents → Result LogState LogFault → Result (List ℕ) Refusal
with_log image (Ok log) = Ok (profile_of image log)
with_log image (Err fault) = Err (Log fault)

abbrev pub with_image : Result ImageContents LoadFault → List ℕ → Result (List ℕ) Refusal
with_image (Ok image) log_bytes = with_log image (log_of log_bytes)
with_image (Err fault) log_bytes = Err (Load fault)

-- the answer to the bytes of an image and of a log: the image is judged first
unfoldable pub answer : List ℕ → List ℕ → Result (List ℕ) Refusal
answer image_bytes log_bytes = with_image (image_of image_bytes) log_bytes

-- the profile of an image and a log
abbrev pub IsProfiled : List ℕ × List ℕ → List ℕ → Type 0
IsProfiled files text = answer files.0 files.1 ≡ Ok text

-- why they are refused
abbrev pub IsRefusedProfile : List ℕ × List ℕ → Refusal → Type 0
IsRefusedProfile files refusal = answer files.0 files.1 ≡ Err refusal

-- What the record of a run says. This project's own.
use Rattle.std.specs.Prelude.{◌≡◌, ℕ, zero, suc, List, length, if◌then◌else◌, Option, Some, None, Ok}
use Rattle.hart_core.specs.declared.harts.Status.{Status}
use Rattle.hart_core.specs.declared.harts.Status.TheVariants.{Running, Finished, Trapped}
use Rattle.rv_insn.specs.declared.outcomes.Trap.{Trap}
use Rattle.multi_hart.specs.Run.{State, all_finished, hart_at}
use Rattle.turn_log.specs.TurnLog.{LogState}
use Rattle.turn_log.specs.LogSpelling.{log_of}
use Rattle.loader.specs.Image.{ImageContents}
use Rattle.loader.specs.Spelling.{image_of}
use Rattle.run_records.specs.RecordText.{Contents, record_text}
use Rattle.run_records.specs.declared.records.Ending.{Ending}
use Rattle.run_records.specs.declared.records.Ending.TheVariants as endings
use Rattle.sha2.specs.Sha256.{sha256}
use Rattle.hrv_engines.specs.Replay.{replayed}
use Rattle.hrv_engines.specs.declared.endings.RunEnd.{RunEnd}
use Rattle.hrv_engines.specs.declared.explain.TheConstants.{LOGIC, RELEASE}

-- ---- how a run ended

abbrev pub trap_or : Option Trap → Status → Option Trap
trap_or (Some trap) status = Some trap
trap_or None Running = None
trap_or None Finished = None
trap_or None (Trapped trap) = Some trap

-- the trap of the hart with the least number, of those numbered below this many that trapped
unfoldable pub trap_below : State → ℕ → Option Trap
trap_below state zero = None
trap_below state (suc hart) = trap_or (trap_below state hart) (hart_at state hart).status

abbrev pub trapped_or_limit : Option Trap → Ending
trapped_or_limit (Some trap) = endings.Trapped trap
trapped_or_limit None = endings.Limit

-- all harts have finished; or one trapped; or none did, and one was still running
unfoldable pub ending_of : State → Ending
ending_of state = if all_finished state then endings.Finished else trapped_or_limit (trap_below state (length state.harts))

-- ---- the record

-- by this program, of digests of an image and of a log
abbrev pub contents : (image log : List ℕ) → (harts limit : ℕ) → Ending → Contents
contents image log harts limit ending = record {
  version = RELEASE;
  logic = LOGIC;
  image = image;
  log = log;
  harts = harts;
  limit = limit;
  ending = ending;
}

-- the record of the bytes of an image and of a log, whose turns the image's harts make
abbrev pub contents_of : (limit : ℕ) → (image_bytes log_bytes : List ℕ) → ImageContents → LogState → Contents
contents_of limit image_bytes log_bytes image log =
    contents (sha256 image_bytes) (sha256 log_bytes) log.harts limit (ending_of (replayed image log))

-- The bytes of an image and of a log are of this record.
pub record IsRecordOf (limit : ℕ) (image_bytes log_bytes record_bytes : List ℕ) : Type 0 where
  pub image : ImageContents
  pub log : LogState
  pub is_image : image_of image_bytes ≡ Ok image
  pub is_log : log_of log_bytes ≡ Ok log
  pub is_text : record_bytes ≡ record_text (contents_of limit image_bytes log_bytes image log)

-- ---- how a run that left a log ended

-- this many harts, and this ending
pub record IsEnd (image : ImageContents) (log_bytes : List ℕ) (end : RunEnd) : Type 0 where
  pub log : LogState
  pub is_log : log_of log_bytes ≡ Ok log
  pub as_many : end.harts ≡ log.harts
  pub is_ending : end.ending ≡ ending_of (replayed image log)

-- the same of the bytes of the image
abbrev pub EndsSo : (image_bytes log_bytes : List ℕ) → RunEnd → Type 0
EndsSo image_bytes log_bytes end = (image : ImageContents) × (image_of image_bytes ≡ Ok image) × IsEnd image log_bytes end

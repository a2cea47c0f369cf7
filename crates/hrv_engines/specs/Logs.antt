-- What the bytes of a log mean when they are printed: the log's text; and what such a text means: the bytes of its log. Or the first refusal.
-- This project's own.
use Rattle.std.specs.Prelude.{◌≡◌, ℕ, List, Option, Some, None, Result, Ok, Err}
use Rattle.turn_log.specs.TurnLog.{LogState, IsLog}
use Rattle.turn_log.specs.LogSpelling.{log_of, spelled}
use Rattle.turn_log.specs.declared.log_faults.LogFault.{LogFault}
use Rattle.log_reports.specs.LogText.{log_in, log_text}
use Rattle.log_reports.specs.declared.faults.LogTextFault.{LogTextFault}
use Rattle.hrv_engines.specs.declared.faults.Refusal.{Refusal}
use Rattle.hrv_engines.specs.declared.faults.Refusal.TheVariants.{Log, LogText}

-- The bytes spell a log, whose text this is.
pub record IsLogPrinted (bytes text : List ℕ) : Type 0 where
  pub log : LogState
  pub is_read : log_of bytes ≡ Ok log
  pub is_text : text ≡ log_text log

abbrev pub refused_log : Result LogState LogFault → Option Refusal
refused_log (Ok log) = None
refused_log (Err fault) = Some (Log fault)

-- why bytes are refused as a log
abbrev pub IsRefusedLog : List ℕ → Refusal → Type 0
IsRefusedLog bytes refusal = refused_log (log_of bytes) ≡ Some refusal

-- The text means a log, which these bytes spell.
pub record IsLogMade (text bytes : List ℕ) : Type 0 where
  pub log : LogState
  pub is_read : log_in text ≡ Ok log
  pub is_log : IsLog log
  pub is_spelled : bytes ≡ spelled log

abbrev pub refused_text : Result LogState (ℕ × LogTextFault) → Option Refusal
refused_text (Ok log) = None
refused_text (Err fault) = Some (LogText fault.0 fault.1)

-- why a text is refused: its first faulty line, and the fault of that line
abbrev pub IsRefusedLogText : List ℕ → Refusal → Type 0
IsRefusedLogText text refusal = refused_text (log_in text) ≡ Some refusal

use Rattle.std.proofs.Common.{◌≡◌, ◌++◌, ◌-◌, ◌≤◌, length, drop}
use Rattle.std.specs.String.{string_bytes}
use Rattle.line_text.specs.Lines.{text_of}
use Rattle.turn_log.specs.TurnLog.{IsLog}
use Rattle.turn_log.specs.LogSpelling.{runs_of}
use Rattle.log_reports.specs.LogText.{log_text, run_lines}
use Rattle.log_reports.proofs.writing.text_of.Given as goal

-- the lines so far and those of the runs that are left are all lines
abbrev pub invariant-loop-hart : goal.invariant-loop-hart
invariant-loop-hart l = record {
  text : string_bytes l.text ++ text_of (run_lines (runs_of (drop l.place l.log.turns))) ≡ log_text l.log;
  within : l.place ≤ length l.log.turns;
  log : IsLog l.log;
}

abbrev pub decreases-loop-hart : goal.decreases-loop-hart
decreases-loop-hart l = length l.log.turns - l.place

-- A log of turns as a text: `harts N`, and a line `HART COUNT` for each run, in order. Of a text every line ends with a line feed, of what is
-- read the last one needs none. This project's own.
use Rattle.std.specs.Prelude.{ℕ, ◌+◌, ◌==◌, ◌&&◌, ◌||◌, nat_eq, nat_le, nat_lt, if◌then◌else◌, List, [], ◌∷◌, ◌++◌, length, take, drop, min, codes}
use Rattle.std.specs.Prelude.{replicate, Option, Some, None, Result, Ok, Err}
use Rattle.std.specs.List.{prefix_len, starts_with}
use Rattle.std.specs.Fmt.{decimal}
use Rattle.line_text.specs.Lines.{is_digit, decimal_number, lines_of, taken_from, text_of}
use Rattle.turn_log.specs.TurnLog.{LogState, count_of, most_turns}
use Rattle.turn_log.specs.LogSpelling.{runs_of}
use Rattle.turn_log.specs.declared.runs.Run.{Run}
use Rattle.log_reports.specs.declared.faults.LogTextFault.{LogTextFault}
use Rattle.log_reports.specs.declared.faults.LogTextFault.TheVariants.{Heading, Line, Hart, NoTurns, TooManyTurns}

-- ---- the text of a log

abbrev pub heading : ℕ → List ℕ
heading harts = codes "harts " ++ decimal harts

abbrev pub run_line : Run → List ℕ
run_line run = decimal run.hart ++ 32 ∷ decimal run.length

-- the lines of runs
abbrev pub run_lines : List Run → List (List ℕ)
run_lines [] = []
run_lines (run ∷ runs) = run_line run ∷ run_lines runs

abbrev pub log_text : LogState → List ℕ
log_text log = text_of (heading log.harts ∷ run_lines (runs_of log.turns))

-- ---- what a line says

-- The number of digits, at least one. A number above 2^40 counts as the one after that: no hart has this many turns either.
unfoldable pub number_of : List ℕ → Option ℕ
number_of word =
    if length word == 0 || nat_lt (prefix_len is_digit word) (length word) then None
    else Some (min (decimal_number word) (most_turns + 1))

-- `harts N`
unfoldable pub harts_in : List ℕ → Option ℕ
harts_in line = if starts_with nat_eq line (codes "harts ") then number_of (drop 6 line) else None

abbrev pub with_count : ℕ → Option ℕ → Option (ℕ × ℕ)
with_count hart None = None
with_count hart (Some count) = Some (hart, count)

-- a space (32) and a count, after a hart
abbrev pub with_hart : Option ℕ → List ℕ → Option (ℕ × ℕ)
with_hart None rest = None
with_hart (Some hart) [] = None
with_hart (Some hart) (byte ∷ word) = if byte == 32 then with_count hart (number_of word) else None

-- `HART COUNT`
unfoldable pub run_in : List ℕ → Option (ℕ × ℕ)
run_in line = let count = prefix_len is_digit line in with_hart (number_of (take count line)) (drop count line)

-- ---- the log of a text

-- a log of this many harts before any turn
abbrev pub headed : Option ℕ → Result LogState LogTextFault
headed None = Err Heading
headed (Some harts) = if nat_le 1 harts && nat_le harts 8 then Ok (record { harts = harts; turns = [] }) else Err Heading

-- a log with this many turns of a hart more
abbrev pub with_run : LogState → Option (ℕ × ℕ) → Result LogState LogTextFault
with_run log None = Err Line
with_run log (Some (hart, count)) =
    if nat_le log.harts hart then Err Hart
    else (if count == 0 then Err NoTurns
    else (if nat_lt most_turns (count_of log.turns hart + count) then Err TooManyTurns
    else Ok (record { harts = log.harts; turns = log.turns ++ replicate count hart })))

-- what a line makes of the log of those before it, if there are any
abbrev pub log_after : Option LogState → List ℕ → Result LogState LogTextFault
log_after None line = headed (harts_in line)
log_after (Some log) line = with_run log (run_in line)

abbrev pub kept : Result LogState LogTextFault → Result (Option LogState) LogTextFault
kept (Ok log) = Ok (Some log)
kept (Err fault) = Err fault

abbrev pub takes : Option LogState → List ℕ → Result (Option LogState) LogTextFault
takes before line = kept (log_after before line)

-- a text without a line has no heading in line 1
abbrev pub finished : Result (Option LogState) (ℕ × LogTextFault) → Result LogState (ℕ × LogTextFault)
finished (Ok None) = Err (1, Heading)
finished (Ok (Some log)) = Ok log
finished (Err fault) = Err fault

-- the log of a text, or the number of the first faulty line, from 1, and its fault
unfoldable pub log_in : List ℕ → Result LogState (ℕ × LogTextFault)
log_in text = finished (taken_from takes 1 None (lines_of text))

-- the number of a fault
abbrev pub fault_number : LogTextFault → ℕ
fault_number Heading = 1
fault_number Line = 2
fault_number Hart = 3
fault_number NoTurns = 4
fault_number TooManyTurns = 5

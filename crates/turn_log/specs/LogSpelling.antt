-- How a log of turns is spelled as bytes, which bytes are read as a log, and which fault others have.
-- The bytes are `HRL1`, the number of harts (4 bytes), the number of runs (8), and for each run its
-- hart (1) and its length (8), each number with its lowest byte first.
-- This project's own.
use Rattle.std.specs.Prelude.{◌≡◌, ℕ, zero, suc, ◌+◌, Bool, false, not, ◌||◌, ◌==◌, nat_eq, nat_lt, nat_le, if◌then◌else◌, List, [], ◌∷◌, ◌++◌, length, drop}
use Rattle.std.specs.Prelude.{slice_index, replicate, codes, Option, Some, None, Result, Ok, Err}
use Rattle.std.specs.List.{flat_map, starts_with, sum_by}
use Rattle.byteorder.specs.Endian.{little_bytes, little_number}
use Rattle.turn_log.specs.TurnLog.{LogState, most_turns}
use Rattle.turn_log.specs.declared.log_faults.LogFault.{LogFault}
use Rattle.turn_log.specs.declared.log_faults.LogFault.TheVariants.{Magic, Truncated, Hart, NotCanonical, TooManyTurns, OutOfMemory}
use Rattle.turn_log.specs.declared.runs.Run.{Run}

-- ---- runs: a hart, and how many turns it makes in a row

-- whether the first of the runs is the hart's
abbrev pub begins_with : List Run → ℕ → Bool
begins_with [] hart = false
begins_with (run ∷ runs) hart = run.hart == hart

-- A turn in front of runs joins the first of them or opens one.
abbrev pub joined : ℕ → List Run → List Run
joined turn [] = record { hart = turn; length = 1 } ∷ []
joined turn (run ∷ runs) =
    if run.hart == turn then record { hart = turn; length = run.length + 1 } ∷ runs
    else record { hart = turn; length = 1 } ∷ (run ∷ runs)

-- the longest runs of a list of turns
abbrev pub runs_of : List ℕ → List Run
runs_of [] = []
runs_of (turn ∷ turns) = joined turn (runs_of turns)

-- the turns that runs stand for
abbrev pub expanded : List Run → List ℕ
expanded runs = flat_map (λ run. replicate run.length run.hart) runs

-- how many turns of the runs are a hart's
abbrev pub total_of : List Run → ℕ → ℕ
total_of runs hart = sum_by (λ run. if run.hart == hart then run.length else 0) runs

-- ---- the one spelling of a log

unfoldable pub run_bytes : Run → List ℕ
run_bytes run = run.hart ∷ little_bytes 8 run.length

unfoldable pub header : ℕ → ℕ → List ℕ
header harts runs = codes "HRL1" ++ little_bytes 4 harts ++ little_bytes 8 runs

abbrev pub spelled : LogState → List ℕ
spelled log = header log.harts (length (runs_of log.turns)) ++ flat_map run_bytes (runs_of log.turns)

-- ---- reading: the log, or the first fault

infixl 10 ◌>>=◌
abbrev pub ◌>>=◌ : {A B : Type 0} → Result A LogFault → (A → Result B LogFault) → Result B LogFault
(Ok x) >>= f = f x
(Err fault) >>= f = Err fault

-- the numbers of harts and of runs
unfoldable pub header_at : List ℕ → Result (ℕ × ℕ) LogFault
header_at bytes =
    let harts = little_number 4 (drop 4 bytes) in
    if nat_lt (length bytes) 4 then Err Truncated
    else (if not (starts_with nat_eq bytes (codes "HRL1")) then Err Magic
    else (if nat_lt (length bytes) 16 then Err Truncated
    else (if harts == 0 || nat_lt 8 harts then Err Hart
    else Ok (harts, little_number 8 (drop 8 bytes)))))

-- the run that the first nine bytes spell
abbrev pub run_read : List ℕ → Run
run_read bytes = record { hart = slice_index bytes 0; length = little_number 8 (drop 1 bytes) }

-- a run of this many harts, after other runs, the nearest first
unfoldable pub judged : ℕ → List Run → Run → Result Run LogFault
judged harts before run =
    if nat_le harts run.hart then Err Hart
    else (if run.length == 0 || begins_with before run.hart then Err NotCanonical
    else (if nat_lt most_turns (total_of before run.hart + run.length) then Err TooManyTurns
    else Ok run))

-- the run at the front, and the bytes after it
unfoldable pub front_run : ℕ → List Run → List ℕ → Result (Run × List ℕ) LogFault
front_run harts before bytes =
    if nat_lt (length bytes) 9 then Err Truncated
    else (judged harts before (run_read bytes) >>= λ run. Ok (run, drop 9 bytes))

-- this many runs at the front, and the bytes after them
unfoldable pub front_runs : ℕ → ℕ → List Run → List ℕ → Result (List Run × List ℕ) LogFault
front_runs harts zero before bytes = Ok ([], bytes)
front_runs harts (suc count) before bytes = do
  first ← front_run harts before bytes
  others ← front_runs harts count (first.0 ∷ before) first.1
  Ok (first.0 ∷ others.0, others.1)

-- the log at the front, and the bytes after it
unfoldable pub log_at : List ℕ → Result (LogState × List ℕ) LogFault
log_at bytes = do
  numbers ← header_at bytes
  runs ← front_runs numbers.0 numbers.1 [] (drop 16 bytes)
  Ok (record { harts = numbers.0; turns = expanded runs.0 }, runs.1)

-- the log that is all of the bytes
unfoldable pub log_of : List ℕ → Result LogState LogFault
log_of bytes = do
  log ← log_at bytes
  if length log.1 == 0 then Ok log.0 else Err NotCanonical

-- ---- answers

-- The fault is what was wanted, unless memory ran out.
abbrev pub Refuses : LogFault → Result LogState LogFault → Type 0
Refuses OutOfMemory wanted = Unit {0}
Refuses fault wanted = wanted ≡ Err fault

-- What a call answers is what was wanted, unless memory ran out.
abbrev pub Answers : Result LogState LogFault → Result LogState LogFault → Type 0
Answers (Ok log) wanted = wanted ≡ Ok log
Answers (Err fault) wanted = Refuses fault wanted

-- the number of a fault of the bytes
abbrev pub fault_number : LogFault → Option ℕ
fault_number Magic = Some 1
fault_number Truncated = Some 2
fault_number Hart = Some 3
fault_number NotCanonical = Some 4
fault_number TooManyTurns = Some 5
fault_number OutOfMemory = None

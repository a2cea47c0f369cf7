-- A talk of which some bytes were taken: what is answered and what is left, whatever bytes follow.
-- This project's own.
use Rattle.std.specs.Prelude.{◌≡◌, ◌⊎◌, ℕ, Bool, true, false, List, [], ◌++◌, length, take, Result, Ok, Err}
use Rattle.std.specs.String.{string_bytes}
use Rattle.line_text.specs.Lines.{IsLine}
use Rattle.debugger.specs.Places.{SessionState}
use Rattle.hrv_engines.specs.declared.faults.Fault.{Fault}
use Rattle.hrv_engines.specs.declared.faults.Fault.TheVariants.{Refused, File, Memory, Thread}
use Rattle.hrv_engines.specs.Devices.{Sources, Taken}
use Rattle.hrv_engines.specs.Talk.{talk, talk_ends}

-- From a session with a line that has not ended, these bytes lead to another, with bytes that are not yet looked at. The text grew by
-- the answers.
pub record GoesOn (old : SessionState) (line bytes : List ℕ) (new : SessionState) (left rest before after : List ℕ) : Type 0 where
  pub answered : (more : List ℕ) → before ++ talk old (line ++ (bytes ++ more)) ≡ after ++ talk new (left ++ (rest ++ more))
  pub lasts : (more : List ℕ) → talk_ends old (line ++ (bytes ++ more)) ≡ talk_ends new (left ++ (rest ++ more))
  pub is_line : IsLine left

-- In these bytes the talk comes to its end. The text grew by the answers.
pub record IsOver (old : SessionState) (line bytes before after : List ℕ) : Type 0 where
  pub answered : (more : List ℕ) → before ++ talk old (line ++ (bytes ++ more)) ≡ after
  pub ended : (more : List ℕ) → talk_ends old (line ++ (bytes ++ more)) ≡ true

-- the bytes are all taken, or the talk is over in them
abbrev pub Took : Bool → SessionState → List ℕ → List ℕ → SessionState → List ℕ → List ℕ → List ℕ → Type 0
Took true old line bytes new left before after = IsOver old line bytes before after
Took false old line bytes new left before after = GoesOn old line bytes new left [] before after

-- ---- what devices gave and took, where each is a fact of bytes

-- The lines gave bytes that lead from a session to this one, and the sink took the answers.
pub record SoFar (session : SessionState) (gave took : List ℕ → Type 0) (new : SessionState) (left : List ℕ) : Type 0 where
  pub given : List ℕ
  pub sent : List ℕ
  pub is_given : gave given
  pub is_sent : took sent
  pub goes_on : GoesOn session [] given new left [] [] sent

-- a line of these that a line feed ended ends the talk: it does so whatever follows
abbrev pub EndsIn : SessionState → List ℕ → Type 0
EndsIn session lines = (more : List ℕ) → talk_ends session (lines ++ more) ≡ true

-- The lines gave these bytes, up to their end or to a line that ends the talk, and the sink took the talk on them and nothing else.
pub record HeldTalk (session : SessionState) (gave : List ℕ → Type 0) (ended : Type 0) (took : List ℕ → Type 0) : Type 0 where
  pub lines : List ℕ
  pub given : gave lines
  pub to_the_end : ended ⊎ EndsIn session lines
  pub taken : took (talk session lines)

-- The bytes are a beginning of the talk on these lines, and stay one whatever the lines go on with.
abbrev pub Begins : SessionState → List ℕ → List ℕ → Type 0
Begins session lines sent = (more : List ℕ) → take (length sent) (talk session (lines ++ more)) ≡ sent

-- The lines gave these bytes. What the sink took begins the talk on them, whatever they go on with; only where they were at their
-- end may it be of the answer to a last line that no line feed ends.
pub record BrokenTalk (session : SessionState) (gave : List ℕ → Type 0) (ended : Type 0) (took : List ℕ → Type 0) : Type 0 where
  pub lines : List ℕ
  pub sent : List ℕ
  pub given : gave lines
  pub taken : took sent
  pub begins : Begins session lines sent ⊎ (ended × (take (length sent) (talk session lines) ≡ sent))

-- The lines gave bytes, and the sink took the answers to all their lines that ended, none of which ended the talk: from here on it is
-- the talk over another session, on the line that has not ended and on what follows.
pub record WaitingTalk (session : SessionState) (gave took : List ℕ → Type 0) : Type 0 where
  pub now : SessionState
  pub unended : List ℕ
  pub so_far : SoFar session gave took now unended

-- ---- what holding a talk answers

abbrev pub TalkBroke : SessionState → Sources (List ℕ) → Type 0 → Taken → Fault → Type 0
TalkBroke session lines lines_ended sink (Refused refusal) = ⊥
TalkBroke session lines lines_ended sink (File path) =
    (lines.failed (string_bytes path) × sink.well × WaitingTalk session lines.gave sink.took)
    ⊎ (sink.failed (string_bytes path) × lines.well × BrokenTalk session lines.gave lines_ended sink.took)
TalkBroke session lines lines_ended sink Memory = lines.well × sink.well × BrokenTalk session lines.gave lines_ended sink.took
TalkBroke session lines lines_ended sink Thread = ⊥

abbrev pub HoldsTalk : {X : Type 0} → SessionState → Sources (List ℕ) → Type 0 → Taken → Result X Fault → Type 0
HoldsTalk session lines lines_ended sink (Ok done) = HeldTalk session lines.gave lines_ended sink.took × lines.well × sink.well
HoldsTalk session lines lines_ended sink (Err fault) = TalkBroke session lines lines_ended sink fault

-- What a debugging session holds, and the state at a place of its log: every answer of a session but `steps` is read
-- from the state at its place. This project's own.
use Rattle.std.specs.Prelude.{ℕ, List, [], take}
use Rattle.multi_hart.specs.Run.{State, run}
use Rattle.turn_log.specs.TurnLog.{LogState}
use Rattle.loader.specs.Image.{ImageContents}
use Rattle.loader.specs.Loading.{machine_of}

pub record SessionState : Type 0 where
  pub image : ImageContents
  pub log : LogState
  -- how many of the log's turns were made
  pub place : ℕ
  -- the addresses of text words that are breaks, and of data words that are watched, in the order in which they were set
  pub breaks : List ℕ
  pub watches : List ℕ

-- What a contract sees of a session: its image, log, place and marks, and how many turns of running harts it made one by one since it
-- was opened. No other answer depends on that count.
pub record CountedSession : Type 0 where
  pub state : SessionState
  pub steps : ℕ

-- the state after this many turns of the log, from the image's machine on
abbrev pub state_at : SessionState → ℕ → State
state_at session place = run (machine_of session.image session.log.harts) (take place session.log.turns)

abbrev pub state_here : SessionState → State
state_here session = state_at session session.place

-- a session at the start
abbrev pub opened : ImageContents → LogState → SessionState
opened image log = record { image = image; log = log; place = 0; breaks = []; watches = [] }

-- the same session at another place
abbrev pub moved : SessionState → ℕ → SessionState
moved session place = record session { place = place }

-- What every session keeps: the machine that it holds is the one at its place, which lies within the log, what it knows of the text and of
-- kept places is right, and there are no more marks than there may be. This project's own.
use Rattle.std.specs.Prelude.{◌≡◌, ◌≤◌, List, length, map, Option}
use Rattle.memory.specs.Access.{most_words}
use Rattle.rv_insn.specs.declared.instructions.Insn.{Insn}
use Rattle.hart_core.specs.HartState.{HartState}
use Rattle.multi_hart.specs.Run.{State}
use Rattle.debugger_writes.specs.Stored.{store_in}
use Rattle.debugger.specs.declared.kept.KeptPlaces.{KeptPlaces}
use Rattle.debugger.specs.Places.{SessionState, state_at, state_here}
use Rattle.debugger.specs.Marks.{marks, most_marks}
use Rattle.debugger.specs.inner.KeptPlaces.{KeptFits}

pub record Held (session : SessionState) (machine : State) (first : List HartState) (stores : List (Option Insn)) (places : KeptPlaces) : Type 0 where
  pub state : machine ≡ state_here session
  pub harts : length machine.harts ≡ session.log.harts
  pub within : session.place ≤ length session.log.turns
  pub few_marks : marks session ≤ most_marks
  pub opening : first ≡ (state_at session 0).harts
  pub insns : stores ≡ map store_in session.image.words
  pub few_words : length stores ≤ most_words
  pub kept : KeptFits session.image session.log places machine.memory

-- What each request of gdb is answered with, and the session after it. This project's own; the requests are gdb's.
use Rattle.std.specs.Prelude.{ℕ, ◌*◌, ◌==◌, nat_le, if◌then◌else◌, List, [], drop, length, Option, Some, None}
use Rattle.std.specs.Prelude.{Result, Ok, Err}
use Rattle.hart_core.specs.HartState.{HartState}
use Rattle.multi_hart.specs.Run.{State, hart_at}
use Rattle.gdb_packets.specs.Requests.{request_of}
use Rattle.gdb_packets.specs.declared.requests.MarkKind.{MarkKind}
use Rattle.gdb_packets.specs.declared.requests.MarkKind.TheVariants.{SoftwareBreak, HardwareBreak, Write, Read, Access}
use Rattle.gdb_packets.specs.declared.requests.Request.{Request}
use Rattle.gdb_packets.specs.declared.requests.Request.TheVariants as requests
use Rattle.gdb_packets.specs.declared.requests.Thread.{Thread}
use Rattle.gdb_packets.specs.declared.requests.Thread.TheVariants.{Any, All, One}
use Rattle.gdb_texts.specs.Texts.{description, memory_map, piece_of}
use Rattle.debugger.specs.declared.refusals.SessionRefusal.{SessionRefusal}
use Rattle.debugger.specs.Places.{SessionState, moved, state_here}
use Rattle.debugger.specs.Clearing.{without}
use Rattle.debugger.specs.Marks.{with_break, with_watch}
use Rattle.gdb_session.specs.declared.stops.StopReason.TheVariants.{Stepped}
use Rattle.gdb_session.specs.declared.stops.Stop.{Stop}
use Rattle.gdb_session.specs.Going.{Arrival, arrived_if, gone, stop_if}
use Rattle.gdb_session.specs.Memories.{memory_text}
use Rattle.gdb_session.specs.Monitor.{place_in}
use Rattle.gdb_session.specs.Sessions.{GdbState, hart_of, if_hart}
use Rattle.gdb_session.specs.Texts as text

-- the payload that answers, and the session after it
pub record Answer : Type 0 where
  pub text : List ℕ
  pub next : GdbState

abbrev pub says : List ℕ → GdbState → Answer
says payload state = record { text = payload; next = state }

-- ---- requests that change the session

-- the session stands elsewhere then
abbrev pub going_text : Option Stop → List ℕ
going_text None = text.refused
going_text (Some stop) = text.stop_text stop

abbrev pub went : GdbState → Option Arrival → Answer
went state to = says (going_text (stop_if to)) (arrived_if state to)

-- gdb looks at this hart
abbrev pub focused : GdbState → Option ℕ → Answer
focused state None = says text.refused state
focused state (Some hart) = says text.ok (record state { focus = hart })

abbrev pub stepping_with : GdbState → Option ℕ → Answer
stepping_with state None = says text.refused state
stepping_with state (Some hart) = says text.ok (record state { stepping = Some hart })

-- steps back are of this hart, or of the one that gdb looks at
abbrev pub focused_for_steps : GdbState → Thread → Answer
focused_for_steps state Any = says text.ok (record state { stepping = None })
focused_for_steps state All = says text.ok (record state { stepping = None })
focused_for_steps state (One number) = stepping_with state (if_hart state.session.log.harts number)

abbrev pub marked : GdbState → Result SessionState SessionRefusal → Answer
marked state (Ok session) = says text.ok (record state { session = session })
marked state (Err refusal) = says text.refused state

-- Words alone can be watched. Marks of reads are unknown, so that gdb has no such watches.
abbrev pub with_mark : GdbState → MarkKind → ℕ → ℕ → Answer
with_mark state SoftwareBreak address count = marked state (with_break state.session address)
with_mark state HardwareBreak address count = marked state (with_break state.session address)
with_mark state Write address count =
    if count == 4 then marked state (with_watch state.session address) else says text.refused state
with_mark state Read address count = says [] state
with_mark state Access address count = says [] state

abbrev pub without_break : GdbState → ℕ → Answer
without_break state address =
    says text.ok (record state { session = record state.session { breaks = without state.session.breaks address } })

abbrev pub without_watch : GdbState → ℕ → Answer
without_watch state address =
    says text.ok (record state { session = record state.session { watches = without state.session.watches address } })

abbrev pub without_mark : GdbState → MarkKind → ℕ → ℕ → Answer
without_mark state SoftwareBreak address count = without_break state address
without_mark state HardwareBreak address count = without_break state address
without_mark state Write address count = if count == 4 then without_watch state address else says text.refused state
without_mark state Read address count = says [] state
without_mark state Access address count = says [] state

-- a line of `monitor` goes to a place; gdb's registers are old then
abbrev pub monitored : GdbState → Option ℕ → Answer
monitored state None = says text.unknown state
monitored state (Some place) =
    if nat_le place (length state.session.log.turns) then says text.done (record state { session = moved state.session place })
    else says text.no_place state

-- ---- requests that ask

-- the hart that gdb looks at
abbrev pub hart_here : GdbState → HartState
hart_here state = hart_at (state_here state.session) state.focus

-- where gdb comes in, nothing has gone anywhere
abbrev pub here_text : GdbState → List ℕ
here_text state = text.stop_text (record { reason = Stepped; hart = state.focus })

abbrev pub alive_text : Option ℕ → List ℕ
alive_text None = text.refused
alive_text (Some hart) = text.ok

-- the digits of a hart's status
unfoldable pub hart_text : HartState → List ℕ
hart_text hart = text.hex_of (text.status_text hart.status)

abbrev pub info_text : GdbState → Option ℕ → List ℕ
info_text state None = text.refused
info_text state (Some hart) = hart_text (hart_at (state_here state.session) hart)

unfoldable pub map_text : State → List ℕ
map_text machine = memory_map (4 * length machine.text) (length machine.memory)

-- ---- all of them

-- What is unknown has an empty answer, and `k` none.
abbrev pub told_short : GdbState → Request → List ℕ
told_short state requests.WhyStopped = here_text state
told_short state (requests.IsAlive thread) = alive_text (hart_of state thread)
told_short state requests.Actions = text.actions
told_short state requests.Supported = text.features
told_short state requests.FirstThreads = text.threads state.session.log.harts
told_short state requests.MoreThreads = text.last
told_short state requests.CurrentThread = text.current_text state.focus
told_short state requests.IsAttached = text.attached
told_short state requests.NoAcknowledgments = text.ok
told_short state requests.Detach = text.ok
told_short state requests.KillProcess = text.ok
told_short state requests.OtherAnnex = text.refused
told_short state requests.Refused = text.refused
told_short state other = []

abbrev pub told : GdbState → Request → List ℕ
told state requests.Registers = text.registers (hart_here state)
told state (requests.Register number) = text.register_text (hart_here state) number
told state (requests.Memory address count) = memory_text (state_here state.session) address count
told state (requests.TargetDescription offset count) = piece_of description offset count
told state (requests.MemoryMap offset count) = piece_of (map_text (state_here state.session)) offset count
told state (requests.ThreadInfo thread) = info_text state (hart_of state thread)
told state other = told_short state other

abbrev pub answer_by : GdbState → List ℕ → Request → Answer
answer_by state payload (requests.Go action) = went state (gone state action)
answer_by state payload (requests.FocusForState thread) = focused state (hart_of state thread)
answer_by state payload (requests.FocusForSteps thread) = focused_for_steps state thread
answer_by state payload (requests.SetMark kind address count) = with_mark state kind address count
answer_by state payload (requests.ClearMark kind address count) = without_mark state kind address count
answer_by state payload requests.Monitor = monitored state (place_in (drop 6 payload))
answer_by state payload other = says (told state other) state

-- the answer to a packet's payload
unfoldable pub answer : GdbState → List ℕ → Answer
answer state payload = answer_by state payload (request_of payload)

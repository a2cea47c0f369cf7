-- The talk with the debugger: the answers to command lines one after the other, over a place in a log and the marks that are set.
-- This project's own.
use Rattle.std.specs.Prelude.{ℕ, zero, suc, ◌+◌, ◌-◌, ◌^◌, ◌==◌, ◌&&◌, Bool, true, false, nat_lt, nat_le, if◌then◌else◌, List, [], ◌∷◌, ◌++◌, length, codes}
use Rattle.std.specs.Prelude.{Option, Some, None, unwrap_or, Result, Ok, Err}
use Rattle.std.specs.Fmt.{decimal}
use Rattle.hart_core.specs.HartState.{HartState, register, vector}
use Rattle.multi_hart.specs.Run.{State, hart_at, word_in}
use Rattle.line_text.specs.Lines.{lines_of}
use Rattle.debugger.specs.declared.refusals.SessionRefusal.{SessionRefusal}
use Rattle.debugger.specs.declared.refusals.SessionRefusal.TheVariants.{PastEnd, BeforeStart, Address, NoStop}
use Rattle.debugger.specs.Places.{SessionState, state_here, moved}
use Rattle.debugger.specs.Marks.{with_break, with_watch}
use Rattle.debugger.specs.Refusals.{number_of, or_address}
use Rattle.debugger.specs.Stops.{stops}
use Rattle.hrv_engines.specs.declared.commands.Command.{Command}
use Rattle.hrv_engines.specs.declared.commands.Command.TheVariants as c
use Rattle.hrv_engines.specs.Commands.{command_of}
use Rattle.hrv_engines.specs.Dump.{hex_of, hex_word, newline, status_text}

-- the line that answers, the session after it, and whether the talk ends there
pub record Answer : Type 0 where
  pub text : List ℕ
  pub next : SessionState
  pub is_last : Bool

abbrev pub says : List ℕ → SessionState → Answer
says text session = record { text = text; next = session; is_last = false }

unfoldable pub unknown_text : List ℕ
unknown_text = codes "unknown" ++ newline

unfoldable pub ok_text : List ℕ
ok_text = codes "ok" ++ newline

-- `at K`
unfoldable pub place_text : ℕ → List ℕ
place_text place = codes "at " ++ decimal place ++ newline

-- `refused K`
unfoldable pub refusal_text : SessionRefusal → List ℕ
refusal_text refusal = codes "refused " ++ decimal (unwrap_or (number_of refusal) 0) ++ newline

-- ---- places to go to

-- the least place of this many, from this one on, at which a mark stops
unfoldable pub first_stop : SessionState → ℕ → ℕ → Option ℕ
first_stop session place zero = None
first_stop session place (suc others) = if stops session place then Some place else first_stop session (suc place) others

-- the greatest place below this one at which a mark stops
unfoldable pub last_stop : SessionState → ℕ → Option ℕ
last_stop session zero = None
last_stop session (suc place) = if stops session place then Some place else last_stop session place

abbrev pub or_refusal : SessionRefusal → Option ℕ → Result ℕ SessionRefusal
or_refusal refusal None = Err refusal
or_refusal refusal (Some place) = Ok place

abbrev pub place_to_go : SessionState → ℕ → Result ℕ SessionRefusal
place_to_go session place = if nat_le place (length session.log.turns) then Ok place else Err PastEnd

abbrev pub place_before : SessionState → Result ℕ SessionRefusal
place_before session = if session.place == 0 then Err BeforeStart else Ok (session.place - 1)

abbrev pub next_stop : SessionState → Result ℕ SessionRefusal
next_stop session = or_refusal NoStop (first_stop session (session.place + 1) (length session.log.turns - session.place))

abbrev pub previous_stop : SessionState → Result ℕ SessionRefusal
previous_stop session = or_refusal NoStop (last_stop session session.place)

-- ---- answers

abbrev pub went : SessionState → Result ℕ SessionRefusal → Answer
went session (Ok place) = says (place_text place) (moved session place)
went session (Err refusal) = says (refusal_text refusal) session

abbrev pub marked : SessionState → Result SessionState SessionRefusal → Answer
marked session (Ok next) = says ok_text next
marked session (Err refusal) = says (refusal_text refusal) session

-- an address of 2 ^ 32 or more is refused as any other at which no word is
abbrev pub if_address : {A : Type 0} → ℕ → Result A SessionRefusal → Result A SessionRefusal
if_address address answer = if nat_lt address (2 ^ 32) then answer else Err Address

abbrev pub word_text : Result ℕ SessionRefusal → List ℕ
word_text (Ok word) = hex_word word ++ newline
word_text (Err refusal) = refusal_text refusal

abbrev pub is_register : SessionState → ℕ → ℕ → Bool
is_register session hart number = nat_lt hart session.log.harts && nat_lt number 32

abbrev pub register_text : SessionState → ℕ → ℕ → List ℕ
register_text session hart number =
    if is_register session hart number then hex_word (register (hart_at (state_here session) hart) number) ++ newline else unknown_text

abbrev pub vector_text : SessionState → ℕ → ℕ → List ℕ
vector_text session hart number =
    if is_register session hart number then hex_of (vector (hart_at (state_here session) hart) number) ++ newline else unknown_text

-- `hart H STATUS pc 0xPPPPPPPP`
unfoldable pub hart_line : ℕ → HartState → List ℕ
hart_line number hart = codes "hart " ++ decimal number ++ codes " " ++ status_text hart.status ++ codes " pc " ++ hex_word hart.pc ++ newline

-- the lines of the harts numbered below this many
unfoldable pub hart_lines : State → ℕ → List ℕ
hart_lines state zero = []
hart_lines state (suc number) = hart_lines state number ++ hart_line number (hart_at state number)

-- `at K of L`, and a line for each hart
unfoldable pub session_text : SessionState → List ℕ
session_text session =
    codes "at " ++ decimal session.place ++ codes " of " ++ decimal (length session.log.turns) ++ newline
    ++ hart_lines (state_here session) session.log.harts

abbrev pub answer_to : SessionState → Command → Answer
answer_to session (c.Goto place) = went session (place_to_go session place)
answer_to session c.Next = went session (place_to_go session (session.place + 1))
answer_to session c.Back = went session (place_before session)
answer_to session c.Forward = went session (next_stop session)
answer_to session c.Reverse = went session (previous_stop session)
answer_to session (c.Break address) = marked session (if_address address (with_break session address))
answer_to session (c.Watch address) = marked session (if_address address (with_watch session address))
answer_to session (c.Register hart number) = says (register_text session hart number) session
answer_to session (c.Vector hart number) = says (vector_text session hart number) session
answer_to session (c.Word address) = says (word_text (if_address address (or_address (word_in (state_here session) address)))) session
answer_to session c.Status = says (session_text session) session
answer_to session c.Quit = record { text = []; next = session; is_last = true }

abbrev pub answer_or_unknown : SessionState → Option Command → Answer
answer_or_unknown session None = says unknown_text session
answer_or_unknown session (Some command) = answer_to session command

-- the answer to a line
unfoldable pub answer : SessionState → List ℕ → Answer
answer session line = answer_or_unknown session (command_of line)

-- ---- lines one after the other

abbrev pub unless_last : Answer → (SessionState → List ℕ) → List ℕ
unless_last answer others = answer.text ++ (if answer.is_last then [] else others answer.next)

-- the answers to lines, up to the one that ends the talk
unfoldable pub answers : SessionState → List (List ℕ) → List ℕ
answers session [] = []
answers session (line ∷ lines) = unless_last (answer session line) (λ next. answers next lines)

-- one of the lines ends the talk
unfoldable pub quits : SessionState → List (List ℕ) → Bool
quits session [] = false
quits session (line ∷ lines) = if (answer session line).is_last then true else quits (answer session line).next lines

-- the talk on a text: line feeds end its lines, and a last line without one counts
unfoldable pub talk : SessionState → List ℕ → List ℕ
talk session text = answers session (lines_of text)

unfoldable pub talk_ends : SessionState → List ℕ → Bool
talk_ends session text = quits session (lines_of text)

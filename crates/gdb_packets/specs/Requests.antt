-- What gdb asks for by a packet's payload. Numbers are hexadecimal, and below 2 ^ 32.
-- From gdb's manual, "Remote Protocol": "Packets", "Stop Reply Packets" and "General Query Packets".
use Rattle.std.specs.Prelude.{ℕ, ◌^◌, ◌==◌, ◌||◌, nat_eq, nat_lt, if◌then◌else◌, Bool, List, [], ◌∷◌, length, take, drop, codes, Option, Some, None}
use Rattle.std.specs.List.{prefix_len, starts_with}
use Rattle.std.specs.Str.{bytes_eq}
use Rattle.line_text.specs.Lines.{is_hexadecimal, hexadecimal_number}
use Rattle.gdb_packets.specs.declared.requests.Action.{Action}
use Rattle.gdb_packets.specs.declared.requests.Action.TheVariants as actions
use Rattle.gdb_packets.specs.declared.requests.MarkKind.{MarkKind}
use Rattle.gdb_packets.specs.declared.requests.MarkKind.TheVariants as kinds
use Rattle.gdb_packets.specs.declared.requests.Request.{Request}
use Rattle.gdb_packets.specs.declared.requests.Request.TheVariants as requests
use Rattle.gdb_packets.specs.declared.requests.Thread.{Thread}
use Rattle.gdb_packets.specs.declared.requests.Thread.TheVariants as threads

-- ---- parts at the front of bytes, each with what follows it

-- what comes next, if there is a part
infixl 10 ◌>>=◌
abbrev pub ◌>>=◌ : {A B : Type 0} → Option A → (A → Option B) → Option B
None >>= next = None
(Some part) >>= next = next part

abbrev pub of_digits : ℕ → List ℕ → Option (ℕ × List ℕ)
of_digits count bytes =
    if count == 0 then None
    else if nat_lt (hexadecimal_number (take count bytes)) (2 ^ 32) then Some (hexadecimal_number (take count bytes), drop count bytes)
    else None

-- the number that the digits at the front spell
unfoldable pub number_at : List ℕ → Option (ℕ × List ℕ)
number_at bytes = of_digits (prefix_len is_hexadecimal bytes) bytes

-- this byte
unfoldable pub mark_at : ℕ → List ℕ → Option (List ℕ)
mark_at mark [] = None
mark_at mark (byte ∷ bytes) = if byte == mark then Some bytes else None

abbrev pub numbered : ℕ → Thread
numbered number = if number == 0 then threads.Any else threads.One number

abbrev pub thread_of : ℕ × List ℕ → Option (Thread × List ℕ)
thread_of found = Some (numbered found.0, found.1)

-- the number of a thread, 0 for any, or `-1` for all
unfoldable pub thread_at : List ℕ → Option (Thread × List ℕ)
thread_at bytes =
    if starts_with nat_eq bytes (codes "-1") then Some (threads.All, drop 2 bytes) else (number_at bytes >>= thread_of)

-- nothing follows
abbrev pub at_end : {A : Type 0} → A → List ℕ → Option A
at_end part [] = Some part
at_end part (byte ∷ bytes) = None

-- two numbers with a comma (44) between them
unfoldable pub pair_at : List ℕ → Option ((ℕ × ℕ) × List ℕ)
pair_at bytes =
    number_at bytes
    >>= λ first. mark_at 44 first.1
    >>= λ rest. number_at rest
    >>= λ second. Some ((first.0, second.0), second.1)

-- ---- what bytes mean as a whole

-- a request, or that it is refused: the name is known, and what follows isn't of its form
abbrev pub or_refused : Option Request → Request
or_refused None = requests.Refused
or_refused (Some request) = request

abbrev pub number_in : List ℕ → Option ℕ
number_in bytes = number_at bytes >>= λ number. at_end number.0 number.1

abbrev pub thread_in : List ℕ → Option Thread
thread_in bytes = thread_at bytes >>= λ thread. at_end thread.0 thread.1

abbrev pub pair_in : List ℕ → Option (ℕ × ℕ)
pair_in bytes = pair_at bytes >>= λ pair. at_end pair.0 pair.1

-- ---- requests of one letter

-- the name of these has nothing after it
abbrev pub if_alone : Request → List ℕ → Request
if_alone request [] = request
if_alone request (byte ∷ bytes) = requests.Refused

unfoldable pub register_in : List ℕ → Option Request
register_in bytes = number_in bytes >>= λ number. Some (requests.Register number)

unfoldable pub memory_in : List ℕ → Option Request
memory_in bytes = pair_in bytes >>= λ pair. Some (requests.Memory pair.0 pair.1)

unfoldable pub alive_in : List ℕ → Option Request
alive_in bytes = thread_in bytes >>= λ thread. Some (requests.IsAlive thread)

abbrev pub focus_by : ℕ → List ℕ → Option Request
focus_by operation bytes =
    if operation == 103 then (thread_in bytes >>= λ thread. Some (requests.FocusForState thread))
    else if operation == 99 then (thread_in bytes >>= λ thread. Some (requests.FocusForSteps thread))
    else None

-- `g` (103) or `c` (99), and a thread
unfoldable pub focus_in : List ℕ → Option Request
focus_in [] = None
focus_in (operation ∷ bytes) = focus_by operation bytes

unfoldable pub back_in : List ℕ → Request
back_in bytes =
    if bytes_eq bytes (codes "s") then requests.Go actions.StepBack
    else if bytes_eq bytes (codes "c") then requests.Go actions.ContinueBack
    else requests.Refused

-- `0` (48) to `4`
unfoldable pub kind_of : ℕ → Option MarkKind
kind_of digit =
    if digit == 48 then Some kinds.SoftwareBreak
    else if digit == 49 then Some kinds.HardwareBreak
    else if digit == 50 then Some kinds.Write
    else if digit == 51 then Some kinds.Read
    else if digit == 52 then Some kinds.Access
    else None

-- a kind, a comma (44), an address and a length
unfoldable pub mark_in : (MarkKind → ℕ → ℕ → Request) → List ℕ → Option Request
mark_in makes [] = None
mark_in makes (digit ∷ bytes) =
    kind_of digit
    >>= λ kind. mark_at 44 bytes
    >>= λ rest. pair_in rest
    >>= λ pair. Some (makes kind pair.0 pair.1)

-- ---- what to do next

-- `:` (58) and a thread, or nothing, which is for all threads
abbrev pub threads_or_all : Option (List ℕ) → List ℕ → Option (Thread × List ℕ)
threads_or_all None bytes = Some (threads.All, bytes)
threads_or_all (Some rest) bytes = thread_at rest

unfoldable pub threads_at : List ℕ → Option (Thread × List ℕ)
threads_at bytes = threads_or_all (mark_at 58 bytes) bytes

-- another action may follow after `;` (59)
abbrev pub before_others : Action → List ℕ → Option Action
before_others action [] = Some action
before_others action (byte ∷ bytes) = if byte == 59 then Some action else None

abbrev pub steps : List ℕ → Option Action
steps bytes = threads_at bytes >>= λ found. before_others (actions.Step found.0) found.1

abbrev pub continues : List ℕ → Option Action
continues bytes = threads_at bytes >>= λ found. before_others (actions.Continue found.0) found.1

-- The leftmost action is what a run in a log does next; what other threads do is in the log. It is `s` (115), `c` (99), or with a
-- signal, which no run has a use for, `S` (83) or `C` (67).
unfoldable pub action_by : ℕ → List ℕ → Option Action
action_by letter bytes =
    if letter == 115 then steps bytes
    else if letter == 99 then continues bytes
    else if letter == 83 then (number_at bytes >>= λ signal. steps signal.1)
    else if letter == 67 then (number_at bytes >>= λ signal. continues signal.1)
    else None

unfoldable pub action_in : List ℕ → Option Request
action_in [] = None
action_in (letter ∷ bytes) = action_by letter bytes >>= λ action. Some (requests.Go action)

-- ---- requests of a word

unfoldable pub description_in : List ℕ → Option Request
description_in bytes = pair_in bytes >>= λ pair. Some (requests.TargetDescription pair.0 pair.1)

unfoldable pub memory_map_in : List ℕ → Option Request
memory_map_in bytes = pair_in bytes >>= λ pair. Some (requests.MemoryMap pair.0 pair.1)

unfoldable pub thread_info_in : List ℕ → Option Request
thread_info_in bytes = thread_in bytes >>= λ thread. Some (requests.ThreadInfo thread)

-- what follows a name at the front
unfoldable pub behind : List ℕ → List ℕ → Option (List ℕ)
behind name bytes = if starts_with nat_eq bytes name then Some (drop (length name) bytes) else None

-- what is meant after a name, or else another request
abbrev pub meant : Option (List ℕ) → (List ℕ → Request) → Request → Request
meant None means other = other
meant (Some bytes) means other = means bytes

-- the description has one file
unfoldable pub feature_in : List ℕ → Request
feature_in bytes = meant (behind (codes "target.xml:") bytes) (λ rest. or_refused (description_in rest)) requests.OtherAnnex

unfoldable pub by_query : List ℕ → Request
by_query payload =
    meant (behind (codes "qSupported") payload) (λ rest. requests.Supported)
    (meant (behind (codes "qXfer:features:read:") payload) feature_in
    (meant (behind (codes "qXfer:memory-map:read::") payload) (λ rest. or_refused (memory_map_in rest))
    (meant (behind (codes "qThreadExtraInfo,") payload) (λ rest. or_refused (thread_info_in rest))
    (meant (behind (codes "qAttached") payload) (λ rest. requests.IsAttached)
    (meant (behind (codes "qRcmd,") payload) (λ rest. requests.Monitor)
    requests.Unknown)))))

abbrev pub by_name : List ℕ → Request
by_name payload =
    if bytes_eq payload (codes "vCont?") then requests.Actions
    else if bytes_eq payload (codes "qfThreadInfo") then requests.FirstThreads
    else if bytes_eq payload (codes "qsThreadInfo") then requests.MoreThreads
    else if bytes_eq payload (codes "qC") then requests.CurrentThread
    else if bytes_eq payload (codes "QStartNoAckMode") then requests.NoAcknowledgments
    else by_query payload

unfoldable pub by_word : List ℕ → Request
by_word payload =
    meant (behind (codes "vCont;") payload) (λ rest. or_refused (action_in rest))
    (meant (behind (codes "vKill;") payload) (λ rest. requests.KillProcess)
    (by_name payload))

-- `G` (71), `M` (77), `P` (80) and `X` (88) write registers or memory
abbrev pub is_write : ℕ → Bool
is_write letter = letter == 71 || letter == 77 || letter == 80 || letter == 88

unfoldable pub by_letter : ℕ → List ℕ → Request
by_letter letter bytes =
    if letter == 63 then if_alone requests.WhyStopped bytes
    else if letter == 103 then if_alone requests.Registers bytes
    else if letter == 112 then or_refused (register_in bytes)
    else if letter == 109 then or_refused (memory_in bytes)
    else if letter == 72 then or_refused (focus_in bytes)
    else if letter == 84 then or_refused (alive_in bytes)
    else if letter == 98 then back_in bytes
    else if letter == 90 then or_refused (mark_in requests.SetMark bytes)
    else if letter == 122 then or_refused (mark_in requests.ClearMark bytes)
    else if letter == 68 then requests.Detach
    else if letter == 107 then requests.Kill
    else if is_write letter then requests.Refused
    else by_word (letter ∷ bytes)

-- what a payload asks for
unfoldable pub request_of : List ℕ → Request
request_of [] = requests.Unknown
request_of (letter ∷ bytes) = by_letter letter bytes

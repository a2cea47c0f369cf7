-- What gdb is told: registers, stops and threads.
-- From gdb's manual, "Remote Protocol": "Packets", "Stop Reply Packets" and "General Query Packets".
use Rattle.std.specs.Prelude.{ℕ, zero, suc, ◌+◌, ◌-◌, ◌/◌, ◌%◌, ◌==◌, nat_lt, if◌then◌else◌, List, [], ◌∷◌, ◌++◌, codes}
use Rattle.std.specs.Int.{w32, to_le_bytes, to_be_bytes}
use Rattle.std.specs.Fmt.{decimal}
use Rattle.hart_core.specs.declared.harts.Status.{Status}
use Rattle.hart_core.specs.declared.harts.Status.TheVariants.{Running, Finished, Trapped}
use Rattle.rv_insn.specs.Trap.{trap_number}
use Rattle.gdb_packets.specs.Packets.{digit}
use Rattle.hart_core.specs.HartState.{HartState, register, vector}
use Rattle.gdb_session.specs.declared.stops.Stop.{Stop}
use Rattle.gdb_session.specs.declared.stops.StopReason.{StopReason}
use Rattle.gdb_session.specs.declared.stops.StopReason.TheVariants.{Stepped, Break, Watch, LogEnd, LogStart}

unfoldable pub ok : List ℕ
ok = codes "OK"

unfoldable pub refused : List ℕ
refused = codes "E01"

-- two digits a byte
abbrev pub hex_of : List ℕ → List ℕ
hex_of [] = []
hex_of (byte ∷ bytes) = digit (byte / 16) ∷ digit (byte % 16) ∷ hex_of bytes

-- ---- registers: numbers lie with their lowest byte first

unfoldable pub word_text : ℕ → List ℕ
word_text number = hex_of (to_le_bytes w32 number)

-- the registers numbered below this many
unfoldable pub integers : HartState → ℕ → List ℕ
integers hart zero = []
integers hart (suc number) = integers hart number ++ word_text (register hart number)

unfoldable pub vectors : HartState → ℕ → List ℕ
vectors hart zero = []
vectors hart (suc number) = vectors hart number ++ hex_of (vector hart number)

-- all of them, in the order of their numbers
unfoldable pub registers : HartState → List ℕ
registers hart = integers hart 32 ++ word_text hart.pc ++ vectors hart 32 ++ word_text hart.vl ++ word_text hart.vtype

-- the one of a number in the target description
unfoldable pub register_text : HartState → ℕ → List ℕ
register_text hart number =
    if nat_lt number 32 then word_text (register hart number)
    else if number == 32 then word_text hart.pc
    else if nat_lt number 65 then hex_of (vector hart (number - 33))
    else if number == 65 then word_text hart.vl
    else if number == 66 then word_text hart.vtype
    else refused

-- ---- threads: there are at most 8 harts, so one digit names each

abbrev pub thread_text : ℕ → List ℕ
thread_text hart = digit (hart + 1) ∷ []

-- a thread of a list, after `m` (109) where it is the first, and else after a comma (44)
abbrev pub listed : ℕ → List ℕ
listed hart = (if hart == 0 then 109 else 44) ∷ thread_text hart

-- those of the harts numbered below this many
unfoldable pub threads : ℕ → List ℕ
threads zero = []
threads (suc hart) = threads hart ++ listed hart

unfoldable pub current_text : ℕ → List ℕ
current_text hart = codes "QC" ++ thread_text hart

unfoldable pub status_text : Status → List ℕ
status_text Running = codes "running"
status_text Finished = codes "finished"
status_text (Trapped trap) = codes "trap " ++ decimal (trap_number trap)

-- ---- stops: signal 5, a reason, and the hart's thread

unfoldable pub reason_text : StopReason → List ℕ
reason_text Stepped = []
reason_text Break = codes "swbreak:;"
reason_text (Watch address) = codes "watch:" ++ hex_of (to_be_bytes w32 address) ++ codes ";"
reason_text LogEnd = codes "replaylog:end;"
reason_text LogStart = codes "replaylog:begin;"

unfoldable pub stop_text : Stop → List ℕ
stop_text stop = codes "T05" ++ reason_text stop.reason ++ codes "thread:" ++ thread_text stop.hart ++ codes ";"

-- ---- what the server can do

unfoldable pub features : List ℕ
features =
    codes "PacketSize=4000;qXfer:features:read+;"
    ++ codes "qXfer:memory-map:read+;QStartNoAckMode+;"
    ++ codes "ReverseStep+;ReverseContinue+;"
    ++ codes "vContSupported+;swbreak+;hwbreak+"

unfoldable pub actions : List ℕ
actions = codes "vCont;c;C;s;S"

-- the list of threads has no more, and gdb came to a run that was there
unfoldable pub last : List ℕ
last = codes "l"

unfoldable pub attached : List ℕ
attached = codes "1"

-- what a line of `monitor` comes to
unfoldable pub done : List ℕ
done = hex_of (codes "done\n")

unfoldable pub no_place : List ℕ
no_place = hex_of (codes "the log has no such place\n")

unfoldable pub unknown : List ℕ
unknown = hex_of (codes "unknown\n")

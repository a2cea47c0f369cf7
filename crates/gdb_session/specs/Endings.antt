-- Which requests end a talk. From gdb's manual, "Remote Protocol": "Packets".
use Rattle.std.specs.Prelude.{ℕ, List}
use Rattle.gdb_packets.specs.Requests.{request_of}
use Rattle.gdb_packets.specs.declared.requests.Request.{Request}
use Rattle.gdb_packets.specs.declared.requests.Request.TheVariants as requests
use Rattle.gdb_session.specs.declared.endings.Ending.{Ending}
use Rattle.gdb_session.specs.declared.endings.Ending.TheVariants.{GoesOn, Answered, Unanswered}

-- `D` and `vKill` have an answer, `k` has none
abbrev pub ending_by : Request → Ending
ending_by requests.Detach = Answered
ending_by requests.KillProcess = Answered
ending_by requests.Kill = Unanswered
ending_by other = GoesOn

unfoldable pub ending : List ℕ → Ending
ending payload = ending_by (request_of payload)

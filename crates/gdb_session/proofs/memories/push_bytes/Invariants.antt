use Rattle.std.proofs.Common.{◌≡◌, ◌++◌, ◌+◌, ◌-◌}
use Rattle.debugger.specs.Places.{state_here}
use Rattle.gdb_session.specs.Memories.{bytes_from}
use Rattle.gdb_session.specs.Texts.{hex_of}
use Rattle.gdb_session.proofs.memories.push_bytes.Given as goal

abbrev pub invariant-loop-number : goal.invariant-loop-number
invariant-loop-number l =
    l.out.items ++ hex_of (bytes_from (state_here l.session.state) (l.address + l.number) (l.count - l.number))
    ≡ l.fn.out.items ++ hex_of (bytes_from (state_here l.session.state) l.address l.count)

use Rattle.std.proofs.Common.{◌≡◌, length}
use Rattle.std.specs.Prelude.{None}
use Rattle.memory.specs.Access.{put, Writes, first_fault, spread, touched}
use Rattle.memory_accesses.specs.Elements.{accesses_at}
use Rattle.memory_accesses.proofs.elements.write_numbers.Given as goal

-- those that are left, put into what is now, give what all give
abbrev pub invariant-loop-addresses : goal.invariant-loop-addresses
invariant-loop-addresses g l =
    let before = g.M.Bytes.memory l.fn.memory in
    let now = g.M.Bytes.memory l.memory in record {
      fault : first_fault (length (g.M.Bytes.text l.memory)) (length now) Writes (accesses_at l.fn.width l.addresses) ≡ None;
      put_is : put now (touched (accesses_at l.fn.width l.addresses)) (spread (accesses_at l.fn.width l.addresses) l.numbers)
          ≡ put before (touched (accesses_at l.fn.width l.fn.addresses)) (spread (accesses_at l.fn.width l.fn.addresses) l.fn.numbers);
      text : g.M.Bytes.text l.memory ≡ g.M.Bytes.text l.fn.memory;
    }

abbrev pub decreases-loop-addresses : goal.decreases-loop-addresses
decreases-loop-addresses g l = length l.addresses

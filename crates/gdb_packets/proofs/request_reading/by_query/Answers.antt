use Rattle.std.proofs.Common.{sym, refl}
use Rattle.gdb_packets.specs.Requests as spec
use Rattle.gdb_packets.proofs.request_reading.by_query.Goals as goal

pub returns : goal.returns
unfolding spec.by_query
returns c =
    rw (
      sym (rw c.in_default.is at c.behind.ensures),
      sym (rw c.in_default-behind.is at c.behind-2.ensures),
      sym (rw c.in_default-behind-2.is at c.behind-3.ensures),
      sym (rw c.in_default-behind-3.is at c.behind-4.ensures),
      sym (rw c.in_default-behind-4.is at c.behind-5.ensures),
      sym (rw c.in_default-behind-5.is at c.behind-6.ensures),
    )
    refl

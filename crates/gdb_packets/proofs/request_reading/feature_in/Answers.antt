use Rattle.std.proofs.Common.{◌∙◌, sym, refl, ap}
use Rattle.gdb_packets.specs.Requests as spec
use Rattle.gdb_packets.proofs.request_reading.feature_in.Goals as goal

pub returns-in-Some : goal.returns-in-Some
unfolding spec.feature_in
returns-in-Some c = rw (sym (rw c.in-Some.is at c.behind.ensures)) (c.or_refused.ensures ∙ ap spec.or_refused c.description_in.ensures)

pub returns-in-None : goal.returns-in-None
unfolding spec.feature_in
returns-in-None c = rw (sym (rw c.in-None.is at c.behind.ensures)) refl

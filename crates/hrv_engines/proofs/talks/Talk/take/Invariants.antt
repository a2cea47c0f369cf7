use Rattle.std.proofs.Common.{length}
use Rattle.std.specs.String.{string_bytes}
use Rattle.hrv_engines.specs.TalkSoFar.{GoesOn}
use Rattle.hrv_engines.proofs.talks.Talk.take.Given as goal

abbrev pub invariant-lines : goal.invariant-lines
invariant-lines l =
    GoesOn l.fn.self.session.state l.fn.self.unended.items l.bytes l.self.session.state l.self.unended.items l.rest (string_bytes l.fn.text)
    (string_bytes l.text)

abbrev pub decreases-lines : goal.decreases-lines
decreases-lines l = length l.rest

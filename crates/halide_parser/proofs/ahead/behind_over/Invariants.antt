use Rattle.std.proofs.Common.{◌≡◌, length}
use Rattle.halide_parser.specs.inner.Ahead.{behind_over}
use Rattle.halide_parser.proofs.ahead.behind_over.Given as goal

abbrev pub invariant-search : goal.invariant-search
invariant-search l = behind_over l.rest ≡ behind_over l.tokens

abbrev pub decreases-search : goal.decreases-search
decreases-search l = length l.rest

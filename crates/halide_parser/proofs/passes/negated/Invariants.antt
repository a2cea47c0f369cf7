use Rattle.std.proofs.Common.{◌≡◌}
use Rattle.halide_parser_syntax.specs.inner.Machine.{negated}
use Rattle.halide_parser.specs.inner.Judging.{judging}
use Rattle.halide_parser.proofs.passes.negated.Given as goal

abbrev pub invariant-signs : goal.invariant-signs
invariant-signs l = l.found ≡ negated (judging l.reader l.scope) l.counter l.fn.value

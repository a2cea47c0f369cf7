use Rattle.std.proofs.Common.{ap, ◌∙◌, ◌∷◌}
use Rattle.halide_parser_syntax.specs.inner.Reversed.{on_top}
use Rattle.halide_parser_syntax.proofs.Tops.{pushed}
use Rattle.halide_parser_syntax.proofs.states.Stack.push.Goals as goal

pub returns : goal.returns
returns g c = ap on_top c.in_ok-push.ensures.ok ∙ pushed c.self.inside.frames c.args.frame ∙ ap (λ l. c.args.frame ∷ l) c.self.view_is

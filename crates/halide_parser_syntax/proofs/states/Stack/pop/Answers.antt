use Rattle.halide_parser_syntax.proofs.Tops.{popped}
use Rattle.halide_parser_syntax.proofs.states.Stack.pop.Goals as goal

pub returns : goal.returns
returns g c = rw (← c.self.view_is) (popped c.pop.result c.self.inside.frames c.pop.new.self c.pop.ensures)

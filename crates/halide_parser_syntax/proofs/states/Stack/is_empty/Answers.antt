use Rattle.std.proofs.Common.{sym}
use Rattle.halide_parser_syntax.proofs.Tops.{empty}
use Rattle.halide_parser_syntax.proofs.states.Stack.is_empty.Goals as goal

pub returns : goal.returns
returns g c = rw (c.len.ensures, ← c.self.view_is) (sym (empty c.self.inside.frames))

use Rattle.std.proofs.Common.{◌∙◌, ap}
use Rattle.memory.specs.Access.{number_at}
use Rattle.hart_core.specs.HartState.{vectors_of, with_vectors}
use Rattle.hart_core.proofs.WordRuns.{words-loaded}
use Rattle.hart_core.proofs.harts.Hart.load_register.Goals as goal

pub returns : goal.returns
returns g c =
    c.put_four_words.ensures
    ∙ ap (with_vectors c.args.self.now) (words-loaded (vectors_of c.args.self.now) c.args.vd c.args.part c.args.address
    (number_at (g.M.Bytes.text c.args.memory.now) (g.M.Bytes.memory c.args.memory.now)) c.read_four_words.result c.read_four_words.ensures)

use Rattle.std.proofs.Common.{◌∙◌}
use Rattle.vector_unit.specs.Vector.{element_from}
use Rattle.hart_core.proofs.WordRuns.{words-stored}
use Rattle.hart_core.proofs.runs.store_register.Goals as goal

pub returns-clause-put : goal.returns-clause-put
returns-clause-put g c =
    c.write_four_words.ensures.memory
    ∙ words-stored (g.M.Bytes.memory c.args.memory.now) c.args.part c.args.address (element_from c.args.state.now 32 c.args.vs3) c.four_words.result
    c.four_words.ensures

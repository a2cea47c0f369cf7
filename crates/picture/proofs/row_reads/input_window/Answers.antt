use Rattle.picture.proofs.row_reads.input_window.Goals as goal

pub returns-in-None : goal.returns-in-None
returns-in-None c = c.nothing.ensures _

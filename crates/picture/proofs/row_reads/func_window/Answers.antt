use Rattle.std.proofs.Common.{arith, sym}
use Rattle.picture.specs.inner.Evaluation.{inputs_of}
use Rattle.picture.proofs.Along.{window-of-same}
use Rattle.picture.proofs.Levels.{pixels-before}
use Rattle.picture.proofs.row_reads.func_window.Goals as goal

pub returns-then-source_index-func_index : goal.returns-then-source_index-func_index
returns-then-source_index-func_index c = c.nothing.ensures _

pub returns-in-None : goal.returns-in-None
returns-in-None c = c.nothing-in-None.ensures _

pub returns-in-Some : goal.returns-in-Some
returns-in-Some c =
    window-of-same _ _ _ (λ x. sym (pixels-before c.args.scene.now.funcs.now (inputs_of c.args.scene.now) c.args.func_index c.args.source_index x c.args.y (omega arith)))
    (c.table_window.ensures _ (c.requires.tables.tables.each c.args.source_index c.in-Some.table.now
    (sym c.in-Some.ensures)))

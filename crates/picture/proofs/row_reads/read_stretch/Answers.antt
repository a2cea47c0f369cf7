use Rattle.picture.specs.inner.Evaluation.{reads_in}
use Rattle.picture.specs.declared.scenes.FuncState.TheVariants as states
use Rattle.picture.proofs.Along.{written-row}
use Rattle.picture.proofs.row_reads.read_stretch.Goals as goal

pub returns-in-Some : goal.returns-in-Some
returns-in-Some c =
    written-row _ _ _ _ c.in_ok-values.ensures.items
    (c.in-Some.ensures (λ x. reads_in c.args.scene.now c.args.func_index states.Earlier c.args.source x c.args.y) c.window.ensures)

use Rattle.task_code_values.proofs.Waiting.{spills}
use Rattle.task_code_values.proofs.frames.emit_spill.Goals as goal

pub returns : goal.returns
returns c = spills c.args.site.now.places.now c.args.site.now.scope.now c.args.word c.args.s c.in_ok-at.at _ _ _ c.requires.slot c.requires.source
    c.in_ok-at.ensures c.in_ok-emit_save.ensures

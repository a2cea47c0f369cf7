use Rattle.task_code_values.proofs.Waiting.{unspills}
use Rattle.task_code_values.proofs.frames.emit_unspill.Goals as goal

pub returns : goal.returns
returns c = unspills c.args.site.now.places.now c.args.site.now.scope.now c.args.word c.args.r c.in_ok-at.at _ _ _ c.requires.slot c.requires.place
    c.in_ok-at.ensures c.in_ok-emit_fetch.ensures

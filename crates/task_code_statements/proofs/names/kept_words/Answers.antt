use Rattle.task_code_statements.proofs.Giving.{value-kept}
use Rattle.task_code_statements.proofs.names.kept_words.Goals as goal

pub returns-in-Ok : goal.returns-in-Ok
returns-in-Ok c =
    value-kept c.args.places.now c.args.scope.now c.args.register c.in-Ok.s c.args.e.now c.new-words.result.items _ _ c.new-words.ensures.items
    c.in-Ok.ensures.ok c.in_ok-emit_plus-in-Ok.ensures.any

use Rattle.task_code_statements.proofs.Giving.{more-if, some-given}
use Rattle.task_code_statements.proofs.starts.emit_before.Goals as goal

pub returns-in-Some-naming : goal.returns-in-Some-naming
returns-in-Some-naming c =
    more-if c.args.site.now.places.now c.args.site.now.scope.now c.args.context.now c.in-Some.one c.in-Some-naming.more c.in_ok-before-in-Some.before.naming
    c.as_slice.result.now c.args.code.now.items c.emit_starts.new.code.items _
    (some-given c.args.site.now.places.now c.args.site.now.scope.now c.args.context.now c.in-Some.one c.in_ok-emit_starts.field-0 c.args.code.now.items
    c.emit_starts.new.code.items c.in-Some.is c.in_ok-emit_starts.ensures) c.in-Some-naming.is c.as_slice.ensures.value c.in_ok-before-in-Some.ensures

use Rattle.task_code_statements.proofs.Giving.{more-if, some-given}
use Rattle.task_code_statements.proofs.names.+emit_names.Goals as goal

pub returns-in-Some-2 : goal.returns-in-Some-2
returns-in-Some-2 t c =
    more-if c.args.site.now.places.now c.args.site.now.scope.now c.args.context.now c.in-Some.one c.in-Some-2.more c.in_ok-emit_names-in-Some.field-0
    c.as_slice.result.now c.args.code.now.items c.emit_name.new.code.items _
    (some-given c.args.site.now.places.now c.args.site.now.scope.now c.args.context.now c.in-Some.one c.in_ok-emit_name-in-len1-up.field-0 c.args.code.now.items
    c.emit_name.new.code.items c.in-Some.is c.in_ok-emit_name-in-len1-up.ensures) c.in-Some-2.is c.as_slice.ensures.value
    c.in_ok-emit_names-in-Some.ensures

use Rattle.std.proofs.Common.{sym, subst, ◌∙◌, ap, ◌++◌}
use Rattle.std.specs.Prelude.{IfSome}
use Rattle.task_code_statements.specs.Contexts.{MeetsName}
use Rattle.task_code_statements.specs.Naming.{KeepsValue}
use Rattle.task_code_statements.proofs.Giving.{name-holds}
use Rattle.task_code_statements.proofs.names.emit_name.Goals as goal

pub returns : goal.returns
returns c =
    name-holds c.args.site.now.places.now c.args.site.now.scope.now c.args.context.now c.free_name-counter.result c.args.e.now
    c.in-Some-free_register.register c.in-Some-2.words.items c.in-Some.context c.in_ok-form.form c.in_ok-scope.scope.items
    c.args.code.now.items c.append.new.code.items c.free_name-counter.ensures
    (c.is_load_free.ensures c.if-not-is_load_free.false) (sym c.mentions.ensures ∙ c.if-mentions.false)
    (subst (λ o. IfSome o (MeetsName c.args.context.now c.free_name-counter.result c.args.e.now)) c.in-Some.is c.in_ok-context.ensures)
    c.in-Some-free_register.ensures.some.0
    (subst (λ o. IfSome o (λ words. KeepsValue c.args.site.now.places.now c.args.site.now.scope.now c.in-Some-free_register.register c.args.e.now words.items))
    c.in-Some-2.is c.in_ok-words.ensures) c.in_ok-form.ensures c.in_ok-scope.ensures
    (c.in_ok-append.ensures.ok ∙ ap (λ l. c.args.code.now.items ++ l) c.as_slice.ensures.value)

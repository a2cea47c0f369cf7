use Rattle.std.proofs.Common.{subst}
use Rattle.loop_ir.specs.declared.statements.LoopKind.TheVariants.{Vectorized}
use Rattle.loop_ir.specs.declared.statements.Stmt.TheVariants as s
use Rattle.task_code_statements.specs.Contexts.{Meets}
use Rattle.task_code_statements.specs.Statements.{EmitsStatement}
use Rattle.task_code_statements.proofs.Giving.{none-given, some-given, statement-after}
use Rattle.task_code_statements.proofs.vectorizing.emit_vectorized.Goals as goal

pub returns-in_ok-emit_at_once-in-None : goal.returns-in_ok-emit_at_once-in-None
returns-in_ok-emit_at_once-in-None c =
    subst (λ old. EmitsStatement old c.emit_at_once.new.code.items c.args.site.now.places.now c.args.site.now.scope.now (Meets c.args.context.now)
    (s.For c.args.bound.counter c.args.bound.count Vectorized c.args.body.now))
    (none-given c.args.site.now.places.now c.args.site.now.scope.now c.args.context.now c.in_ok-emit_starts.field-0 c.args.code.now.items
    c.emit_starts.new.code.items c.in-None.is c.in_ok-emit_starts.ensures) c.in_ok-emit_at_once-in-None.ensures

pub returns-in_ok-emit_at_once-in-Some : goal.returns-in_ok-emit_at_once-in-Some
returns-in_ok-emit_at_once-in-Some c =
    statement-after c.args.site.now.places.now c.args.site.now.scope.now c.as_slice.result.now c.args.context.now c.in-Some.before
    (s.For c.args.bound.counter c.args.bound.count Vectorized c.args.body.now) c.args.code.now.items c.emit_starts.new.code.items _
    (some-given c.args.site.now.places.now c.args.site.now.scope.now c.args.context.now c.in-Some.before c.in_ok-emit_starts.field-0 c.args.code.now.items
    c.emit_starts.new.code.items c.in-Some.is c.in_ok-emit_starts.ensures) c.as_slice.ensures.value c.in_ok-emit_at_once-in-Some.ensures

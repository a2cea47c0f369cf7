use Rattle.std.proofs.Common.{subst}
use Rattle.std.specs.Prelude.{IfSome}
use Rattle.task_code_registers.specs.Emitting.{IsNear}
use Rattle.task_code_vector_loops.proofs.Pointing.{pointer-near, pointer-made}
use Rattle.task_code_vector_loops.proofs.pointers.emit_pointer.Goals as goal

pub returns-then-found-eq0 : goal.returns-then-found-eq0
returns-then-found-eq0 c =
    pointer-near c.args.scope.now c.args.counter c.args.form.now c.in_ok-start.start c.in_ok-start.ensures c.in-Some.found.register c.in-Some.found.number _
    (subst (λ o. IfSome o (λ at. IsNear c.args.scope.now c.in_ok-start.start at.register at.number)) c.in-Some.is c.find.ensures.near)
    c.if-found-eq0.true

pub returns : goal.returns
returns c =
    pointer-made c.args.scope.now c.args.counter c.args.form.now c.in_ok-start.start c.in_ok-start.ensures _ _ c.in_ok-emit_reached.ensures.ok

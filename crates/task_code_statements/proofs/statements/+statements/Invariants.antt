-- The size of the statement; a loop and a split loop are made of their bodies.
use Rattle.std.proofs.Common.{suc, ◌*◌}
use Rattle.loop_ir.specs.declared.statements.Stmt.{size-Stmt}
use Rattle.task_code_statements.specs.Contexts.{Meets}
use Rattle.task_code_statements.specs.Laying.{LaysOut}
use Rattle.task_code_statements.specs.Statements.{EmitsLoop}
use Rattle.task_code_statements.proofs.statements.+statements.Given as goal

abbrev pub decreases-emit_statement : goal.decreases-emit_statement
decreases-emit_statement l = 5 * goal.size-emit_statement l

abbrev pub decreases-emit_loop : goal.decreases-emit_loop
decreases-emit_loop l = suc (suc (5 * goal.size-emit_loop l))

abbrev pub decreases-emit_iterations : goal.decreases-emit_iterations
decreases-emit_iterations l = suc (5 * size-Stmt l.iterations.now.body.now)

abbrev pub decreases-emit_serial : goal.decreases-emit_serial
decreases-emit_serial l = suc (suc (suc (suc (5 * goal.size-emit_serial l))))

abbrev pub decreases-emit_parted : goal.decreases-emit_parted
decreases-emit_parted l = suc (suc (suc (5 * goal.size-emit_parted l)))

abbrev pub decreases-emit_laid_out : goal.decreases-emit_laid_out
decreases-emit_laid_out l = suc (suc (5 * goal.size-emit_laid_out l))

abbrev pub decreases-emit_once : goal.decreases-emit_once
decreases-emit_once l = suc (suc (suc (5 * goal.size-emit_once l)))

abbrev pub decreases-emit_unless_idle : goal.decreases-emit_unless_idle
decreases-emit_unless_idle l = suc (5 * goal.size-emit_unless_idle l)

abbrev pub decreases-emit_split : goal.decreases-emit_split
decreases-emit_split l = suc (suc (5 * goal.size-emit_split l))

abbrev pub decreases-emit_entered : goal.decreases-emit_entered
decreases-emit_entered l = suc (5 * goal.size-emit_entered l)

abbrev pub invariant-emit_laid_out-loop-iteration : goal.invariant-emit_laid_out-loop-iteration
invariant-emit_laid_out-loop-iteration l =
    LaysOut l.fn.code.words.items l.code.words.items l.site.places.now l.site.scope.now (Meets l.context) l.bound.counter l.body l.iteration

abbrev pub invariant-emit_parted-loop-iteration : goal.invariant-emit_parted-loop-iteration
invariant-emit_parted-loop-iteration l =
    EmitsLoop l.fn.code.words.items l.code.words.items l.site.places.now l.site.scope.now (Meets l.context) l.fn.bound.counter l.iteration l.body

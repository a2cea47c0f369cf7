use Rattle.std.proofs.Common.{◌-◌, ◌*◌, ap, subst, ◌∙◌, arith}
use Rattle.task_code_scalar.proofs.Refusing.{passed}
use Rattle.task_code_registers.specs.Holding.{Advances, varying}
use Rattle.task_code_loops.proofs.Looped.{ends-loop, starts-before, too-long}
use Rattle.task_code_loops.proofs.ending.end_loop.Goals as goal

pub returns-clause-ok : goal.returns-clause-ok
returns-clause-ok c =
    let counter = c.args.begun.now.counter in
    ends-loop c.args.begun.now _ _ _ _ c.in_ok-limit.limit c.args.body_start _ c.requires.begun
    (subst (λ s. Advances c.args.code.now.items c.emit_advance.new.code.items (3 * varying counter s) counter s) c.as_slice.ensures.value
    c.in_ok-emit_advance.ensures)
    c.in_ok-limit.ensures c.in_ok-emit_back.ensures.ok c.requires.start
    (ap (λ n. n - c.args.body_start) (c.len.ensures ∙ c.emit_limit.new.code.ok.0))

pub overflow_sub-words : goal.overflow_sub-words
overflow_sub-words c =
    let counter = c.args.begun.now.counter in
    starts-before c.args.begun.now _ _ _ c.in_ok-limit.limit c.args.body_start c.len.result
    (subst (λ s. Advances c.args.code.now.items c.emit_advance.new.code.items (3 * varying counter s) counter s) c.as_slice.ensures.value
    c.in_ok-emit_advance.ensures)
    c.in_ok-limit.ensures c.requires.start (c.len.ensures ∙ c.emit_limit.new.code.ok.0)

pub returns-then-words-clause-err : goal.returns-then-words-clause-err
returns-then-words-clause-err c =
    let counter = c.args.begun.now.counter in
    let long = c.if-words.true in
    too-long c.args.begun.now _ _ _ c.in_ok-limit.limit c.args.body_start c.len.result
    (subst (λ s. Advances c.args.code.now.items c.emit_advance.new.code.items (3 * varying counter s) counter s) c.as_slice.ensures.value
    c.in_ok-emit_advance.ensures)
    c.in_ok-limit.ensures c.requires.start (c.len.ensures ∙ c.emit_limit.new.code.ok.0) 262144 (omega (arith, long))

pub returns-in_err-emit_back-clause-err : goal.returns-in_err-emit_back-clause-err
returns-in_err-emit_back-clause-err c =
    let counter = c.args.begun.now.counter in
    passed c.from_residual-in_err-emit_back.result c.in_err-emit_back.field-0.0 c.from_residual-in_err-emit_back.ensures.1
    (λ long. too-long c.args.begun.now _ _ _ c.in_ok-limit.limit c.args.body_start c.len.result
    (subst (λ s. Advances c.args.code.now.items c.emit_advance.new.code.items (3 * varying counter s) counter s) c.as_slice.ensures.value
    c.in_ok-emit_advance.ensures)
    c.in_ok-limit.ensures c.requires.start (c.len.ensures ∙ c.emit_limit.new.code.ok.0) 262144 (omega (arith, long)))
    (λ deep. deep) c.in_err-emit_back.ensures.err

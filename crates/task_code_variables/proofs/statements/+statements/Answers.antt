use Rattle.std.proofs.Common.{sym, ap, ◌∙◌, refl, arith, length}
use Rattle.loop_ir.specs.declared.statements.Stmt.TheVariants as s
use Rattle.task_code_registers.specs.Holding.{mentions}
use Rattle.task_code_variables.proofs.Arms.{loop-appended, loop-holds, loop-late, split-appended, split-holds, split-late}
use Rattle.task_code_variables.proofs.Choosing.{collected, collected-one, in-iteration, is-collected}
use Rattle.task_code_variables.proofs.Fitting.{any-faulty, collected-faulty, fault-as, first-faulty, for-faulty, loop-faulty, loop-full, passed-on}
use Rattle.task_code_variables.proofs.Fitting.{bind-faulty, second-faulty, split-faulty, split-full}
use Rattle.task_code_variables.proofs.Nesting.{bind-arm, for-arm, none-appends, sequence-arm, store-arm}
use Rattle.task_code_variables.proofs.statements.+statements.Goals as goal

-- ---- statements

pub emit_statement-returns-in_ok-emit_numbered-in-Store-clause-ok : goal.emit_statement-returns-in_ok-emit_numbered-in-Store-clause-ok
emit_statement-returns-in_ok-emit_numbered-in-Store-clause-ok t c =
    store-arm c.args.site.now.places.now c.args.site.now.scope.now c.args.around.now c.args.statement.now (s.Store c.in-Store.store) _ _ c.in-Store.is
    c.in_ok-emit_numbered-in-Store.ensures.ok

pub emit_statement-returns-in_err-emit_numbered-in-Store-clause-err : goal.emit_statement-returns-in_err-emit_numbered-in-Store-clause-err
emit_statement-returns-in_err-emit_numbered-in-Store-clause-err t c =
    passed-on _ c.from_residual.result c.in_err-emit_numbered-in-Store.field-0.0 c.from_residual.ensures.1
    (fault-as c.args.site.now.places.now c.args.site.now.scope.now c.args.statement.now (s.Store c.in-Store.store) _ c.in-Store.is)
    c.in_err-emit_numbered-in-Store.ensures.err

pub emit_statement-returns-in_ok-add_second-in-Sequence-clause-ok : goal.emit_statement-returns-in_ok-add_second-in-Sequence-clause-ok
emit_statement-returns-in_ok-add_second-in-Sequence-clause-ok t c =
    sequence-arm c.args.site.now.places.now c.args.site.now.scope.now c.args.around.now c.args.statement.now c.in-Sequence.first c.in-Sequence.second
    c.get.result.now c.get-in-Sequence.result.now _ _ _ c.in-Sequence.is c.get.ensures c.get-in-Sequence.ensures
    c.in_ok-emit_statement-in-Sequence.ensures.ok c.in_ok-emit_statement-in-Sequence-2.ensures.ok

pub emit_statement-returns-in_err-emit_statement-in-Sequence-clause-err : goal.emit_statement-returns-in_err-emit_statement-in-Sequence-clause-err
emit_statement-returns-in_err-emit_statement-in-Sequence-clause-err t c =
    passed-on _ c.from_residual-in_err-emit_statement-in-Sequence.result c.in_err-emit_statement-in-Sequence.field-0.0
    c.from_residual-in_err-emit_statement-in-Sequence.ensures.1
    (first-faulty c.args.site.now.places.now c.args.site.now.scope.now c.args.statement.now c.in-Sequence.first c.in-Sequence.second c.get.result.now _
    c.in-Sequence.is c.get.ensures) c.in_err-emit_statement-in-Sequence.ensures.err

pub emit_statement-returns-in_err-emit_statement-in-Sequence-2-clause-err : goal.emit_statement-returns-in_err-emit_statement-in-Sequence-2-clause-err
emit_statement-returns-in_err-emit_statement-in-Sequence-2-clause-err t c =
    passed-on _ c.from_residual-in_err-emit_statement-in-Sequence-2.result c.in_err-emit_statement-in-Sequence-2.field-0.0
    c.from_residual-in_err-emit_statement-in-Sequence-2.ensures.1
    (second-faulty c.args.site.now.places.now c.args.site.now.scope.now c.args.statement.now c.in-Sequence.first c.in-Sequence.second
    c.get-in-Sequence.result.now _ c.in-Sequence.is c.get-in-Sequence.ensures) c.in_err-emit_statement-in-Sequence-2.ensures.err

pub emit_statement-returns-in_ok-emit_loop-in-For-clause-ok : goal.emit_statement-returns-in_ok-emit_loop-in-For-clause-ok
emit_statement-returns-in_ok-emit_loop-in-For-clause-ok t c =
    for-arm c.args.site.now.places.now c.args.site.now.scope.now c.args.around.now c.args.statement.now c.in-For.counter c.in-For.count c.in-For.kind
    c.in-For.body c.get-in-For.result.now _ _ c.in-For.is c.get-in-For.ensures c.in_ok-emit_loop-in-For.ensures.ok

pub emit_statement-returns-in_err-emit_loop-in-For-clause-err : goal.emit_statement-returns-in_err-emit_loop-in-For-clause-err
emit_statement-returns-in_err-emit_loop-in-For-clause-err t c =
    passed-on _ c.from_residual-in_err-emit_loop-in-For.result c.in_err-emit_loop-in-For.field-0.0 c.from_residual-in_err-emit_loop-in-For.ensures.1
    (for-faulty c.args.site.now.places.now c.args.site.now.scope.now c.args.statement.now c.in-For.body c.get-in-For.result.now c.in-For.counter
    c.in-For.count c.in-For.kind _ c.in-For.is c.get-in-For.ensures) c.in_err-emit_loop-in-For.ensures.err

pub emit_statement-returns-in_ok-emit_split-in-Bind-clause-ok : goal.emit_statement-returns-in_ok-emit_split-in-Bind-clause-ok
emit_statement-returns-in_ok-emit_split-in-Bind-clause-ok t c =
    bind-arm c.args.site.now.places.now c.args.site.now.scope.now c.args.around.now c.args.statement.now c.in-Bind.counter c.in-Bind.whole c.in-Bind.extent
    c.in-Bind.body c.get-in-Bind.result.now _ _ c.in-Bind.is c.get-in-Bind.ensures c.in_ok-emit_split-in-Bind.ensures.ok

pub emit_statement-returns-in_err-emit_split-in-Bind-clause-err : goal.emit_statement-returns-in_err-emit_split-in-Bind-clause-err
emit_statement-returns-in_err-emit_split-in-Bind-clause-err t c =
    passed-on _ c.from_residual-in_err-emit_split-in-Bind.result c.in_err-emit_split-in-Bind.field-0.0 c.from_residual-in_err-emit_split-in-Bind.ensures.1
    (bind-faulty c.args.site.now.places.now c.args.site.now.scope.now c.args.statement.now c.in-Bind.body c.get-in-Bind.result.now c.in-Bind.counter
    c.in-Bind.whole c.in-Bind.extent _ c.in-Bind.is c.get-in-Bind.ensures) c.in_err-emit_split-in-Bind.ensures.err

-- ---- loops

pub emit_loop-returns-in_ok-emit_iterations-in-None-clause-ok : goal.emit_loop-returns-in_ok-emit_iterations-in-None-clause-ok
emit_loop-returns-in_ok-emit_iterations-in-None-clause-ok t c =
    in-iteration c.args.site.now.places.now c.args.site.now.scope.now c.args.around.now c.args.loop_head.counter c.args.loop_head.count c.args.loop_head.kind c.args.body.now _ _
    (sym c.group_collected.ensures ∙ c.in-None.is) c.in_ok-emit_iterations-in-None.ensures.ok

pub emit_loop-returns-in_err-emit_iterations-in-None-clause-err : goal.emit_loop-returns-in_err-emit_iterations-in-None-clause-err
emit_loop-returns-in_err-emit_iterations-in-None-clause-err t c =
    passed-on _ c.from_residual.result c.in_err-emit_iterations-in-None.field-0.0 c.from_residual.ensures.1
    (any-faulty c.args.site.now.places.now c.args.site.now.scope.now c.args.loop_head.counter c.args.loop_head.count c.args.loop_head.kind c.args.body.now _)
    c.in_err-emit_iterations-in-None.ensures.err

pub emit_loop-emit_collected-requires-clause-one : goal.emit_loop-emit_collected-requires-clause-one
emit_loop-emit_collected-requires-clause-one t c =
    collected-one c.args.loop_head.count c.args.loop_head.kind c.args.body.now c.group_collected.result c.in-Some.group c.group_collected.ensures c.in-Some.is

pub emit_loop-returns-in_ok-emit_collected-in-Some-clause-ok : goal.emit_loop-returns-in_ok-emit_collected-in-Some-clause-ok
emit_loop-returns-in_ok-emit_collected-in-Some-clause-ok t c =
    collected c.args.site.now.places.now c.args.site.now.scope.now c.args.around.now c.args.loop_head.counter c.args.loop_head.count c.args.loop_head.kind c.args.body.now
    c.in-Some.group _ _ (sym c.group_collected.ensures ∙ c.in-Some.is) c.in_ok-emit_collected-in-Some.ensures.ok

pub emit_loop-returns-in_err-emit_collected-in-Some-clause-err : goal.emit_loop-returns-in_err-emit_collected-in-Some-clause-err
emit_loop-returns-in_err-emit_collected-in-Some-clause-err t c =
    let k = is-collected c.args.loop_head.count c.args.loop_head.kind c.args.body.now c.in-Some.group (sym c.group_collected.ensures ∙ c.in-Some.is) in
    passed-on _ c.from_residual-in_err-emit_collected-in-Some.result c.in_err-emit_collected-in-Some.field-0.0
    c.from_residual-in_err-emit_collected-in-Some.ensures.1
    (collected-faulty c.args.site.now.places.now c.args.site.now.scope.now c.args.loop_head.counter c.args.loop_head.count _ c.args.loop_head.kind _ c.args.body.now _
    k.count_is k.kind_is) c.in_err-emit_collected-in-Some.ensures.err

pub emit_iterations-returns-then-bound-eq0-clause-ok : goal.emit_iterations-returns-then-bound-eq0-clause-ok
emit_iterations-returns-then-bound-eq0-clause-ok t c = λ kind plain.
    none-appends c.args.site.now.places.now c.args.site.now.scope.now c.args.around.now c.args.bound.counter c.args.bound.count kind c.args.body.now _
    c.if-bound-eq0.true

pub emit_iterations-returns-clause-ok : goal.emit_iterations-returns-clause-ok
emit_iterations-returns-clause-ok t c =
    loop-appended c.args.site.now.scope.now c.args.around.now c.as_slice-2.result.now c.args.bound.counter c.numbered.result c.args.bound.count c.depth.result _
    c.in_ok-begun.begun c.as_slice.result.now _ _ c.requires c.numbered.ensures c.in_ok-begun.ensures.ok
    (c.in_ok-begun.ensures.plain refl) c.as_slice.ensures.value (c.as_slice-2.ensures.value ∙ c.in_ok-inner.ensures) c.args.site.now.places.now
    c.args.body.now c.len-start.result _ _ (omega arith) refl (c.len-start.ensures ∙ c.begin_loop.new.code.ok.0) c.in_ok-emit_statement.ensures.ok
    c.in_ok-end_loop.ensures.ok

pub emit_iterations-begin_loop-requires-clause-loop_invariant :
    goal.emit_iterations-begin_loop-requires-clause-loop_invariant
emit_iterations-begin_loop-requires-clause-loop_invariant t c =
    ap (λ bound. mentions bound c.args.site.now.scope.now) c.numbered.ensures
    ∙ c.requires.lack (length c.args.around.now) (omega arith)

pub emit_iterations-emit_statement-requires : goal.emit_iterations-emit_statement-requires
emit_iterations-emit_statement-requires t c = (
  omega (arith, c.decreases),
  loop-holds c.args.site.now.scope.now c.args.around.now c.as_slice-2.result.now c.args.bound.counter c.numbered.result c.args.bound.count c.depth.result _
      c.in_ok-begun.begun c.as_slice.result.now _ _ c.requires c.numbered.ensures c.in_ok-begun.ensures.ok
      (c.in_ok-begun.ensures.plain refl) c.as_slice.ensures.value (c.as_slice-2.ensures.value ∙ c.in_ok-inner.ensures),
)

pub emit_iterations-returns-in_err-begun-clause-err : goal.emit_iterations-returns-in_err-begun-clause-err
emit_iterations-returns-in_err-begun-clause-err t c =
    passed-on _ c.from_residual.result c.in_err-begun.field-0.0 c.from_residual.ensures.1
    (loop-full c.args.site.now.places.now c.args.site.now.scope.now c.args.bound.counter c.args.bound.count c.depth.result c.args.body.now _ c.depth.ensures)
    c.in_err-begun.ensures.err

pub emit_iterations-returns-in_err-emit_statement-clause-err : goal.emit_iterations-returns-in_err-emit_statement-clause-err
emit_iterations-returns-in_err-emit_statement-clause-err t c =
    passed-on _ c.from_residual-in_err-emit_statement.result c.in_err-emit_statement.field-0.0 c.from_residual-in_err-emit_statement.ensures.1
    (loop-faulty c.args.site.now.places.now c.args.site.now.scope.now c.args.bound.counter c.args.bound.count c.depth.result c.args.body.now
    c.in_ok-begun.begun.inner.items c.as_slice.result.now _ (omega arith) c.depth.ensures c.in_ok-begun.ensures.ok.left c.as_slice.ensures.value)
    c.in_err-emit_statement.ensures.err

pub emit_iterations-returns-in_err-end_loop-clause-err : goal.emit_iterations-returns-in_err-end_loop-clause-err
emit_iterations-returns-in_err-end_loop-clause-err t c =
    passed-on _ c.from_residual-in_err-end_loop.result c.in_err-end_loop.field-0.0 c.from_residual-in_err-end_loop.ensures.1
    (loop-late c.args.site.now.scope.now c.args.around.now c.as_slice-2.result.now c.args.bound.counter c.numbered.result c.args.bound.count c.depth.result _
    c.in_ok-begun.begun c.as_slice.result.now _ _ c.requires c.numbered.ensures c.in_ok-begun.ensures.ok
    (c.in_ok-begun.ensures.plain refl) c.as_slice.ensures.value (c.as_slice-2.ensures.value ∙ c.in_ok-inner.ensures) c.args.site.now.places.now
    c.args.body.now c.len-start.result _ _ (omega arith) (c.len-start.ensures ∙ c.begin_loop.new.code.ok.0) c.in_ok-emit_statement.ensures.ok)
    c.in_err-end_loop.ensures.err

-- ---- split loops

pub emit_split-returns-clause-ok : goal.emit_split-returns-clause-ok
emit_split-returns-clause-ok t c =
    split-appended c.args.site.now.scope.now c.in_ok-scope.scope.items c.as_slice.result.now c.args.around.now c.as_slice-2.result.now
    c.args.split.counter c.args.split.whole _ _ c.requires c.in_ok-scope.ensures.ok c.as_slice.ensures.value
    (c.as_slice-2.ensures.value ∙ c.in_ok-inner.ensures)
    c.args.site.now.places.now c.args.split.extent c.args.body.now c.numbered-counter.result _ _ _ c.no_words_beside-made.ensures
    c.numbered-counter.ensures c.in_ok-emit_statement.ensures.ok c.in_ok-emit_tested.ensures.ok

pub emit_split-emit_statement-requires : goal.emit_split-emit_statement-requires
emit_split-emit_statement-requires t c = (
  omega (arith, c.decreases),
  split-holds c.args.site.now.scope.now c.in_ok-scope.scope.items c.as_slice.result.now c.args.around.now c.as_slice-2.result.now
      c.args.split.counter c.args.split.whole _ _ c.requires c.in_ok-scope.ensures.ok c.as_slice.ensures.value
      (c.as_slice-2.ensures.value ∙ c.in_ok-inner.ensures),
)

pub emit_split-returns-in_err-scope-clause-err : goal.emit_split-returns-in_err-scope-clause-err
emit_split-returns-in_err-scope-clause-err t c =
    passed-on _ c.from_residual.result c.in_err-scope.field-0.0 c.from_residual.ensures.1
    (split-full c.args.site.now.places.now c.args.site.now.scope.now c.args.split.counter c.args.split.whole c.args.split.extent c.args.body.now _)
    c.in_err-scope.ensures.err

pub emit_split-returns-in_err-emit_statement-clause-err : goal.emit_split-returns-in_err-emit_statement-clause-err
emit_split-returns-in_err-emit_statement-clause-err t c =
    passed-on _ c.from_residual-in_err-emit_statement.result c.in_err-emit_statement.field-0.0 c.from_residual-in_err-emit_statement.ensures.1
    (split-faulty c.args.site.now.places.now c.args.site.now.scope.now c.args.split.counter c.args.split.whole c.args.split.extent c.args.body.now
    c.args.around.now c.in_ok-scope.scope.items c.as_slice.result.now _ _ _ c.in_ok-scope.ensures.ok c.as_slice.ensures.value)
    c.in_err-emit_statement.ensures.err

pub emit_split-returns-in_err-emit_tested-clause-err : goal.emit_split-returns-in_err-emit_tested-clause-err
emit_split-returns-in_err-emit_tested-clause-err t c =
    passed-on _ c.from_residual-in_err-emit_tested.result c.in_err-emit_tested.field-0.0 c.from_residual-in_err-emit_tested.ensures.1
    (split-late c.args.site.now.scope.now c.in_ok-scope.scope.items c.as_slice.result.now c.args.around.now c.as_slice-2.result.now
    c.args.split.counter c.args.split.whole _ _ c.requires c.in_ok-scope.ensures.ok c.as_slice.ensures.value
    (c.as_slice-2.ensures.value ∙ c.in_ok-inner.ensures)
    c.args.site.now.places.now c.args.split.extent c.args.body.now c.numbered-counter.result _ _ _ c.no_words_beside-made.ensures
    c.numbered-counter.ensures c.in_ok-emit_statement.ensures.ok) c.in_err-emit_tested.ensures.err

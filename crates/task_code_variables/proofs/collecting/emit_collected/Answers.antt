use Rattle.std.proofs.Common.{◌∙◌, ap, refl, sym, arith, length}
use Rattle.task_code_registers.specs.Holding.{mentions}
use Rattle.task_code_variables.proofs.Arms.{collected-late, collected-loop, loop-holds}
use Rattle.task_code_variables.proofs.Choosing.{lanes-some}
use Rattle.task_code_variables.proofs.Entering.{variable-low}
use Rattle.task_code_variables.proofs.Fitting.{any-faulty, collected-faulty, loop-faulty, loop-full, passed-on}
use Rattle.task_code_variables.proofs.collecting.emit_collected.Goals as goal

pub begin_loop-requires-clause-loop_invariant : goal.begin_loop-requires-clause-loop_invariant
begin_loop-requires-clause-loop_invariant c =
    ap (λ vector_loop. mentions vector_loop c.args.site.now.scope.now) c.numbered-number.ensures ∙ c.requires.holds.lack (length c.args.around.now) (omega arith)

pub begin_loop-requires-clause-some : goal.begin_loop-requires-clause-some
begin_loop-requires-clause-some c = lanes-some c.args.vector_loop.now.group c.lanes.result c.lanes.ensures

pub collect_pixel-requires-clause-holds : goal.collect_pixel-requires-clause-holds
collect_pixel-requires-clause-holds c =
    loop-holds c.args.site.now.scope.now c.args.around.now c.as_slice-2.result.now c.args.vector_loop.now.counter c.numbered-number.result c.lanes.result c.depth.result
    _ c.in_ok-begun.begun c.as_slice.result.now _ _ c.requires.holds c.numbered-number.ensures c.in_ok-begun.ensures.ok (c.in_ok-begun.ensures.plain refl)
    c.as_slice.ensures.value (c.as_slice-2.ensures.value ∙ c.in_ok-inner.ensures)

pub collect_pixel-requires-clause-low : goal.collect_pixel-requires-clause-low
collect_pixel-requires-clause-low c = variable-low c.as_slice.result.now c.numbered-number.result c.register_of-r.result c.register_of-r.ensures

pub returns-in_err-begun-clause-err : goal.returns-in_err-begun-clause-err
returns-in_err-begun-clause-err c =
    passed-on _ c.from_residual.result c.in_err-begun.field-0.0 c.from_residual.ensures.1
    (λ e. any-faulty c.args.site.now.places.now c.args.site.now.scope.now c.args.vector_loop.now.counter _ _ c.args.vector_loop.now.body.now _
    (loop-full c.args.site.now.places.now c.args.site.now.scope.now c.args.vector_loop.now.counter _ c.depth.result c.args.vector_loop.now.body.now _ c.depth.ensures e))
    c.in_err-begun.ensures.err

pub returns-in_err-collect_pixel-clause-err : goal.returns-in_err-collect_pixel-clause-err
returns-in_err-collect_pixel-clause-err c =
    passed-on _ c.from_residual-in_err-collect_pixel.result c.in_err-collect_pixel.field-0.0 c.from_residual-in_err-collect_pixel.ensures.1
    (λ e. any-faulty c.args.site.now.places.now c.args.site.now.scope.now c.args.vector_loop.now.counter _ _ c.args.vector_loop.now.body.now _
    (loop-faulty c.args.site.now.places.now c.args.site.now.scope.now c.args.vector_loop.now.counter _ c.depth.result c.args.vector_loop.now.body.now
    c.in_ok-begun.begun.inner.items c.as_slice.result.now _ (lanes-some c.args.vector_loop.now.group _ refl) c.depth.ensures c.in_ok-begun.ensures.ok.left
    c.as_slice.ensures.value e))
    c.in_err-collect_pixel.ensures.err

pub returns-in_err-end_loop-clause-err : goal.returns-in_err-end_loop-clause-err
returns-in_err-end_loop-clause-err c =
    passed-on _ c.from_residual-in_err-end_loop.result c.in_err-end_loop.field-0.0 c.from_residual-in_err-end_loop.ensures.1
    (λ e. collected-faulty c.args.site.now.places.now c.args.site.now.scope.now c.args.vector_loop.now.counter _ _ _ _ c.args.vector_loop.now.body.now _
    (sym c.lanes.ensures) refl
    (collected-late c.args.site.now.scope.now c.args.around.now c.as_slice-2.result.now c.args.vector_loop.now.counter c.numbered-number.result c.lanes.result
    c.depth.result _ c.in_ok-begun.begun c.as_slice.result.now _ _ c.requires.holds c.numbered-number.ensures c.in_ok-begun.ensures.ok
    (c.in_ok-begun.ensures.plain refl) c.as_slice.ensures.value (c.as_slice-2.ensures.value ∙ c.in_ok-inner.ensures) c.args.site.now.places.now
    c.args.vector_loop.now.group c.register_of-r.result c.args.vector_loop.now.body.now c.len-start.result _ _ _ (c.len-start.ensures ∙ c.configure_none.new.code.ok.0)
    c.in_ok-collect_pixel.ensures.ok e)) c.in_err-end_loop.ensures.err

pub returns-clause-ok : goal.returns-clause-ok
returns-clause-ok c =
    collected-loop c.args.site.now.scope.now c.args.around.now c.as_slice-2.result.now c.args.vector_loop.now.counter c.numbered-number.result c.lanes.result
    c.depth.result _ c.in_ok-begun.begun c.as_slice.result.now _ _ c.requires.holds c.numbered-number.ensures c.in_ok-begun.ensures.ok
    (c.in_ok-begun.ensures.plain refl) c.as_slice.ensures.value (c.as_slice-2.ensures.value ∙ c.in_ok-inner.ensures) c.args.site.now.places.now
    c.args.vector_loop.now.group c.register_of-r.result c.slot.result c.slot-2.result c.args.vector_loop.now.body.now c.len-start.result _ _ _ _ c.lanes.ensures
    (omega arith) (c.len-start.ensures ∙ c.configure_none.new.code.ok.0)
    c.slot.ensures.0 c.slot-2.ensures.0 c.register_of-r.ensures c.in_ok-configure_none.ensures
    c.in_ok-collect_pixel.ensures.ok c.in_ok-end_loop.ensures.ok c.in_ok-store_at.ensures

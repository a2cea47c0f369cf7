use Rattle.task_code_registers.proofs.Advancing.{advances-none, advance-may, advanced-still, advanced-more}
use Rattle.task_code_registers.proofs.holding.+emit_advance.Goals as goal

pub returns-then-stride-eq0 : goal.returns-then-stride-eq0
returns-then-stride-eq0 t c =
    advanced-still c.args.counter c.args.inner.now c.first-item.result _ c.stride_of-stride.result c.as_slice.result.now c.in-len1-up.len_at_least
    c.first-item.is
    c.stride_of-stride.ensures c.as_slice.ensures _ _ c.if-stride-eq0.true c.in_ok-emit_advance-in-len1-up.ensures

pub returns-in_ok-emit_plus-in-len1-up : goal.returns-in_ok-emit_plus-in-len1-up
returns-in_ok-emit_plus-in-len1-up t c =
    advanced-more c.args.counter c.args.inner.now c.first-item.result _ c.stride_of-stride.result c.as_slice.result.now c.in-len1-up.len_at_least
    c.first-item.is
    c.stride_of-stride.ensures c.as_slice.ensures _ _ _ c.if-stride-eq0.false c.in_ok-emit_advance-in-len1-up.ensures c.in_ok-emit_plus-in-len1-up.ensures.any

pub returns-in-empty : goal.returns-in-empty
returns-in-empty t c = advances-none c.args.counter c.args.inner.now _ _ c.in-empty.len_below

pub emit_plus-requires : goal.emit_plus-requires
emit_plus-requires t c =
    advance-may c.args.counter c.args.inner.now c.first-item.result _ c.stride_of-stride.result c.as_slice.result.now c.in-len1-up.len_at_least c.first-item.is
    c.stride_of-stride.ensures c.as_slice.ensures c.if-stride-eq0.false c.requires

use Rattle.std.proofs.Common.{◌++◌, ◌∙◌, ap, refl}
use Rattle.task_code_registers.specs.Points.{times}
use Rattle.task_code_loops.proofs.Rewriting.{known-term, other-term}
use Rattle.task_code_loops.proofs.known.add_one.Goals as goal

pub returns-in_ok-add_scaled-in-Some : goal.returns-in_ok-add_scaled-in-Some
returns-in_ok-add_scaled-in-Some c = λ values are.
    known-term values c.args.new_sum.now _ c.in-Some.sum.now (values c.args.term.now.counter) c.args.term.now.stride c.multiply-more.result
    (c.in_ok-add_scaled-in-Some.ensures ∙ ap (λ ts. c.args.new_sum.now.terms ++ times c.args.term.now.stride ts) c.as_slice.ensures)
    c.multiply-more.ensures c.add-new_sum.ensures (c.in-Some.ensures values are)

pub returns-in_ok-push-in-None : goal.returns-in_ok-push-in-None
returns-in_ok-push-in-None c = λ values are. other-term values c.args.new_sum.now _ c.args.term.now c.in_ok-push-in-None.ensures.ok refl

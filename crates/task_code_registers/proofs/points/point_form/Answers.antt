use Rattle.std.proofs.Common.{refl, ap, ◌∙◌, ◌++◌}
use Rattle.task_code_registers.specs.Points.{times}
use Rattle.task_code_registers.proofs.Pointing.{point-is}
use Rattle.task_code_registers.proofs.points.point_form.Goals as goal

pub returns : goal.returns
returns c =
    let row = c.multiply-row.result in
    let bytes = c.bytes_of-bytes.result in
    point-is c.args.layout.now c.args.x.now c.args.y.now _ bytes row c.multiply-rows.result c.multiply-columns.result c.add-far.result
    c.bytes_of-bytes.ensures c.multiply-row.ensures
    (
    c.in_ok-add_times-2.ensures
    ∙ ap (λ made. made ++ times bytes c.as_slice-2.result.now)
    (c.in_ok-add_times.ensures ∙ ap (λ none. none ++ times row c.as_slice.result.now) c.in_ok-terms.ensures ∙ ap (times row) c.as_slice.ensures)
    ∙ ap (λ ts. times row c.args.y.now.terms ++ times bytes ts) c.as_slice-2.ensures
    )
    c.multiply-rows.ensures c.multiply-columns.ensures c.add-far.ensures c.add-number.ensures refl

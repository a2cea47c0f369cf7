use Rattle.std.proofs.Common.{◌≡◌, ◌∙◌, ◌≤◌, ◌+◌, ◌*◌, ℕ, List, ◌++◌, min, ap, subst, arith}
use Rattle.halide_pipeline.specs.Words as word
use Rattle.picture.specs.inner.Evaluation.{plane_of}
use Rattle.picture.proofs.Along.{one-more-stretch}
use Rattle.picture_rows.specs.Rows.{AreValues}
use Rattle.picture.proofs.row_values.pixel_row.Goals as goal

pub loop-number-preserved : goal.loop-number-preserved
loop-number-preserved c =
    let plane = plane_of c.args.scene.now c.args.func_index in
    let from = c.loop-number.number * 4096 in
    let low : from ≤ c.args.width = omega arith in
    let here : min from c.args.width ≡ from = omega (arith, low) in
    let are = subst (λ (n : ℕ). AreValues n (λ at. plane (word.add c.args.left at) c.args.y) c.loop-number.pixels.items) here c.loop-number.invariant in
    let more = subst (λ (first : ℕ). AreValues c.min-count.result (λ at. plane (word.add first at) c.args.y) c.in_ok-stretch.stretch.items) c.add-first.ensures
    c.in_ok-stretch.ensures in
    let joined = c.in_ok-extend_from_slice.ensures.items ∙ ap (λ (rest : List ℕ). c.loop-number.pixels.items ++ rest) c.deref.ensures.value in
    let whole : min ((c.loop-number.number + 1) * 4096) c.args.width ≡ from + c.min-count.result = omega (arith, low, c.min-count.ensures) in
    one-more-stretch plane c.args.left c.args.y from c.min-count.result _ c.loop-number.pixels.items c.in_ok-stretch.stretch.items _ are more joined whole

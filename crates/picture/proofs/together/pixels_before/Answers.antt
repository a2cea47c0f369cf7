use Rattle.std.proofs.Common.{◌≡◌, ℕ, length, ap, subst, arith, rules}
use Rattle.picture.specs.inner.Evaluation.{ArePixels}
use Rattle.picture.specs.inner.Together.{after_points}
use Rattle.picture.proofs.SideBySide.{begins}
use Rattle.picture.proofs.StoresApart.{no-lines, one-more-line}
use Rattle.picture.proofs.together.pixels_before.Goals as goal

pub loop-row-init : goal.loop-row-init
loop-row-init c =
    let bounds = c.args.bounds in
    no-lines (after_points c.args.scene.now c.args.pass 0) bounds.left bounds.top bounds.width c.args.pitch c.in_ok-pixels.pixels.items
    (ap length c.in_ok-pixels.ensures.items) c.requires.pitch

pub loop-row-preserved : goal.loop-row-preserved
loop-row-preserved c =
    let bounds = c.args.bounds in
    one-more-line (after_points c.args.scene.now c.args.pass 0) bounds.left bounds.top bounds.width c.args.pitch c.loop-row.row c.loop-row.pixels.items
    c.in_ok-row.row.items c.in_ok-gap.gap.items _ c.loop-row.invariant
    (begins c.args.scene.now c.args.pass bounds.left bounds.top bounds.width c.loop-row.row c.add.result c.in_ok-row.row.items c.add.ensures
    c.in_ok-row.ensures)
    (omega (arith, c.in_ok-gap.ensures.len, c.in_ok-gap.gap.ok, c.requires.pitch)) (search rules)

pub returns : goal.returns
returns c =
    let bounds = c.args.bounds in
    let whole : c.loop-row.row ≡ bounds.height = omega arith in
    subst (λ (n : ℕ). ArePixels (after_points c.args.scene.now c.args.pass 0) bounds.left bounds.top bounds.width c.args.pitch n c.loop-row.pixels.items) whole
    c.loop-row.invariant

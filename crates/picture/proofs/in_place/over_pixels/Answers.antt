use Rattle.std.proofs.Common.{◌≡◌, ℕ, List, length, refl, sym, ap, subst, ◌∙◌, arith}
use Rattle.halide_pipeline.specs.Pixel.{after}
use Rattle.picture.specs.inner.Evaluation.{inputs_of, earlier_of}
use Rattle.picture.specs.inner.PixelRows.{IsRowOf}
use Rattle.picture.proofs.PixelRows.{not-begun, one-point-more}
use Rattle.picture.proofs.in_place.over_pixels.Goals as goal

pub loop-number-init : goal.loop-number-init
loop-number-init c = record {
  long = c.requires.long;
  run = λ plane is. not-begun c.args.scene.now c.args.func_index c.args.update.now plane c.args.stretch c.args.before.items c.args.before.items refl is;
}

pub next_row-requires-clause-long : goal.next_row-requires-clause-long
next_row-requires-clause-long c = ap length c.deref.ensures.value ∙ c.loop-number.invariant.long

pub loop-number-preserved : goal.loop-number-preserved
loop-number-preserved c = record {
  long = rw c.in-Some.is at c.in_ok-next.ensures.len;
  run = λ plane is.
      let now = after c.args.func_index c.args.update.now (inputs_of c.args.scene.now) (earlier_of c.args.scene.now c.args.func_index) plane c.loop-number.number in
      let before = subst (λ (items : List ℕ). IsRowOf now c.args.stretch items) (sym c.deref.ensures.value) (c.loop-number.invariant.run plane is) in
      one-point-more c.args.scene.now c.args.func_index c.args.update.now plane c.args.stretch c.loop-number.number c.in-Some.next.items c.requires.everywhere
      (rw c.in-Some.is at (c.in_ok-next.ensures.values now before));
}

pub returns : goal.returns
returns c = λ plane is.
    let all = c.loop-number-test.false in
    let within = c.loop-number.auto.number-end in
    let so_many : c.loop-number.number ≡ c.points-number-end.result = omega (arith, all, within) in
    subst (λ (n : ℕ). IsRowOf (after c.args.func_index c.args.update.now (inputs_of c.args.scene.now) (earlier_of c.args.scene.now c.args.func_index) plane n) c.args.stretch
    c.loop-number.pixels.items)
    (so_many ∙ c.points-number-end.ensures.value) (c.loop-number.invariant.run plane is)

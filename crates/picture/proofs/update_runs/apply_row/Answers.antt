use Rattle.std.proofs.Common.{◌≡◌, ◌∙◌, ℕ, ◌+◌, refl, ap, subst, arith}
use Rattle.halide_pipeline.specs.Pixel.{at_reduction}
use Rattle.picture.specs.inner.Evaluation.{IsForward}
use Rattle.picture.proofs.AlongUpdates.{one-store-more, still-of}
use Rattle.picture.proofs.update_runs.apply_row.Goals as goal

pub loop-at-init : goal.loop-at-init
loop-at-init c =
    let none : c.args.first ≡ c.args.first + 0 = omega arith in
    record {
      of = c.requires.of;
      run = subst (λ (n : ℕ). IsForward c.args.scene.now c.args.pass.own c.args.pass.updates n c.args.slice.now) none c.requires.run;
      x = refl;
      y = refl;
    }

pub store_at-requires-clause-slice : goal.store_at-requires-clause-slice
store_at-requires-clause-slice c =
    let here : c.args.first + c.loop-at.at ≡ c.args.first + c.from.result = omega (arith, c.from.ensures) in
    subst (λ (n : ℕ). IsForward c.args.scene.now c.args.pass.own c.args.pass.updates n c.loop-at.slice) here c.loop-at.invariant.run

pub store_at-requires-clause-point : goal.store_at-requires-clause-point
store_at-requires-clause-point c =
    let update = c.args.pass.update.now in
    let here : c.args.first + c.from.result ≡ c.args.first + c.loop-at.at = omega (arith, c.from.ensures) in
    ap (λ (n : ℕ). at_reduction update n c.loop-at.slice.x c.loop-at.slice.y) here
    ∙ ap (λ (n : ℕ). at_reduction update (c.args.first + c.loop-at.at) n c.loop-at.slice.y) c.loop-at.invariant.x
    ∙ ap (λ (n : ℕ). at_reduction update (c.args.first + c.loop-at.at) c.args.slice.now.x n) c.loop-at.invariant.y
    ∙ c.requires.points c.loop-at.at (omega arith)

pub loop-at-preserved : goal.loop-at-preserved
loop-at-preserved c =
    let number = c.args.first + c.from.result in
    let here : c.args.first + c.loop-at.at ≡ number = omega (arith, c.from.ensures) in
    let on : number + 1 ≡ c.args.first + (c.loop-at.at + 1) = omega (arith, c.from.ensures) in
    let run = subst (λ (n : ℕ). IsForward c.args.scene.now c.args.pass.own c.args.pass.updates n c.loop-at.slice) here c.loop-at.invariant.run in
    record {
      of = still-of c.args.pass.update.now c.loop-at.slice c.put.new.slice c.loop-at.invariant.of c.in_ok-put.ensures.place;
      run = subst (λ (n : ℕ). IsForward c.args.scene.now c.args.pass.own c.args.pass.updates n c.put.new.slice) on
          (one-store-more c.args.scene.now c.args.pass.own c.args.pass.func.now c.args.pass.update.now c.args.pass.updates number c.loop-at.slice
          c.put.new.slice c.in_ok-store.store
          c.requires.pass.is c.requires.pass.next c.requires.forward c.loop-at.invariant.of c.in_ok-store.ensures c.in_ok-put.ensures run);
      x = c.in_ok-put.ensures.place.x ∙ c.loop-at.invariant.x;
      y = c.in_ok-put.ensures.place.y ∙ c.loop-at.invariant.y;
    }

pub returns-clause-of : goal.returns-clause-of
returns-clause-of c = c.loop-at.invariant.of

pub returns-clause-run : goal.returns-clause-run
returns-clause-run c =
    let whole : c.args.first + c.loop-at.at ≡ c.args.first + c.args.pass.update.now.first.extent = omega arith in
    subst (λ (n : ℕ). IsForward c.args.scene.now c.args.pass.own c.args.pass.updates n c.loop-at.slice) whole c.loop-at.invariant.run

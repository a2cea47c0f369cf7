use denote.Param.Send.{sendable}
use Rattle.std.proofs.Crossing.{crosses}
use Rattle.rayon.proofs.iter.map.Map.TheSendSync as maps
use Rattle.rayon.proofs.range.Iter.TheSendSync as ranges
use Rattle.std.proofs.Common.{ℕ, subst}
use Rattle.std.specs.Prelude.{IfOk}
use Rattle.std.specs.List.{AllZip}
use Rattle.picture.specs.declared.boxes.Slices.{Slices}
use Rattle.picture.specs.declared.scenes.Pass.{Pass}
use Rattle.picture.specs.declared.scenes.Scene.{Scene}
use Rattle.picture.specs.declared.scenes.Slice.{Slice}
use Rattle.picture.specs.inner.Evaluation.{IsSliceOf}
use Rattle.picture.proofs.boxes.Slices.TheSendSync as area
use Rattle.picture.proofs.Shared.{shares}
use Rattle.picture.proofs.Fills.{collected, slices_collected}
use Rattle.picture.proofs.beforehand.run_slices.Goals as goal

pub returns : goal.returns
returns g c =
    let chain = c.in_ok-slices.ensures.1 in
    let scene = c.args.scene.now in
    let R : ℕ → Slice → Type 0 = λ at slice. IsSliceOf scene.funcs.now scene.pictures.now c.args.pass.own c.args.pass.updates slice in
    let zip = subst (λ (f : Scene × Pass × Slices). AllZip (λ at r. IfOk r (λ slice. IsSliceOf f.0.funcs.now f.0.pictures.now f.1.own f.1.updates slice))
    chain.0 c.in_ok-slices.ensures.0) c.map.ensures.f chain.2 in
    slices_collected scene.funcs.now scene.pictures.now c.args.pass.own c.args.pass.updates chain.0 c.in_ok-slices.slices
    (collected R chain.0 c.in_ok-slices.ensures.0 c.in_ok-slices.slices c.in_ok-slices.ensures.2 zip)

pub map-requires-send-F : goal.map-requires-send-F
map-requires-send-F g c κs within = search (shares, area.the_send, crosses, sendable) depth 20

pub map-requires-sync-F : goal.map-requires-sync-F
map-requires-sync-F g c κs within = search (shares, area.the_sync, crosses, sendable) depth 20

pub collect-requires-send-Self : goal.collect-requires-send-Self
collect-requires-send-Self g c κs within = search (shares, area.the_send, maps.the_send, ranges.the_send, crosses, sendable) depth 20

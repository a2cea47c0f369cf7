use denote.Param.Send.{sendable}
use Rattle.std.proofs.Crossing.{crosses}
use Rattle.rayon.proofs.iter.map.Map.TheSendSync as maps
use Rattle.rayon.proofs.range.Iter.TheSendSync as ranges
use Rattle.std.proofs.Common.{◌+◌, ℕ, subst}
use Rattle.std.specs.Prelude.{IfOk}
use Rattle.std.specs.List.{AllZip}
use Rattle.picture.specs.declared.boxes.TableBounds.{TableBounds}
use Rattle.picture.specs.declared.lines.Along.{Along}
use Rattle.picture.specs.declared.scenes.Pass.{Pass}
use Rattle.picture.specs.declared.scenes.Scene.{Scene}
use Rattle.picture.specs.declared.scenes.Table.{Table}
use Rattle.picture.specs.inner.Evaluation.{stage_in, IsTable}
use Rattle.picture.proofs.boxes.TableBounds.TheSendSync as area
use Rattle.picture.proofs.lines.Along.TheSendSync as along
use Rattle.picture.proofs.Shared.{shares}
use Rattle.picture.proofs.Fills.{collected, boxes_collected}
use Rattle.picture.proofs.beforehand.run_boxes.Goals as goal

pub returns : goal.returns
returns g c =
    let chain = c.in_ok-boxes.ensures.1 in
    let scene = c.args.scene.now in
    let plane = stage_in scene.funcs.now scene.pictures.now c.args.pass.own (c.args.pass.updates + 1) in
    let R : ℕ → Table → Type 0 = λ at table. IsTable plane table in
    let zip = subst (λ (f : Scene × Pass × Along × TableBounds). AllZip (λ at r. IfOk r (λ table. IsTable (stage_in f.0.funcs.now f.0.pictures.now f.1.own
    (f.1.updates + 1)) table)) chain.0 c.in_ok-boxes.ensures.0) c.map.ensures.f chain.2 in
    boxes_collected plane chain.0 c.in_ok-boxes.boxes (collected R chain.0 c.in_ok-boxes.ensures.0 c.in_ok-boxes.boxes c.in_ok-boxes.ensures.2 zip)

pub map-requires-send-F : goal.map-requires-send-F
map-requires-send-F g c κs within = search (shares, area.the_send, along.the_send, crosses, sendable) depth 20

pub map-requires-sync-F : goal.map-requires-sync-F
map-requires-sync-F g c κs within = search (shares, area.the_sync, along.the_sync, crosses, sendable) depth 20

pub collect-requires-send-Self : goal.collect-requires-send-Self
collect-requires-send-Self g c κs within = search (shares, area.the_send, along.the_send, maps.the_send, ranges.the_send, crosses, sendable) depth 20

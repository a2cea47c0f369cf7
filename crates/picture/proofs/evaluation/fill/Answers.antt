use denote.Param.Send.{sendable}
use Rattle.std.proofs.Crossing.{crosses}
use Rattle.rayon.proofs.iter.map.Map.TheSendSync as maps
use Rattle.rayon.proofs.range.Iter.TheSendSync as ranges
use Rattle.std.proofs.Common.{◌≡◌, ℕ, ◌-◌, ◌∙◌, Vec, ap, subst, arith}
use Rattle.std.specs.Prelude.{IfOk}
use Rattle.std.specs.List.{AllZip, range_with_len}
use Rattle.std.specs.declared.alloc.Global.{Global}
use Rattle.rayon.specs.Numbers.{nat_range}
use Rattle.picture.specs.declared.boxes.TableBounds.{TableBounds}
use Rattle.picture.specs.declared.scenes.Scene.{Scene}
use Rattle.picture.specs.inner.Evaluation.{plane_of, IsNumberedRow}
use Rattle.picture.proofs.boxes.TableBounds.TheSendSync as area
use Rattle.picture.proofs.Shared.{shares}
use Rattle.picture.proofs.Fills.{collected}
use Rattle.picture.proofs.evaluation.fill.Goals as goal

pub returns : goal.returns
returns g c =
    let bounds = c.args.bounds in
    let whole : bounds.height - 0 ≡ bounds.height = omega arith in
    let ends = c.into_par_iter.ensures in
    let chain = c.in_ok-rows.ensures.1 in
    let R : ℕ → Vec ℕ Global → Type 0 = λ number row. IsNumberedRow (plane_of c.args.scene.now c.args.func_index) bounds.left bounds.top bounds.width number
    row.items in
    let zip = subst (λ (f : Scene × ℕ × TableBounds). AllZip (λ number r. IfOk r (λ row. IsNumberedRow (plane_of f.0 f.1) f.2.left f.2.top f.2.width number
    row.items)) chain.0 c.in_ok-rows.ensures.0) c.map.ensures.f chain.2 in
    let places : chain.0 ≡ range_with_len 0 bounds.height = chain.1 ∙ (λ i. nat_range (c.map.ensures.base i).start (c.map.ensures.base i).end)
    ∙ (λ i. nat_range (ends.0 i) (ends.1 i)) ∙ ap (range_with_len 0) whole in
    subst (λ places. IfOk c.in_ok-rows.rows (λ v. AllZip R places v.items)) places (collected R chain.0 c.in_ok-rows.ensures.0 c.in_ok-rows.rows
    c.in_ok-rows.ensures.2 zip)

pub collect-requires-send-Self : goal.collect-requires-send-Self
collect-requires-send-Self g c κs within = search (shares, area.the_send, maps.the_send, ranges.the_send, crosses, sendable) depth 20

pub map-requires-send-F : goal.map-requires-send-F
map-requires-send-F g c κs = search (shares, area.the_send, crosses, sendable) depth 20

pub map-requires-sync-F : goal.map-requires-sync-F
map-requires-sync-F g c κs = search (shares, area.the_sync, crosses, sendable) depth 20

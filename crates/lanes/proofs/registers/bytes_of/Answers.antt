use Rattle.std.proofs.Common.{arith, ◌≡◌, ◌<◌, ◌*◌, ◌/◌, ◌+◌, ◌≤◌, ◌∙◌, ap, sym, subst, length, map}
use Rattle.std.proofs.Math.Nat.{le_refl}
use Rattle.std.proofs.lemmas.List.{length-map, get_or-map}
use Rattle.std.proofs.lemmas.Nat.{row_fits}
use Rattle.lanes.proofs.Bytes.{bytes_fill, written_more, written_all}
use Rattle.lanes.proofs.registers.bytes_of.Goals as goal

pub loop-index-preserved : goal.loop-index-preserved
loop-index-preserved g c =
    let number = g.K.LaneKind.number in
    let size = g.K.LaneKind.width / 8 in
    let fill : g.row.N * size ≡ 16 = bytes_fill g.row.N g.K.LaneKind.width g.met.K.LaneKind.is_width c.requires in
    let room : c.loop-index.index * size + size ≤ 16 = subst (λ n. c.loop-index.index * size + size ≤ n) fill (row_fits c.loop-index.index size g.row.N size
    c.loop-index-test.true (le_refl size)) in
    let there : c.loop-index.index < length c.args.elements.now = omega arith in
    record {
      count = c.write.array_long;
      so_far = written_more g.K.LaneKind.width c.loop-index.register c.write.new.register c.loop-index.index _ (map number c.args.elements.now)
          (omega arith) (simp length-map there)
          (sym (get_or-map number c.args.elements.now c.loop-index.index _ 0 there)) c.write.ensures c.loop-index.invariant.so_far;
    }

pub returns : goal.returns
returns g c =
    let number = g.K.LaneKind.number in
    let size = g.K.LaneKind.width / 8 in
    let fill : g.row.N * size ≡ 16 = bytes_fill g.row.N g.K.LaneKind.width g.met.K.LaneKind.is_width c.requires in
    let all : c.loop-index.index ≡ g.row.N = omega arith in
    written_all g.K.LaneKind.width c.loop-index.register c.loop-index.index (map number c.args.elements.now) c.loop-index.invariant.count
    (ap (λ n. n * size) all ∙ fill) (simp length-map (omega arith)) c.loop-index.invariant.so_far

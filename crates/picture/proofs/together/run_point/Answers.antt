use Rattle.std.proofs.Common.{refl, arith}
use Rattle.picture.specs.inner.Together.{after_points}
use Rattle.picture.proofs.SideBySide.{one-point-on}
use Rattle.picture.proofs.together.run_point.Goals as goal

pub store_row-requires-clause-line : goal.store_row-requires-clause-line
store_row-requires-clause-line c = (after_points c.args.scene.now c.args.pass c.args.number, c.requires.table)

pub returns : goal.returns
returns c = record {
  table = λ done.
      one-point-on c.args.scene.now c.args.pass c.args.along _ c.args.number c.args.table.now c.store_all.new.table c.in-Some.row c.requires.side refl
      c.side_length-width.ensures c.at_reduction.ensures (omega arith)
      (rw c.in-Some.is at c.in_ok-row.ensures) c.requires.table c.store_all.ensures.bounds (c.store_all.ensures.table (after_points c.args.scene.now c.args.pass
      c.args.number) c.requires.table);
}

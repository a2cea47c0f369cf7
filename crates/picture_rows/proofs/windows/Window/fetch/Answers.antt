use Rattle.std.proofs.Common.{arith}
use Rattle.picture_rows.proofs.Columns.{fetched}
use Rattle.picture_rows.proofs.windows.Window.fetch.Goals as goal

pub returns : goal.returns
returns c says is = fetched says c.args.self.now _ _ is (omega arith) c.requires (record {
  len = omega (arith, c.loop-at.invariant.len);
  each =
      λ at less. c.loop-at.invariant.done at (omega arith);
})

use Rattle.std.proofs.Common.{arith}
use Rattle.picture.proofs.Measures.{in_updates}
use Rattle.picture.proofs.update_runs.point_store.Goals as goal

pub value-requires-clause-short : goal.value-requires-clause-short
value-requires-clause-short c = omega (
  arith,
  in_updates c.args.scene.now.funcs.now c.args.pass.own c.args.pass.updates c.args.pass.func.now
      c.args.pass.update.now c.requires.pass.is c.requires.pass.next,
)

pub index_value-requires-clause-short : goal.index_value-requires-clause-short
index_value-requires-clause-short c = omega (
  arith,
  in_updates c.args.scene.now.funcs.now c.args.pass.own c.args.pass.updates c.args.pass.func.now
      c.args.pass.update.now c.requires.pass.is c.requires.pass.next,
)

pub value-requires-2-clause-short : goal.value-requires-2-clause-short
value-requires-2-clause-short c = omega (
  arith,
  in_updates c.args.scene.now.funcs.now c.args.pass.own c.args.pass.updates c.args.pass.func.now
      c.args.pass.update.now c.requires.pass.is c.requires.pass.next,
)

use Rattle.std.proofs.Common.{refl}
use Rattle.task_code_statements.proofs.making.unclamped_store.Goals as goal

pub returns : goal.returns
returns c =
    let x = c.in_ok-x.ensures in
    let y = c.in_ok-y.ensures in
    let value = c.in_ok-value.ensures in
    record {
      middle = record { func = c.args.store.now.func; x = x.middle; y = y.middle; value = value.middle };
      by_others = record { func_is = refl; column = x.by_others; row = y.by_others; pixel = value.by_others };
      without_clamps = record { func_is = refl; column = x.ranged.same; row = y.ranged.same; pixel = value.ranged.same };
    }

use Rattle.std.proofs.Common.{◌≡◌, ℕ, refl, subst, ◌∙◌, arith}
use Rattle.picture.specs.inner.Evaluation.{IsTable}
use Rattle.picture.specs.inner.Together.{with_stores}
use Rattle.picture.proofs.SideBySide.{no-store, store-more}
use Rattle.picture.proofs.together.store_each.Goals as goal

pub loop-at-init : goal.loop-at-init
loop-at-init c = record {
  table = λ plane is. no-store c.args.row.now plane c.args.table.now is;
  bounds = record { left_is = refl; top_is = refl; width_is = refl; height_is = refl };
}

pub loop-at-preserved : goal.loop-at-preserved
loop-at-preserved c = record {
  table = λ plane is.
      store-more c.args.row.now c.loop-at.at c.value_at-x.result c.value_at-y.result c.value_at.result plane _ c.value_at-x.ensures c.value_at-y.ensures
      c.value_at.ensures
      (c.put.ensures.table (with_stores c.args.row.now c.loop-at.at plane) (c.loop-at.invariant.table plane is));
  bounds = record {
    left_is = c.put.ensures.bounds.left_is ∙ c.loop-at.invariant.bounds.left_is;
    top_is = c.put.ensures.bounds.top_is ∙ c.loop-at.invariant.bounds.top_is;
    width_is = c.put.ensures.bounds.width_is ∙ c.loop-at.invariant.bounds.width_is;
    height_is = c.put.ensures.bounds.height_is ∙ c.loop-at.invariant.bounds.height_is;
  };
}

pub returns-clause-table : goal.returns-clause-table
returns-clause-table c = λ plane is.
    let whole : c.loop-at.at ≡ c.args.width = omega arith in
    subst (λ (n : ℕ). IsTable (with_stores c.args.row.now n plane) c.loop-at.table) whole (c.loop-at.invariant.table plane is)

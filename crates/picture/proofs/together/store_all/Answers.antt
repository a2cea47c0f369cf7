use Rattle.std.proofs.Common.{length, ap, ◌∙◌}
use Rattle.picture.proofs.together.store_all.Goals as goal

pub store_beside-requires-clause-long : goal.store_beside-requires-clause-long
store_beside-requires-clause-long c = ap length c.deref.ensures.value ∙ (rw c.in-Step-Same-Each.is-2 at c.requires.value)

pub store_below-requires-clause-long : goal.store_below-requires-clause-long
store_below-requires-clause-long c = ap length c.deref-in-Same-Step-Each.ensures.value ∙ (rw c.in-Same-Step-Each.is-2 at c.requires.value)

use Rattle.std.proofs.Common.{arith}
use Rattle.picture.proofs.StoresApart.{last-within}
use Rattle.picture.proofs.apart.has_words.Goals as goal

pub returns : goal.returns
returns c = λ is at less.
    last-within c.args.len c.args.from c.args.apart c.args.count at c.product-last.result less (omega (arith, c.product-last.ensures.value)) (omega arith)

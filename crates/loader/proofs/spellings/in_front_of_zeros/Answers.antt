use Rattle.std.proofs.Common.{◌∙◌, arith, sym}
use Rattle.loader.proofs.Trims.{eight_behind}
use Rattle.loader.proofs.spellings.in_front_of_zeros.Goals as goal

pub returns-then-from_le_bytes-eq0-clause-same : goal.returns-then-from_le_bytes-eq0-clause-same
returns-then-from_le_bytes-eq0-clause-same c =
    eight_behind c.args.bytes.now c.in_ok-front.front.now c.in_ok-front.last.now (λ i. omega (arith, c.type_inv.bytes i))
    c.in_ok-front.ensures.cases (sym c.from_le_bytes.ensures ∙ c.if-from_le_bytes-eq0.true)

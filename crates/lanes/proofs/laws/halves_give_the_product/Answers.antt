use Rattle.lanes.proofs.Products.{unsigned_halves, signed_halves, mixed_halves}
use Rattle.lanes.proofs.laws.halves_give_the_product.Goals as goal

pub returns : goal.returns
returns c = record {
  unsigned = λ w a b width p q. unsigned_halves w a b;
  signed = signed_halves;
  mixed = mixed_halves;
}

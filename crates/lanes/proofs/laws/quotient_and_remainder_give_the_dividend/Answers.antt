use Rattle.lanes.proofs.Products.{signed_give, unsigned_give}
use Rattle.lanes.proofs.laws.quotient_and_remainder_give_the_dividend.Goals as goal

pub returns : goal.returns
returns c = record {
  unsigned = λ w a b width p q. unsigned_give w a b p;
  signed = signed_give;
}

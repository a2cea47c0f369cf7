-- A product with the other judgements of its line.
use Rattle.std.proofs.Common.{◌≡◌, Result, Ok, Err, sym, ap, ◌∙◌}
use Rattle.assembler.specs.Faults.{both, lesser}
use Rattle.assembler.specs.Judging.{Given}
use Rattle.assembler.specs.Lines.{with_others}
use Rattle.assembler.specs.Products.{Performs}
use Rattle.assembler.specs.declared.faults.AsmFault.{AsmFault}
use Rattle.assembler.specs.declared.products.LineProduct.{LineProduct}

-- both judgements hold
pub both_hold : (given : Result Given AsmFault) (product : Result LineProduct AsmFault) (others : Result (Unit {0} × Unit {0}) AsmFault) (found : LineProduct
    × (Unit {0} × Unit {0}))
    → both product others ≡ Ok found → Performs given product → Performs (with_others given others) (Ok found.0)
both_hold (Ok g) (Ok p) (Ok o) found is performs = let same : (p, o) ≡ found = cc in rw (sym (ap (λ (x : LineProduct × (Unit {0} × Unit {0})). x.0) same)) performs
both_hold (Ok g) (Ok p) (Err f) found is performs = absurd cc
both_hold (Ok g) (Err f) others found is performs = elim performs [ ]
both_hold (Err w) (Ok p) others found is performs = elim performs [ ]
both_hold (Err w) (Err f) (Ok o) found is performs = absurd cc
both_hold (Err w) (Err f) (Err g) found is performs = absurd cc

-- one has a fault
pub one_fails : (given : Result Given AsmFault) (product : Result LineProduct AsmFault) (others : Result (Unit {0} × Unit {0}) AsmFault) (fault : AsmFault)
    → both product others ≡ Err fault → Performs given product → Performs (with_others given others) (Err fault)
one_fails (Ok g) (Ok p) (Ok o) fault is performs = absurd cc
one_fails (Ok g) (Ok p) (Err f) fault is performs = cc
one_fails (Ok g) (Err f) others fault is performs = elim performs [ ]
one_fails (Err w) (Ok p) others fault is performs = elim performs [ ]
one_fails (Err w) (Err f) (Ok o) fault is performs = let same : f ≡ fault = cc in sym same ∙ performs
one_fails (Err w) (Err f) (Err g) fault is performs = let same : lesser f g ≡ fault = cc in sym same ∙ ap (λ x. lesser x g) performs

use Rattle.std.proofs.Common.{◌≡◌, ℕ, ◌+◌, ◌*◌, length, get_or, refl, subst, ◌∙◌, arith}
use Rattle.std.proofs.lemmas.List.{length-set}
use Rattle.picture.specs.inner.Apart.{stored}
use Rattle.picture.proofs.StoresApart.{none-stored, one-more-store}
use Rattle.picture.proofs.apart.store_apart.Goals as goal

pub loop-at-init : goal.loop-at-init
loop-at-init c = record {
  len = refl;
  is = none-stored c.args.values.now c.args.from c.args.apart c.args.words.now;
}

pub loop-at-preserved : goal.loop-at-preserved
loop-at-preserved c =
    let own = c.loop-at in
    record {
      len = length-set own.words (c.args.from + own.at * c.args.apart) (get_or c.args.values.now own.at 0) ∙ own.invariant.len;
      is = one-more-store c.args.values.now c.args.from c.args.apart own.at c.args.words.now own.words _ own.invariant.is refl;
    }

pub returns : goal.returns
returns c =
    let whole : c.loop-at.at ≡ length c.args.values.now = omega arith in
    subst (λ (n : ℕ). c.loop-at.words ≡ stored c.args.values.now c.args.from c.args.apart n c.args.words.now) whole c.loop-at.invariant.is

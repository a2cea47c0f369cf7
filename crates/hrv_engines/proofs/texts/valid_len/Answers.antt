use Rattle.std.proofs.Common.{arith, subst, sym}
use Rattle.hrv_engines.specs.inner.Fronts.{IsLongestText}
use Rattle.hrv_engines.proofs.texts.valid_len.Goals as goal

pub returns-in-Err : goal.returns-in-Err
returns-in-Err c =
    let valid = c.in-Err.ensures.cases.1 in
    subst (λ count. IsLongestText c.args.bytes.now count) (sym c.valid_up_to.ensures) (record {
      within = omega (arith, valid.short);
      front = valid.front;
      longest = λ more past le. valid.longest more past;
    })

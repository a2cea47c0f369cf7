use Rattle.std.proofs.Common.{◌-◌, arith, sym, ap, ◌∙◌, take_all, length}
use Rattle.std.proofs.lemmas.List.{length-take-le}
use Rattle.loader.specs.Spelling.{trimmed}
use Rattle.loader.proofs.Trims.{zero_stepped, other_before}
use Rattle.loader.proofs.spellings.trimmed.Goals as goal

pub loop-kept-preserved : goal.loop-kept-preserved
loop-kept-preserved c =
    let kept = c.loop-kept.kept.now in
    let n = length kept in
    record {
      within = omega (arith, length-take-le (n - 1) kept (omega arith), c.loop-kept.invariant.within);
      same = zero_stepped kept (n - 1) n (omega (arith, c.in-len1-up.len_at_least)) (omega arith) c.if-last-eq0.true
          ∙ (ap trimmed (take_all n kept (omega arith)) ∙ c.loop-kept.invariant.same);
    }

pub returns-else-last-eq0-clause-value : goal.returns-else-last-eq0-clause-value
returns-else-last-eq0-clause-value c =
    let kept = c.loop-kept.kept.now in
    let n = length kept in
    let whole = take_all n kept (omega arith) in
    sym whole ∙ (sym (other_before kept n (omega (arith, c.in-len1-up.len_at_least)) (omega arith) c.if-last-eq0.false)
    ∙ (ap trimmed whole ∙ c.loop-kept.invariant.same))

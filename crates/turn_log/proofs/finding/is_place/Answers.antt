use Rattle.std.proofs.Common.{◌-◌, ltb-true, leb-true, ap, sym, arith}
use Rattle.turn_log.specs.inner.RunEnds.{RunEnd}
use Rattle.turn_log.proofs.KeptLaws.{point-at, same_at}
use Rattle.turn_log.proofs.finding.is_place.Goals as goal

pub returns-then-place-eq0 : goal.returns-then-place-eq0
returns-then-place-eq0 c = λ _.
    let lookup = c.in-Some.ensures.lookup in
    let run = c.in-Some.run'.now in
    let here = ap (λ (r : RunEnd). r.end) lookup.1 in
    point-at c.args.runs.now c.args.k c.args.place run c.requires (ltb-true _ _ (sym lookup.0)) (omega (arith, here, c.end.ensures, c.if-k-end.false))
    (λ j lt. absurd (omega (arith, lt, c.if-place-eq0.true)))

pub returns-else-place-eq0 : goal.returns-else-place-eq0
returns-else-place-eq0 c = λ before.
    let lookup = c.in-Some.ensures.lookup in
    let run = c.in-Some.run'.now in
    let here = ap (λ (r : RunEnd). r.end) lookup.1 in
    let within = ltb-true _ _ (sym lookup.0) in
    let ends = leb-true _ _ before in
    let there = ap (λ (r : RunEnd). r.end) (c.index-runs-place.is) in
    point-at c.args.runs.now c.args.k c.args.place run c.requires within (omega (arith, here, c.end.ensures, c.if-k-end.false))
    (λ j lt.
    let same = ap (λ (r : RunEnd). r.end) (same_at c.args.runs.now (c.args.place - 1) run c.index-runs-place.result (omega (arith, within))) in
    omega (arith, ends, there, same, c.end-else-place-eq0.ensures))

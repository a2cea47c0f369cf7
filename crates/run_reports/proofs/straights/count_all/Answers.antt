use Rattle.std.proofs.Common.{◌≡◌, ◌+◌, ◌-◌, ℕ, subst, arith, length}
use Rattle.std.proofs.lemmas.Option.{slice_get-get_or}
use Rattle.run_reports.specs.inner.Straight.{AreStraight}
use Rattle.run_reports.proofs.Straight.{none_straight, set_count}
use Rattle.run_reports.proofs.straights.count_all.Goals as goal

pub words-init : goal.words-init
words-init c = record {
  within = omega arith;
  next = none_straight c.args.words.now (length c.args.words.now);
  are = c.requires;
}

pub words-preserved : goal.words-preserved
words-preserved c =
    let words = c.args.words.now in
    let inv = c.words.invariant in
    let some = c.words-test.true in
    let within = inv.within in
    let size = inv.are.as_many in
    let place : ℕ = c.words.at - 1 in
    let same : c.words.at ≡ place + 1 = omega arith in
    let behind = subst (λ (n : ℕ). AreStraight words n c.words.next) same inv.next in
    let next = c.count_from-next.ensures.straight words place (slice_get-get_or words place 0 (omega arith)) behind in
    record {
      within = omega arith;
      next = next;
      are = set_count words c.words.counts place c.count_from-next.result (omega arith) c.count_from-next.ensures.some inv.are next;
    }

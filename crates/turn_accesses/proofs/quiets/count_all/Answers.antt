use Rattle.std.proofs.Common.{◌≡◌, ◌∙◌, ◌+◌, ◌-◌, ℕ, length-set, subst, arith}
use Rattle.std.proofs.lemmas.Option.{slice_get-get_or}
use Rattle.turn_accesses.specs.Quiet.{AreQuiet}
use Rattle.turn_accesses.proofs.Counting.{set_count}
use Rattle.turn_accesses.proofs.quiets.count_all.Goals as goal

pub words-preserved : goal.words-preserved
words-preserved c =
    let words = c.args.words.now in
    let inv = c.words.invariant in
    let some = c.words-test.true in
    let within = inv.within in
    let size = inv.as_many in
    let place : ℕ = c.words.at - 1 in
    let same : c.words.at ≡ place + 1 = omega arith in
    let behind = subst (λ (n : ℕ). AreQuiet words n c.words.next) same inv.next in
    let next = c.count_from-next.ensures words place (slice_get-get_or words place 0 (omega arith)) behind in
    record {
      within = omega arith;
      as_many = length-set c.words.counts place c.count_from-next.result ∙ size;
      next = next;
      are = set_count words c.words.counts place c.count_from-next.result (omega arith) inv.are next;
    }

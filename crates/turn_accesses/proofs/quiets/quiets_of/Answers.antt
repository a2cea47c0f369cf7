use Rattle.std.proofs.Common.{◌∙◌, ℕ, List, subst, sym}
use Rattle.turn_accesses.specs.Quiet.{AreCounts}
use Rattle.turn_accesses.proofs.Counting.{zeros_count}
use Rattle.turn_accesses.proofs.quiets.quiets_of.Goals as goal

pub count_all-requires-clause-counts : goal.count_all-requires-clause-counts
count_all-requires-clause-counts c =
    subst (λ (counts : List ℕ). AreCounts c.args.words.now counts)
    (sym (c.deref_mut.ensures.value ∙ c.in_ok-counts.ensures.items_if_clones_equal (λ y e. e))) (zeros_count c.args.words.now _)

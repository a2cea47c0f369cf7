use Rattle.std.proofs.Common.{◌∙◌, ℕ, List, subst, sym}
use Rattle.run_reports.specs.inner.Straight.{AreCounts}
use Rattle.run_reports.proofs.Straight.{ones_count}
use Rattle.run_reports.proofs.straights.straights_of.Goals as goal

pub count_all-requires : goal.count_all-requires
count_all-requires c =
    subst (λ (counts : List ℕ). AreCounts c.args.words.now counts)
    (sym (c.deref_mut.ensures.value ∙ c.in_ok-counts.ensures.items_if_clones_equal (λ y e. e))) (ones_count c.args.words.now)

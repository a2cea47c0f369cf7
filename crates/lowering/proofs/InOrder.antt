-- Phases one after the other.
use Rattle.std.proofs.Common.{◌∙◌}
use Rattle.lowering.specs.Order.{Nothing, Phase, None_left, Same, One_more, PhasesInOrder}
use Rattle.lowering.proofs.AnyOrder.{tasks_in_any_order}

pub phases_in_order : PhasesInOrder
phases_in_order points is_private _ _ _ (None_left start) funcs _ holds (Nothing _) = holds
phases_in_order points is_private _ _ _ (Same phases one other result agree rest) funcs after holds done =
    phases_in_order points is_private phases other result rest funcs after (λ place x y shared there. holds place x y shared there
    ∙ agree place x y shared there) done
phases_in_order points is_private _ _ _ (One_more first others own owns start between result phase rest) funcs after holds (Phase _ _ order _ middle _ is done
    later) =
    phases_in_order points is_private others between result rest middle after
    (tasks_in_any_order points is_private own start between first.count owns first.run phase order is funcs middle holds done) later

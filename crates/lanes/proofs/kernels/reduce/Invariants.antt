use Rattle.std.proofs.Common.{take}
use Rattle.lanes.specs.Words.{LeadsTo, chosen_of}
use Rattle.lanes.proofs.kernels.reduce.Given as goal

-- the active elements so far lead to the total
abbrev pub invariant-loop-i : goal.invariant-loop-i
invariant-loop-i g l = LeadsTo (λ a b r. goal.F-post g l.operation a b r) l.fn.start (chosen_of (take l.i l.active) (take l.i l.elements)) l.total

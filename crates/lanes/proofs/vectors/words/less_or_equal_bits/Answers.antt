use Rattle.std.proofs.Common.{◌∙◌}
use Rattle.lanes.proofs.VectorLanes.{test_bits, top_32, not_greater}
use Rattle.lanes.proofs.vectors.words.less_or_equal_bits.Goals as goal

pub returns : goal.returns
returns c = test_bits _ _ (λ x y. top_32 _ ∙ not_greater x y) c.args.a c.args.b c.requires

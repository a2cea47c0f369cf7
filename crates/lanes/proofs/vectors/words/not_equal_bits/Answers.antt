use Rattle.lanes.proofs.VectorLanes.{test_bits, top_32}
use Rattle.lanes.proofs.vectors.words.not_equal_bits.Goals as goal

pub returns : goal.returns
returns c = test_bits _ _ (λ x y. top_32 _) c.args.a c.args.b c.requires

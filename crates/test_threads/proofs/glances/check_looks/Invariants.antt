use Rattle.board.specs.Tokens.{IsGlanceOf, name_of}
use Rattle.test_threads.proofs.glances.check_looks.Given as goal

abbrev pub invariant-loop-hart : goal.invariant-loop-hart
invariant-loop-hart g l = IsGlanceOf (name_of l.shared.board) l.glance

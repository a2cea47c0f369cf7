use Rattle.std.specs.Prelude.{◌<◌}
use Rattle.std.proofs.lemmas.List.Elements.{recursion_from_All}
use Rattle.turn_log.proofs.RunAtLaws.{run_at-stands, run_at-below, run_at-none, run_at-behind}
use Rattle.turn_log.proofs.laws.runs_stand.Goals as goal

pub returns-clause-stand : goal.returns-clause-stand
returns-clause-stand c = run_at-stands

pub returns-clause-below : goal.returns-clause-below
returns-clause-below c = λ turns harts place hart count all e. run_at-below harts turns place hart count (recursion_from_All (λ turn. turn < harts) turns all) e

pub returns-clause-behind : goal.returns-clause-behind
returns-clause-behind c = λ turns place. (run_at-none turns place, run_at-behind turns place)

-- Variables that no stage has: what counts the iterations of a part of a loop, and what is at a number all the while. This project's own.
use Rattle.std.specs.Prelude.{◌≡◌, ℕ, ◌==◌, Bool, true, false, if◌then◌else◌, List, [], ◌∷◌}
use Rattle.schedule_lines.specs.declared.stages.LoopId.TheVariants as ids
use Rattle.loop_ir.specs.declared.expressions.Counter.{Counter}
use Rattle.loop_ir.specs.declared.expressions.Term.{Term}
use Rattle.loop_ir.specs.Counters.{Values}

-- no Func has this number
abbrev pub borders : ℕ
borders = 18446744073709551614

abbrev pub is_border : Counter → Bool
is_border counter = counter.func == borders

-- what counts iterations, at a level
abbrev pub iteration : ℕ → Counter
iteration level = record { func = borders; id = ids.Outer level }

-- what is at a number
abbrev pub number : ℕ → Counter
number n = record { func = borders; id = ids.Inner n }

-- all those stand at their numbers
pub record AreNumbers (values : Values) : Type 0 where
  pub each : (n : ℕ) → values (number n) ≡ n

-- variables of stages stand where they do, and those that no stage has at 0
abbrev pub of_stages : Values → Values
of_stages values counter = if is_border counter then 0 else values counter

-- whether a sum has a term of a variable that no stage has
abbrev pub has_border : List Term → Bool
has_border [] = false
has_border (own ∷ others) = if is_border own.counter then true else has_border others

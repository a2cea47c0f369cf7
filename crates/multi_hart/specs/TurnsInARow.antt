-- Turns of one hart that come one after the other, up to the first that doesn't step. This project's own.
use Rattle.std.specs.Prelude.{◌≡◌, ℕ, ◌-◌, ◌<◌, ◌≤◌, replicate}
use Rattle.rv_insn.specs.declared.outcomes.Outcome.{Outcome}
use Rattle.rv_insn.specs.declared.outcomes.Outcome.TheVariants.{Stepped}
use Rattle.multi_hart.specs.Run.{State, outcome, run}

-- each of this many turns of a hart steps
abbrev pub StepsOn : State → ℕ → ℕ → Type 0
StepsOn state hart made = (k : ℕ) → k < made → outcome (run state (replicate k hart)) hart ≡ Stepped

-- Of at least one turn and at most this many all but the last step, the last comes to this, and where it steps too, they are as many as may be.
pub record AreTurnsMade (state : State) (hart most made : ℕ) (last : Outcome) : Type 0 where
  pub some : 1 ≤ made
  pub few : made ≤ most
  pub steps : StepsOn state hart (made - 1)
  pub last_is : last ≡ outcome (run state (replicate (made - 1) hart)) hart
  pub whole : last ≡ Stepped → made ≡ most

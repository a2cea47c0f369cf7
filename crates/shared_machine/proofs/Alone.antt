-- What is left of a machine of one hart whose turns are made one after the other.
use Rattle.std.proofs.Common.{◌≡◌, ◌≢◌, ℕ, ◌+◌, ◌-◌, ◌<◌, ◌≤◌, length, replicate, refl, sym, ap, ◌∙◌, subst, arith}
use Rattle.rv_insn.specs.declared.outcomes.Outcome.{Outcome}
use Rattle.rv_insn.specs.declared.outcomes.Outcome.TheVariants.{Stepped}
use Rattle.hart_core.specs.declared.harts.Status.TheVariants.{Running}
use Rattle.multi_hart.specs.Run.{State, turn, outcome, run, hart_at}
use Rattle.multi_hart.proofs.Resting.{run-append, run-same-more}
use Rattle.turn_log.specs.TurnLog.{LogState, IsLog, count_of, most_turns}
use Rattle.loader.specs.Image.{ImageContents}
use Rattle.loader.specs.Loading.{machine_of}
use Rattle.shared_machine.specs.Log.{after_turns, state_after, with_turns}
use Rattle.shared_machine.specs.Running.{IsRunOf}
use Rattle.shared_machine.proofs.Batches.{begins-more, begins-whole, count-more-here, length-run}
use Rattle.shared_machine.proofs.Stopping.{stops-behind}

module _ (image : ImageContents) (log : LogState) (limit : ℕ) (one : log.harts ≡ 1) (is_log : IsLog log) where
  -- turns are made: all that are to be, or until one isn't a step
  module _ (machine : State) (made : ℕ) (last : Outcome) (replays : machine ≡ state_after image log.harts log.turns) (all : length machine.harts ≡ log.harts)
      (some : 1 ≤ made) (few : made ≤ limit) (is_last : last ≡ outcome (after_turns machine 0 (made - 1)) 0)
      (whole : last ≡ Stepped → made < limit → most_turns ≤ count_of log.turns 0 + made) (is_new : IsLog (with_turns log 0 made)) where
    there : 0 < length (after_turns machine 0 (made - 1)).harts
    there = let l = length-run machine (replicate (made - 1) 0) in omega (arith, l, all, one)

    -- the state after the last turn
    behind : state_after image log.harts (with_turns log 0 made).turns ≡ turn (after_turns machine 0 (made - 1)) 0
    behind =
        run-append (machine_of image log.harts) log.turns (replicate made 0)
        ∙ (ap (λ state. run state (replicate made 0)) (sym replays)
        ∙ (ap (λ n. run machine (replicate n 0)) (let e : made ≡ made - 1 + 1 = omega (arith, some) in e) ∙ run-same-more machine 0 (made - 1)))

    counted : count_of (with_turns log 0 made).turns 0 ≡ count_of log.turns 0 + made
    counted = count-more-here log.turns 0 made

    stopped : count_of (with_turns log 0 made).turns 0 < count_of log.turns 0 + limit → count_of (with_turns log 0 made).turns 0 < most_turns
        → (hart_at (state_after image log.harts (with_turns log 0 made).turns) 0).status ≢ Running
    stopped fewer most =
        subst (λ state. (hart_at state 0).status ≢ Running) (sym behind)
        (stops-behind (after_turns machine 0 (made - 1)) 0 there (λ steps.
        let more = whole (is_last ∙ steps) (omega (arith, counted, fewer)) in omega (arith, counted, most, more)))

    pub turned-on : IsRunOf image log.harts log.turns limit (with_turns log 0 made)
    turned-on = record {
      is_log = is_new;
      same = refl;
      begins = begins-more log.turns log.turns (replicate made 0) (begins-whole log.turns log.turns refl);
      few = λ hart below.
          subst (λ k. count_of (with_turns log 0 made).turns k ≤ count_of log.turns k + limit) (let e : 0 ≡ hart = omega (arith, below, one) in e)
          (omega (arith, counted, few));
      ends = λ hart below.
          subst (λ k. count_of (with_turns log 0 made).turns k < count_of log.turns k + limit → count_of (with_turns log 0 made).turns k < most_turns
          → (hart_at (state_after image log.harts (with_turns log 0 made).turns) k).status ≢ Running) (let e : 0 ≡ hart = omega (arith, below, one) in e)
          stopped;
    }

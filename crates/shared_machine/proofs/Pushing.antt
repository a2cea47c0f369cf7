-- A log with one turn more.
use Rattle.std.proofs.Common.{◌≡◌, ◌≢◌, ℕ, ◌+◌, ◌<◌, ◌==◌, Bool, if◌then◌else◌, cond, List, [], ◌∷◌, ◌++◌, refl, sym, ap, ◌∙◌, arith, eq-eqb, ne_eqb}
use Rattle.std.proofs.lemmas.List.Sums.{sum_by-append}
use Rattle.std.proofs.lemmas.List.Elements.{All-push}
use mathlib.Core.Logic.{dite}
use native.Mathlib.Decide.{ℕ_discrete}
use Rattle.turn_log.specs.TurnLog.{LogState, IsLog, count_of, most_turns}
use Rattle.multi_hart.specs.Run.{State, turn, outcome, run}
use Rattle.shared_machine.specs.Log.{with_turn, code_of, tally_from}

pub count-push : (turns : List ℕ) (one hart : ℕ) → count_of (turns ++ one ∷ []) hart ≡ count_of turns hart + (if one == hart then 1 else 0)
count-push turns one hart = let h = sum_by-append (λ turn. cond (turn == hart) 1 0) turns (one ∷ []) in omega (arith, h)

pub count-push-here : (turns : List ℕ) (hart : ℕ) → count_of (turns ++ hart ∷ []) hart ≡ count_of turns hart + 1
count-push-here turns hart = count-push turns hart hart ∙ ap (λ (b : Bool). count_of turns hart + (if b then 1 else 0)) (eq-eqb hart hart refl)

pub count-push-other : (turns : List ℕ) (one hart : ℕ) → one ≢ hart → count_of (turns ++ one ∷ []) hart ≡ count_of turns hart
count-push-other turns one hart other = let h = count-push turns one hart ∙ ap (λ (b : Bool). count_of turns hart + (if b then 1 else 0))
    (ne_eqb one hart other) in omega (arith, h)

-- a log with one turn more is a log
pub log-push : (log : LogState) (hart : ℕ) → IsLog log → hart < log.harts → count_of log.turns hart < most_turns → IsLog (with_turn log hart)
log-push log hart is below room = record {
  some_hart = is.some_hart;
  few_harts = is.few_harts;
  turns_below = All-push (λ one. one < log.harts) log.turns hart is.turns_below below;
  few_turns = λ which.
      dite (ℕ_discrete hart which)
      (λ e. let h = ap (count_of (log.turns ++ hart ∷ [])) (sym e) ∙ count-push-here log.turns hart in omega (arith, h, room))
      (λ n. let h = count-push-other log.turns hart which n in let f = is.few_turns which in omega (arith, h, f));
}

pub tally-push : (state : State) (turns : List ℕ) (one hart : ℕ) → tally_from state (turns ++ one ∷ []) hart ≡ tally_from state turns hart
    + (if one == hart then code_of (outcome (run state turns) one) else 0)
tally-push state [] one hart = omega (arith)
tally-push state (first ∷ turns) one hart = let h = tally-push (turn state first) turns one hart in omega (arith, h)

pub tally-push-here : (state : State) (turns : List ℕ) (hart : ℕ) → tally_from state (turns ++ hart ∷ []) hart ≡ tally_from state turns hart + code_of
    (outcome (run state turns) hart)
tally-push-here state turns hart = tally-push state turns hart hart
    ∙ ap (λ (b : Bool). tally_from state turns hart + (if b then code_of (outcome (run state turns) hart) else 0)) (eq-eqb hart hart refl)

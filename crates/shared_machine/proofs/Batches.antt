-- Turns of one hart, one after the other, all but the last of which step.
use Rattle.std.proofs.Common.{◌≡◌, ◌≢◌, ℕ, zero, suc, ◌+◌, ◌-◌, ◌*◌, ◌%◌, ◌<◌, ◌≤◌, ◌==◌, Bool, if◌then◌else◌, cond, List, [], ◌∷◌, ◌++◌, All, length, take}
use Rattle.std.proofs.Common.{replicate, refl, sym, ap, ◌∙◌, subst, arith, eq-eqb, ne_eqb}
use Rattle.std.proofs.lemmas.List.{take-append-le, length-take, replicate_more}
use Rattle.std.proofs.lemmas.List.Sums.{sum_by-append}
use Rattle.std.proofs.lemmas.List.Elements.{All-nil, All-cons, All-append}
use mathlib.Core.Logic.{dite}
use native.Mathlib.Decide.{ℕ_discrete}
use Rattle.rv_insn.specs.declared.outcomes.Outcome.{Outcome}
use Rattle.rv_insn.specs.declared.outcomes.Outcome.TheVariants.{Idle}
use Rattle.multi_hart.specs.Run.{State, turn, outcome, run}
use Rattle.multi_hart.proofs.Resting.{run-append}
use Rattle.multi_hart.proofs.TurnByTurn.{length-turn}
use Rattle.turn_log.specs.TurnLog.{LogState, IsLog, count_of, most_turns}
use Rattle.loader.specs.Image.{ImageContents}
use Rattle.loader.specs.Loading.{machine_of}
use Rattle.shared_machine.specs.Log.{BeginsWith, after_turns, code_of, state_after, tally, tally_from, with_turns}
use Rattle.multi_hart.specs.TurnsInARow.{StepsOn}
use Rattle.shared_machine.proofs.Pushing.{tally-push-here}
use Rattle.shared_machine.proofs.Stopping.{idle-after}

-- ---- a log

pub begins-more : (first turns more : List ℕ) → BeginsWith turns first → BeginsWith (turns ++ more) first
begins-more first turns more begins =
    let l = ap length begins in let m = length-take (length first) turns in
    take-append-le (length first) turns more (omega (arith, l, m)) ∙ begins

pub begins-whole : (turns first : List ℕ) → turns ≡ first → BeginsWith turns first
begins-whole turns first is = subst (λ xs. take (length first) xs ≡ first) (sym is) (whole first)
  where
    whole : (xs : List ℕ) → take (length xs) xs ≡ xs
    whole [] = refl
    whole (x ∷ xs) = ap (λ ys. x ∷ ys) (whole xs)

pub count-one : (one hart : ℕ) (turns : List ℕ) → count_of (one ∷ turns) hart ≡ (if one == hart then 1 else 0) + count_of turns hart
count-one one hart turns = let h = sum_by-append (λ turn. cond (turn == hart) 1 0) (one ∷ []) turns in omega (arith, h)

count-same : (hart made : ℕ) → count_of (replicate made hart) hart ≡ made
count-same hart zero = refl
count-same hart (suc made) =
    let h = count-same hart made in
    let e = ap (λ (b : Bool). (if b then 1 else 0) + count_of (replicate made hart) hart) (eq-eqb hart hart refl) in
    let c = count-one hart hart (replicate made hart) in omega (arith, h, e, c)

count-none : (one hart made : ℕ) → one ≢ hart → count_of (replicate made one) hart ≡ 0
count-none one hart zero apart = refl
count-none one hart (suc made) apart =
    let h = count-none one hart made apart in
    let e = ap (λ (b : Bool). (if b then 1 else 0) + count_of (replicate made one) hart) (ne_eqb one hart apart) in
    let c = count-one one hart (replicate made one) in omega (arith, h, e, c)

pub count-more-here : (turns : List ℕ) (hart made : ℕ) → count_of (turns ++ replicate made hart) hart ≡ count_of turns hart + made
count-more-here turns hart made = let h = sum_by-append (λ turn. cond (turn == hart) 1 0) turns (replicate made hart) in let s = count-same hart made in
    omega (arith, h, s)

pub count-more-other : (turns : List ℕ) (one made hart : ℕ) → one ≢ hart → count_of (turns ++ replicate made one) hart ≡ count_of turns hart
count-more-other turns one made hart apart = let h = sum_by-append (λ turn. cond (turn == hart) 1 0) turns (replicate made one) in let s =
    count-none one hart made apart in omega (arith, h, s)

all-same : (P : ℕ → Type 0) (hart made : ℕ) → P hart → All P (replicate made hart)
all-same P hart zero p = All-nil P
all-same P hart (suc made) p = All-cons P hart (replicate made hart) p (all-same P hart made p)

-- a log with more turns of one hart is a log
pub log-more : (log : LogState) (hart made : ℕ) → IsLog log → hart < log.harts → count_of log.turns hart + made ≤ most_turns → IsLog (with_turns log hart made)
log-more log hart made is below room = record {
  some_hart = is.some_hart;
  few_harts = is.few_harts;
  turns_below = All-append (λ one. one < log.harts) log.turns (replicate made hart) is.turns_below (all-same (λ one. one < log.harts) hart made below);
  few_turns = λ which.
      dite (ℕ_discrete hart which)
      (λ e. let h = ap (count_of (log.turns ++ replicate made hart)) (sym e) ∙ count-more-here log.turns hart made in omega (arith, h, room))
      (λ n. let h = count-more-other log.turns hart made which n in let f = is.few_turns which in omega (arith, h, f));
}

-- one turn and then others, of one hart
pub one-and-more : (turns : List ℕ) (hart made : ℕ) → 1 ≤ made → (turns ++ hart ∷ []) ++ replicate (made - 1) hart ≡ turns ++ replicate made hart
one-and-more turns hart made some = go turns ∙ ap (λ n. turns ++ replicate n hart) (let e : suc (made - 1) ≡ made = omega (arith, some) in e)
  where
    go : (turns : List ℕ) → (turns ++ hart ∷ []) ++ replicate (made - 1) hart ≡ turns ++ replicate (suc (made - 1)) hart
    go [] = refl
    go (one ∷ turns) = ap (λ xs. one ∷ xs) (go turns)

-- ---- tallies

pub tally-append : (state : State) (some more : List ℕ) (hart : ℕ) → tally_from state (some ++ more) hart ≡ tally_from state some hart + tally_from
    (run state some) more hart
tally-append state [] more hart = omega (arith)
tally-append state (one ∷ some) more hart = let h = tally-append (turn state one) some more hart in omega (arith, h)

tally-steps : (state : State) (hart made : ℕ) → StepsOn state hart made → tally_from state (replicate made hart) hart ≡ 16 * made
tally-steps state hart zero steps = refl
tally-steps state hart (suc made) steps =
    let h = tally-steps (turn state hart) hart made (λ k below. steps (suc k) (omega (arith, below))) in
    let code : code_of (outcome state hart) ≡ 16 = ap code_of (steps 0 (omega (arith))) in
    let e = ap (λ (b : Bool). (if b then code_of (outcome state hart) else 0) + tally_from (turn state hart) (replicate made hart) hart) (eq-eqb hart hart refl)
    in
    omega (arith, h, code, e)

pub tally-more-other : (state : State) (turns : List ℕ) (one made hart : ℕ) → one ≢ hart → tally_from state (turns ++ replicate made one) hart
    ≡ tally_from state turns hart
tally-more-other state turns one made hart apart = let h = tally-append state turns (replicate made one) hart in let z = none (run state turns) made in
    omega (arith, h, z)
  where
    none : (state : State) (made : ℕ) → tally_from state (replicate made one) hart ≡ 0
    none state zero = refl
    none state (suc made) =
        let h = none (turn state one) made in
        let e = ap (λ (b : Bool). (if b then code_of (outcome state one) else 0) + tally_from (turn state one) (replicate made one) hart)
        (ne_eqb one hart apart) in
        omega (arith, h, e)

pub tally-more-here : (state : State) (turns : List ℕ) (hart made : ℕ) (last : Outcome) → 1 ≤ made → StepsOn (run state turns) hart (made - 1)
    → last ≡ outcome (after_turns (run state turns) hart (made - 1)) hart
    → tally_from state (turns ++ replicate made hart) hart ≡ tally_from state turns hart + (16 * (made - 1) + code_of last)
tally-more-here state turns hart made last some steps is =
    let start = run state turns in
    let whole : replicate (made - 1) hart ++ hart ∷ [] ≡ replicate made hart = replicate_more (made - 1) hart
    ∙ ap (λ n. replicate n hart) (let e : made - 1 + 1 ≡ made = omega (arith, some) in e) in
    let a = tally-append state turns (replicate made hart) hart in
    let b : tally_from start (replicate made hart) hart ≡ tally_from start (replicate (made - 1) hart) hart + code_of last = ap (λ xs. tally_from start xs hart)
    (sym whole) ∙ tally-push-here start (replicate (made - 1) hart) hart ∙ ap (λ o. tally_from start (replicate (made - 1) hart) hart + code_of o) (sym is)
    in
    let s = tally-steps start hart (made - 1) steps in
    omega (arith, a, b, s)

-- ---- idle turns

pub length-run : (state : State) (turns : List ℕ) → length (run state turns).harts ≡ length state.harts
length-run state [] = refl
length-run state (one ∷ turns) = length-run (turn state one) turns ∙ length-turn state one

-- the last turn changes nothing exactly where the tally before all of them is no multiple of 16
pub idle-at-last : (image : ImageContents) (harts hart : ℕ) (turns : List ℕ) (machine : State) (made : ℕ) (last : Outcome) (tallied : ℕ)
    → machine ≡ state_after image harts turns → length machine.harts ≡ harts → hart < harts → StepsOn machine hart (made - 1)
    → last ≡ outcome (after_turns machine hart (made - 1)) hart → tallied ≡ tally image harts turns hart
    → (last ≡ Idle → tallied % 16 ≢ 0) × (tallied % 16 ≢ 0 → last ≡ Idle)
idle-at-last image harts hart turns machine made last tallied replays all below steps is sum =
    let more = replicate (made - 1) hart in
    let start = machine_of image harts in
    let now : after_turns machine hart (made - 1) ≡ state_after image harts (turns ++ more) = ap (λ s. run s more) replays
    ∙ sym (run-append start turns more) in
    let t = tally-append start turns more hart in
    let s : tally_from (run start turns) more hart ≡ 16 * (made - 1) = ap (λ m. tally_from m more hart) (sym replays)
    ∙ tally-steps machine hart (made - 1) steps in
    let told = idle-after image harts hart (turns ++ more) (after_turns machine hart (made - 1)) last (tallied + 16 * (made - 1)) now (length-run machine more
    ∙ all) below is (omega (arith, t, s, sum)) in
    let same : (tallied + 16 * (made - 1)) % 16 ≡ tallied % 16 = omega (arith) in
    ((λ idle zero. told.0 idle (same ∙ zero)), (λ apart. told.1 (λ zero. apart (sym same ∙ zero))))

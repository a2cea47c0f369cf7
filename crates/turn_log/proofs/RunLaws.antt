-- Runs of turns: the turns that they stand for, and the longest runs of turns.
use Rattle.std.proofs.Common.{◌≡◌, ℕ, zero, suc, ◌+◌, ◌-◌, ◌*◌, ◌<◌, ◌≤◌, Bool, true, false, cond, eqb, List, [], ◌∷◌, ◌++◌, length, drop, All, replicate}
use Rattle.std.proofs.Common.{Some, None, refl, sym, ap, subst, ◌∙◌, arith, add-one, one-add, inl, inr}
use Rattle.std.specs.Prelude.{slice_get, sum, get_or}
use Rattle.std.specs.List.{prefix_len, AllByRecursion}
use Rattle.std.proofs.lemmas.Bool.{cond_both, cond-true, cond-false, eqb-true, eqb-false, eq-eqb, ne_eqb, cases_Bool}
use Rattle.std.proofs.lemmas.List.{get_or-replicate}
use Rattle.std.proofs.lemmas.List.Elements.{All-append, All-push, All-replicate, All-nil, recursion_from_All}
use Rattle.std.proofs.lemmas.List.Folds.{sum_by-replicate}
use Rattle.std.proofs.lemmas.List.Sums.{sum_by-cons, sum_by-append, sum_by_push}
use Rattle.turn_log.specs.TurnLog.{LogState, count_of, most_turns, IsLog}
use Rattle.turn_log.specs.LogSpelling.{begins_with, joined, runs_of, expanded, total_of}
use Rattle.turn_log.specs.inner.Kept.{IsRun, AreRuns}
use Rattle.turn_log.specs.declared.runs.Run.{Run}

-- ---- the turns that runs stand for

expanded-joined : (turn : ℕ) (runs : List Run) → expanded (joined turn runs) ≡ turn ∷ expanded runs
expanded-joined turn [] = refl
expanded-joined turn (run ∷ runs) =
    cond_both (eqb run.hart turn) (record { hart = turn; length = run.length + 1 } ∷ runs) (record { hart = turn; length = 1 } ∷ (run ∷ runs))
    (λ (made : List Run). expanded made ≡ turn ∷ expanded (run ∷ runs))
    (λ e. let same : run.hart ≡ turn = eqb-true run.hart turn e in rw (add-one, same) refl)
    (λ e. refl)

-- the longest runs of turns stand for them
pub expanded-runs_of : (turns : List ℕ) → expanded (runs_of turns) ≡ turns
expanded-runs_of [] = refl
expanded-runs_of (turn ∷ turns) = expanded-joined turn (runs_of turns) ∙ ap (λ (ts : List ℕ). turn ∷ ts) (expanded-runs_of turns)

times_cond : (n : ℕ) (b : Bool) → n * cond b 1 0 ≡ cond b n 0
times_cond n true = omega arith
times_cond n false = omega arith

-- a hart's turns are those of its runs
pub count_of-expanded : (runs : List Run) (hart : ℕ) → count_of (expanded runs) hart ≡ total_of runs hart
count_of-expanded [] hart = refl
count_of-expanded (run ∷ runs) hart =
    let one : ℕ → ℕ = λ turn. cond (eqb turn hart) 1 0 in
    let length_at : Run → ℕ = λ r. cond (eqb r.hart hart) r.length 0 in
    sum_by-append one (replicate run.length run.hart) (expanded runs)
    ∙ ap (λ (n : ℕ). n + count_of (expanded runs) hart) (sum_by-replicate one run.length run.hart ∙ times_cond run.length (eqb run.hart hart))
    ∙ ap (λ (n : ℕ). cond (eqb run.hart hart) run.length 0 + n) (count_of-expanded runs hart)
    ∙ sym (sum_by-cons length_at run runs)

-- ---- runs that are the longest of what they stand for

AreRuns-joined : (harts turn : ℕ) (runs : List Run) → turn < harts → AreRuns harts runs → AreRuns harts (joined turn runs)
AreRuns-joined harts turn [] below are = (record { below = below; some = omega arith; other = refl }, tt)
AreRuns-joined harts turn (run ∷ runs) below are =
    cond_both (eqb run.hart turn) (record { hart = turn; length = run.length + 1 } ∷ runs) (record { hart = turn; length = 1 } ∷ (run ∷ runs))
    (λ (made : List Run). AreRuns harts made)
    (λ e. let same : run.hart ≡ turn = eqb-true run.hart turn e in
    (record { below = below; some = omega arith; other = subst (λ (h : ℕ). begins_with runs h ≡ false) same are.0.other }, are.1))
    (λ e. (record { below = below; some = omega arith; other = e }, are))

pub AreRuns-runs_of : (harts : ℕ) (turns : List ℕ) → AllByRecursion (λ turn. turn < harts) turns → AreRuns harts (runs_of turns)
AreRuns-runs_of harts [] all = tt
AreRuns-runs_of harts (turn ∷ turns) all = AreRuns-joined harts turn (runs_of turns) all.0 (AreRuns-runs_of harts turns all.1)

-- a turn of another hart than the first run's opens a run
opens : (hart : ℕ) (runs : List Run) → begins_with runs hart ≡ false → joined hart runs ≡ record { hart = hart; length = 1 } ∷ runs
opens hart [] other = refl
opens hart (run ∷ runs) other = cond-false (eqb run.hart hart) (record { hart = hart; length = run.length + 1 } ∷ runs) (record { hart = hart; length = 1 }
    ∷ (run ∷ runs)) other

-- a turn of the first run's hart joins it
joins : (hart n : ℕ) (runs : List Run) → joined hart (record { hart = hart; length = n } ∷ runs) ≡ record { hart = hart; length = n + 1 } ∷ runs
joins hart n runs = cond-true (eqb hart hart) (record { hart = hart; length = n + 1 } ∷ runs) (record { hart = hart; length = 1 }
    ∷ (record { hart = hart; length = n } ∷ runs)) (eq-eqb hart hart refl)

runs_of-replicate : (hart n : ℕ) (turns : List ℕ) → begins_with (runs_of turns) hart ≡ false → runs_of (replicate (suc n) hart ++ turns)
    ≡ record { hart = hart; length = suc n } ∷ runs_of turns
runs_of-replicate hart zero turns other = opens hart (runs_of turns) other
runs_of-replicate hart (suc n) turns other =
    ap (joined hart) (runs_of-replicate hart n turns other) ∙ joins hart (suc n) (runs_of turns)
    ∙ ap (λ (k : ℕ). record { hart = hart; length = k } ∷ runs_of turns) (add-one (suc n))

pub runs_of-expanded : (harts : ℕ) (runs : List Run) → AreRuns harts runs → runs_of (expanded runs) ≡ runs
runs_of-expanded harts [] are = refl
runs_of-expanded harts (run ∷ runs) are =
    let rest = runs_of-expanded harts runs are.1 in
    let k : run.length ≡ suc (run.length - 1) = let some = are.0.some in omega arith in
    let other : begins_with (runs_of (expanded runs)) run.hart ≡ false = ap (λ (rs : List Run). begins_with rs run.hart) rest ∙ are.0.other in
    ap (λ (n : ℕ). runs_of (replicate n run.hart ++ expanded runs)) k
    ∙ runs_of-replicate run.hart (run.length - 1) (expanded runs) other
    ∙ ap (λ (n : ℕ). record { hart = run.hart; length = n } ∷ runs_of (expanded runs)) (sym k)
    ∙ ap (λ (rs : List Run). run ∷ rs) rest

pub All-expanded : (harts : ℕ) (runs : List Run) → AreRuns harts runs → All (λ turn. turn < harts) (expanded runs)
All-expanded harts [] are = All-nil (λ turn. turn < harts)
All-expanded harts (run ∷ runs) are =
    All-append (λ turn. turn < harts) (replicate run.length run.hart) (expanded runs) (All-replicate (λ turn. turn < harts) run.length run.hart are.0.below)
    (All-expanded harts runs are.1)

-- ---- runs that may stand after others

pub record Follows (harts : ℕ) (before : List Run) (run : Run) : Type 0 where
  pub below : run.hart < harts
  pub some : 0 < run.length
  pub other : begins_with before run.hart ≡ false
  pub few : total_of before run.hart + run.length ≤ most_turns

-- each run may stand after those before it, of which the nearest is the first
abbrev pub AllFollow : ℕ → List Run → List Run → Type 0
AllFollow harts before [] = Unit {0}
AllFollow harts before (run ∷ runs) = Follows harts before run × AllFollow harts (run ∷ before) runs

-- the first of the runs is of another hart than the run before
abbrev Apart : List Run → List Run → Type 0
Apart before [] = Unit {0}
Apart before (run ∷ runs) = begins_with before run.hart ≡ false

other_way : (a b : ℕ) → eqb a b ≡ false → eqb b a ≡ false
other_way a b e = ne_eqb b a (λ same. eqb-false a b e (sym same))

pub total_of-cons : (run : Run) (runs : List Run) (hart : ℕ) → total_of (run ∷ runs) hart ≡ cond (eqb run.hart hart) run.length 0 + total_of runs hart
total_of-cons run runs hart = sum_by-cons (λ (r : Run). cond (eqb r.hart hart) r.length 0) run runs

total_of-own : (run : Run) (runs : List Run) → total_of (run ∷ runs) run.hart ≡ run.length + total_of runs run.hart
total_of-own run runs =
    total_of-cons run runs run.hart ∙ ap (λ (n : ℕ). n + total_of runs run.hart) (cond-true (eqb run.hart run.hart) run.length 0 (eq-eqb run.hart run.hart
    refl))

-- no hart has too many turns in the runs before and these
abbrev FewIn : List Run → List Run → Type 0
FewIn before runs = (hart : ℕ) → total_of before hart + total_of runs hart ≤ most_turns

few_moved : (before : List Run) (run : Run) (runs : List Run) → FewIn before (run ∷ runs) → FewIn (run ∷ before) runs
few_moved before run runs few hart =
    let here = few hart in
    omega (arith, total_of-cons run runs hart, total_of-cons run before hart, here)

apart_next : (harts : ℕ) (before : List Run) (run : Run) (runs : List Run) → IsRun harts run runs → Apart (run ∷ before) runs
apart_next harts before run [] is = tt
apart_next harts before run (next ∷ runs) is = other_way next.hart run.hart is.other

pub AllFollow-from_runs : (harts : ℕ) (before runs : List Run) → AreRuns harts runs → Apart before runs → FewIn before runs → AllFollow harts before runs
AllFollow-from_runs harts before [] are apart few = tt
AllFollow-from_runs harts before (run ∷ runs) are apart few =
    let here : total_of before run.hart + run.length ≤ most_turns = let all = few run.hart in omega (arith, total_of-own run runs, all) in (
      record { below = are.0.below; some = are.0.some; other = apart; few = here },
      AllFollow-from_runs harts (run ∷ before) runs are.1 (apart_next harts before
          run runs are.0) (few_moved before run runs few),
    )

next_apart : (harts : ℕ) (before : List Run) (run : Run) (runs : List Run) → AllFollow harts (run ∷ before) runs → begins_with runs run.hart ≡ false
next_apart harts before run [] all = refl
next_apart harts before run (next ∷ runs) all = other_way run.hart next.hart all.0.other

pub AreRuns-from_follow : (harts : ℕ) (before runs : List Run) → AllFollow harts before runs → AreRuns harts runs
AreRuns-from_follow harts before [] all = tt
AreRuns-from_follow harts before (run ∷ runs) all =
    (record { below = all.0.below; some = all.0.some; other = next_apart harts before run runs all.1 }, AreRuns-from_follow harts (run ∷ before) runs all.1)

-- one more run keeps each hart's total small
pub few_with : (harts : ℕ) (before : List Run) (run : Run) → Follows harts before run → ((hart : ℕ) → total_of before hart ≤ most_turns) → (hart : ℕ)
    → total_of (run ∷ before) hart ≤ most_turns
few_with harts before run follows few hart =
    elim (cases_Bool (eqb run.hart hart)) [
      | inl e ↦
          let same : run.hart ≡ hart = eqb-true run.hart hart e in
          subst (λ (h : ℕ). total_of (run ∷ before) h ≤ most_turns) same (let own = follows.few in omega (arith, total_of-own run before, own))
      | inr e ↦
          let zero_here : cond (eqb run.hart hart) run.length 0 ≡ 0 = cond-false (eqb run.hart hart) run.length 0 e in
          let here = few hart in
          omega (arith, total_of-cons run before hart, zero_here, here)
    ]

pub FewIn-from_follow : (harts : ℕ) (before runs : List Run) → AllFollow harts before runs → ((hart : ℕ) → total_of before hart ≤ most_turns)
    → FewIn before runs
FewIn-from_follow harts before [] all few hart = let here = few hart in omega (arith, here)
FewIn-from_follow harts before (run ∷ runs) all few hart =
    let rest = FewIn-from_follow harts (run ∷ before) runs all.1 (few_with harts before run all.0 few) hart in
    omega (arith, total_of-cons run runs hart, total_of-cons run before hart, rest)

-- ---- runs and logs

pub IsLog-expanded : (harts : ℕ) (runs : List Run) → 1 ≤ harts → harts ≤ 8 → AllFollow harts [] runs → IsLog (record { harts = harts; turns = expanded runs })
IsLog-expanded harts runs some few all =
    record {
      some_hart = some;
      few_harts = few;
      turns_below = All-expanded harts runs (AreRuns-from_follow harts [] runs all);
      few_turns = λ hart. let few_here = FewIn-from_follow harts [] runs all (λ h. omega arith) hart in omega (arith, count_of-expanded runs hart, few_here);
    }

pub AllFollow-log : (log : LogState) → IsLog log → AllFollow log.harts [] (runs_of log.turns)
AllFollow-log log is =
    let all = recursion_from_All (λ turn. turn < log.harts) log.turns is.turns_below in
    AllFollow-from_runs log.harts [] (runs_of log.turns) (AreRuns-runs_of log.harts log.turns all) (first_apart (runs_of log.turns))
    (λ hart.
    let total : total_of (runs_of log.turns) hart ≡ count_of log.turns hart = sym (count_of-expanded (runs_of log.turns) hart)
    ∙ ap (λ (turns : List ℕ). count_of turns hart) (expanded-runs_of log.turns) in
    let few = is.few_turns hart in
    omega (arith, total, few))
  where
    first_apart : (runs : List Run) → Apart [] runs
    first_apart [] = tt
    first_apart (run ∷ runs) = refl

-- ---- how many runs there are

length-joined : (turn : ℕ) (runs : List Run) → length (joined turn runs) ≤ suc (length runs)
length-joined turn [] = omega arith
length-joined turn (run ∷ runs) =
    cond_both (eqb run.hart turn) (record { hart = turn; length = run.length + 1 } ∷ runs) (record { hart = turn; length = 1 } ∷ (run ∷ runs))
    (λ (made : List Run). length made ≤ suc (suc (length runs))) (λ e. omega arith) (λ e. omega arith)

-- no more runs than turns
pub length-runs_of : (turns : List ℕ) → length (runs_of turns) ≤ length turns
length-runs_of [] = omega arith
length-runs_of (turn ∷ turns) = let one = length-joined turn (runs_of turns) in let rest = length-runs_of turns in omega (arith, one, rest)

-- a hart below eight is one of the eight
one_of_eight : (t : ℕ) → t < 8 → cond (eqb t 0) 1 0 + cond (eqb t 1) 1 0 + cond (eqb t 2) 1 0 + cond (eqb t 3) 1 0 + cond (eqb t 4) 1 0 + cond (eqb t 5) 1 0
    + cond (eqb t 6) 1 0 + cond (eqb t 7) 1 0 ≡ 1
one_of_eight zero below = refl
one_of_eight (suc zero) below = refl
one_of_eight (suc (suc zero)) below = refl
one_of_eight (suc (suc (suc zero))) below = refl
one_of_eight (suc (suc (suc (suc zero)))) below = refl
one_of_eight (suc (suc (suc (suc (suc zero))))) below = refl
one_of_eight (suc (suc (suc (suc (suc (suc zero)))))) below = refl
one_of_eight (suc (suc (suc (suc (suc (suc (suc zero))))))) below = refl
one_of_eight (suc (suc (suc (suc (suc (suc (suc (suc t)))))))) below = absurd (omega arith)

count_of-cons : (turn : ℕ) (turns : List ℕ) (hart : ℕ) → count_of (turn ∷ turns) hart ≡ cond (eqb turn hart) 1 0 + count_of turns hart
count_of-cons turn turns hart = sum_by-cons (λ (t : ℕ). cond (eqb t hart) 1 0) turn turns

eight_counts : List ℕ → ℕ
eight_counts ts = count_of ts 0 + count_of ts 1 + count_of ts 2 + count_of ts 3 + count_of ts 4 + count_of ts 5 + count_of ts 6 + count_of ts 7

-- the turns of eight harts are all of the turns
length-counts : (turns : List ℕ) → AllByRecursion (λ turn. turn < 8) turns → eight_counts turns ≡ length turns
unfolding eight_counts
length-counts [] all = refl
length-counts (t ∷ ts) all =
    let rest = length-counts ts all.1 in
    let one = one_of_eight t all.0 in
    rw (
      count_of-cons t ts 0,
      count_of-cons t ts 1,
      count_of-cons t ts 2,
      count_of-cons t ts 3,
      count_of-cons t ts 4,
      count_of-cons t ts 5,
      count_of-cons t ts
          6,
      count_of-cons t ts 7,
    ) (omega (arith, rest, one))

-- a log has few turns
pub few_turns_all : (log : LogState) → IsLog log → length log.turns ≤ 8 * most_turns
unfolding eight_counts
few_turns_all log is =
    let below : All (λ turn. turn < 8) log.turns = λ k d lt. let here = is.turns_below k d lt in let few = is.few_harts in omega (arith, here, few) in
    let whole : eight_counts log.turns ≡ length log.turns = length-counts log.turns (recursion_from_All (λ turn. turn < 8) log.turns below) in
    let c0 = is.few_turns 0 in
    let c1 = is.few_turns 1 in
    let c2 = is.few_turns 2 in
    let c3 = is.few_turns 3 in
    let c4 = is.few_turns 4 in
    let c5 = is.few_turns 5 in
    let c6 = is.few_turns 6 in
    let c7 = is.few_turns 7 in
    omega (arith, whole, c0, c1, c2, c3, c4, c5, c6, c7)

-- and few runs
pub few_runs : (log : LogState) → IsLog log → length (runs_of log.turns) ≤ 8 * most_turns
few_runs log is = let turns = few_turns_all log is in let runs = length-runs_of log.turns in omega (arith, turns, runs)

-- ---- a run more

count_of-append : (xs ys : List ℕ) (hart : ℕ) → count_of (xs ++ ys) hart ≡ count_of xs hart + count_of ys hart
count_of-append xs ys hart = sum_by-append (λ (t : ℕ). cond (eqb t hart) 1 0) xs ys

count_of-replicate : (n turn hart : ℕ) → count_of (replicate n turn) hart ≡ cond (eqb turn hart) n 0
count_of-replicate n turn hart = sum_by-replicate (λ (t : ℕ). cond (eqb t hart) 1 0) n turn ∙ times_cond n (eqb turn hart)

pub count_of-push_run : (turns : List ℕ) (turn n hart : ℕ) → count_of (turns ++ replicate n turn) hart ≡ count_of turns hart + cond (eqb turn hart) n 0
count_of-push_run turns turn n hart = count_of-append turns (replicate n turn) hart ∙ ap (λ (k : ℕ). count_of turns hart + k) (count_of-replicate n turn hart)

abbrev is_number : ℕ → ℕ → Type 0
is_number m n = m ≡ n

pub IsLog-push_run : (log : LogState) (turn n : ℕ) → IsLog log → turn < log.harts → count_of log.turns turn + n ≤ most_turns
    → IsLog (record { harts = log.harts; turns = log.turns ++ replicate n turn })
IsLog-push_run log turn n is below room =
    record {
      some_hart = is.some_hart;
      few_harts = is.few_harts;
      turns_below = All-append (λ t. t < log.harts) log.turns (replicate n turn) is.turns_below (All-replicate (λ t. t < log.harts) n turn below);
      few_turns = λ hart.
          elim (cases_Bool (eqb turn hart)) [
            | inl e ↦
                let same : turn ≡ hart = eqb-true turn hart e in
                let more : is_number (cond (eqb turn hart) n 0) n = cond-true (eqb turn hart) n 0 e in
                let few : count_of log.turns hart + n ≤ most_turns = subst (λ (h : ℕ). count_of log.turns h + n ≤ most_turns) same room in
                omega (arith, count_of-push_run log.turns turn n hart, more, few)
            | inr e ↦
                let none : is_number (cond (eqb turn hart) n 0) 0 = cond-false (eqb turn hart) n 0 e in
                let few = is.few_turns hart in
                omega (arith, count_of-push_run log.turns turn n hart, none, few)
          ];
    }

-- a hart that there isn't has no turns
pub count_of-none : (harts hart : ℕ) (turns : List ℕ) → AllByRecursion (λ turn. turn < harts) turns → harts ≤ hart → count_of turns hart ≡ 0
count_of-none harts hart [] all le = refl
count_of-none harts hart (turn ∷ turns) all le =
    let rest = count_of-none harts hart turns all.1 le in
    let below : turn < harts = all.0 in
    let other : eqb turn hart ≡ false = ne_eqb turn hart (λ e. omega (arith, below, le, e)) in
    let none : is_number (cond (eqb turn hart) 1 0) 0 = cond-false (eqb turn hart) 1 0 other in
    omega (arith, count_of-cons turn turns hart, none, rest)

-- Runs as a log keeps them: where they are found, what one more makes of them, where they end.
use Rattle.std.proofs.Common.{◌≡◌, ℕ, zero, suc, ◌+◌, ◌-◌, ◌<◌, ◌≤◌, Bool, true, false, cond, eqb, leb, List, [], ◌∷◌, ◌++◌, length, drop, replicate, Option}
use Rattle.std.proofs.Common.{Some, None, refl, sym, ap, subst, ◌∙◌, zero-add, arith, inl, inr}
use Rattle.std.specs.Prelude.{slice_get, get_or, set}
use Rattle.std.specs.List.{flat_map}
use Rattle.std.specs.List.Sorted.{IsNonDecreasingBy, IsPartitionPoint}
use Rattle.std.proofs.lemmas.Bool.{cond_both, cond-true, cond-false, eqb-true, eqb-false, ne_eqb, cases_Bool, cases_lt}
use Rattle.std.proofs.lemmas.List.{append_assoc, append-nil, length-append, length-replicate, get_or-append-add, get_or-replicate, get_or_past, length-set}
use Rattle.std.proofs.lemmas.List.{get_or-set_same, get_or-set_other}
use Rattle.std.proofs.lemmas.List.Elements.{recursion_from_All}
use Rattle.std.proofs.lemmas.Option.{slice_get-get_or}
use Rattle.std.proofs.Math.Seq.{drop-nil}
use Rattle.std.proofs.Math.Seq.{drop-append-add}
use Rattle.turn_log.specs.TurnLog.{LogState, IsLog, count_of, most_turns}
use Rattle.turn_log.specs.LogSpelling.{begins_with, expanded, runs_of, run_bytes, header, spelled}
use Rattle.turn_log.specs.inner.Kept.{runs_from, turns_of, is_of, with_run, IsRun, AreRuns, IsKept}
use Rattle.turn_log.specs.RunAt.{ahead, first_run, run_at}
use Rattle.turn_log.specs.declared.runs.Run.{Run}
use Rattle.turn_log.specs.inner.RunEnds.{RunEnd}
use Rattle.turn_log.proofs.RunAtLaws.{first_run-within}
use Rattle.turn_log.proofs.RunLaws.{runs_of-expanded, IsLog-push_run, count_of-push_run, count_of-none}

-- ---- the ends rise

ends_above : (harts start : ℕ) (runs : List RunEnd) → AreRuns harts (runs_from start runs) → (j : ℕ) (d : RunEnd) → j < length runs
    → start < (get_or runs j d).end
ends_above harts start [] are j d lt = absurd (omega arith)
ends_above harts start (run ∷ runs) are zero d lt = let some = are.0.some in omega (arith, some)
ends_above harts start (run ∷ runs) are (suc j) d lt =
    let some = are.0.some in
    let rest = ends_above harts run.end runs are.1 j d (omega arith) in
    omega (arith, some, rest)

pub ends_rise : (harts start : ℕ) (runs : List RunEnd) → AreRuns harts (runs_from start runs) → IsNonDecreasingBy (λ (run : RunEnd). run.end) runs
ends_rise harts start [] are i j d le lt = absurd (omega arith)
ends_rise harts start (run ∷ runs) are zero zero d le lt = omega arith
ends_rise harts start (run ∷ runs) are zero (suc j) d le lt = let above = ends_above harts run.end runs are.1 j d (omega arith) in omega (arith, above)
ends_rise harts start (run ∷ runs) are (suc i) zero d le lt = absurd (omega arith)
ends_rise harts start (run ∷ runs) are (suc i) (suc j) d le lt = ends_rise harts run.end runs are.1 i j d (omega arith) (omega arith)

-- ---- the run at a place

-- none of the turns at the front is of a hart with which the runs don't begin
ahead-other : (harts hart : ℕ) (runs : List Run) → AreRuns harts runs → begins_with runs hart ≡ false → ahead hart (expanded runs) ≡ 0
ahead-other harts hart [] are other = refl
ahead-other harts hart (run ∷ runs) are other =
    let k = run.length - 1 in
    let one : run.length ≡ suc k = let some = are.0.some in omega (arith, some) in
    let front : expanded (run ∷ runs) ≡ run.hart ∷ (replicate k run.hart ++ expanded runs) = ap (λ (n : ℕ). replicate n run.hart ++ expanded runs) one in
    ap (ahead hart) front ∙ cond-false (eqb run.hart hart) (suc (ahead hart (replicate k run.hart ++ expanded runs))) 0 other

abbrev pub from : ℕ → Option RunEnd → Option (ℕ × ℕ)
from place None = None
from place (Some run) = Some (run.hart, run.end - place)

pub found : (harts start place i : ℕ) (runs : List RunEnd) (d : RunEnd) → AreRuns harts (runs_from start runs) → start ≤ place
    → ((j : ℕ) → j < i → (get_or runs j d).end ≤ place) → ((j : ℕ) → i ≤ j → j < length runs → place < (get_or runs j d).end)
    → first_run (drop (place - start) (expanded (runs_from start runs))) ≡ from place (slice_get runs i)
found harts start place i [] d are le below above = ap first_run (drop-nil (place - start))
found harts start place zero (run ∷ runs) d are le below above =
    let behind : place < run.end = above 0 (omega arith) (omega arith) in
    let other = ahead-other harts run.hart (runs_from run.end runs) are.1 are.0.other in
    let n : (run.end - start) - (place - start) ≡ run.end - place = omega arith in
    first_run-within run.hart (run.end - start) (place - start) (expanded (runs_from run.end runs)) (omega arith) other
    ∙ ap (λ (k : ℕ). Some (run.hart, k)) n
found harts start place (suc i) (run ∷ runs) d are le below above =
    let before : run.end ≤ place = below 0 (omega arith) in
    let some = are.0.some in
    let turns = replicate (run.end - start) run.hart in
    let len : length turns ≡ run.end - start = length-replicate (run.end - start) run.hart in
    let n : place - start ≡ length turns + (place - run.end) = omega (arith, len, some, before) in
    let skipped : drop (place - start) (turns ++ expanded (runs_from run.end runs)) ≡ drop (place - run.end) (expanded (runs_from run.end runs)) =
    ap (λ (k : ℕ). drop k (turns ++ expanded (runs_from run.end runs))) n ∙ drop-append-add turns (expanded (runs_from run.end runs)) (place - run.end) in
    ap first_run skipped
    ∙ found harts run.end place i runs d are.1 before (λ j lt. below (suc j) (omega arith)) (λ j ge lt. above (suc j) (omega arith) (omega arith))

-- the same by where a search finds it
pub run_at-found : (harts place i : ℕ) (runs : List RunEnd) → AreRuns harts (runs_from 0 runs)
    → IsPartitionPoint (λ (run : RunEnd). run.end ≤ place) (λ (run : RunEnd). place < run.end) runs i
    → run_at (turns_of runs) place ≡ from place (slice_get runs i)
unfolding run_at
run_at-found harts place i runs are point =
    let none : RunEnd = record { hart = 0; end = 0 } in
    let n : place ≡ place - 0 = omega arith in
    ap (λ (k : ℕ). first_run (drop k (turns_of runs))) n
    ∙ found harts 0 place i runs none are (omega arith) (λ j lt. point.0 j none (omega arith) lt) (λ j ge lt. point.1 j none ge lt)

-- ---- where a search ends

pub same_at : (runs : List RunEnd) (place : ℕ) (d e : RunEnd) → place < length runs → get_or runs place d ≡ get_or runs place e
same_at [] place d e lt = absurd (omega arith)
same_at (run ∷ runs) zero d e lt = refl
same_at (run ∷ runs) (suc place) d e lt = same_at runs place d e (omega arith)

-- a run that ends after a place, where the one before it, if there is one, ends there or before
pub point-at : (runs : List RunEnd) (k place : ℕ) (d : RunEnd) → IsNonDecreasingBy (λ (run : RunEnd). run.end) runs → place < length runs
    → k < (get_or runs place d).end
    → ((j : ℕ) → j < place → (get_or runs (place - 1) d).end ≤ k) → IsPartitionPoint (λ (run : RunEnd). run.end ≤ k) (λ (run : RunEnd). k < run.end) runs
    place
point-at runs k place d rise within behind before = (
  λ j e _ lt.
      let same = ap (λ (run : RunEnd). run.end) (same_at runs j e d (omega (arith, lt, within))) in
      let up = rise j (place - 1) d (omega (arith, lt)) (omega (arith, lt, within)) in
      let ends = before j lt in
      omega (arith, same, up, ends),
  λ j e ge lt.
      let same = ap (λ (run : RunEnd). run.end) (same_at runs j e d lt) in
      let up = rise place j d ge lt in
      omega (arith, same, up, behind),
)

-- ---- where the runs end

abbrev pub last_end : ℕ → List RunEnd → ℕ
last_end start [] = start
last_end start (run ∷ runs) = last_end run.end runs

abbrev pub last_of : List RunEnd → Option RunEnd
last_of [] = None
last_of (run ∷ []) = Some run
last_of (first ∷ (second ∷ others)) = last_of (second ∷ others)

-- the last place, after the first one
one_less : (first second : RunEnd) (others : List RunEnd) → length (first ∷ (second ∷ others)) - 1 ≡ suc (length (second ∷ others) - 1)
one_less first second others = omega arith

pub last_at : (runs : List RunEnd) → slice_get runs (length runs - 1) ≡ last_of runs
last_at [] = refl
last_at (run ∷ []) = refl
last_at (first ∷ (second ∷ others)) = ap (slice_get (first ∷ (second ∷ others))) (one_less first second others) ∙ last_at (second ∷ others)

abbrev pub end_of : Option RunEnd → ℕ
end_of None = 0
end_of (Some run) = run.end

last_end-more : (start : ℕ) (first : RunEnd) (others : List RunEnd) → last_end start (first ∷ others) ≡ end_of (last_of (first ∷ others))
last_end-more start first [] = refl
last_end-more start first (second ∷ others) = last_end-more first.end second others

pub last_end-last : (runs : List RunEnd) → last_end 0 runs ≡ end_of (last_of runs)
last_end-last [] = refl
last_end-last (first ∷ others) = last_end-more 0 first others

-- the turns are as many as the last end says
pub length-turns : (harts start : ℕ) (runs : List RunEnd) → AreRuns harts (runs_from start runs) → start + length (expanded (runs_from start runs))
    ≡ last_end start runs
length-turns harts start [] are = omega arith
length-turns harts start (run ∷ runs) are =
    let rest = length-turns harts run.end runs are.1 in
    let some = are.0.some in
    omega (
      arith,
      rest,
      some,
      length-append (replicate (run.end - start) run.hart) (expanded (runs_from run.end runs)),
      length-replicate (run.end - start)
          run.hart,
    )

pub some_turns : (harts start : ℕ) (run : RunEnd) (runs : List RunEnd) → AreRuns harts (runs_from start (run ∷ runs))
    → 0 < length (expanded (runs_from start (run ∷ runs)))
some_turns harts start run runs are =
    let some = are.0.some in
    omega (arith, some, length-append (replicate (run.end - start) run.hart) (expanded (runs_from run.end runs)), length-replicate (run.end - start) run.hart)

pub last_turn : (harts start : ℕ) (runs : List RunEnd) (run : RunEnd) → AreRuns harts (runs_from start runs) → last_of runs ≡ Some run
    → get_or (expanded (runs_from start runs)) (length (expanded (runs_from start runs)) - 1) 0 ≡ run.hart
last_turn harts start [] run are e = absurd cc
last_turn harts start (first ∷ []) run are e =
    let same : first ≡ run = cc in
    let some = are.0.some in
    let n = first.end - start in
    let turns = replicate n first.hart in
    let len : length turns ≡ n = length-replicate n first.hart in
    let alone : expanded (runs_from start (first ∷ [])) ≡ turns = append-nil turns in
    ap (λ (ts : List ℕ). get_or ts (length ts - 1) 0) alone ∙ get_or-replicate n (length turns - 1) first.hart 0 (omega (arith, len, some))
    ∙ ap (λ (r : RunEnd). r.hart) same
last_turn harts start (first ∷ (second ∷ others)) run are e =
    let turns = replicate (first.end - start) first.hart in
    let rest = expanded (runs_from first.end (second ∷ others)) in
    let some = some_turns harts first.end second others are.1 in
    let place : length (turns ++ rest) - 1 ≡ length turns + (length rest - 1) = omega (arith, some, length-append turns rest) in
    ap (λ (k : ℕ). get_or (turns ++ rest) k 0) place ∙ get_or-append-add turns rest (length rest - 1) 0
    ∙ last_turn harts first.end (second ∷ others) run are.1 e

-- ---- one run more

suc-add : (m n : ℕ) → suc m + n ≡ suc (m + n)
suc-add m n = omega arith

replicate-add : (m n turn : ℕ) → replicate (m + n) turn ≡ replicate m turn ++ replicate n turn
replicate-add zero n turn = ap (λ (k : ℕ). replicate k turn) (zero-add n)
replicate-add (suc m) n turn = ap (λ (k : ℕ). replicate k turn) (suc-add m n) ∙ ap (λ (ts : List ℕ). turn ∷ ts) (replicate-add m n turn)

pub turns-with_run : (harts start : ℕ) (runs : List RunEnd) (run : RunEnd) → AreRuns harts (runs_from start runs) → last_end start runs < run.end
    → expanded (runs_from start (with_run runs run)) ≡ expanded (runs_from start runs) ++ replicate (run.end - last_end start runs) run.hart
turns-with_run harts start [] run are lt = append-nil (replicate (run.end - start) run.hart)
turns-with_run harts start (last ∷ []) run are lt =
    let some = are.0.some in
    let old = replicate (last.end - start) last.hart in
    let new = replicate (run.end - last.end) run.hart in
    cond_both (eqb last.hart run.hart) (run ∷ []) (last ∷ run ∷ [])
    (λ (made : List RunEnd). expanded (runs_from start made) ≡ (old ++ []) ++ new)
    (λ e.
    let same : last.hart ≡ run.hart = eqb-true last.hart run.hart e in
    let n : run.end - start ≡ (last.end - start) + (run.end - last.end) = omega (arith, some, lt) in
    append-nil (replicate (run.end - start) run.hart) ∙ ap (λ (k : ℕ). replicate k run.hart) n ∙ replicate-add (last.end - start) (run.end - last.end) run.hart
    ∙ ap (λ (h : ℕ). replicate (last.end - start) h ++ new) (sym same) ∙ ap (λ (ts : List ℕ). ts ++ new) (sym (append-nil old)))
    (λ e. ap (λ (ts : List ℕ). old ++ ts) (append-nil new) ∙ ap (λ (ts : List ℕ). ts ++ new) (sym (append-nil old)))
turns-with_run harts start (first ∷ (second ∷ others)) run are lt =
    let turns = replicate (first.end - start) first.hart in
    let rest = turns-with_run harts first.end (second ∷ others) run are.1 lt in
    ap (λ (ts : List ℕ). turns ++ ts) rest
    ∙ sym (append_assoc turns (expanded (runs_from first.end (second ∷ others))) (replicate (run.end - last_end first.end (second ∷ others)) run.hart))

begins_with-with_run : (start : ℕ) (first : RunEnd) (others : List RunEnd) (run : RunEnd) (hart : ℕ)
    → begins_with (runs_from start (with_run (first ∷ others) run)) hart ≡ begins_with (runs_from start (first ∷ others)) hart
begins_with-with_run start first [] run hart =
    cond_both (eqb first.hart run.hart) (run ∷ []) (first ∷ run ∷ []) (λ (made : List RunEnd). begins_with (runs_from start made) hart ≡ eqb first.hart hart)
    (λ e. let same : first.hart ≡ run.hart = eqb-true first.hart run.hart e in ap (λ (h : ℕ). eqb h hart) (sym same))
    (λ e. refl)
begins_with-with_run start first (second ∷ others) run hart = refl

other_way : (a b : ℕ) → eqb a b ≡ false → eqb b a ≡ false
other_way a b e = ne_eqb b a (λ same. eqb-false a b e (sym same))

pub AreRuns-with_run : (harts start : ℕ) (runs : List RunEnd) (run : RunEnd) → AreRuns harts (runs_from start runs) → last_end start runs < run.end
    → run.hart < harts → AreRuns harts (runs_from start (with_run runs run))
AreRuns-with_run harts start [] run are lt below = (record { below = below; some = omega (arith, lt); other = refl }, tt)
AreRuns-with_run harts start (last ∷ []) run are lt below =
    let some = are.0.some in
    cond_both (eqb last.hart run.hart) (run ∷ []) (last ∷ run ∷ []) (λ (made : List RunEnd). AreRuns harts (runs_from start made))
    (λ e. (record { below = below; some = omega (arith, lt, some); other = refl }, tt))
    (λ e. (
      record { below = are.0.below; some = some; other = other_way last.hart run.hart e },
      (
        record {
          below = below;
          some = omega (arith, lt);
          other =
              refl;
        },
        tt,
      ),
    ))
AreRuns-with_run harts start (first ∷ (second ∷ others)) run are lt below = (
  record { below = are.0.below; some = are.0.some; other = begins_with-with_run first.end second others run first.hart ∙ are.0.other },
  AreRuns-with_run harts first.end (second ∷ others) run are.1 lt below,
)

-- ---- how the code adds one

pub with_run-joins : (runs : List RunEnd) (run : RunEnd) → is_of (last_of runs) run.hart ≡ true → set runs (length runs - 1) run ≡ with_run runs run
with_run-joins [] run same = absurd cc
with_run-joins (first ∷ []) run same = sym (cond-true (eqb first.hart run.hart) (run ∷ []) (first ∷ run ∷ []) same)
with_run-joins (first ∷ (second ∷ others)) run same = ap (λ (k : ℕ). set (first ∷ (second ∷ others)) k run) (one_less first second others)
    ∙ ap (λ (rs : List RunEnd). first ∷ rs) (with_run-joins (second ∷ others) run same)

pub with_run-opens : (runs : List RunEnd) (run : RunEnd) → is_of (last_of runs) run.hart ≡ false → runs ++ run ∷ [] ≡ with_run runs run
with_run-opens [] run other = refl
with_run-opens (first ∷ []) run other = sym (cond-false (eqb first.hart run.hart) (run ∷ []) (first ∷ run ∷ []) other)
with_run-opens (first ∷ (second ∷ others)) run other = ap (λ (rs : List RunEnd). first ∷ rs) (with_run-opens (second ∷ others) run other)

-- ---- the last turn

last_of-there : (first : RunEnd) (others : List RunEnd) → last_of (first ∷ others) ≡ None → ⊥
last_of-there first [] e = cc
last_of-there first (second ∷ others) e = last_of-there second others e

pub no_turns : (runs : List RunEnd) → last_of runs ≡ None → turns_of runs ≡ []
no_turns [] e = refl
no_turns (first ∷ others) e = absurd (last_of-there first others e)

pub last_hart-none : (runs : List RunEnd) → last_of runs ≡ None → slice_get (turns_of runs) (length (turns_of runs) - 1) ≡ None
last_hart-none [] e = refl
last_hart-none (first ∷ others) e = absurd (last_of-there first others e)

pub last_hart-some : (harts : ℕ) (runs : List RunEnd) (run : RunEnd) → AreRuns harts (runs_from 0 runs) → last_of runs ≡ Some run
    → slice_get (turns_of runs) (length (turns_of runs) - 1) ≡ Some run.hart
last_hart-some harts [] run are e = absurd cc
last_hart-some harts (first ∷ others) run are e =
    let turns = turns_of (first ∷ others) in
    let some = some_turns harts 0 first others are in
    slice_get-get_or turns (length turns - 1) 0 (omega (arith, some)) ∙ ap (λ (h : ℕ). Some h) (last_turn harts 0 (first ∷ others) run are e)

other_hart : (harts : ℕ) (runs : List RunEnd) (hart : ℕ) (last : Option RunEnd) → last_of runs ≡ last → AreRuns harts (runs_from 0 runs)
    → is_of last hart ≡ false
    → slice_get (turns_of runs) (length (turns_of runs) - 1) ≡ Some hart → ⊥
other_hart harts runs hart None e are other same = let none = last_hart-none runs e in absurd cc
other_hart harts runs hart (Some run) e are other same =
    let some = last_hart-some harts runs run are e in
    let hart_is : run.hart ≡ hart = cc in
    eqb-false run.hart hart other hart_is

-- the last turn is of another hart, where the last run is
pub last_turn-other : (harts : ℕ) (runs : List RunEnd) (hart : ℕ) → AreRuns harts (runs_from 0 runs) → is_of (last_of runs) hart ≡ false
    → slice_get (turns_of runs) (length (turns_of runs) - 1) ≡ Some hart → ⊥
last_turn-other harts runs hart are other = other_hart harts runs hart (last_of runs) refl are other

-- ---- how many turns

pub length-some : (harts : ℕ) (runs : List RunEnd) (run : RunEnd) → AreRuns harts (runs_from 0 runs) → last_of runs ≡ Some run
    → length (turns_of runs) ≡ run.end
length-some harts runs run are e =
    let all = length-turns harts 0 runs are in
    let last : last_end 0 runs ≡ run.end = last_end-last runs ∙ ap end_of e in
    omega (arith, all, last)

-- a total by its place, also of a hart that there isn't
pub counted_at : (harts : ℕ) (totals : List ℕ) (runs : List RunEnd) (hart : ℕ) → IsKept harts totals runs
    → get_or totals hart 0 ≡ count_of (turns_of runs) hart
counted_at harts totals runs hart is =
    elim (cases_lt hart 8) [
      | inl lt ↦ is.counted hart lt
      | inr le ↦
          let few = is.log.few_harts in
          let places = is.places in
          let all = recursion_from_All (λ turn. turn < harts) (turns_of runs) is.log.turns_below in
          get_or_past totals hart 0 (omega (arith, places, le)) ∙ sym (count_of-none harts hart (turns_of runs) all (omega (arith, few, le)))
    ]

-- ---- a log with one more run

pub record Grown (harts : ℕ) (totals : List ℕ) (runs : List RunEnd) (run : RunEnd) (count : ℕ) : Type 0 where
  pub kept : IsKept harts (set totals run.hart (get_or totals run.hart 0 + count)) (with_run runs run)
  pub turns : turns_of (with_run runs run) ≡ turns_of runs ++ replicate count run.hart

abbrev is_number : ℕ → ℕ → Type 0
is_number m n = m ≡ n

pub grown : (harts : ℕ) (totals : List ℕ) (runs : List RunEnd) (run : RunEnd) (count : ℕ) → IsKept harts totals runs → run.hart < harts → 1 ≤ count
    → count_of (turns_of runs) run.hart + count ≤ most_turns → run.end ≡ length (turns_of runs) + count → Grown harts totals runs run count
grown harts totals runs run count is below some room ends =
    let all = length-turns harts 0 runs is.runs in
    let later : last_end 0 runs < run.end = omega (arith, all, ends, some) in
    let n : run.end - last_end 0 runs ≡ count = omega (arith, all, ends, some) in
    let turns : turns_of (with_run runs run) ≡ turns_of runs ++ replicate count run.hart = turns-with_run harts 0 runs run is.runs later
    ∙ ap (λ (k : ℕ). turns_of runs ++ replicate k run.hart) n in
    let log : LogState = record { harts = harts; turns = turns_of runs } in
    let total = get_or totals run.hart 0 + count in
    let places = is.places in
    let few = is.log.few_harts in
    record {
      kept = record {
        log = subst (λ (ts : List ℕ). IsLog (record { harts = harts; turns = ts })) (sym turns) (IsLog-push_run log run.hart count is.log below room);
        runs = AreRuns-with_run harts 0 runs run is.runs later below;
        places = length-set totals run.hart total ∙ is.places;
        counted = λ hart lt.
            let counted = is.counted hart lt in
            let more : count_of (turns_of (with_run runs run)) hart ≡ count_of (turns_of runs) hart + cond (eqb run.hart hart) count 0 =
            ap (λ (ts : List ℕ). count_of ts hart) turns ∙ count_of-push_run (turns_of runs) run.hart count hart in
            elim (cases_Bool (eqb run.hart hart)) [
              | inl e ↦
                  let same : run.hart ≡ hart = eqb-true run.hart hart e in
                  let here : is_number (cond (eqb run.hart hart) count 0) count = cond-true (eqb run.hart hart) count 0 e in
                  let new : get_or (set totals run.hart total) run.hart 0 ≡ total = get_or-set_same totals run.hart total 0 (omega (arith, places, few, below))
                  in
                  ap (λ (h : ℕ). get_or (set totals run.hart total) h 0) (sym same) ∙ new ∙ ap (λ (h : ℕ). get_or totals h 0 + count) same
                  ∙ ap (λ (k : ℕ). k + count) counted
                  ∙ ap (λ (k : ℕ). count_of (turns_of runs) hart + k) (sym here) ∙ sym more
              | inr e ↦
                  let none : is_number (cond (eqb run.hart hart) count 0) 0 = cond-false (eqb run.hart hart) count 0 e in
                  let other : hart ≡ run.hart → ⊥ = λ same. eqb-false run.hart hart e (sym same) in
                  let old : get_or (set totals run.hart total) hart 0 ≡ get_or totals hart 0 = get_or-set_other totals run.hart hart total 0 other in
                  omega (arith, old, counted, more, none)
            ];
      };
      turns = turns;
    }

-- ---- the runs one after the other

pub step : (start : ℕ) (rest : List RunEnd) (d : RunEnd) → 1 ≤ length rest
    → runs_from start rest ≡ record { hart = (get_or rest 0 d).hart; length = (get_or rest 0 d).end - start } ∷ runs_from (get_or rest 0 d).end (drop 1 rest)
step start [] d some = absurd (omega arith)
step start (first ∷ others) d some = refl

-- as many runs as are kept
pub length-runs_from : (start : ℕ) (runs : List RunEnd) → length (runs_from start runs) ≡ length runs
length-runs_from start [] = refl
length-runs_from start (run ∷ runs) = ap suc (length-runs_from run.end runs)

-- which are the longest runs
pub runs_of-kept : (harts : ℕ) (totals : List ℕ) (runs : List RunEnd) → IsKept harts totals runs → runs_of (turns_of runs) ≡ runs_from 0 runs
runs_of-kept harts totals runs is = runs_of-expanded harts (runs_from 0 runs) is.runs

-- and are spelled
pub spelled-kept : (harts : ℕ) (totals : List ℕ) (runs : List RunEnd) → IsKept harts totals runs → spelled (record { harts = harts; turns = turns_of runs })
    ≡ header harts (length runs) ++ flat_map run_bytes (runs_from 0 runs)
spelled-kept harts totals runs is =
    ap (λ (rs : List Run). header harts (length rs) ++ flat_map run_bytes rs) (runs_of-kept harts totals runs is)
    ∙ ap (λ (n : ℕ). header harts n ++ flat_map run_bytes (runs_from 0 runs)) (length-runs_from 0 runs)

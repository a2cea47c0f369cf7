-- Judging runs one after the other, as a loop does.
use Rattle.std.proofs.Common.{◌≡◌, ℕ, suc, ◌+◌, ◌-◌, ◌<◌, ◌≤◌, Bool, true, false, cond, ◌||◌, eqb, ltb, leb, List, [], ◌∷◌, ◌++◌, length, drop, replicate}
use Rattle.std.proofs.Common.{Option, Some, Result, Ok, Err, refl, sym, ap, ◌∙◌, arith}
use Rattle.std.specs.Prelude.{slice_get, get_or}
use Rattle.std.specs.List.{AllByRecursion}
use Rattle.std.specs.Option.{option_eq}
use Rattle.std.proofs.lemmas.Bool.{lt-ltb, le-ltb, lt-leb, ne_eqb, or_from}
use Rattle.std.proofs.lemmas.List.{append_assoc, append-nil, length-append, length-replicate, get_or-append-add, get_or-replicate}
use Rattle.std.proofs.lemmas.Option.{slice_get-get_or}
use Rattle.turn_log.specs.TurnLog.{count_of, most_turns}
use Rattle.turn_log.specs.inner.SoFar.{turns_before}
use Rattle.turn_log.specs.LogSpelling.{◌>>=◌, begins_with, total_of, expanded, run_read, judged, front_run, front_runs}
use Rattle.turn_log.specs.declared.log_faults.LogFault.{LogFault}
use Rattle.turn_log.specs.declared.log_faults.LogFault.TheVariants.{Truncated, TooManyTurns}
use Rattle.turn_log.specs.declared.runs.Run.{Run}
use Rattle.turn_log.proofs.RunLaws.{total_of-cons, count_of-push_run}

-- the runs of `before`, the last one first, and then the others
abbrev pub behind : List Run → List Run → List Run
behind [] runs = runs
behind (run ∷ before) runs = behind before (run ∷ runs)

-- what was judged before, and what is still judged
abbrev pub with_front : List Run → Result (List Run × List ℕ) LogFault → Result (List Run × List ℕ) LogFault
with_front before read = read >>= λ x. Ok (behind before x.0, x.1)

regroup : (before : List Run) (run : Run) (read : Result (List Run × List ℕ) LogFault) → with_front before (read >>= λ x. Ok (run ∷ x.0, x.1))
    ≡ with_front (run ∷ before) read
regroup before run (Ok x) = refl
regroup before run (Err fault) = refl

-- the run at the front of enough bytes is the one that they spell, as it is judged
front_run-long : (harts : ℕ) (before : List Run) (bytes : List ℕ) → 9 ≤ length bytes
    → front_run harts before bytes ≡ (judged harts before (run_read bytes) >>= λ run. Ok (run, drop 9 bytes))
unfolding front_run
front_run-long harts before bytes long = let e : ltb (length bytes) 9 ≡ false = le-ltb _ _ long in rw e refl

front_run-short : (harts : ℕ) (before : List Run) (bytes : List ℕ) → length bytes < 9 → front_run harts before bytes ≡ Err Truncated
unfolding front_run
front_run-short harts before bytes short = let e : ltb (length bytes) 9 ≡ true = lt-ltb _ _ short in rw e refl

pub goes_on : (harts count i : ℕ) (before : List Run) (bytes : List ℕ) (run : Run) (total : Result (List Run × List ℕ) LogFault) → i < count → 9 ≤ length bytes
    → run ≡ run_read bytes → judged harts before run ≡ Ok run
    → with_front before (front_runs harts (count - i) before bytes) ≡ total
    → with_front (run ∷ before) (front_runs harts (count - (i + 1)) (run ∷ before) (drop 9 bytes)) ≡ total
unfolding front_runs
goes_on harts count i before bytes run total lt long is ok so_far =
    let k : count - i ≡ suc (count - (i + 1)) = omega arith in
    let at : front_run harts before bytes ≡ Ok (run, drop 9 bytes) = front_run-long harts before bytes long ∙ rw (← is, ok) refl in
    let one : with_front before (front_runs harts (count - i) before bytes) ≡ with_front (run ∷ before) (front_runs harts (count - (i + 1)) (run ∷ before)
    (drop 9 bytes)) =
    rw (k, at) (regroup before run (front_runs harts (count - (i + 1)) (run ∷ before) (drop 9 bytes))) in
    sym one ∙ so_far

-- the first run that has a fault ends it
ends : (harts count i : ℕ) (before : List Run) (bytes : List ℕ) (fault : LogFault) (total : Result (List Run × List ℕ) LogFault) → i < count
    → front_run harts before bytes ≡ Err fault
    → with_front before (front_runs harts (count - i) before bytes) ≡ total → total ≡ Err fault
unfolding front_runs
ends harts count i before bytes fault total lt at so_far =
    let k : count - i ≡ suc (count - (i + 1)) = omega arith in
    let one : with_front before (front_runs harts (count - i) before bytes) ≡ Err fault = rw (k, at) refl in
    sym so_far ∙ one

pub ends_short : (harts count i : ℕ) (before : List Run) (bytes : List ℕ) (total : Result (List Run × List ℕ) LogFault) → i < count → length bytes < 9
    → with_front before (front_runs harts (count - i) before bytes) ≡ total → total ≡ Err Truncated
ends_short harts count i before bytes total lt short = ends harts count i before bytes Truncated total lt (front_run-short harts before bytes short)

pub ends_judged : (harts count i : ℕ) (before : List Run) (bytes : List ℕ) (run : Run) (fault : LogFault) (total : Result (List Run × List ℕ) LogFault)
    → i < count → 9 ≤ length bytes → run ≡ run_read bytes → judged harts before run ≡ Err fault
    → with_front before (front_runs harts (count - i) before bytes) ≡ total → total ≡ Err fault
ends_judged harts count i before bytes run fault total lt long is bad =
    ends harts count i before bytes fault total lt (front_run-long harts before bytes long ∙ rw (← is, bad) refl)

pub is_done : (harts count i : ℕ) (before : List Run) (bytes : List ℕ) (total : Result (List Run × List ℕ) LogFault) → count ≤ i
    → with_front before (front_runs harts (count - i) before bytes) ≡ total → total ≡ Ok (behind before [], bytes)
unfolding front_runs
is_done harts count i before bytes total le so_far =
    let k : count - i ≡ 0 = omega arith in
    let one : with_front before (front_runs harts (count - i) before bytes) ≡ Ok (behind before [], bytes) = rw k refl in
    sym so_far ∙ one

pub starts : (harts count : ℕ) (bytes : List ℕ) → with_front [] (front_runs harts (count - 0) [] bytes) ≡ front_runs harts count [] bytes
starts harts count bytes =
    let k : count - 0 ≡ count = omega arith in
    ap (λ (n : ℕ). with_front [] (front_runs harts n [] bytes)) k ∙ same (front_runs harts count [] bytes)
  where
    same : (read : Result (List Run × List ℕ) LogFault) → with_front [] read ≡ read
    same (Ok x) = refl
    same (Err fault) = refl

-- ---- the log so far

-- the runs in their order stand for the turns so far
pub expanded-behind : (before runs : List Run) → expanded (behind before runs) ≡ turns_before before ++ expanded runs
expanded-behind [] runs = refl
expanded-behind (run ∷ before) runs = expanded-behind before (run ∷ runs)
    ∙ sym (append_assoc (turns_before before) (replicate run.length run.hart) (expanded runs))

pub expanded-all : (before : List Run) → expanded (behind before []) ≡ turns_before before
expanded-all before = expanded-behind before [] ∙ append-nil (turns_before before)

pub total_of-before : (before : List Run) (hart : ℕ) → total_of before hart ≡ count_of (turns_before before) hart
total_of-before [] hart = refl
total_of-before (run ∷ before) hart =
    let rest = total_of-before before hart in
    omega (arith, total_of-cons run before hart, count_of-push_run (turns_before before) run.hart run.length hart, rest)

abbrev has_last : List ℕ → ℕ → Bool
has_last turns hart = option_eq eqb (slice_get turns (length turns - 1)) (Some hart)

last_behind : (turns : List ℕ) (turn n : ℕ) → 0 < n → slice_get (turns ++ replicate n turn) (length (turns ++ replicate n turn) - 1) ≡ Some turn
last_behind turns turn n some =
    let all = turns ++ replicate n turn in
    let len : length all ≡ length turns + n = length-append turns (replicate n turn) ∙ ap (λ (k : ℕ). length turns + k) (length-replicate n turn) in
    let place : length all - 1 ≡ length turns + (n - 1) = omega (arith, len, some) in
    slice_get-get_or all (length all - 1) 0 (omega (arith, len, some))
    ∙ ap (λ (h : ℕ). Some h) (ap (λ (k : ℕ). get_or all k 0) place ∙ get_or-append-add turns (replicate n turn) (n - 1) 0
    ∙ get_or-replicate n (n - 1) turn 0 (omega (arith, some)))

pub begins_with-last : (before : List Run) (hart : ℕ) → AllByRecursion (λ run. 0 < run.length) before
    → begins_with before hart ≡ has_last (turns_before before) hart
begins_with-last [] hart some = refl
begins_with-last (run ∷ before) hart some =
    sym (ap (λ (o : Option ℕ). option_eq eqb o (Some hart)) (last_behind (turns_before before) run.hart run.length some.0))

-- what the log so far says of a further run
pub judged_too_many : (harts : ℕ) (before : List Run) (run : Run) → run.hart < harts → (run.length ≡ 0 → ⊥) → begins_with before run.hart ≡ false
    → most_turns < total_of before run.hart + run.length → judged harts before run ≡ Err TooManyTurns
unfolding judged
judged_too_many harts before run below some other many =
    let is_below : leb harts run.hart ≡ false = lt-leb harts run.hart below in
    let goes_on : (eqb run.length 0 || begins_with before run.hart) ≡ false = or_from _ _ (ne_eqb run.length 0 some) other in
    let too_many : ltb most_turns (total_of before run.hart + run.length) ≡ true = lt-ltb _ _ many in
    rw (is_below, goes_on, too_many) refl

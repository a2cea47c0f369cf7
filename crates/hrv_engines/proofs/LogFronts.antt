-- Bytes that are no log, for another reason than that they end too soon, begin none.
use Rattle.std.proofs.Common.{◌≡◌, ◌∙◌, ◌<◌, ◌≤◌, ◌+◌, ℕ, zero, suc, Bool, true, false, nat_lt, List, [], ◌∷◌, ◌++◌, length, drop, Result, Ok, Err}
use Rattle.std.proofs.Common.{arith, refl, sym, ap, cond, subst}
use Rattle.std.specs.Prelude.{◌≢◌, ◌||◌, ◌==◌, codes, nat_eq, nat_le, not, slice_index}
use Rattle.std.specs.List.{starts_with}
use Rattle.std.proofs.Math.ListN.{get_or-append}
use Rattle.std.proofs.lemmas.Bool.{eq-eqb, eqb-true, le-ltb, ltb-false}
use Rattle.std.proofs.lemmas.List.{drop-append-le, length-append, length-drop}
use Rattle.byteorder.specs.Endian.{little_number}
use Rattle.byteorder.specs.Numbers.{little_from-append}
use Rattle.turn_log.specs.TurnLog.{LogState}
use Rattle.turn_log.specs.LogSpelling.{◌>>=◌, expanded, front_run, front_runs, header_at, judged, log_at, log_of, run_read}
use Rattle.turn_log.specs.declared.log_faults.LogFault.{LogFault}
use Rattle.turn_log.specs.declared.log_faults.LogFault.TheVariants.{Truncated, NotCanonical, Hart, Magic}
use Rattle.turn_log.specs.declared.runs.Run.{Run}

-- An answer to a front stays where more bytes follow: what is read, with more left after it, or a fault other than that the bytes end.
abbrev Stays : {A : Type 0} → List ℕ → Result (A × List ℕ) LogFault → Result (A × List ℕ) LogFault → Type 0
Stays rest (Ok read) s = s ≡ Ok (read.0, read.1 ++ rest)
Stays rest (Err fault) s = fault ≢ Truncated → s ≡ Err fault

-- ---- the header

-- the same of an answer that leaves no bytes
abbrev Holds : {A : Type 0} → Result A LogFault → Result A LogFault → Type 0
Holds (Ok read) s = s ≡ Ok read
Holds (Err fault) s = fault ≢ Truncated → s ≡ Err fault

same : {A : Type 0} (r s : Result A LogFault) → s ≡ r → Holds r s
same (Ok read) s e = e
same (Err fault) s e = λ other. e

same_magic : (front rest : List ℕ) → 4 ≤ length front → starts_with nat_eq (front ++ rest) (codes "HRL1") ≡ starts_with nat_eq front (codes "HRL1")
same_magic [] rest long = absurd (omega (arith, long))
same_magic (a ∷ []) rest long = absurd (omega (arith, long))
same_magic (a ∷ b ∷ []) rest long = absurd (omega (arith, long))
same_magic (a ∷ b ∷ c ∷ []) rest long = absurd (omega (arith, long))
same_magic (a ∷ b ∷ c ∷ d ∷ more) rest long = refl

same_number : (n place : ℕ) (front rest : List ℕ) → place + n ≤ length front → little_number n (drop place (front ++ rest)) ≡ little_number n (drop place front)
same_number n place front rest room =
    ap (little_number n) (drop-append-le place front rest (omega (arith, room)))
    ∙ little_from-append n (drop place front) rest (omega (arith, room, length-drop place front))

abbrev by_harts : List ℕ → Result (ℕ × ℕ) LogFault
by_harts bytes =
    let harts = little_number 4 (drop 4 bytes) in
    cond (harts == 0 || nat_lt 8 harts) (Err Hart) (Ok (harts, little_number 8 (drop 8 bytes)))

header_stays : (front rest : List ℕ) → Holds (header_at front) (header_at (front ++ rest))
unfolding header_at
header_stays front rest = by_four (nat_lt (length front) 4) refl
  where
    longer : length (front ++ rest) ≡ length front + length rest
    longer = length-append front rest

    by_sixteen : (short : Bool) → nat_lt (length front) 16 ≡ short
        → Holds (cond short (Err Truncated) (by_harts front)) (cond (nat_lt (length (front ++ rest)) 16) (Err Truncated) (by_harts (front ++ rest)))
    by_sixteen true is = λ other. absurd (other refl)
    by_sixteen false is =
        let room : 16 ≤ length front = ltb-false (length front) 16 is in
        let long : nat_lt (length (front ++ rest)) 16 ≡ false = le-ltb (length (front ++ rest)) 16 (omega (arith, room, longer)) in
        rw (long, same_number 4 4 front rest (omega (arith, room)), same_number 8 8 front rest (omega (arith, room))) (same (by_harts front) (by_harts front) refl)

    by_magic : (bad : Bool) → 4 ≤ length front
        → Holds (cond bad (Err Magic) (cond (nat_lt (length front) 16) (Err Truncated) (by_harts front)))
        (cond bad (Err Magic) (cond (nat_lt (length (front ++ rest)) 16) (Err Truncated) (by_harts (front ++ rest))))
    by_magic true room = λ other. refl
    by_magic false room = by_sixteen (nat_lt (length front) 16) refl

    by_four : (short : Bool) → nat_lt (length front) 4 ≡ short
        → Holds (cond short (Err Truncated) (cond (not (starts_with nat_eq front (codes "HRL1"))) (Err Magic)
        (cond (nat_lt (length front) 16) (Err Truncated) (by_harts front))))
        (cond (nat_lt (length (front ++ rest)) 4) (Err Truncated) (cond (not (starts_with nat_eq (front ++ rest) (codes "HRL1"))) (Err Magic)
        (cond (nat_lt (length (front ++ rest)) 16) (Err Truncated) (by_harts (front ++ rest)))))
    by_four true is = λ other. absurd (other refl)
    by_four false is =
        let room : 4 ≤ length front = ltb-false (length front) 4 is in
        let long : nat_lt (length (front ++ rest)) 4 ≡ false = le-ltb (length (front ++ rest)) 4 (omega (arith, room, longer)) in
        rw (long, same_magic front rest room) (by_magic (not (starts_with nat_eq front (codes "HRL1"))) room)

-- a header that is read has its sixteen bytes
header_long : (front : List ℕ) (numbers : ℕ × ℕ) → header_at front ≡ Ok numbers → 16 ≤ length front
unfolding header_at
header_long front numbers = by_four (nat_lt (length front) 4)
  where
    by_sixteen : (short : Bool) → nat_lt (length front) 16 ≡ short → cond short (Err Truncated) (by_harts front) ≡ Ok numbers → 16 ≤ length front
    by_sixteen true is e = cc
    by_sixteen false is e = ltb-false (length front) 16 is

    by_magic : (bad : Bool) → cond bad (Err Magic) (cond (nat_lt (length front) 16) (Err Truncated) (by_harts front)) ≡ Ok numbers → 16 ≤ length front
    by_magic true e = cc
    by_magic false e = by_sixteen (nat_lt (length front) 16) refl e

    by_four : (short : Bool) → cond short (Err Truncated) (cond (not (starts_with nat_eq front (codes "HRL1"))) (Err Magic)
        (cond (nat_lt (length front) 16) (Err Truncated) (by_harts front))) ≡ Ok numbers → 16 ≤ length front
    by_four true e = cc
    by_four false e = by_magic (not (starts_with nat_eq front (codes "HRL1"))) e

-- ---- runs

same_run : (front rest : List ℕ) → 9 ≤ length front → run_read (front ++ rest) ≡ run_read front
same_run front rest room =
    rw (get_or-append front rest 0 0 (omega (arith, room)), same_number 8 1 front rest (omega (arith, room))) refl

run_stays : (harts : ℕ) (before : List Run) (front rest : List ℕ) → Stays rest (front_run harts before front) (front_run harts before (front ++ rest))
unfolding front_run
run_stays harts before front rest = by_nine (nat_lt (length front) 9) refl
  where
    read_on : (found : Result Run LogFault)
        → Stays rest (found >>= λ run. Ok (run, drop 9 front)) (found >>= λ run. Ok (run, drop 9 front ++ rest))
    read_on (Ok run) = refl
    read_on (Err fault) = λ other. refl

    by_nine : (short : Bool) → nat_lt (length front) 9 ≡ short
        → Stays rest (cond short (Err Truncated) (judged harts before (run_read front) >>= λ run. Ok (run, drop 9 front)))
        (cond (nat_lt (length (front ++ rest)) 9) (Err Truncated) (judged harts before (run_read (front ++ rest)) >>= λ run. Ok (
          run,
          drop 9 (front ++ rest),
        )))
    by_nine true is = λ other. absurd (other refl)
    by_nine false is =
        let room : 9 ≤ length front = ltb-false (length front) 9 is in
        let long : nat_lt (length (front ++ rest)) 9 ≡ false = le-ltb (length (front ++ rest)) 9 (omega (arith, room, length-append front rest)) in
        rw (long, same_run front rest room, drop-append-le 9 front rest room) (read_on (judged harts before (run_read front)))

runs_stay : (harts count : ℕ) (before : List Run) (front rest : List ℕ)
    → Stays rest (front_runs harts count before front) (front_runs harts count before (front ++ rest))
unfolding front_runs
runs_stay harts zero before front rest = refl
runs_stay harts (suc count) before front rest =
    by_first (λ run left. runs_stay harts count (run ∷ before) left rest) (front_run harts before front) (front_run harts before (front ++ rest))
    (run_stays harts before front rest)
  where
    by_others : (run : Run) (r s : Result (List Run × List ℕ) LogFault) → Stays rest r s
        → Stays rest (r >>= λ others. Ok (run ∷ others.0, others.1)) (s >>= λ others. Ok (run ∷ others.0, others.1))
    by_others run (Ok others) s stays = ap (λ found. found >>= λ others. Ok (run ∷ others.0, others.1)) stays
    by_others run (Err fault) s stays = λ other. ap (λ found. found >>= λ others. Ok (run ∷ others.0, others.1)) (stays other)

    by_first : ((run : Run) (left : List ℕ) → Stays rest (front_runs harts count (run ∷ before) left) (front_runs harts count (run ∷ before) (left ++ rest)))
        → (r s : Result (Run × List ℕ) LogFault) → Stays rest r s
        → Stays rest (r >>= λ first. front_runs harts count (first.0 ∷ before) first.1 >>= λ others. Ok (first.0 ∷ others.0, others.1))
        (s >>= λ first. front_runs harts count (first.0 ∷ before) first.1 >>= λ others. Ok (first.0 ∷ others.0, others.1))
    by_first later (Ok first) s stays =
        subst (λ (found : Result (Run × List ℕ) LogFault). Stays rest (front_runs harts count (first.0 ∷ before) first.1 >>= λ others. Ok (
          first.0 ∷ others.0,
          others.1,
        )) (found >>= λ first. front_runs harts count (first.0 ∷ before) first.1 >>= λ others. Ok (first.0 ∷ others.0, others.1))) (sym stays)
        (by_others first.0 _ _ (later first.0 first.1))
    by_first later (Err fault) s stays = λ other. ap (λ found. found >>= λ first. front_runs harts count (first.0
        ∷ before) first.1 >>= λ others. Ok (first.0 ∷ others.0, others.1)) (stays other)

-- ---- the whole

log_stays : (front rest : List ℕ) → Stays rest (log_at front) (log_at (front ++ rest))
unfolding log_at
log_stays front rest = by_header (header_at front) (header_at (front ++ rest)) refl (header_stays front rest)
  where
    by_runs : (harts : ℕ) (r s : Result (List Run × List ℕ) LogFault) → Stays rest r s
        → Stays {A = LogState} rest (r >>= λ runs. Ok (record { harts = harts; turns = expanded runs.0 }, runs.1))
        (s >>= λ runs. Ok (record { harts = harts; turns = expanded runs.0 }, runs.1))
    by_runs harts (Ok runs) s stays = ap (λ found. found >>= λ runs. Ok (record { harts = harts; turns = expanded runs.0 }, runs.1)) stays
    by_runs harts (Err fault) s stays =
        λ other. ap (λ found. found >>= λ runs. Ok (record { harts = harts; turns = expanded runs.0 }, runs.1)) (stays other)

    by_header : (r s : Result (ℕ × ℕ) LogFault) → header_at front ≡ r → Holds r s
        → Stays {A = LogState} rest (r >>= λ numbers. front_runs numbers.0 numbers.1 [] (drop 16 front) >>= λ runs. Ok (
          record { harts = numbers.0; turns = expanded runs.0 },
          runs.1,
        ))
        (s >>= λ numbers. front_runs numbers.0 numbers.1 [] (drop 16 (front ++ rest)) >>= λ runs. Ok (
          record { harts = numbers.0; turns = expanded runs.0 },
          runs.1,
        ))
    by_header (Ok numbers) s is holds =
        let left = drop-append-le 16 front rest (header_long front numbers is) in
        rw (holds, left) (by_runs numbers.0 _ _ (runs_stay numbers.0 numbers.1 [] (drop 16 front) rest))
    by_header (Err fault) s is holds = λ other. rw (holds other) refl

not_empty : (byte : ℕ) (left : List ℕ) → (length (byte ∷ left) == 0) ≡ false
not_empty byte left = by (length (byte ∷ left) == 0) refl
  where
    by : (empty : Bool) → (length (byte ∷ left) == 0) ≡ empty → (length (byte ∷ left) == 0) ≡ false
    by false is = is
    by true is = absurd (omega (arith, eqb-true (length (byte ∷ left)) 0 is))

pub same_fault : (front rest : List ℕ) (fault : LogFault) → fault ≢ Truncated → log_of front ≡ Err fault → log_of (front ++ rest) ≡ Err fault
unfolding log_of
same_fault front rest fault other = by_log (log_at front) (log_at (front ++ rest)) (log_stays front rest)
  where
    by_left : (log : LogState) (left : List ℕ) → cond (length left == 0) (Ok log) (Err NotCanonical) ≡ Err fault
        → cond (length (left ++ rest) == 0) (Ok log) (Err NotCanonical) ≡ Err fault
    by_left log [] e = cc
    by_left log (byte ∷ left) e = rw (not_empty byte (left ++ rest)) (rw (not_empty byte left) at e)

    by_log : (r s : Result (LogState × List ℕ) LogFault) → Stays rest r s
        → (r >>= λ log. cond (length log.1 == 0) (Ok log.0) (Err NotCanonical)) ≡ Err fault
        → (s >>= λ log. cond (length log.1 == 0) (Ok log.0) (Err NotCanonical)) ≡ Err fault
    by_log (Ok log) s stays e = rw stays (by_left log.0 log.1 e)
    by_log (Err found) s stays e =
        let is : found ≡ fault = cc e in
        rw (stays (λ short. other (sym is ∙ short))) e

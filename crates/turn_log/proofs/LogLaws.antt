-- The laws of reading: what is read is spelled so, what is spelled so is read, whatever follows.
use Rattle.std.proofs.Common.{◌≡◌, ℕ, zero, suc, ◌+◌, ◌*◌, ◌^◌, ◌<◌, ◌≤◌, Bool, true, false, cond, eqb, List, [], ◌∷◌, ◌++◌, length, drop, replicate, Result}
use Rattle.std.proofs.Common.{Ok, Err, refl, sym, ap, subst, ◌∙◌, arith}
use Rattle.std.specs.Prelude.{IfOk, IfErr}
use Rattle.std.specs.List.{flat_map, AllByRecursion}
use Rattle.std.proofs.lemmas.Bool.{eqb-true}
use Rattle.std.proofs.lemmas.List.{append_assoc, append-nil, nil_from_length, length-append}
use Rattle.turn_log.specs.TurnLog.{LogState, IsLog}
use Rattle.turn_log.specs.LogSpelling.{runs_of, expanded, run_bytes, header, spelled, ◌>>=◌, header_at, run_read, front_run, front_runs, log_at, log_of}
use Rattle.turn_log.specs.LogSpelling.{Answers, Refuses}
use Rattle.turn_log.specs.declared.log_faults.LogFault.{LogFault}
use Rattle.turn_log.specs.declared.log_faults.LogFault.TheVariants.{Magic, Truncated, Hart, NotCanonical, TooManyTurns, OutOfMemory}
use Rattle.turn_log.specs.declared.runs.Run.{Run}
use Rattle.turn_log.proofs.RunLaws.{AllFollow, AllFollow-log, IsLog-expanded, AreRuns-from_follow, runs_of-expanded, expanded-runs_of, few_runs}
use Rattle.turn_log.proofs.LogFields.{IsBytes, IsBytes-drop, bind_ok, ok_is, header_takes, header_again, drop-header, length-header, run_takes, run_again}
use Rattle.turn_log.proofs.LogFields.{run_read-again, drop-run, length-run}

-- ---- runs

pub record AreRunsAt (harts : ℕ) (before : List Run) (bytes : List ℕ) (runs : List Run) (rest : List ℕ) : Type 0 where
  pub parts : bytes ≡ flat_map run_bytes runs ++ rest
  pub follow : AllFollow harts before runs

pub runs_take : (harts count : ℕ) (before : List Run) (bytes : List ℕ) (x : List Run × List ℕ) → IsBytes bytes → front_runs harts count before bytes ≡ Ok x
    → AreRunsAt harts before bytes x.0 x.1 × (length x.0 ≡ count)
unfolding front_runs
runs_take harts zero before bytes x fits e =
    subst (λ (y : List Run × List ℕ). AreRunsAt harts before bytes y.0 y.1 × (length y.0 ≡ 0)) (ok_is ([], bytes) x e) (
      record { parts = refl; follow = tt },
      refl,
    )
runs_take harts (suc count) before bytes x fits e =
    let a = bind_ok (front_run harts before bytes) (λ first. front_runs harts count (first.0 ∷ before) first.1 >>= λ others. Ok (first.0 ∷ others.0, others.1))
    x e in
    let b = bind_ok (front_runs harts count (a.0.0 ∷ before) a.0.1) (λ others. Ok (a.0.0 ∷ others.0, others.1)) x a.2 in
    let first = run_takes harts before bytes a.0 fits a.1 in
    let others = runs_take harts count (a.0.0 ∷ before) a.0.1 b.0 first.rest_fits b.1 in
    let made : List Run × List ℕ = (a.0.0 ∷ b.0.0, b.0.1) in
    let parts : bytes ≡ flat_map run_bytes (a.0.0 ∷ b.0.0) ++ b.0.1 =
    first.parts ∙ ap (λ (t : List ℕ). run_bytes a.0.0 ++ t) others.0.parts ∙ sym (append_assoc (run_bytes a.0.0) (flat_map run_bytes b.0.0) b.0.1) in
    subst (λ (y : List Run × List ℕ). AreRunsAt harts before bytes y.0 y.1 × (length y.0 ≡ suc count)) (ok_is made x b.2)
    (record { parts = parts; follow = (first.follows, others.0.follow) }, ap suc others.1)

pub runs_again : (harts : ℕ) (before runs : List Run) (rest : List ℕ) → AllFollow harts before runs
    → front_runs harts (length runs) before (flat_map run_bytes runs ++ rest) ≡ Ok (runs, rest)
unfolding front_runs
runs_again harts before [] rest all = refl
runs_again harts before (run ∷ runs) rest all =
    let regrouped : flat_map run_bytes (run ∷ runs) ++ rest ≡ run_bytes run ++ (flat_map run_bytes runs ++ rest) = append_assoc (run_bytes run)
    (flat_map run_bytes runs) rest in
    ap (front_runs harts (suc (length runs)) before) regrouped
    ∙ rw (run_again harts before run (flat_map run_bytes runs ++ rest) all.0, runs_again harts (run ∷ before) runs rest all.1) refl

-- ---- a log

pub record IsLogAt (bytes : List ℕ) (log : LogState) (rest : List ℕ) : Type 0 where
  pub parts : bytes ≡ spelled log ++ rest
  pub log_is : IsLog log

pub log_takes : (bytes : List ℕ) (x : LogState × List ℕ) → IsBytes bytes → log_at bytes ≡ Ok x → IsLogAt bytes x.0 x.1
unfolding log_at
log_takes bytes x fits e =
    let a = bind_ok (header_at bytes) (λ numbers. front_runs numbers.0 numbers.1 [] (drop 16 bytes) >>= λ runs. Ok (
      record {
        harts = numbers.0;
        turns =
            expanded runs.0;
      },
      runs.1,
    )) x e in
    let harts = a.0.0 in
    let b = bind_ok (front_runs harts a.0.1 [] (drop 16 bytes)) (λ runs. Ok (record { harts = harts; turns = expanded runs.0 }, runs.1)) x a.2 in
    let runs = b.0.0 in
    let log : LogState = record { harts = harts; turns = expanded runs } in
    let head = header_takes bytes a.0 fits a.1 in
    let tail = runs_take harts a.0.1 [] (drop 16 bytes) b.0 (IsBytes-drop 16 bytes fits) b.1 in
    let same : runs ≡ runs_of (expanded runs) = sym (runs_of-expanded harts runs (AreRuns-from_follow harts [] runs tail.0.follow)) in
    let parts : bytes ≡ spelled log ++ b.0.1 =
    head.parts ∙ ap (λ (t : List ℕ). header harts a.0.1 ++ t) tail.0.parts
    ∙ ap (λ (n : ℕ). header harts n ++ (flat_map run_bytes runs ++ b.0.1)) (sym tail.1)
    ∙ sym (append_assoc (header harts (length runs)) (flat_map run_bytes runs) b.0.1)
    ∙ ap (λ (rs : List Run). (header harts (length rs) ++ flat_map run_bytes rs) ++ b.0.1) same in
    subst (λ (y : LogState × List ℕ). IsLogAt bytes y.0 y.1) (ok_is (log, b.0.1) x b.2)
    (record { parts = parts; log_is = IsLog-expanded harts runs head.some head.few tail.0.follow })

pub log_again : (log : LogState) (rest : List ℕ) → IsLog log → log_at (spelled log ++ rest) ≡ Ok (log, rest)
unfolding log_at
log_again log rest is =
    let runs = runs_of log.turns in
    let text : List ℕ = flat_map run_bytes runs ++ rest in
    let regrouped : spelled log ++ rest ≡ header log.harts (length runs) ++ text = append_assoc (header log.harts (length runs)) (flat_map run_bytes runs) rest
    in
    let again : front_runs log.harts (length runs) [] text ≡ Ok (runs, rest) = runs_again log.harts [] runs rest (AllFollow-log log is) in
    let few = few_runs log is in
    ap log_at regrouped
    ∙ rw (header_again log.harts (length runs) text is.some_hart is.few_harts (omega (arith, few)), drop-header log.harts (length runs) text, again)
    (ap (λ (turns : List ℕ). Ok (record { harts = log.harts; turns = turns }, rest)) (expanded-runs_of log.turns))

-- ---- all of the bytes

guard_ended : {A : Type 0} (b : Bool) (fault : LogFault) (x y : A) → cond b (Ok x) (Err fault) ≡ Ok y → (b ≡ true) × (x ≡ y)
guard_ended true fault x y e = (refl, cc)
guard_ended false fault x y e = absurd cc

pub all_takes : (bytes : List ℕ) (log : LogState) → IsBytes bytes → log_of bytes ≡ Ok log → IsLog log × (bytes ≡ spelled log)
unfolding log_of
all_takes bytes log fits e =
    let a = bind_ok (log_at bytes) (λ l. cond (eqb (length l.1) 0) (Ok l.0) (Err NotCanonical)) log e in
    let g = guard_ended (eqb (length a.0.1) 0) NotCanonical a.0.0 log a.2 in
    let took = log_takes bytes a.0 fits a.1 in
    let nothing : a.0.1 ≡ [] = nil_from_length a.0.1 (eqb-true _ _ g.0) in
    let whole : bytes ≡ spelled a.0.0 = took.parts ∙ ap (λ (t : List ℕ). spelled a.0.0 ++ t) nothing ∙ append-nil (spelled a.0.0) in
    subst (λ (l : LogState). IsLog l × (bytes ≡ spelled l)) g.1 (took.log_is, whole)

pub all_again : (log : LogState) → IsLog log → log_of (spelled log) ≡ Ok log
unfolding log_of
all_again log is =
    let again : log_at (spelled log) ≡ Ok (log, []) = ap log_at (sym (append-nil (spelled log))) ∙ log_again log [] is in
    rw again refl

abbrev pair : LogState → List ℕ → Result (LogState × List ℕ) LogFault
pair log rest = Ok (log, rest)

abbrev same_pair : LogState × List ℕ → LogState × List ℕ → Type 0
same_pair p q = p ≡ q

pub one_spelling_lem : (a b : LogState) (x y : List ℕ) → IsLog a → IsLog b → spelled a ++ x ≡ spelled b ++ y → (a ≡ b) × (x ≡ y)
one_spelling_lem a b x y is_a is_b e =
    let both : pair a x ≡ pair b y = sym (log_again a x is_a) ∙ ap log_at e ∙ log_again b y is_b in
    let same : same_pair (a, x) (b, y) = ok_is (a, x) (b, y) both in
    (ap (λ (p : LogState × List ℕ). p.0) same, ap (λ (p : LogState × List ℕ). p.1) same)

-- ---- what read answers

-- the fault of a step is the answer, and no log
pub refuses_ok : (fault : LogFault) (bytes : List ℕ) (log : LogState) → IsLog log → bytes ≡ spelled log → Refuses fault (log_of bytes) → Refuses fault (Ok log)
refuses_ok fault bytes log is e given = subst (λ (wanted : Result LogState LogFault). Refuses fault wanted) (ap log_of e ∙ all_again log is) given

pub answers_ok : (bytes : List ℕ) (found log : LogState) → IsLog log → bytes ≡ spelled log → log_of bytes ≡ Ok found → Answers (Ok found) (Ok log)
answers_ok bytes found log is e given = sym (ap log_of e ∙ all_again log is) ∙ given

pub found_ok : (bytes : List ℕ) (r : Result LogState LogFault) → IsBytes bytes → IfOk r (λ log. log_of bytes ≡ Ok log) → IfOk r (λ log. bytes ≡ spelled log)
found_ok bytes (Ok log) fits given = (all_takes bytes log fits given).1
found_ok bytes (Err fault) fits given = tt

pub only_ok : (bytes : List ℕ) (r : Result LogState LogFault) → IfOk r (λ log. log_of bytes ≡ Ok log) → IfErr r (λ fault. Refuses fault (log_of bytes))
    → (log : LogState) → IsLog log → bytes ≡ spelled log → Answers r (Ok log)
only_ok bytes (Ok found) ok err log is e = answers_ok bytes found log is e ok
only_ok bytes (Err fault) ok err log is e = refuses_ok fault bytes log is e err

-- ---- what the parts of the reading say of the whole

pub refused : (fault : LogFault) (wanted : Result LogState LogFault) → wanted ≡ Err fault → Refuses fault wanted
refused Magic wanted e = e
refused Truncated wanted e = e
refused Hart wanted e = e
refused NotCanonical wanted e = e
refused TooManyTurns wanted e = e
refused OutOfMemory wanted e = tt

pub header_refused : (bytes : List ℕ) (fault : LogFault) → header_at bytes ≡ Err fault → log_of bytes ≡ Err fault
unfolding log_of log_at
header_refused bytes fault e = rw e refl

pub runs_refused : (bytes : List ℕ) (harts count : ℕ) (fault : LogFault) → header_at bytes ≡ Ok (harts, count) → front_runs harts count [] (drop 16 bytes)
    ≡ Err fault → log_of bytes ≡ Err fault
unfolding log_of log_at
runs_refused bytes harts count fault e bad = rw (e, bad) refl

pub trailing_refused : (bytes : List ℕ) (harts count : ℕ) (runs : List Run) (rest : List ℕ) → header_at bytes ≡ Ok (harts, count)
    → front_runs harts count [] (drop 16 bytes) ≡ Ok (runs, rest) → eqb (length rest) 0 ≡ false → log_of bytes ≡ Err NotCanonical
unfolding log_of log_at
trailing_refused bytes harts count runs rest e good trailing = rw (e, good, trailing) refl

pub whole_log : (bytes : List ℕ) (harts count : ℕ) (runs : List Run) (rest : List ℕ) (log : LogState) → header_at bytes ≡ Ok (harts, count)
    → front_runs harts count [] (drop 16 bytes) ≡ Ok (runs, rest) → eqb (length rest) 0 ≡ true
    → log.harts ≡ harts → log.turns ≡ expanded runs → log_of bytes ≡ Ok log
unfolding log_of log_at
whole_log bytes harts count runs rest log e good ended same_harts same_turns = rw (e, good, ended, ← same_harts, ← same_turns) refl

-- ---- how long a spelling is

length-runs : (runs : List Run) → length (flat_map run_bytes runs) ≡ 9 * length runs
length-runs [] = refl
length-runs (run ∷ runs) = let rest = length-runs runs in omega (arith, length-append (run_bytes run) (flat_map run_bytes runs), length-run run, rest)

pub length-spelled : (log : LogState) → length (spelled log) ≡ 16 + 9 * length (runs_of log.turns)
length-spelled log =
    let runs = runs_of log.turns in
    omega (arith, length-append (header log.harts (length runs)) (flat_map run_bytes runs), length-header log.harts (length runs), length-runs runs)

-- The text of a log is read as that log.
use Rattle.std.proofs.Common.{◌≡◌, ℕ, ◌+◌, ◌^◌, ◌<◌, ◌≤◌, true, false, ◌&&◌, List, [], ◌∷◌, ◌++◌, length, replicate, codes, Option, Some, None}
use Rattle.std.proofs.Common.{Ok, refl, sym, ap, subst, ◌∙◌, arith}
use Rattle.std.specs.Fmt.{decimal}
use Rattle.std.specs.List.{AllByRecursion, list_all, prefix_len}
use Rattle.std.proofs.Math.Seq.{take-append_seam, drop-append_seam}
use Rattle.std.proofs.lemmas.Bool.Decides.{nat_tests}
use Rattle.std.proofs.lemmas.Fmt.{decimal_nonempty}
use Rattle.std.proofs.lemmas.List.{append_assoc, append-nil}
use Rattle.line_text.specs.Lines.{IsLine, decimal_number, is_digit, located, taken_from}
use Rattle.line_text.proofs.LinesBack.{ended_back}
use Rattle.line_text.proofs.Numerals.{decimal_digits, decimal_value}
use Rattle.line_text.proofs.ReadingLaws.{taken_from-line, taken_from-none}
use Rattle.line_text.proofs.SpanLaws.{prefix_len-front}
use Rattle.turn_log.specs.TurnLog.{LogState, IsLog, count_of, most_turns}
use Rattle.turn_log.specs.LogSpelling.{expanded, runs_of}
use Rattle.turn_log.specs.inner.SoFar.{turns_before}
use Rattle.turn_log.specs.declared.runs.Run.{Run}
use Rattle.turn_log.proofs.Judging.{total_of-before}
use Rattle.turn_log.proofs.RunLaws.{AllFollow, AllFollow-log, Follows, expanded-runs_of}
use Rattle.log_reports.specs.LogText.{finished, heading, harts_in, headed, kept, log_in, log_text, number_of, run_in, run_line, run_lines, takes, with_run}
use Rattle.log_reports.specs.LogText.{with_count}

-- ---- a number is read back

number_back : (word : List ℕ) (n : ℕ) → 0 < length word → prefix_len is_digit word ≡ length word → decimal_number word ≡ n → n ≤ most_turns
    → number_of word ≡ Some n
unfolding number_of
number_back word n some all value few = grind (arith, nat_tests)

digits_span : (n : ℕ) (rest : List ℕ) → n ≤ most_turns → prefix_len is_digit rest ≡ 0 → prefix_len is_digit (decimal n ++ rest) ≡ length (decimal n)
digits_span n rest few stops = prefix_len-front is_digit (decimal n) rest (decimal_digits n (omega (arith, few))) stops

decimal_back : (n : ℕ) → n ≤ most_turns → number_of (decimal n) ≡ Some n
decimal_back n few =
    let fits : n < 2 ^ 64 = omega (arith, few) in
    let all = subst (λ (word : List ℕ). prefix_len is_digit word ≡ length (decimal n)) (append-nil (decimal n)) (digits_span n [] few refl) in
    number_back (decimal n) n (decimal_nonempty n fits) all (decimal_value n fits) few

-- ---- a line is read back

harts_back : (harts : ℕ) → harts ≤ most_turns → harts_in (heading harts) ≡ Some harts
unfolding harts_in
harts_back harts few = decimal_back harts few

run_back : (hart count : ℕ) → hart ≤ most_turns → count ≤ most_turns → run_in (decimal hart ++ 32 ∷ decimal count) ≡ Some (hart, count)
unfolding run_in
run_back hart count few_hart few =
    let span = digits_span hart (32 ∷ decimal count) few_hart refl in
    let front = take-append_seam (decimal hart) (32 ∷ decimal count) in
    let behind = drop-append_seam (decimal hart) (32 ∷ decimal count) in
    rw (span, front, behind, decimal_back hart few_hart) (ap (with_count hart) (decimal_back count few))

-- ---- no line has a line feed in it

digits_line : (digits : List ℕ) → list_all is_digit digits ≡ true → IsLine digits
digits_line [] all = tt
digits_line (digit ∷ digits) all =
    let parts = both_true (is_digit digit) (list_all is_digit digits) all in
    (let one = parts.0 in grind (arith, nat_tests), digits_line digits parts.1)
  where
    both_true : (a b : _) → (a && b) ≡ true → (a ≡ true) × (b ≡ true)
    both_true true true e = (refl, refl)
    both_true true false e = absurd cc
    both_true false b e = absurd cc

line_and_line : (front behind : List ℕ) → IsLine front → IsLine behind → IsLine (front ++ behind)
line_and_line [] behind first second = second
line_and_line (byte ∷ front) behind first second = (first.0, line_and_line front behind first.1 second)

decimal_line : (n : ℕ) → n ≤ most_turns → IsLine (decimal n)
decimal_line n few = digits_line (decimal n) (decimal_digits n (omega (arith, few)))

heading_line : (harts : ℕ) → harts ≤ most_turns → IsLine (heading harts)
heading_line harts few = line_and_line (codes "harts ") (decimal harts) (λ e. cc, (λ e. cc, (λ e. cc, (λ e. cc, (λ e. cc, (λ e. cc, tt)))))) (decimal_line harts few)

-- ---- runs are read back

small_hart : (harts : ℕ) (before : List Run) (run : Run) → harts ≤ 8 → Follows harts before run → run.hart ≤ most_turns
small_hart harts before run few follows = let below = follows.below in omega (arith, few, below)

small_count : (harts : ℕ) (before : List Run) (run : Run) → Follows harts before run → run.length ≤ most_turns
small_count harts before run follows = let fits = follows.few in omega (arith, fits)

lines_are : (harts : ℕ) (before runs : List Run) → harts ≤ 8 → AllFollow harts before runs → AllByRecursion IsLine (run_lines runs)
lines_are harts before [] few all = tt
lines_are harts before (run ∷ runs) few all = (
  line_and_line (decimal run.hart) (32 ∷ decimal run.length) (decimal_line run.hart (small_hart harts before run few all.0))
      (λ e. cc, decimal_line run.length (small_count harts before run all.0)),
  lines_are harts (run ∷ before) runs few all.1,
)

-- the log after runs, the nearest first
abbrev log_before : ℕ → List Run → LogState
log_before harts before = record { harts = harts; turns = turns_before before }

run_added : (log : LogState) (hart count : ℕ) → hart < log.harts → 0 < count → count_of log.turns hart + count ≤ most_turns
    → with_run log (Some (hart, count)) ≡ Ok (record { harts = log.harts; turns = log.turns ++ replicate count hart })
run_added log hart count below some few = grind (arith, nat_tests)

run_taken : (harts : ℕ) (before : List Run) (run : Run) → harts ≤ 8 → Follows harts before run
    → takes (Some (log_before harts before)) (run_line run) ≡ Ok (Some (log_before harts (run ∷ before)))
run_taken harts before run few follows =
    let read = run_back run.hart run.length (small_hart harts before run few follows) (small_count harts before run follows) in
    let total = total_of-before before run.hart in
    let fits = follows.few in
    ap (λ (found : Option (ℕ × ℕ)). kept (with_run (log_before harts before) found)) read
    ∙ ap kept (run_added (log_before harts before) run.hart run.length follows.below follows.some (omega (arith, total, fits)))

runs_taken : (harts number : ℕ) (before runs : List Run) → harts ≤ 8 → AllFollow harts before runs
    → taken_from takes number (Some (log_before harts before)) (run_lines runs)
    ≡ Ok (Some (record { harts = harts; turns = turns_before before ++ expanded runs }))
runs_taken harts number before [] few all =
    taken_from-none takes number (Some (log_before harts before))
    ∙ ap (λ (turns : List ℕ). Ok (Some (record { harts = harts; turns = turns }))) (sym (append-nil (turns_before before)))
runs_taken harts number before (run ∷ runs) few all =
    let wanted = append_assoc (turns_before before) (replicate run.length run.hart) (expanded runs) in
    taken_from-line takes number (Some (log_before harts before)) (run_line run) (run_lines runs)
    ∙ ap (λ given. located number given (λ next. taken_from takes (number + 1) next (run_lines runs))) (run_taken harts before run few all.0)
    ∙ runs_taken harts (number + 1) (run ∷ before) runs few all.1
    ∙ ap (λ (turns : List ℕ). Ok (Some (record { harts = harts; turns = turns }))) wanted

heading_taken : (harts : ℕ) → 1 ≤ harts → harts ≤ 8 → takes None (heading harts) ≡ Ok (Some (log_before harts []))
heading_taken harts some few =
    ap (λ (found : Option ℕ). kept (headed found)) (harts_back harts (omega (arith, few))) ∙ grind (arith, nat_tests)

pub read_back : (log : LogState) → IsLog log → log_in (log_text log) ≡ Ok log
unfolding log_in
read_back log is =
    let runs = runs_of log.turns in
    let follow = AllFollow-log log is in
    let few = is.few_harts in
    let lines = ended_back (heading log.harts ∷ run_lines runs) (heading_line log.harts (omega (arith, few)), lines_are log.harts [] runs few follow) in
    ap (λ (found : List (List ℕ)). finished (taken_from takes 1 None found)) lines
    ∙ ap finished (taken_from-line takes 1 None (heading log.harts) (run_lines runs)
    ∙ ap (λ given. located 1 given (λ next. taken_from takes (1 + 1) next (run_lines runs))) (heading_taken log.harts is.some_hart few)
    ∙ runs_taken log.harts (1 + 1) [] runs few follow)
    ∙ ap (λ (turns : List ℕ). Ok (record { harts = log.harts; turns = turns })) (expanded-runs_of log.turns)

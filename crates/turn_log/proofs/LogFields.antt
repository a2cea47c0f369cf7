-- What is read is what was written, and what was written is read again: numbers, the header, a run.
use Rattle.std.proofs.Common.{◌≡◌, ℕ, suc, ◌+◌, ◌^◌, ◌<◌, ◌≤◌, Bool, true, false, cond, not, ◌||◌, eqb, ltb, leb, List, [], ◌∷◌, ◌++◌, length, get_or, take}
use Rattle.std.proofs.Common.{drop, Result, Ok, Err, refl, sym, ap, subst, ◌∙◌, arith, inl, inr}
use Rattle.std.specs.Prelude.{codes}
use Rattle.std.specs.List.{starts_with}
use Rattle.std.specs.Int.{w32, w64, from_le_bytes}
use Rattle.std.proofs.lemmas.Bool.{cases_lt, ltb-false, le-ltb, leb-false, lt-leb, eqb-false, ne_eqb, or_parts, or_from, not-false}
use Rattle.std.proofs.lemmas.List.{append_assoc, take-append-drop, length-append, length-take, length-drop, get_or-drop, get_or-take, get_or_past, drop-drop}
use Rattle.std.proofs.lemmas.Nat.{le_bytes_4, le_bytes_8}
use Rattle.std.proofs.lemmas.Slice.Eq.{bytes_eq-Decides}
use Rattle.byteorder.specs.Endian.{little_bytes, little_number}
use Rattle.byteorder.specs.Numbers.{little_from-take, little_number-reads_back}
use Rattle.turn_log.specs.TurnLog.{most_turns}
use Rattle.turn_log.specs.LogSpelling.{begins_with, total_of, run_bytes, header, ◌>>=◌, header_at, run_read, judged, front_run}
use Rattle.turn_log.specs.declared.log_faults.LogFault.{LogFault}
use Rattle.turn_log.specs.declared.log_faults.LogFault.TheVariants.{Magic, Truncated, Hart, NotCanonical, TooManyTurns}
use Rattle.turn_log.specs.declared.runs.Run.{Run}
use Rattle.turn_log.proofs.RunLaws.{Follows}

abbrev pub IsBytes : List ℕ → Type 0
IsBytes bytes = (i : ℕ) → get_or bytes i 0 < 256

pub IsBytes-drop : (n : ℕ) (bytes : List ℕ) → IsBytes bytes → IsBytes (drop n bytes)
IsBytes-drop n bytes h i = rw get_or-drop (h (n + i))

IsBytes-take : (n : ℕ) (bytes : List ℕ) → IsBytes bytes → IsBytes (take n bytes)
IsBytes-take n bytes h i =
    elim (cases_lt i n) [
      | inl lt ↦ rw (get_or-take n bytes i 0 lt) (h i)
      | inr le ↦ rw (get_or_past (take n bytes) i 0 (omega (arith, length-take n bytes))) (omega arith)
    ]

-- the value of a step that did not fail
pub bind_ok : {A B : Type 0} (r : Result A LogFault) (f : A → Result B LogFault) (y : B) → (r >>= f) ≡ Ok y → (x : A) × (r ≡ Ok x) × (f x ≡ Ok y)
bind_ok (Ok x) f y e = (x, refl, e)
bind_ok (Err d) f y e = absurd cc

-- a test that found no fault
passes : {A : Type 0} (b : Bool) (fault : LogFault) (r : Result A LogFault) (y : A) → cond b (Err fault) r ≡ Ok y → (b ≡ false) × (r ≡ Ok y)
passes true fault r y e = absurd cc
passes false fault r y e = (refl, e)

abbrev done : {A : Type 0} → A → Result A LogFault
done x = Ok x

pub ok_is : {A : Type 0} (x y : A) → done x ≡ done y → x ≡ y
ok_is x y e = cc

-- ---- numbers

number_4 : (bytes : List ℕ) → 4 ≤ length bytes → IsBytes bytes → little_bytes 4 (little_number 4 bytes) ≡ take 4 bytes
number_4 bytes long fits =
    let front : little_number 4 (take 4 bytes) ≡ little_number 4 bytes = little_from-take 0 4 4 bytes (omega arith) in
    let same : little_number 4 bytes ≡ from_le_bytes w32 (take 4 bytes) = sym front ∙ (omega arith) in
    le_bytes_4 (take 4 bytes) (little_number 4 bytes) (omega (arith, length-take 4 bytes)) (IsBytes-take 4 bytes fits) same

number_8 : (bytes : List ℕ) → 8 ≤ length bytes → IsBytes bytes → little_bytes 8 (little_number 8 bytes) ≡ take 8 bytes
number_8 bytes long fits =
    let front : little_number 8 (take 8 bytes) ≡ little_number 8 bytes = little_from-take 0 8 8 bytes (omega arith) in
    let same : little_number 8 bytes ≡ from_le_bytes w64 (take 8 bytes) = sym front ∙ (omega arith) in
    le_bytes_8 (take 8 bytes) (little_number 8 bytes) (omega (arith, length-take 8 bytes)) (IsBytes-take 8 bytes fits) same

-- ---- the header

pub record IsHeader (bytes : List ℕ) (harts runs : ℕ) : Type 0 where
  pub parts : bytes ≡ header harts runs ++ drop 16 bytes
  pub some : 1 ≤ harts
  pub few : harts ≤ 8

pub header_takes : (bytes : List ℕ) (x : ℕ × ℕ) → IsBytes bytes → header_at bytes ≡ Ok x → IsHeader bytes x.0 x.1
unfolding header_at header
header_takes bytes x fits e =
    let harts = little_number 4 (drop 4 bytes) in
    let runs = little_number 8 (drop 8 bytes) in
    let found : Result (ℕ × ℕ) LogFault = Ok (harts, runs) in
    let three : Result (ℕ × ℕ) LogFault = cond (eqb harts 0 || ltb 8 harts) (Err Hart) found in
    let two : Result (ℕ × ℕ) LogFault = cond (ltb (length bytes) 16) (Err Truncated) three in
    let one : Result (ℕ × ℕ) LogFault = cond (not (starts_with eqb bytes (codes "HRL1"))) (Err Magic) two in
    let g1 = passes (ltb (length bytes) 4) Truncated one x e in
    let g2 = passes (not (starts_with eqb bytes (codes "HRL1"))) Magic two x g1.1 in
    let g3 = passes (ltb (length bytes) 16) Truncated three x g2.1 in
    let g4 = passes (eqb harts 0 || ltb 8 harts) Hart found x g3.1 in
    let long : 16 ≤ length bytes = ltb-false _ _ g3.0 in
    let magic : codes "HRL1" ≡ take 4 bytes = (bytes_eq-Decides (codes "HRL1") (take 4 bytes)).0 (not-false _ g2.0) in
    let harts_back : little_bytes 4 harts ≡ take 4 (drop 4 bytes) = number_4 (drop 4 bytes) (omega (arith, length-drop 4 bytes)) (IsBytes-drop 4 bytes fits) in
    let runs_back : little_bytes 8 runs ≡ take 8 (drop 8 bytes) = number_8 (drop 8 bytes) (omega (arith, length-drop 8 bytes)) (IsBytes-drop 8 bytes fits) in
    let range = or_parts (eqb harts 0) (ltb 8 harts) g4.0 in
    let some : 1 ≤ harts = let not_zero = eqb-false harts 0 range.0 in omega (arith, not_zero) in
    let few : harts ≤ 8 = ltb-false 8 harts range.1 in
    let last : drop 8 bytes ≡ little_bytes 8 runs ++ drop 16 bytes = sym (ap (λ (t : List ℕ). t ++ drop 16 bytes) runs_back
    ∙ ap (λ (t : List ℕ). take 8 (drop 8 bytes) ++ t) (sym (drop-drop 8 8 bytes)) ∙ take-append-drop 8 (drop 8 bytes)) in
    let middle : drop 4 bytes ≡ little_bytes 4 harts ++ drop 8 bytes = sym (ap (λ (t : List ℕ). t ++ drop 8 bytes) harts_back
    ∙ ap (λ (t : List ℕ). take 4 (drop 4 bytes) ++ t) (sym (drop-drop 4 4 bytes)) ∙ take-append-drop 4 (drop 4 bytes)) in
    let whole : bytes ≡ codes "HRL1" ++ drop 4 bytes = sym (ap (λ (t : List ℕ). t ++ drop 4 bytes) magic ∙ take-append-drop 4 bytes) in
    let parts : bytes ≡ header harts runs ++ drop 16 bytes =
    whole ∙ ap (λ (t : List ℕ). codes "HRL1" ++ t) (middle ∙ ap (λ (t : List ℕ). little_bytes 4 harts ++ t) last)
    ∙ sym (append_assoc (codes "HRL1" ++ little_bytes 4 harts) (little_bytes 8 runs) (drop 16 bytes)
    ∙ append_assoc (codes "HRL1") (little_bytes 4 harts) (little_bytes 8 runs ++ drop 16 bytes)) in
    subst (λ (y : ℕ × ℕ). IsHeader bytes y.0 y.1) (ok_is (harts, runs) x g4.1) (record { parts = parts; some = some; few = few })

-- the bytes after a header
pub drop-header : (harts runs : ℕ) (rest : List ℕ) → drop 16 (header harts runs ++ rest) ≡ rest
unfolding header
drop-header harts runs rest = refl

pub length-header : (harts runs : ℕ) → length (header harts runs) ≡ 16
unfolding header
length-header harts runs = refl

pub header_again : (harts runs : ℕ) (rest : List ℕ) → 1 ≤ harts → harts ≤ 8 → runs < 2 ^ 64 → header_at (header harts runs ++ rest) ≡ Ok (harts, runs)
unfolding header_at header
header_again harts runs rest some few fits =
    let bytes = header harts runs ++ rest in
    let harts_again : little_number 4 (drop 4 bytes) ≡ harts = little_number-reads_back 4 harts (little_bytes 8 runs ++ rest) (omega arith) in
    let runs_again : little_number 8 (drop 8 bytes) ≡ runs = little_number-reads_back 8 runs rest (omega arith) in
    let long : ltb (length bytes) 16 ≡ false = le-ltb _ _ (omega arith) in
    let longer : ltb (length bytes) 4 ≡ false = le-ltb _ _ (omega arith) in
    let range : (eqb harts 0 || ltb 8 harts) ≡ false = or_from _ _ (ne_eqb harts 0 (λ e. omega arith)) (le-ltb 8 harts few) in
    rw (longer, long, harts_again, range, runs_again) refl

-- ---- a run

pub judged_takes : (harts : ℕ) (before : List Run) (run x : Run) → judged harts before run ≡ Ok x → Follows harts before run × (run ≡ x)
unfolding judged
judged_takes harts before run x e =
    let two : Result Run LogFault = cond (ltb most_turns (total_of before run.hart + run.length)) (Err TooManyTurns) (Ok run) in
    let one : Result Run LogFault = cond (eqb run.length 0 || begins_with before run.hart) (Err NotCanonical) two in
    let g1 = passes (leb harts run.hart) Hart one x e in
    let g2 = passes (eqb run.length 0 || begins_with before run.hart) NotCanonical two x g1.1 in
    let g3 = passes (ltb most_turns (total_of before run.hart + run.length)) TooManyTurns (Ok run) x g2.1 in
    let g = or_parts (eqb run.length 0) (begins_with before run.hart) g2.0 in
    let not_zero = eqb-false run.length 0 g.0 in
    (record { below = leb-false harts run.hart g1.0; some = omega (arith, not_zero); other = g.1; few = ltb-false most_turns _ g3.0 }, ok_is run x g3.1)

pub judged_again : (harts : ℕ) (before : List Run) (run : Run) → Follows harts before run → judged harts before run ≡ Ok run
unfolding judged
judged_again harts before run follows =
    let below : leb harts run.hart ≡ false = lt-leb harts run.hart follows.below in
    let some = follows.some in
    let other : (eqb run.length 0 || begins_with before run.hart) ≡ false = or_from _ _ (ne_eqb run.length 0 (λ e. omega (arith, some, e))) follows.other in
    let few : ltb most_turns (total_of before run.hart + run.length) ≡ false = le-ltb _ _ follows.few in
    rw (below, other, few) refl

-- nine bytes are the spelling of the run that they spell
run_read_back : (bytes : List ℕ) → 9 ≤ length bytes → IsBytes bytes → bytes ≡ run_bytes (run_read bytes) ++ drop 9 bytes
unfolding run_bytes
run_read_back [] long fits = absurd (omega arith)
run_read_back (b ∷ bytes) long fits =
    let back : little_bytes 8 (little_number 8 bytes) ≡ take 8 bytes = number_8 bytes (omega arith) (λ i. fits (suc i)) in
    ap (λ (t : List ℕ). b ∷ t) (sym (ap (λ (t : List ℕ). t ++ drop 8 bytes) back ∙ take-append-drop 8 bytes))

pub run_read-again : (run : Run) (rest : List ℕ) → run.length < 2 ^ 64 → run_read (run_bytes run ++ rest) ≡ run
unfolding run_bytes
run_read-again run rest fits = ap (λ (n : ℕ). record { hart = run.hart; length = n }) (little_number-reads_back 8 run.length rest (omega arith))

pub length-run : (run : Run) → length (run_bytes run) ≡ 9
unfolding run_bytes
length-run run = refl

pub drop-run : (run : Run) (rest : List ℕ) → drop 9 (run_bytes run ++ rest) ≡ rest
unfolding run_bytes
drop-run run rest = refl

pub record IsRunAt (harts : ℕ) (before : List Run) (bytes : List ℕ) (run : Run) (rest : List ℕ) : Type 0 where
  pub parts : bytes ≡ run_bytes run ++ rest
  pub rest_fits : IsBytes rest
  pub follows : Follows harts before run

pub run_takes : (harts : ℕ) (before : List Run) (bytes : List ℕ) (x : Run × List ℕ) → IsBytes bytes → front_run harts before bytes ≡ Ok x
    → IsRunAt harts before bytes x.0 x.1
unfolding front_run
run_takes harts before bytes x fits e =
    let run = run_read bytes in
    let after : Run → Result (Run × List ℕ) LogFault = λ r. Ok (r, drop 9 bytes) in
    let g = passes (ltb (length bytes) 9) Truncated (judged harts before run >>= after) x e in
    let b = bind_ok (judged harts before run) after x g.1 in
    let j = judged_takes harts before run b.0 b.1 in
    let whole = run_read_back bytes (ltb-false _ _ g.0) fits in
    let here : IsRunAt harts before bytes run (drop 9 bytes) = record { parts = whole; rest_fits = IsBytes-drop 9 bytes fits; follows = j.0 } in
    subst (λ (y : Run × List ℕ). IsRunAt harts before bytes y.0 y.1) (ok_is (b.0, drop 9 bytes) x b.2)
    (subst (λ (r : Run). IsRunAt harts before bytes r (drop 9 bytes)) j.1 here)

pub run_again : (harts : ℕ) (before : List Run) (run : Run) (rest : List ℕ) → Follows harts before run → front_run harts before (run_bytes run ++ rest)
    ≡ Ok (run, rest)
unfolding front_run
run_again harts before run rest follows =
    let few = follows.few in
    let long : ltb (length (run_bytes run ++ rest)) 9 ≡ false = le-ltb _ _ (omega (arith, length-append (run_bytes run) rest, length-run run)) in
    rw (long, run_read-again run rest (omega (arith, few)), judged_again harts before run follows, drop-run run rest) refl

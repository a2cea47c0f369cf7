-- The state at a place further on in a run of turns.
use Rattle.std.proofs.Common.{◌≡◌, ℕ, zero, suc, ◌+◌, ◌<◌, ◌≤◌, List, [], ◌∷◌, ◌++◌, length, take, drop, replicate, Some, None, refl, ap, sym, ◌∙◌, arith}
use Rattle.std.specs.Prelude.{◌≢◌, slice_get}
use Rattle.std.proofs.Math.Seq.{take-add}
use Rattle.std.proofs.lemmas.List.{length-replicate, take-append-le, take-replicate}
use Rattle.hart_core.specs.declared.harts.Status.TheVariants.{Running}
use Rattle.multi_hart.specs.Run.{State, run, hart_at}
use Rattle.multi_hart.proofs.Resting.{run-append, run-staying, turn-resting}
use Rattle.std.proofs.lemmas.List.Elements.{recursion_from_All}
use Rattle.std.proofs.lemmas.Option.{slice_get_past}
use Rattle.turn_log.specs.TurnLog.{LogState, IsLog}
use Rattle.turn_log.specs.RunAt.{Stand, run_at}
use Rattle.turn_log.proofs.RunAtLaws.{run_at-stands, run_at-below, run_at-none}

-- turns of one hart that stand at a place lead to the places after it
pub run-standing : (start : State) (turns : List ℕ) (place hart count n : ℕ) → Stand turns place hart count → n ≤ count
    → run start (take (place + n) turns) ≡ run (run start (take place turns)) (replicate n hart)
run-standing start turns place hart count n stand within =
    let front : take n (drop place turns) ≡ replicate n hart =
    ap (take n) stand.parts
    ∙ take-append-le n (replicate count hart) (drop (place + count) turns) (omega (arith, length-replicate count hart))
    ∙ take-replicate n count hart within in
    ap (run start) (take-add place n turns)
    ∙ run-append start (take place turns) (take n (drop place turns))
    ∙ ap (run (run start (take place turns))) front

-- a hart that isn't running leaves the state as it is at each of them
pub run-resting : (start : State) (turns : List ℕ) (place hart count n : ℕ) → Stand turns place hart count → n ≤ count
    → hart < length (run start (take place turns)).harts → (hart_at (run start (take place turns)) hart).status ≢ Running
    → run start (take (place + n) turns) ≡ run start (take place turns)
run-resting start turns place hart count n stand within below rests =
    let state = run start (take place turns) in
    run-standing start turns place hart count n stand within ∙ run-staying state hart n (turn-resting state hart below rests)

-- ---- which hart's turn is next

slice_get-drop : (n : ℕ) (xs : List ℕ) (i : ℕ) → slice_get (drop n xs) i ≡ slice_get xs (n + i)
slice_get-drop zero xs i = ap (slice_get xs) (omega arith)
slice_get-drop (suc n) [] i = refl
slice_get-drop (suc n) (x ∷ xs) i = let e : suc n + i ≡ suc (n + i) = omega arith in slice_get-drop n xs i ∙ ap (slice_get (x ∷ xs)) (sym e)

slice_get-replicate : (count hart i : ℕ) (rest : List ℕ) → i < count → slice_get (replicate count hart ++ rest) i ≡ Some hart
slice_get-replicate zero hart i rest below = absurd (omega arith)
slice_get-replicate (suc count) hart zero rest below = refl
slice_get-replicate (suc count) hart (suc i) rest below = slice_get-replicate count hart i rest (omega arith)

pub next-standing : (turns : List ℕ) (place hart count i : ℕ) → Stand turns place hart count → i < count → slice_get turns (place + i) ≡ Some hart
next-standing turns place hart count i stand below =
    sym (slice_get-drop place turns i) ∙ ap (λ (xs : List ℕ). slice_get xs i) stand.parts ∙ slice_get-replicate count hart i (drop (place + count) turns) below

pub next-here : (turns : List ℕ) (place hart count : ℕ) → Stand turns place hart count → slice_get turns place ≡ Some hart
next-here turns place hart count stand =
    let e : place ≡ place + 0 = omega arith in
    ap (slice_get turns) e ∙ next-standing turns place hart count 0 stand (let some = stand.some in omega arith)

-- ---- what a log says of the turns at a place

pub record Next (log : LogState) (place hart count : ℕ) : Type 0 where
  pub stand : Stand log.turns place hart count
  pub below : hart < log.harts

pub next-is : (log : LogState) (place hart count : ℕ) → IsLog log → run_at log.turns place ≡ Some (hart, count) → Next log place hart count
next-is log place hart count is e = record {
  stand = run_at-stands log.turns place hart count e;
  below = run_at-below log.harts log.turns place hart count (recursion_from_All (λ turn. turn < log.harts) log.turns is.turns_below) e;
}

-- where the log has none, it has ended
pub none-is : (log : LogState) (place : ℕ) → run_at log.turns place ≡ None → length log.turns ≤ place
none-is log place e = run_at-none log.turns place e

pub slice_get-behind : (turns : List ℕ) (place : ℕ) → length turns ≤ place → slice_get turns place ≡ None
slice_get-behind turns place behind = slice_get_past turns place behind

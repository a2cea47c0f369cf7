-- The runs of a list of turns, taken from its front one by one.
use Rattle.std.proofs.Common.{◌≡◌, ℕ, suc, ◌+◌, eqb, List, [], ◌∷◌, ◌++◌, drop, Option, Some, refl, sym, ap, ◌∙◌, add-one, inl, inr}
use Rattle.std.proofs.lemmas.Bool.{cases_Bool, cond-true, cond-false, eqb-true}
use Rattle.std.proofs.lemmas.List.{append_assoc}
use Rattle.line_text.specs.Lines.{text_of}
use Rattle.turn_log.specs.LogSpelling.{joined, runs_of}
use Rattle.turn_log.specs.RunAt.{ahead, first_run, run_at}
use Rattle.turn_log.specs.declared.runs.Run.{Run}
use Rattle.log_reports.specs.LogText.{run_line, run_lines}

abbrev pub run : ℕ → ℕ → Run
run hart count = record { hart = hart; length = count }

-- the first run is as long as its hart's turns stand in a row
first_of : (turn : ℕ) (turns : List ℕ) → runs_of (turn ∷ turns) ≡ run turn (suc (ahead turn turns)) ∷ runs_of (drop (ahead turn turns) turns)
first_of turn [] = refl
first_of turn (next ∷ turns) =
    let rest = first_of next turns in
    let others = runs_of (drop (ahead next turns) turns) in
    let longer = run turn (suc (ahead next turns) + 1) ∷ others in
    let apart = run turn 1 ∷ (run next (suc (ahead next turns)) ∷ others) in
    elim (cases_Bool (eqb next turn)) [
      | inl e ↦
          let same : next ≡ turn = eqb-true next turn e in
          let here : ahead turn (next ∷ turns) ≡ suc (ahead turn turns) = cond-true (eqb next turn) (suc (ahead turn turns)) 0 e in
          ap (joined turn) rest ∙ cond-true (eqb next turn) longer apart e
          ∙ ap (λ (h : ℕ). run turn (suc (ahead h turns) + 1) ∷ runs_of (drop (ahead h turns) turns)) same
          ∙ ap (λ (n : ℕ). run turn n ∷ runs_of (drop (ahead turn turns) turns)) (add-one (suc (ahead turn turns)))
          ∙ ap (λ (n : ℕ). run turn (suc n) ∷ runs_of (drop n (next ∷ turns))) (sym here)
      | inr e ↦
          let here : ahead turn (next ∷ turns) ≡ 0 = cond-false (eqb next turn) (suc (ahead turn turns)) 0 e in
          ap (joined turn) rest ∙ cond-false (eqb next turn) longer apart e
          ∙ ap (λ (runs : List Run). run turn 1 ∷ runs) (sym rest)
          ∙ ap (λ (n : ℕ). run turn (suc n) ∷ runs_of (drop n (next ∷ turns))) (sym here)
    ]

abbrev pair_of : ℕ × ℕ → Option (ℕ × ℕ)
pair_of x = Some x

some_is : (x y : ℕ × ℕ) → pair_of x ≡ pair_of y → x ≡ y
some_is x y e = cc

first_runs : (turns : List ℕ) (hart count : ℕ) → first_run turns ≡ Some (hart, count) → runs_of turns ≡ run hart count ∷ runs_of (drop count turns)
first_runs [] hart count e = absurd cc
first_runs (turn ∷ turns) hart count e =
    first_of turn turns
    ∙ ap (λ (x : ℕ × ℕ). run x.0 x.1 ∷ runs_of (drop x.1 (turn ∷ turns))) (some_is (turn, suc (ahead turn turns)) (hart, count) e)

-- the run at a place is the first of those from there on
pub runs_from_place : (turns : List ℕ) (place hart count : ℕ) → run_at turns place ≡ Some (hart, count)
    → runs_of (drop place turns) ≡ run hart count ∷ runs_of (drop count (drop place turns))
unfolding run_at
runs_from_place turns place hart count e = first_runs (drop place turns) hart count e

-- the lines so far and those of what is left, one line further
pub line_further : (text more whole : List ℕ) (hart count : ℕ) (runs others : List Run) → more ≡ text ++ (run_line (run hart count) ++ 10 ∷ [])
    → runs ≡ run hart count ∷ others → text ++ text_of (run_lines runs) ≡ whole → more ++ text_of (run_lines others) ≡ whole
line_further text more whole hart count runs others pushed first so_far =
    ap (λ (t : List ℕ). t ++ text_of (run_lines others)) pushed
    ∙ append_assoc text (run_line (run hart count) ++ 10 ∷ []) (text_of (run_lines others))
    ∙ ap (λ (rs : List Run). text ++ text_of (run_lines rs)) (sym first) ∙ so_far

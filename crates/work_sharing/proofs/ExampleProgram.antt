-- The example meets every premise, and what follows.
use Rattle.std.proofs.Common.{◌≡◌, ℕ, zero, suc, ◌+◌, ◌-◌, ◌%◌, ◌^◌, ◌<◌, ◌≤◌, List, Bool, true, false, refl, ap, sym, subst, arith, inl, inr}
use Rattle.std.specs.Prelude.{slice_index, nat_lt, cond, pos}
use Rattle.std.proofs.lemmas.Bool.{cases_lt, cases_Bool}
use Rattle.std.proofs.lemmas.Bool.Decides.{nat_tests}
use Rattle.memory.specs.Access.{data_start, byte_at}
use Rattle.hart_core.specs.HartState.{given}
use Rattle.multi_hart.specs.Run.{run, opened}
use Rattle.multi_hart_laws.specs.Uses.{Use, Control, Fixed, Private, Given, Shared}
use Rattle.work_sharing.specs.Phases.{Code, HasGate, HasEnd}
use Rattle.work_sharing.specs.Solo.{TaskDone, TaskWrites}
use Rattle.work_sharing.specs.Programs.{FoundBy, Follows, Program, Opens}
use Rattle.work_sharing.specs.Turns.{ticket_word}
use Rattle.std.specs.Prelude.{negsuc, ◌/◌}
use Rattle.work_sharing.specs.Programs.{IsControlByte, OfNoTask}
use Rattle.work_sharing.specs.Example.{example_text, example_data, first_uses, second_uses, first_result, second_result, use_by, byte_by, first_phase}
use Rattle.work_sharing.specs.Example.{second_phase, example, ExampleIsProgram, ExampleResult, example_rounds, ExampleEnds}
use Rattle.work_sharing.specs.Fairness.{enough_rounds}
use Rattle.work_sharing.proofs.Fair.{fair-ends}
use Rattle.work_sharing.proofs.Results.{one-result}
use Rattle.work_sharing.proofs.ExampleText.{line-4, line-5, line-15, line-16, line-17, line-20, line-21, line-29}
use Rattle.work_sharing.proofs.ExampleCode.{first-all, second-all, first-way, second-way}
use Rattle.work_sharing.proofs.ExampleWords.{word, use-in, in-word, word-by, zero-by, zeros}

module _ (n : ℕ) (some : 1 ≤ n) (few : n ≤ 8) where
  first-code : Code (first_phase n)
  first-code = record {
    out = pos 20;
    draw = line-4;
    test = line-5;
    out_is = refl;
    aligned = refl;
    draw_fits = omega arith;
    tickets = record { aligned = refl; above = omega arith; below = omega arith; first = refl; second = refl; third = refl; fourth = refl };
    gates = record { aligned = refl; above = omega arith; below = omega arith; first = refl; second = refl; third = refl; fourth = refl };
    two_words = refl;
    size = omega arith;
    few = omega (arith, few);
  }

  first-gate : HasGate (first_phase n)
  first-gate = record { back = negsuc 1; add = line-15; look = line-16; again = line-17; back_is = refl; gate_fits = omega arith }

  second-code : Code (second_phase n)
  second-code = record {
    out = pos 16;
    draw = line-20;
    test = line-21;
    out_is = refl;
    aligned = refl;
    draw_fits = omega arith;
    tickets = record { aligned = refl; above = omega arith; below = omega arith; first = refl; second = refl; third = refl; fourth = refl };
    gates = record { aligned = refl; above = omega arith; below = omega arith; first = refl; second = refl; third = refl; fourth = refl };
    two_words = refl;
    size = omega arith;
    few = omega (arith, few);
  }

  first-done : TaskDone (first_phase n)
  first-done t k h m b = (first-all n k t (let q = b.number_is in omega (arith, q, few)) b.task_is h m b.size b.stands b.drawn).0

  first-writes : TaskWrites (first_phase n)
  first-writes t k h m b = (first-all n k t (let q = b.number_is in omega (arith, q, few)) b.task_is h m b.size b.stands b.drawn).1

  fixed-given : (t : ℕ) (m : List ℕ) → ((b : ℕ) → Given t (use_by second_uses b) → byte_at example_text m b ≡ byte_by first_result b) → (b : ℕ)
      → use_by second_uses b ≡ Fixed → byte_at example_text m b ≡ byte_by first_result b
  fixed-given t m given b u = given b (subst (Given t) (sym u) tt)

  second-done : TaskDone (second_phase n)
  second-done t k h m b = (second-all n k t b.task_is h m b.size b.stands b.drawn (fixed-given t m b.given)).0

  second-writes : TaskWrites (second_phase n)
  second-writes t k h m b = (second-all n k t b.task_is h m b.size b.stands b.drawn (fixed-given t m b.given)).1

  -- control words are no task's
  first-free : (j : ℕ) → j < 4 → OfNoTask (first_uses j)
  first-free zero l = tt
  first-free (suc zero) l = tt
  first-free (suc (suc zero)) l = tt
  first-free (suc (suc (suc zero))) l = tt
  first-free (suc (suc (suc (suc j)))) l = absurd (omega (arith, l))

  second-free : (j : ℕ) → j < 4 → OfNoTask (second_uses j)
  second-free zero l = tt
  second-free (suc zero) l = tt
  second-free (suc (suc zero)) l = tt
  second-free (suc (suc (suc zero))) l = tt
  second-free (suc (suc (suc (suc j)))) l = absurd (omega (arith, l))

  free : (words : ℕ → Use) → ((j : ℕ) → j < 4 → OfNoTask (words j)) → (b : ℕ) → IsControlByte 1 b → OfNoTask (use_by words b)
  free words f b c =
      let l = c.0 in
      let h = c.1 in
      let j = (b - data_start) / 4 in
      subst OfNoTask (sym (use-in words j b (omega (arith, l)) (omega (arith, l)))) (f j (omega (arith, l, h)))

  -- what the second phase finds
  found-word : (j b : ℕ) → word j ≤ b → b < word j + 4 → Shared (second_uses j) → FoundBy (first_phase n) (second_phase n) b
  found-word zero b l h y = absurd y
  found-word (suc zero) b l h y = absurd y
  found-word (suc (suc zero)) b l h y = absurd y
  found-word (suc (suc (suc zero))) b l h y = absurd y
  found-word (suc (suc (suc (suc zero)))) b l h y = inr (0, use-in first_uses 4 b l h, (let q : 0 < 2 = omega arith in q), refl)
  found-word (suc (suc (suc (suc (suc zero))))) b l h y = inr (1, use-in first_uses 5 b l h, (let q : 1 < 2 = omega arith in q), refl)
  found-word (suc (suc (suc (suc (suc (suc zero)))))) b l h y = inl (use-in first_uses 6 b l h, zero-by first_result 6 b l h refl)
  found-word (suc (suc (suc (suc (suc (suc (suc zero))))))) b l h y = inl (use-in first_uses 7 b l h, zero-by first_result 7 b l h refl)
  found-word (suc (suc (suc (suc (suc (suc (suc (suc j)))))))) b l h y = absurd (unshared (8 + j) (omega arith) (subst (λ i. Shared (second_uses i))
      (let q : suc (suc (suc (suc (suc (suc (suc (suc j))))))) ≡ 8 + j = omega arith in q) y))
    where
      unshared : (i : ℕ) → 8 ≤ i → Shared (second_uses i) → ⊥
      unshared i k y = elim (cases_lt i 16) [
        | inl l ↦ let e : second_uses i ≡ Private (i - 8) = grind (arith, nat_tests) in subst Shared e y
        | inr l ↦ let e : second_uses i ≡ Control = grind (arith, nat_tests) in subst Shared e y
      ]

  found-by : (b : ℕ) → Shared (use_by second_uses b) → FoundBy (first_phase n) (second_phase n) b
  found-by b y =
      let w = in-word second_uses b (λ e. subst Shared e y) in
      found-word w.0 b w.1.0 w.1.1 (subst Shared (use-in second_uses w.0 b w.1.0 w.1.1) y)

  follows : Follows (first_phase n) (second_phase n)
  follows = record {
    link = record {
      code = first-code;
      waits = first-gate;
      text = refl;
      size = refl;
      harts = refl;
      gate = record { aligned = refl; above = omega arith; below = omega arith; first = refl; second = refl; third = refl; fourth = refl };
      before = omega arith;
      setup = λ k h m st l b. second-way n k h m st l;
    };
    tickets = record { first = refl; second = refl; third = refl; fourth = refl; zero = refl };
    gates = record { first = refl; second = refl; third = refl; fourth = refl; zero = refl };
    found = found-by;
  }

  last-says : HasEnd (second_phase n)
  last-says = line-29

  pub program : Program (example n) 1
  program = record {
    code = codes;
    tickets = tickets;
    control = control;
    tasks = tasks;
    follows = following;
    leave = last-says;
    some = harts;
  }
    where
      codes : (k : ℕ) → k ≤ 1 → Code (example n k)
      codes zero l = first-code
      codes (suc k) l = second-code

      tickets : (k : ℕ) → k ≤ 1 → (example n k).ticket ≡ ticket_word k
      tickets zero l = refl
      tickets (suc zero) l = refl
      tickets (suc (suc k)) l = absurd (omega (arith, l))

      control : (k b : ℕ) → k ≤ 1 → IsControlByte 1 b → OfNoTask ((example n k).uses b)
      control zero b l c = free first_uses first-free b c
      control (suc k) b l c = free second_uses second-free b c

      tasks : (k : ℕ) → k ≤ 1 → TaskDone (example n k)
      tasks zero l = first-done
      tasks (suc k) l = second-done

      following : (k : ℕ) → k < 1 → Follows (example n k) (example n (suc k))
      following zero l = follows
      following (suc k) l = absurd (omega (arith, l))

      harts : (k : ℕ) → k ≤ 1 → 0 < (example n k).harts
      harts zero l = omega (arith, some)
      harts (suc k) l = omega (arith, some)

  zero-at : (b : ℕ) → Shared (use_by first_uses b) → byte_at example_text example_data b ≡ 0
  zero-at b y = elim (cases_Bool (nat_lt b data_start)) [
    | inl t ↦ absurd (subst Shared (ap (λ q. cond q Control (first_uses ((b - data_start) / 4))) t) y)
    | inr f ↦ at-data (nat_lt b data_start) f
  ]
    where
      at-data : (q : Bool) → q ≡ false → cond q (slice_index example_text ((b - 65536) / 4) / 256 ^ ((b - 65536) % 4) % 256) (slice_index example_data
          (b - data_start)) ≡ 0
      at-data true e = absurd (cc e)
      at-data false e = zeros 64 (b - data_start)

  pub opens : Opens (example n 0) 65536 example_data
  opens = record {
    size = refl;
    bytes = λ i. let z : slice_index example_data i ≡ 0 = zeros 64 i in omega (arith, z);
    setup = λ k l. first-way n k example_data refl;
    tickets = refl;
    gates = refl;
    found = zero-at;
  }

  pub writes-all : (k : ℕ) → TaskWrites (example n k)
  writes-all zero = first-writes
  writes-all (suc k) = second-writes

pub example-is-program : ExampleIsProgram
example-is-program n some few = (program n some few, (opens n some few, writes-all n some few))

pub example-result : ExampleResult
example-result n turns some few e =
    let end = run (opened 65536 example_text example_data n) turns in
    let r = (one-result (example n) 1 65536 example_data turns (program n some few) (opens n some few) e).0 in (
      word-by second_result end.text end.memory 6 (λ b l h. r b 0 (omega arith) (use-in second_uses 6 b l h)) (omega arith),
      word-by second_result end.text end.memory 7 (λ b l h. r b 1 (omega arith) (use-in second_uses 7 b l h)) (omega arith),
    )

example-count : (n : ℕ) → enough_rounds (example n) 1 ≡ example_rounds n
example-count n = omega arith

pub example-ends : ExampleEnds
example-ends n turns rounds some few =
    let count = example-count n in
    (count, λ fair long. fair-ends (example n) 1 65536 example_data (program n some few) (opens n some few) turns rounds fair (omega (arith, count, long)))

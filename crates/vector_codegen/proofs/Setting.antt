-- The way to a phase's draw sets what the phase keeps.
use Rattle.std.proofs.Common.{◌≡◌, ℕ, ◌+◌, ◌*◌, ◌%◌, ◌^◌, ◌<◌, List, ◌++◌, length, Bool, ◌∙◌, subst, arith}
use Rattle.multi_hart_laws.specs.Alone.{World}
use Rattle.multi_hart_laws.specs.Paths.{Stand, end, Path, Line}
use Rattle.multi_hart_laws.proofs.Paths.{line-then, path-then}
use Rattle.multi_hart_laws.proofs.Jumps.{jump}
use Rattle.task_code_scalar.specs.Code.{literal, forth}
use Rattle.task_code.specs.Tasks.{restored}
use Rattle.task_code_scalar.proofs.Values.{Sets, literal-sets}
use Rattle.vector_codegen.specs.PhaseCode.{Part, door_words, phase_code, draw_at}
use Rattle.vector_codegen.proofs.PhaseStanding.{forth-to, at-setup, at-way, at-draw}

module _ (w : World) (m : List ℕ) (l : length m ≡ w.size) (f : ℕ → ℕ) (ticket tasks : ℕ) (small : ticket + 4 < 2 ^ 32) (few : tasks < 2 ^ 32) where
  abbrev first : Sets w m l (literal 13 ticket) f 13 ticket
  first = literal-sets w m l f 13 ticket (omega arith) (omega arith) (omega (arith, small))

  abbrev second : Sets w m l (literal 14 (ticket + 4)) first.after 14 (ticket + 4)
  second = literal-sets w m l first.after 14 (ticket + 4) (omega arith) (omega arith) small

  abbrev third : Sets w m l (literal 15 1) second.after 15 1
  third = literal-sets w m l second.after 15 1 (omega arith) (omega arith) (omega arith)

  abbrev fourth : Sets w m l (literal 16 tasks) third.after 16 tasks
  fourth = literal-sets w m l third.after 16 tasks (omega arith) (omega arith) few

  abbrev pub after : ℕ → ℕ
  after = fourth.after

  pub sets : Line w (restored ticket tasks) f m after m
  sets =
      line-then w (literal 13 ticket) (literal 14 (ticket + 4) ++ (literal 15 1 ++ literal 16 tasks)) f first.after fourth.after m m m first.line
      (line-then w (literal 14 (ticket + 4)) (literal 15 1 ++ literal 16 tasks) first.after second.after fourth.after m m m second.line
      (line-then w (literal 15 1) (literal 16 tasks) second.after third.after fourth.after m m m third.line fourth.line))

  pub sets-ticket : after 13 ≡ ticket
  sets-ticket = fourth.others 13 (λ e. omega (arith, e)) ∙ third.others 13 (λ e. omega (arith, e)) ∙ second.others 13 (λ e. omega (arith, e)) ∙ first.value

  pub sets-gate : after 14 ≡ ticket + 4
  sets-gate = fourth.others 14 (λ e. omega (arith, e)) ∙ third.others 14 (λ e. omega (arith, e)) ∙ second.value

  pub sets-one : after 15 ≡ 1
  sets-one = fourth.others 15 (λ e. omega (arith, e)) ∙ third.value

  pub sets-tasks : after 16 ≡ tasks
  sets-tasks = fourth.value

  pub keeps-low : (q : ℕ) → q < 13 → after q ≡ f q
  keeps-low q n = fourth.others q (λ e. omega (arith, e, n)) ∙ third.others q (λ e. omega (arith, e, n)) ∙ second.others q (λ e. omega (arith, e, n))
      ∙ first.others q (λ e. omega (arith, e, n))

  -- from where the phase begins to its draw
  pub comes : (at : ℕ) (is_last : Bool) (part : Part) → part.tasks ≡ tasks → at % 4 ≡ 0 → Stand w.text at (phase_code is_last ticket part)
      → Path w at (draw_at is_last at) 9 f m after m
  comes at is_last part e al s =
      let into : Path w at (end at (restored ticket tasks)) 8 f m after m = sets at (subst (λ n. Stand w.text at (restored ticket n)) e
      (at-setup w.text at is_last ticket part s)) in
      let into' : Path w at (at + 32) 8 f m after m = subst (λ to. Path w at to 8 f m after m) (let q : end at (restored ticket tasks) ≡ at + 32 =
      omega arith in q) into in
      let low : draw_at is_last at < 2 ^ 32 = let q = (at-draw w.text at is_last ticket part s).1.1.low in omega (arith, q) in
      let to : at + 32 + 4 * (door_words is_last + 1) ≡ draw_at is_last at = omega arith in
      let four : draw_at is_last at % 4 ≡ 0 = omega (arith, al) in
      path-then w at (at + 32) (draw_at is_last at) 8 1 f after after m m m into'
      (jump w after m l (at + 32) (draw_at is_last at) (forth (door_words is_last + 1)) (at-way w.text at is_last ticket part s)
      (forth-to (at + 32) (door_words is_last + 1) (draw_at is_last at) to low) four)

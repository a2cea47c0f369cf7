-- A body and what is after it do iterations: any body, and after it any code that makes of what is known then what is known in the next one
-- and goes back while there is one.
use Rattle.std.proofs.Common.{◌≡◌, ℕ, zero, suc, ◌+◌, ◌-◌, ◌<◌, ◌≤◌, List, ◌++◌, length, refl}
use Rattle.std.proofs.Common.{subst, arith, inl}
use Rattle.std.specs.Prelude.{◌⊎◌}
use Rattle.rv_insn.specs.declared.instructions.Insn.{Insn}
use Rattle.halide_pipeline.specs.Pixel.{Planes}
use Rattle.loop_ir.specs.Running.{iterated}
use Rattle.multi_hart_laws.specs.Alone.{World}
use Rattle.multi_hart_laws.specs.Paths.{Stand, end, Path}
use Rattle.multi_hart_laws.proofs.Paths.{stay, stand-front}
use Rattle.task_code_scalar.specs.Fitting.{total}
use Rattle.task_code_scalar.specs.Doing.{Setting, HoldsFuncs}
use Rattle.task_code_loops.specs.Ending.{Advanced}
use Rattle.task_code_registers.proofs.Going.{Hits, no_hits, Went, Marked, went-then, went-hits, within, still}

module _ (setting : Setting) (keeps_it : ℕ → Type 0) (inv mid : Planes → ℕ → (ℕ → ℕ) → Type 0) (n : ℕ) (body tail : List Insn) (t cost : ℕ → ℕ)
    (one : ℕ → Planes → Planes) (body_hits : ℕ → Planes → Hits)
    (does : (i : ℕ) (f : ℕ → ℕ) (memory : List ℕ) (funcs : Planes) → i < n → HoldsFuncs setting memory funcs
    → inv funcs i f
    → Marked setting (mid (one i funcs) i) body (λ at. at) (λ at. end at body) (t i) f memory keeps_it (one i funcs) (body_hits i funcs))
    (goes : (i : ℕ) (f : ℕ → ℕ) (memory : List ℕ) (funcs : Planes) → i < n → length memory ≡ setting.world.size → mid funcs i f
    → Advanced setting.world keeps_it (inv funcs (suc i)) n body tail i (cost i) f memory) where
  abbrev w : World
  w = setting.world

  abbrev whole : List Insn
  whole = body ++ tail

  abbrev in_all : ℕ → ℕ
  in_all i = t i + cost i

  -- an iteration, and the way back, or out
  iteration : (to : ℕ → ℕ) (i : ℕ) (f : ℕ → ℕ) (memory : List ℕ) (funcs : Planes) → i < n
      → ((g : ℕ → ℕ) (m : List ℕ) (a : Advanced w keeps_it (inv (one i funcs) (suc i)) n body tail i (cost i) g m) (at : ℕ) → Stand w.text at whole
      → Path w (end at body) (to at) (cost i) g m a.after m)
      → HoldsFuncs setting memory funcs → inv funcs i f
      → Marked setting (inv (one i funcs) (suc i)) whole (λ at. at) to (in_all i) f memory keeps_it (one i funcs) (body_hits i funcs)
  iteration to i f memory funcs less go holds is =
      let made = does i f memory funcs less holds is in
      let inner = made.went in
      let first : Went setting whole (λ at. at) (λ at. end at body) (t i) f memory keeps_it (one i funcs) (body_hits i funcs) =
      within setting (λ at. at) (λ at. end at body) (λ at s. stand-front w.text at body tail s) (λ at. refl) inner in
      let advanced = goes i inner.after inner.left (one i funcs) less inner.holds.size made.mark in
      let second : Went setting whole (λ at. end at body) to (cost i) inner.after inner.left keeps_it (one i funcs) no_hits =
      still setting (λ at. end at body) to (cost i) advanced.after inner.holds advanced.keeps
      (λ at s. go inner.after inner.left advanced at s) in
      record {
        went = went-hits setting (λ func x y hit. inl hit) (went-then setting first second);
        mark = advanced.mark;
      }

  -- ---- all iterations

  module _ (hits : ℕ → Planes → Hits) (none_hit : (funcs : Planes) (func x y : ℕ) → hits zero funcs func x y → ⊥)
      (more_hit : (i : ℕ) (funcs : Planes) (func x y : ℕ) → hits (suc i) funcs func x y
      → hits i funcs func x y ⊎ body_hits i (iterated i one funcs) func x y) where
    iterations : (k : ℕ) → k < n → (f : ℕ → ℕ) (memory : List ℕ) (funcs : Planes) → HoldsFuncs setting memory funcs → inv funcs 0 f
        → Marked setting (inv (iterated k one funcs) k) whole (λ at. at) (λ at. at) (total k in_all) f memory keeps_it (iterated k one funcs) (hits k funcs)
    unfolding iterated total
    iterations zero few f memory funcs holds is = record {
      went = went-hits setting (λ func x y hit. none_hit funcs func x y hit)
          (still setting (λ at. at) (λ at. at) 0 f holds (λ q kept. refl) (λ at s. stay w at f memory));
      mark = is;
    }
    iterations (suc k) few f memory funcs holds is =
        let so_far = iterations k (omega (arith, few)) f memory funcs holds is in
        let a = so_far.went in
        let b = iteration (λ at. at) k a.after a.left (iterated k one funcs) (omega (arith, few))
        (λ g m x at s. x.again few at s) a.holds so_far.mark in
        record { went = went-hits setting (more_hit k funcs) (went-then setting a b.went); mark = b.mark }

    loop-out : (k : ℕ) → suc k ≡ n → (f : ℕ → ℕ) (memory : List ℕ) (funcs : Planes) → HoldsFuncs setting memory funcs → inv funcs 0 f
        → Marked setting (inv (iterated (suc k) one funcs) (suc k)) whole (λ at. at) (λ at. end at whole) (total (suc k) in_all) f memory keeps_it
        (iterated (suc k) one funcs) (hits (suc k) funcs)
    unfolding iterated total
    loop-out k last f memory funcs holds is =
        let so_far = iterations k (omega (arith, last)) f memory funcs holds is in
        let a = so_far.went in
        let b = iteration (λ at. end at whole) k a.after a.left (iterated k one funcs) (omega (arith, last))
        (λ g m x at s. x.leaves last at s) a.holds so_far.mark in
        record { went = went-hits setting (more_hit k funcs) (went-then setting a b.went); mark = b.mark }

    pub loop-goes : 1 ≤ n → (f : ℕ → ℕ) (memory : List ℕ) (funcs : Planes) → HoldsFuncs setting memory funcs
        → inv funcs 0 f
        → Marked setting (inv (iterated n one funcs) n) whole (λ at. at) (λ at. end at whole) (total n in_all) f memory keeps_it (iterated n one funcs) (hits n funcs)
    loop-goes any f memory funcs holds is =
        let e : suc (n - 1) ≡ n = omega (arith, any) in
        subst (λ k. Marked setting (inv (iterated k one funcs) k) whole (λ at. at) (λ at. end at whole) (total k in_all) f memory keeps_it (iterated k one funcs)
        (hits k funcs)) e
        (loop-out (n - 1) e f memory funcs holds is)

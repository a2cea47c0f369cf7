-- A loop that is tested at its bottom does its iterations: any body that keeps what is known in one, any code that makes of it what is known
-- in the next one, and any branch that is taken while there is one.
use Rattle.std.proofs.Common.{◌≡◌, ℕ, zero, suc, ◌+◌, ◌-◌, ◌*◌, ◌<◌, ◌≤◌, List, [], ◌∷◌, ◌++◌, length, true, false, refl}
use Rattle.std.proofs.Common.{◌∙◌, sym, subst, arith, inl}
use Rattle.std.specs.Prelude.{◌⊎◌, nat_lt}
use Rattle.std.proofs.lemmas.Bool.Decides.{nat_tests}
use Rattle.rv_insn.specs.declared.instructions.Insn.{Insn}
use Rattle.rv_insn.specs.declared.instructions.Insn.TheVariants.{Branch}
use Rattle.rv_insn.specs.declared.operations.BranchOp.{BranchOp}
use Rattle.multi_hart_laws.specs.Scalar.{is_taken}
use Rattle.halide_pipeline.specs.Pixel.{Planes}
use Rattle.loop_ir.specs.Running.{iterated}
use Rattle.multi_hart_laws.specs.Alone.{World}
use Rattle.multi_hart_laws.specs.Paths.{Stand, end, Path}
use Rattle.multi_hart_laws.proofs.Jumps as rules
use Rattle.multi_hart_laws.proofs.Paths.{spot, stay, stand-front, stand-back, end-append}
use Rattle.task_code_scalar.specs.Code.{back}
use Rattle.task_code_scalar.specs.Fitting.{total}
use Rattle.task_code_scalar.specs.Doing.{Setting, HoldsFuncs}
use Rattle.task_code_scalar.proofs.Looping.{end-length, back-to}
use Rattle.task_code_registers.specs.Looping.{looped, LoopsIterate}
use Rattle.loop_ir.specs.Buffers.{Points}
use Rattle.loop_ir.specs.Counters.{with}
use Rattle.task_code_registers.specs.Scopes.{Knows, IsKept}
use Rattle.task_code_registers.specs.Holding.{Stepped}
use Rattle.task_code_registers.specs.Doing.{Did}
use Rattle.task_code_registers.proofs.Knowing.{knows-still}
use Rattle.task_code_registers.proofs.Going.{Hits, no_hits, Went, Marked, went-then, went-hits, within, still}

is-below : (a b : ℕ) → a < b → nat_lt a b ≡ true
is-below a b l = grind (arith, nat_tests)

is-above : (a b : ℕ) → b ≤ a → nat_lt a b ≡ false
is-above a b l = grind (arith, nat_tests)

module _ (setting : Setting) (keeps_it : ℕ → Type 0) (inv : ℕ → (ℕ → ℕ) → Type 0) (n : ℕ) (body advance : List Insn) (op : BranchOp) (a b : ℕ) (la : a < 32)
    (lb : b < 32)
    (some : 1 ≤ length (body ++ advance))
    (t : ℕ → ℕ) (one : ℕ → Planes → Planes) (body_hits : ℕ → Planes → Hits)
    (does : (i : ℕ) (f : ℕ → ℕ) (memory : List ℕ) (funcs : Planes) → i < n → HoldsFuncs setting memory funcs → inv i f
    → Marked setting (inv i) body (λ at. at) (λ at. end at body) (t i) f memory keeps_it (one i funcs)
    (body_hits i funcs))
    (step : (i : ℕ) (f : ℕ → ℕ) (memory : List ℕ) → i < n → length memory ≡ setting.world.size → inv i f
    → Stepped setting.world memory advance f keeps_it (inv (suc i)))
    (tested : (i : ℕ) (f : ℕ → ℕ) → i < n → inv (suc i) f → is_taken op (f a) (f b) ≡ nat_lt (suc i) n) where
  abbrev w : World
  w = setting.world

  abbrev part : List Insn
  part = body ++ advance

  abbrev branch : List Insn
  branch = Branch op a b (back (length part)) ∷ []

  abbrev whole : List Insn
  whole = looped body advance op a b

  abbrev mid : ℕ → ℕ
  mid at = end at part

  abbrev out : ℕ → ℕ
  out at = end at part + 4

  abbrev cost : ℕ → ℕ
  cost i = t i + length advance + 1

  half : (i : ℕ) (f : ℕ → ℕ) (memory : List ℕ) (funcs : Planes) → i < n → HoldsFuncs setting memory funcs → inv i f
      → Marked setting (inv (suc i)) whole (λ at. at) mid (t i + length advance) f memory keeps_it (one i funcs) (body_hits i funcs)
  half i f memory funcs less holds is =
      let made = does i f memory funcs less holds is in
      let inner = made.went in
      let first : Went setting whole (λ at. at) (λ at. end at body) (t i) f memory keeps_it (one i funcs) (body_hits i funcs) =
      within setting (λ at. at) (λ at. end at body) (λ at s. stand-front w.text at body advance (stand-front w.text at part branch s)) (λ at. refl) inner in
      let moved = step i inner.after inner.left less inner.holds.size made.mark in
      let second : Went setting whole (λ at. end at body) mid (length advance) inner.after inner.left keeps_it (one i funcs) no_hits =
      still setting (λ at. end at body) mid (length advance) moved.after inner.holds moved.keeps
      (λ at s. subst (λ p. Path w (end at body) p (length advance) inner.after inner.left moved.after inner.left) (sym (end-append at body advance))
      (moved.line (end at body) (stand-back w.text at body advance (stand-front w.text at part branch s)))) in
      record { went = went-hits setting (λ func x y hit. inl hit) (went-then setting first second); mark = moved.mark }

  again : (i : ℕ) (g : ℕ → ℕ) (memory : List ℕ) → suc i < n → inv (suc i) g → length memory ≡ w.size → (at : ℕ) → Stand w.text at whole
      → Path w (mid at) at 1 g memory g memory
  again i g memory more is l at s =
      let o = spot w.text at whole s in
      let p = spot w.text (mid at) branch (stand-back w.text at part branch s) in
      let e : at + 4 * length part ≡ mid at = sym (end-length at part) in
      rules.taken w g memory l op (mid at) at a b (back (length part)) la lb (tested i g (omega (arith, more)) is ∙ is-below (suc i) n more)
      (stand-back w.text at part branch s).0 (back-to (mid at) (length part) at e some p.low) o.aligned

  leaves : (i : ℕ) (g : ℕ → ℕ) (memory : List ℕ) → suc i ≡ n → inv (suc i) g → length memory ≡ w.size → (at : ℕ) → Stand w.text at whole
      → Path w (mid at) (out at) 1 g memory g memory
  leaves i g memory last is l at s =
      let p = (stand-back w.text at part branch s).1 in
      rules.passed w g memory l op (mid at) a b (back (length part)) la lb (tested i g (omega (arith, last)) is ∙ is-above (suc i) n (omega (arith, last)))
      (stand-back w.text at part branch s).0 p.low

  -- an iteration, and the way back, or out
  iteration : (to : ℕ → ℕ) (i : ℕ) (f : ℕ → ℕ) (memory : List ℕ) (funcs : Planes) → i < n
      → ((g : ℕ → ℕ) (m : List ℕ) → inv (suc i) g → length m ≡ w.size → (at : ℕ) → Stand w.text at whole → Path w (mid at) (to at) 1 g m g m)
      → HoldsFuncs setting memory funcs → inv i f → Marked setting (inv (suc i)) whole (λ at. at) to (cost i) f memory keeps_it (one i funcs) (body_hits i funcs)
  iteration to i f memory funcs less go holds is =
      let h = half i f memory funcs less holds is in
      let a = h.went in
      let last : Went setting whole mid to 1 a.after a.left keeps_it (one i funcs) no_hits =
      still setting mid to 1 a.after a.holds (λ q kept. refl) (λ at s. go a.after a.left h.mark a.holds.size at s) in
      record { went = went-hits setting (λ func x y hit. inl hit) (went-then setting a last); mark = h.mark }

  -- ---- all iterations

  module _ (hits : ℕ → Planes → Hits) (none_hit : (funcs : Planes) (func x y : ℕ) → hits zero funcs func x y → ⊥)
      (more_hit : (i : ℕ) (funcs : Planes) (func x y : ℕ) → hits (suc i) funcs func x y
      → hits i funcs func x y ⊎ body_hits i (iterated i one funcs) func x y) where
    iterations : (k : ℕ) → k < n → (f : ℕ → ℕ) (memory : List ℕ) (funcs : Planes) → HoldsFuncs setting memory funcs → inv 0 f
        → Marked setting (inv k) whole (λ at. at) (λ at. at) (total k cost) f memory keeps_it (iterated k one funcs) (hits k funcs)
    unfolding iterated total
    iterations zero few f memory funcs holds is = record {
      went = went-hits setting (λ func x y hit. none_hit funcs func x y hit)
          (still setting (λ at. at) (λ at. at) 0 f holds (λ q kept. refl) (λ at s. stay w at f memory));
      mark = is;
    }
    iterations (suc k) few f memory funcs holds is =
        let so_far = iterations k (omega (arith, few)) f memory funcs holds is in
        let a = so_far.went in
        let b = iteration (λ at. at) k a.after a.left (iterated k one funcs) (omega (arith, few))
        (λ g m known l at s. again k g m few known l at s) a.holds so_far.mark in
        record { went = went-hits setting (more_hit k funcs) (went-then setting a b.went); mark = b.mark }

    loop-out : (k : ℕ) → suc k ≡ n → (f : ℕ → ℕ) (memory : List ℕ) (funcs : Planes) → HoldsFuncs setting memory funcs → inv 0 f
        → Marked setting (inv (suc k)) whole (λ at. at) out (total (suc k) cost) f memory keeps_it (iterated (suc k) one funcs) (hits (suc k) funcs)
    unfolding iterated total
    loop-out k last f memory funcs holds is =
        let so_far = iterations k (omega (arith, last)) f memory funcs holds is in
        let a = so_far.went in
        let b = iteration out k a.after a.left (iterated k one funcs) (omega (arith, last))
        (λ g m known l at s. leaves k g m last known l at s) a.holds so_far.mark in
        record { went = went-hits setting (more_hit k funcs) (went-then setting a b.went); mark = b.mark }

    ended : (k : ℕ) (f : ℕ → ℕ) (memory : List ℕ) (funcs : Planes)
        → Marked setting (inv k) whole (λ at. at) out (total k cost) f memory keeps_it (iterated k one funcs)
        (hits k funcs)
        → Marked setting (inv k) whole (λ at. at) (λ at. end at whole) (total k cost) f memory keeps_it (iterated k one funcs) (hits k funcs)
    ended k f memory funcs x =
        let a = x.went in
        record {
          went = record {
            after = a.after;
            left = a.left;
            path = λ at s. subst (λ p. Path w at p (total k cost) f memory a.after a.left) (sym (end-append at part branch)) (a.path at s);
            keeps = a.keeps;
            holds = a.holds;
            elsewhere = a.elsewhere;
            are_bytes = a.are_bytes;
            writes = a.writes;
          };
          mark = x.mark;
        }

    pub loop-goes : 1 ≤ n → (f : ℕ → ℕ) (memory : List ℕ) (funcs : Planes) → HoldsFuncs setting memory funcs → inv 0 f
        → Marked setting (inv n) whole (λ at. at) (λ at. end at whole) (total n cost) f memory keeps_it (iterated n one funcs) (hits n funcs)
    loop-goes any f memory funcs holds is =
        let e : suc (n - 1) ≡ n = omega (arith, any) in
        subst (λ k. Marked setting (inv k) whole (λ at. at) (λ at. end at whole) (total k cost) f memory keeps_it (iterated k one funcs) (hits k funcs)) e
        (ended (suc (n - 1)) f memory funcs (loop-out (n - 1) e f memory funcs holds is))

-- ---- of scopes

abbrev pub points_hit : Points → Hits
points_hit stored func x y = stored func x y ≡ true

module _ {own : Setting} {code : List Insn} {n : ℕ} {f : ℕ → ℕ} {memory : List ℕ} {funcs : Planes} {stored : Points} where
  -- what was done, and what is so of registers that are kept
  pub marked-did : (keeps_it fewer : ℕ → Type 0) (mark_is : (ℕ → ℕ) → Type 0) → ((q : ℕ) → fewer q → keeps_it q)
      → ((g : ℕ → ℕ) → ((q : ℕ) → keeps_it q → g q ≡ f q) → mark_is g)
      → Did own code n f memory keeps_it funcs stored → Marked own mark_is code (λ at. at) (λ at. end at code) n f memory fewer funcs (points_hit stored)
  marked-did keeps_it fewer mark_is less mark a = record {
    went = record {
      after = a.after;
      left = a.left;
      path = a.block;
      keeps = λ q k. a.keeps q (less q k);
      holds = a.holds;
      elsewhere = a.elsewhere;
      are_bytes = a.are_bytes;
      writes = a.writes;
    };
    mark = mark a.after a.keeps;
  }

  pub did-went : {keeps_it : ℕ → Type 0} → Went own code (λ at. at) (λ at. end at code) n f memory keeps_it funcs (points_hit stored)
      → Did own code n f memory keeps_it funcs stored
  did-went a = record {
    after = a.after;
    left = a.left;
    block = a.path;
    keeps = a.keeps;
    holds = a.holds;
    elsewhere = a.elsewhere;
    are_bytes = a.are_bytes;
    writes = a.writes;
  }

pub loops-iterate : LoopsIterate
loops-iterate own hart scope inner counter values n body advance op a b t one body_stored stored any it all f memory funcs holds is =
    did-went (loop-goes own (IsKept scope) (λ i g. Knows hart inner (with counter i values) g) n body advance op a b it.first it.second it.some t one
    (λ i p. points_hit (body_stored i p))
    (λ i g m p l o known. marked-did (IsKept inner) (IsKept scope) (Knows hart inner (with counter i values)) it.kept
    (λ after same. knows-still hart inner (with counter i values) g after same known) (it.does i g m p l o known))
    it.moves it.tested (λ k p. points_hit (stored k p)) all.none all.more any f memory funcs holds is).went

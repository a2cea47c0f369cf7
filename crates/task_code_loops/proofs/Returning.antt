-- What is after a body: limits, ways back, and all of it.
use Rattle.std.proofs.Common.{◌≡◌, ℕ, ◌+◌, ◌*◌, ◌<◌, ◌≤◌, List, [], ◌∷◌, length, Bool, true, false}
use Rattle.std.proofs.Common.{refl, ap, ◌∙◌, sym, subst, arith, length-append}
use Rattle.std.specs.Prelude.{◌==◌, not, pos}
use Rattle.std.proofs.lemmas.Bool.{true≢false}
use Rattle.rv_insn.specs.declared.instructions.Insn.{Insn}
use Rattle.rv_insn.specs.declared.instructions.Insn.TheVariants.{Branch, Jal}
use Rattle.rv_insn.specs.declared.operations.BranchOp.TheVariants as branches
use Rattle.multi_hart_laws.proofs.Jumps as rules
use Rattle.multi_hart_laws.proofs.Paths.{spot, stay, path-then}
use Rattle.task_code_scalar.specs.Code.{back}
use Rattle.task_code_scalar.specs.Words.{Emits}
use Rattle.task_code_scalar.proofs.Looping.{back-to, forth-to}
use Rattle.task_code_scalar.proofs.Spelling.{emits_then, emits-none, spell-length}
use Rattle.task_code_registers.specs.Registers.{zero_register, scratch, may_hold}
use Rattle.task_code_registers.specs.Emitting.{Makes}
use Rattle.task_code_registers.proofs.Knowing.{may-hold}
use Rattle.task_code_loops.specs.declared.tests.Limit.{Limit}
use Rattle.task_code_loops.specs.declared.tests.Limit.TheVariants.{Register, Number}
use Rattle.task_code_loops.specs.Beginning.{may_be_limit}
use Rattle.task_code_loops.specs.Ending.{MakesLimit, GoesBack}

-- ---- limits

limit-held : (r : ℕ) (c : List ℕ) → may_hold r ≡ true → MakesLimit c c (Register r) r
limit-held r c may = record {
  insns = [];
  emits = emits-none c;
  short = omega arith;
  low = let m = may-hold r may in let h = m.high in omega (arith, h);
  does = λ w m f l zero. record { after = f; line = λ at s. stay w at f m; value = refl; others = λ q a b. refl };
}

limit-made : (n : ℕ) (c0 c1 : List ℕ) → Makes c0 c1 2 scratch (λ f. n) → MakesLimit c0 c1 (Number n) scratch
limit-made n c0 c1 x = record {
  insns = x.insns;
  emits = x.emits;
  short = x.short;
  low = omega arith;
  does = λ w m f l zero. let a = x.does w m f l zero in record { after = a.after; line = a.line; value = a.value; others = λ q s t. a.others q s s t };
}

pub limit-is-held : (limit : Limit) (r : ℕ) (c : List ℕ) → limit ≡ Register r → may_be_limit limit ≡ true → MakesLimit c c limit r
limit-is-held limit r c e may = subst (λ o. MakesLimit c c o r) (sym e) (limit-held r c (sym (ap may_be_limit e) ∙ may))

pub limit-is-made : (limit : Limit) (n : ℕ) (c0 c1 : List ℕ) → limit ≡ Number n → Makes c0 c1 2 scratch (λ f. n) → MakesLimit c0 c1 limit scratch
limit-is-made limit n c0 c1 e x = subst (λ o. MakesLimit c0 c1 o scratch) (sym e) (limit-made n c0 c1 x)

-- ---- ways back

is-not : (t : Bool) → not t ≡ true → t ≡ false
is-not true e = absurd (true≢false (sym e))
is-not false e = refl

is-so : (t : Bool) → not t ≡ false → t ≡ true
is-so true e = refl
is-so false e = absurd (true≢false e)

-- a branch
pub back-near : (a b words : ℕ) (c0 c1 : List ℕ) → a < 32 → b < 32 → 1 ≤ words → Emits c0 c1 (Branch branches.Bne a b (back words) ∷ [])
    → GoesBack c0 c1 a b words
back-near a b words c0 c1 la lb some x = record {
  insns = Branch branches.Bne a b (back words) ∷ [];
  emits = x;
  short = omega arith;
  back_cost = 1;
  out_cost = 1;
  again = λ w m f at to l test s e o.
      let p = spot w.text at (Branch branches.Bne a b (back words) ∷ []) s in
      rules.taken w f m l branches.Bne at to a b (back words) la lb test s.0 (back-to at words to e some p.low) o.aligned;
  leaves = λ w m f at l test s. let p = s.1 in rules.passed w f m l branches.Bne at a b (back words) la lb test s.0 p.low;
}

-- or, where it doesn't reach so far, a branch over a jump
pub back-far : (a b words : ℕ) (c0 c1 c2 : List ℕ) → a < 32 → b < 32 → Emits c0 c1 (Branch branches.Beq a b (pos 4) ∷ [])
    → Emits c1 c2 (Jal zero_register (back (words + 1)) ∷ []) → GoesBack c0 c2 a b words
back-far a b words c0 c1 c2 la lb x y = record {
  insns = Branch branches.Beq a b (pos 4) ∷ Jal zero_register (back (words + 1)) ∷ [];
  emits = emits_then x y;
  short = omega arith;
  back_cost = 2;
  out_cost = 1;
  again = λ w m f at to l test s e o.
      let p = spot w.text (at + 4) (Jal zero_register (back (words + 1)) ∷ []) s.1 in
      let g : to + 4 * (words + 1) ≡ at + 4 = omega (arith, e) in
      path-then w at (at + 4) to 1 1 f f f m m m
      (rules.passed w f m l branches.Beq at a b (pos 4) la lb (is-not (f a == f b) test) s.0 p.low)
      (rules.jump w f m l (at + 4) to (back (words + 1)) s.1.0 (back-to (at + 4) (words + 1) to g (omega arith) p.low) o.aligned);
  leaves = λ w m f at l test s.
      let p = s.1.1 in
      let g : at + 4 * 2 ≡ at + 4 + 4 = omega arith in
      rules.taken w f m l branches.Beq at (at + 4 + 4) a b (pos 4) la lb (is-so (f a == f b) test) s.0 (forth-to at 2 (at + 4 + 4) g p.low) p.aligned;
}

-- ---- lengths

pub emits-longer : (old new : List ℕ) (is : List Insn) → Emits old new is → length new ≡ length old + length is
emits-longer old new is x =
    ap length x.appended ∙ length-append old x.words ∙ ap (λ n. length old + n) (spell-length x.words is x.spelled)

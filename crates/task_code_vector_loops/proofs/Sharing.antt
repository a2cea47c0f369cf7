-- How many iterations sums leave.
use Rattle.std.proofs.Common.{◌≡◌, ℕ, ◌/◌, ◌%◌, ◌^◌, ◌<◌, ◌≤◌, ◌-◌, List, [], ◌∷◌, ◌++◌, refl, ap, ◌∙◌, sym, subst, arith, inl, inr}
use Rattle.std.specs.Prelude.{◌≢◌, ◌==◌, if◌then◌else◌, false}
use Rattle.std.proofs.Math.Nat.{div-le_self, mod-eq_of_lt}
use Rattle.std.proofs.lemmas.Bool.Decides.{nat_tests}
use Rattle.rv_insn.specs.declared.instructions.Insn.TheVariants.{Alu, Shift}
use Rattle.rv_insn.specs.declared.operations.AluOp.TheVariants as alus
use Rattle.rv_insn.specs.declared.operations.ShiftOp.TheVariants as shifts
use Rattle.loop_ir.specs.declared.expressions.Counter.{Counter}
use Rattle.loop_ir.specs.declared.expressions.Linear.{Linear}
use Rattle.loop_ir.specs.Counters.{Values, with}
use Rattle.loop_ir.specs.Expressions.{linear_value}
use Rattle.multi_hart_laws.proofs.Paths.{line-then}
use Rattle.task_code_scalar.specs.Words.{Emits}
use Rattle.task_code_scalar.proofs.Spelling.{emits_then}
use Rattle.task_code_scalar.proofs.Values.{alu-sets, shift-sets}
use Rattle.task_code_registers.specs.declared.scopes.AffineForm.{AffineForm}
use Rattle.task_code_registers.specs.declared.scopes.Held.{Held}
use Rattle.task_code_registers.specs.Emitting.{Makes, MakesOf, MakesValue}
use Rattle.task_code_registers.specs.Holding.{IsAt}
use Rattle.task_code_registers.specs.Registers.{address_register, first_value, scratch, second_scratch, zero_register}
use Rattle.task_code_registers.specs.Scopes.{AreHolders, IsFree, form_value}
use Rattle.task_code_registers.proofs.Knowing.{knows-zero, linear-small, working-free}
use Rattle.task_code_registers.proofs.Making.{puts-set, puts-then, short-then}
use Rattle.task_code_values.proofs.Standing.{form-alone}
use Rattle.task_code_vector_loops.specs.declared.left.Left.{Left}
use Rattle.task_code_vector_loops.specs.Runs.{left_by}
use Rattle.task_code_vector_loops.specs.inner.Making.{MakesLeast, MakesLeft, MakesPointer}

-- ---- a register's quotient by a number

pub share-shift : (r s n k : ℕ) (c0 c1 : List ℕ) → 1 ≤ r → r < 32 → s < 32 → k < 32 → n ≡ 2 ^ k → Emits c0 c1 (Shift shifts.Srli r s k ∷ [])
    → MakesOf c0 c1 3 r s (λ v. v / n)
share-shift r s n k c0 c1 low high ls few power x = record {
  insns = Shift shifts.Srli r s k ∷ [];
  emits = x;
  short = omega arith;
  does = λ w m f l zero word.
      let e : k % 32 ≡ k = mod-eq_of_lt few in
      puts-set w m l (ap (λ j. f s / 2 ^ j) e ∙ ap (λ p. f s / p) (sym power)) (shift-sets w m l shifts.Srli f r s k (f s) low high ls refl);
}

not-zero : (n : ℕ) → 0 < n → (n == 0) ≡ false
not-zero n some = grind (arith, nat_tests, some)

pub share-literal : (r s n : ℕ) (c0 c1 c2 : List ℕ) → 1 ≤ r → r < 32 → s < 32 → s ≢ scratch → s ≢ second_scratch → 0 < n
    → Makes c0 c1 2 scratch (λ f. n) → Emits c1 c2 (Alu alus.Divu r s scratch ∷ []) → MakesOf c0 c2 3 r s (λ v. v / n)
share-literal r s n c0 c1 c2 low high ls s13 s14 some x y = record {
  insns = x.insns ++ (Alu alus.Divu r s scratch ∷ []);
  emits = emits_then x.emits y;
  short = short-then x.insns (Alu alus.Divu r s scratch ∷ []) 2 1 3 x.short (omega arith) (omega arith);
  does = λ w m f l zero word.
      let a = x.does w m f l zero in
      puts-then w m l a (inl refl) (puts-set w m l (ap (λ b. if b then 2 ^ 32 - 1 else f s / n) (not-zero n some))
      (alu-sets w m l alus.Divu a.after r s scratch (f s) n low high ls (omega arith) (a.others s s13 s13 s14) a.value));
}

-- ---- sums

pub left-small : (counter : Counter) (left_store : Left) (values : Values) → left_by counter left_store values < 2 ^ 32
left-small counter left_store values =
    let at = with counter 0 values in
    let small = linear-small at left_store.sum in
    let less = div-le_self (linear_value at left_store.sum) left_store.stride in
    omega (arith, small, less)

by-one : (v stride : ℕ) → stride ≡ 1 → v ≡ v / stride
by-one v stride one = subst (λ k. v ≡ v / k) (sym one) (omega arith)

-- where values are made, no form is held
pub value-free : (scope : List Held) → AreHolders scope → IsFree scope first_value
value-free scope holders = working-free scope first_value holders (inr (omega arith, omega arith))

module _ (scope : List Held) (counter : Counter) (left_store : Left) (sum : Linear) (es : sum ≡ left_store.sum) where
  abbrev form : AffineForm
  form = record { sum = sum; per_hart = 0 }

  sum-is : (hart : ℕ) (values : Values) → form_value hart (with counter 0 values) form ≡ linear_value (with counter 0 values) left_store.sum
  sum-is hart values = form-alone hart (with counter 0 values) form left_store.sum refl es

  -- in a register, of a stride of 1
  pub left-plain : (b : ℕ) (c0 c1 : List ℕ) → left_store.stride ≡ 1 → MakesPointer c0 c1 scope counter b form → MakesLeft c0 c1 scope counter b left_store
  left-plain b c0 c1 one p = record {
    insns = p.insns;
    emits = p.emits;
    some = p.some;
    source = p.source;
    does = λ w m values f l holders knows.
        let a = p.does w m w.hart values f l holders knows in
        record {
          after = a.after;
          line = a.line;
          value = a.value ∙ sum-is w.hart values ∙ by-one (linear_value (with counter 0 values) left_store.sum)
              left_store.stride one;
          others = a.others;
        };
  }

  -- of any other
  pub left-shared : (b : ℕ) (c0 c1 c2 : List ℕ) → MakesPointer c0 c1 scope counter b form → MakesOf c1 c2 3 address_register b (λ v. v / left_store.stride)
      → MakesLeft c0 c2 scope counter address_register left_store
  left-shared b c0 c1 c2 p z = record {
    insns = p.insns ++ z.insns;
    emits = emits_then p.emits z.emits;
    some = omega arith;
    source = (omega arith, (λ e. omega (arith, e), λ e. omega (arith, e)));
    does = λ w m values f l holders knows.
        let at = with counter 0 values in
        let a = p.does w m w.hart values f l holders knows in
        let is : a.after b ≡ linear_value at left_store.sum = a.value ∙ sum-is w.hart values in
        let zero : a.after zero_register ≡ 0 =
        a.others zero_register (λ e. omega (arith, e)) (λ e. omega (arith, e)) (λ e. omega (arith, e)) ∙ knows-zero w.hart scope at f knows in
        let d = z.does w m a.after l zero (subst (λ n. n < 2 ^ 32) (sym is) (linear-small at left_store.sum)) in
        record {
          after = d.after;
          line = line-then w p.insns z.insns f a.after d.after m m m a.line d.line;
          value = d.value ∙ ap (λ n. n / left_store.stride) is;
          others = λ q address one two. d.others q address one two ∙ a.others q address one two;
        };
  }

  -- where values are made
  module _ (start : AffineForm) (law : IsAt counter 0 form start) (c0 c1 : List ℕ) (x : MakesValue c0 c1 scope start first_value) where
    pub first-plain : left_store.stride ≡ 1 → MakesLeast c0 c1 scope counter left_store []
    first-plain one = record {
      insns = x.insns;
      emits = x.emits;
      does = λ w m values f l holders knows.
          let at = with counter 0 values in
          let a = x.does w m w.hart at f l holders (value-free scope holders) knows in
          record {
            after = a.after;
            line = a.line;
            value = a.value ∙ law.value w.hart 0 values ∙ sum-is w.hart values ∙ by-one (linear_value at left_store.sum) left_store.stride one;
            others = λ q apart address one two. a.others q apart one two;
          };
    }

    pub first-shared : (c2 : List ℕ) → MakesOf c1 c2 3 first_value first_value (λ v. v / left_store.stride) → MakesLeast c0 c2 scope counter left_store []
    first-shared c2 z = record {
      insns = x.insns ++ z.insns;
      emits = emits_then x.emits z.emits;
      does = λ w m values f l holders knows.
          let at = with counter 0 values in
          let a = x.does w m w.hart at f l holders (value-free scope holders) knows in
          let is : a.after first_value ≡ linear_value at left_store.sum = a.value ∙ law.value w.hart 0 values ∙ sum-is w.hart values in
          let zero : a.after zero_register ≡ 0 =
          a.others zero_register (λ e. omega (arith, e)) (λ e. omega (arith, e)) (λ e. omega (arith, e)) ∙ knows-zero w.hart scope at f knows in
          let d = z.does w m a.after l zero (subst (λ n. n < 2 ^ 32) (sym is) (linear-small at left_store.sum)) in
          record {
            after = d.after;
            line = line-then w x.insns z.insns f a.after d.after m m m a.line d.line;
            value = d.value ∙ ap (λ n. n / left_store.stride) is;
            others = λ q apart address one two. d.others q apart one two ∙ a.others q apart one two;
          };
    }

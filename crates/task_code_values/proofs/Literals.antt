-- What operations with a literal make, which an instruction holds.
use Rattle.std.proofs.Common.{◌≡◌, ℕ, ◌+◌, ◌-◌, ◌*◌, ◌%◌, ◌^◌, ◌<◌, ◌≤◌, List, refl, ◌∙◌, sym, subst, arith, inr}
use Rattle.halide_pipeline.specs.declared.expressions.Operation.{Operation}
use Rattle.halide_pipeline.specs.declared.expressions.Operation.TheVariants as op
use Rattle.halide_pipeline.specs.Words as word
use Rattle.loop_ir.specs.declared.expressions.Expr.{Expr}
use Rattle.loop_ir.specs.declared.expressions.Expr.TheVariants as e
use Rattle.task_code_registers.specs.declared.scopes.Held.{Held}
use Rattle.task_code_registers.specs.Emitting.{Makes, MakesOf}
use Rattle.task_code_registers.proofs.Knowing.{knows-zero}
use Rattle.task_code_values.specs.declared.immediates.Immediate.{Immediate}
use Rattle.task_code_values.specs.declared.immediates.Immediate.TheVariants as immediates
use Rattle.task_code_values.specs.Immediates.{immediate_value, IsImmediateNumber, IsImmediate}
use Rattle.task_code_values.specs.Making.{MakesFrom}
use Rattle.task_code_values.proofs.Standing.{below-apart}

-- ---- which operations do

pub add-number : (operation : Operation) (n : ℕ) → operation ≡ op.Add → IsImmediateNumber operation n (immediates.Plus n)
unfolding word.add
add-number operation n eo = subst (λ o. IsImmediateNumber o n (immediates.Plus n)) (sym eo) (λ v small. refl)

opposite-added : (v n : ℕ) → (v + (2 ^ 32 - n)) % 2 ^ 32 ≡ (v + (0 + (2 ^ 32 - n)) % 2 ^ 32) % 2 ^ 32
opposite-added v n = omega arith

pub subtract-number : (operation : Operation) (n m : ℕ) → operation ≡ op.Subtract → m ≡ word.subtract 0 n
    → IsImmediateNumber operation n (immediates.Plus m)
unfolding word.subtract
subtract-number operation n m eo em =
    subst (λ o. IsImmediateNumber o n (immediates.Plus m)) (sym eo)
    (subst (λ k. IsImmediateNumber op.Subtract n (immediates.Plus k)) (sym em) (λ v small. opposite-added v n))

pub multiply-number : (operation : Operation) (n : ℕ) → operation ≡ op.Multiply → IsImmediateNumber operation n (immediates.Times n)
unfolding word.multiply
multiply-number operation n eo = subst (λ o. IsImmediateNumber o n (immediates.Times n)) (sym eo) (λ v small. refl)

pub is-immediate : (operation : Operation) (expression : Expr) (n : ℕ) (i : Immediate) → expression ≡ e.Number n → n < 2 ^ 32 → IsImmediateNumber operation n i
    → IsImmediate operation expression i
is-immediate operation expression n i eo small makes = record { number = n; is = eo; small = small; makes = makes }

-- ---- what they make

made-as : (i own_immediate : Immediate) (r s : ℕ) (c0 c1 : List ℕ) → own_immediate ≡ i → MakesOf c0 c1 3 r s (immediate_value i) → MakesOf c0 c1 3 r s (immediate_value own_immediate)
made-as i own_immediate r s c0 c1 eo x = subst (λ k. MakesOf c0 c1 3 r s (immediate_value k)) (sym eo) x

pub plus-made : (own_immediate : Immediate) (n r s : ℕ) (c0 c1 : List ℕ) → own_immediate ≡ immediates.Plus n → MakesOf c0 c1 3 r s (λ v. (v + n) % 2 ^ 32)
    → MakesOf c0 c1 3 r s (immediate_value own_immediate)
plus-made own_immediate n r s c0 c1 eo x = made-as (immediates.Plus n) own_immediate r s c0 c1 eo x

-- what is made of the registers as they were is made of one
pub times-made : (own_immediate : Immediate) (n r s : ℕ) (c0 c1 : List ℕ) → own_immediate ≡ immediates.Times n → Makes c0 c1 3 r (λ f. (f s * n) % 2 ^ 32)
    → MakesOf c0 c1 3 r s (immediate_value own_immediate)
times-made own_immediate n r s c0 c1 eo x =
    made-as (immediates.Times n) own_immediate r s c0 c1 eo
    (record { insns = x.insns; emits = x.emits; short = x.short; does = λ w m f l zero small. x.does w m f l zero })

-- so it is of an operand
pub of-operand : (scope : List Held) (most r s : ℕ) (made says : ℕ → ℕ) (c0 c1 : List ℕ) → 20 ≤ r → r < 32 → ((v : ℕ) → v < 2 ^ 32 → says v ≡ made v)
    → ((v : ℕ) → v < 2 ^ 32 → says v < 2 ^ 32) → MakesOf c0 c1 most r s made → MakesFrom c0 c1 most scope r s says
of-operand scope most r s made says c0 c1 low high same fits x = record {
  insns = x.insns;
  emits = x.emits;
  short = x.short;
  does = λ w m hart values f l holders knows small.
      let u = x.does w m f l (knows-zero hart scope values f knows) small in
      record {
        after = u.after;
        line = u.line;
        value = u.value ∙ sym (same (f s) small);
        small = fits (f s) small;
        keeps = λ q k. let d = below-apart r r q (inr (refl, high)) k in u.others q d.0 d.1.0 d.1.1;
      };
}

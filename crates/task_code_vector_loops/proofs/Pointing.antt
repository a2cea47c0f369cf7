-- A register points where lanes begin.
use Rattle.std.proofs.Common.{◌≡◌, ℕ, List, refl, ◌∙◌, arith, inl}
use Rattle.loop_ir.specs.declared.expressions.Counter.{Counter}
use Rattle.loop_ir.specs.Counters.{with}
use Rattle.task_code_registers.specs.declared.scopes.AffineForm.{AffineForm}
use Rattle.task_code_registers.specs.declared.scopes.Held.{Held}
use Rattle.task_code_registers.specs.Emitting.{IsNear, MakesValue}
use Rattle.task_code_registers.specs.Holding.{IsAt}
use Rattle.task_code_registers.specs.Registers.{address_register}
use Rattle.task_code_registers.specs.Scopes.{AreHolders, IsFree, form_value}
use Rattle.task_code_registers.proofs.Knowing.{may-hold, working-free}
use Rattle.task_code_values.proofs.Standing.{held-near}
use Rattle.task_code_vector_loops.specs.inner.Making.{MakesPointer}

-- where addresses are made, no form is held
pub address-free : (scope : List Held) → AreHolders scope → IsFree scope address_register
address-free scope holders = working-free scope address_register holders (inl (omega arith, omega arith))

module _ (scope : List Held) (counter : Counter) (form start : AffineForm) (law : IsAt counter 0 form start) where
  -- a register of the scope does so
  pub pointer-near : (s d : ℕ) (c : List ℕ) → IsNear scope start s d → d ≡ 0 → MakesPointer c c scope counter s form
  pointer-near s d c near none =
      let x = held-near scope start address_register s d 0 c (λ hart values. form_value hart values start) near none (λ hart values. refl) in
      record {
        insns = x.insns;
        emits = x.emits;
        some = let m = may-hold s near.may in m.low;
        source = x.source;
        does = λ w m hart values f l holders knows.
            let a = x.does w m hart (with counter 0 values) f l holders (address-free scope holders) knows in
            record { after = a.after; line = a.line; value = a.value ∙ law.value hart 0 values; others = a.others };
      }

  -- or one is made to do so
  pub pointer-made : (c0 c1 : List ℕ) → MakesValue c0 c1 scope start address_register → MakesPointer c0 c1 scope counter address_register form
  pointer-made c0 c1 x = record {
    insns = x.insns;
    emits = x.emits;
    some = omega arith;
    source = (omega arith, (λ e. omega (arith, e), λ e. omega (arith, e)));
    does = λ w m hart values f l holders knows.
        let a = x.does w m hart (with counter 0 values) f l holders (address-free scope holders) knows in
        record { after = a.after; line = a.line; value = a.value ∙ law.value hart 0 values; others = a.others };
  }

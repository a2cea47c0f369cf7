-- Forms that are a held one and a scaled index. This project's own.
use Rattle.std.specs.Prelude.{◌≡◌, ◌<◌, ℕ, ◌+◌, ◌*◌, ◌%◌, ◌^◌, true, List}
use Rattle.loop_ir.specs.Counters.{Values}
use Rattle.task_code_registers.specs.declared.indexed.Indexed.{Indexed}
use Rattle.task_code_registers.specs.declared.scopes.AffineForm.{AffineForm}
use Rattle.task_code_registers.specs.declared.scopes.Held.{Held}
use Rattle.task_code_registers.specs.Emitting.{Fits}
use Rattle.task_code_registers.specs.Registers.{may_hold}
use Rattle.task_code_registers.specs.Scopes.{Knows, IsKept, form_value}

-- a form is a register of the scope, a number that an immediate stands for, and this many times a register, which holds a word
pub record IsIndexed (scope : List Held) (form : AffineForm) (own_indexed : Indexed) : Type 0 where
  pub kept : IsKept scope own_indexed.base.register
  pub base_may : may_hold own_indexed.base.register ≡ true
  pub index_may : may_hold own_indexed.index ≡ true
  pub fits : Fits own_indexed.base.number
  pub word : own_indexed.base.number < 2 ^ 32
  pub value : (hart : ℕ) (values : Values) (f : ℕ → ℕ) → Knows hart scope values f
      → form_value hart values form ≡ ((f own_indexed.base.register + own_indexed.base.number) + f own_indexed.index *
      own_indexed.stride) % 2 ^ 32
  pub small : (hart : ℕ) (values : Values) (f : ℕ → ℕ) → Knows hart scope values f → f own_indexed.index < 2 ^ 32

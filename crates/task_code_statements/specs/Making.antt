-- Stores as their code is made, and where loops begin. This project's own.
use Rattle.std.specs.Prelude.{◌≡◌, ℕ, false, List}
use Rattle.loop_ir.specs.declared.expressions.Expr.{Expr}
use Rattle.loop_ir.specs.declared.statements.Store.{Store}
use Rattle.task_code_scalar.specs.declared.layouts.Places.{Places}
use Rattle.task_code_registers.specs.declared.scopes.AffineForm.{AffineForm}
use Rattle.task_code_registers.specs.declared.scopes.Held.{Held}
use Rattle.task_code_registers.specs.Holding.{mentions}
use Rattle.task_code_loops.specs.declared.beginning.BegunLoop.{BegunLoop}
use Rattle.task_code_loops.specs.declared.bounds.Bound.{Bound}
use Rattle.task_code_loops.specs.declared.known.KnownSum.{KnownSum}
use Rattle.task_code_loops.specs.Beginning.{Begins}
use Rattle.task_code_clamps.specs.declared.clamps.Ranged.{Ranged}
use Rattle.task_code_clamps.specs.Clamps as clamps
use Rattle.task_code_names.specs.Names.{IsNamedStore}
use Rattle.task_code_statements.specs.declared.contexts.Context.{Context}
use Rattle.task_code_statements.specs.Rewriting.{IsSameExpr, IsSameStore}

-- an expression without clamps that cut nothing off, made of one by other loop variables than the known ones
pub record IsUnclamped (places : Places) (known : List KnownSum) (bounds : List Bound)
    (expression new_expression : Expr) : Type 0 where
  pub middle : Expr
  pub by_others : IsSameExpr known expression middle
  pub without_clamps : clamps.IsSame places bounds middle new_expression

-- and it lies in a range
pub record IsUnclampedIn (places : Places) (known : List KnownSum) (bounds : List Bound) (expression : Expr) (new_ranged : Ranged) : Type 0 where
  pub middle : Expr
  pub by_others : IsSameExpr known expression middle
  pub ranged : clamps.IsRanged places bounds middle new_ranged

-- so is a store
pub record IsUnclampedStore (places : Places) (known : List KnownSum) (bounds : List Bound) (new_store made : Store) : Type 0 where
  pub middle : Store
  pub by_others : IsSameStore known new_store middle
  pub without_clamps : clamps.IsSameStore places bounds middle made

-- a store by other loop variables than the known ones, without clamps that cut nothing off, and with names in place of parts
pub record IsMadeStore (places : Places) (context : Context) (store new_store : Store) : Type 0 where
  pub first : Store
  pub second : Store
  pub by_others : IsSameStore context.known.items store first
  pub without_clamps : clamps.IsSameStore places context.bounds.items first second
  pub by_names : IsNamedStore context.names.items second new_store

-- Code is in front of a loop whose variable no held form has: registers hold some forms, with this many registers left.
pub record BeginsIterations (old new : List ℕ) (bound : Bound) (scope : List Held) (begun : BegunLoop) : Type 0 where
  pub wanted : List AffineForm
  pub reserved : ℕ
  pub begins : Begins old new wanted bound.counter bound.count scope reserved begun
  pub loop_invariant : mentions bound.counter scope ≡ false

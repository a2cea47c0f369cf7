-- What each kind of expression and of statement needs, in terms of its parts.
use Rattle.std.proofs.Common.{◌≡◌, ℕ, ◌+◌, ap, sym, ◌∙◌}
use Rattle.std.specs.Prelude.{max}
use Rattle.halide_pipeline.specs.declared.expressions.Operation.{Operation}
use Rattle.halide_pipeline.specs.declared.expressions.Source.{Source}
use Rattle.loop_ir.specs.declared.expressions.Counter.{Counter}
use Rattle.loop_ir.specs.declared.expressions.Expr.{Expr}
use Rattle.loop_ir.specs.declared.expressions.Expr.TheVariants as e
use Rattle.loop_ir.specs.declared.expressions.Linear.{Linear}
use Rattle.loop_ir.specs.declared.statements.LoopKind.{LoopKind}
use Rattle.loop_ir.specs.declared.statements.Store.{Store}
use Rattle.loop_ir.specs.declared.statements.Whole.{Whole}
use Rattle.loop_ir.specs.declared.statements.Stmt.{Stmt, fold-roll-Stmt}
use Rattle.loop_ir.specs.declared.statements.Stmt.TheOpen as layer
use Rattle.loop_ir.specs.declared.statements.Stmt.TheVariants.{rolls-Store, rolls-Sequence, rolls-For, rolls-Bind}
use Rattle.loop_ir.specs.declared.statements.Stmt.TheVariants as s
use Rattle.loop_ir.specs.Needs.{Need, leaf, of_parts, beside_first, divisor_need, need_at, need_of, need, store_need, greatest_at, greatest_need}
use Rattle.loop_ir.proofs.Folds.{at_number, at_linear, at_binary, at_divide, at_remainder, at_select, at_load}

-- ---- expressions

pub need_number : (n : ℕ) → need_of (e.Number n) ≡ leaf
unfolding need_of
need_number n = at_number Need need_at n

pub need_linear : (sum : Linear) → need_of (e.Linear sum) ≡ leaf
unfolding need_of
need_linear sum = at_linear Need need_at sum

pub need_binary : (o : Operation) (a b : Expr) → need_of (e.Binary o a b) ≡ of_parts (max (need a) (beside_first (need_of b)))
unfolding need_of
need_binary o a b = at_binary Need need_at o a b

pub need_divide : (a : Expr) (c : ℕ) → need_of (e.Divide a c) ≡ of_parts (max (need a) (divisor_need c))
unfolding need_of
need_divide a c = at_divide Need need_at a c

pub need_remainder : (a : Expr) (c : ℕ) → need_of (e.Remainder a c) ≡ of_parts (max (need a) (divisor_need c))
unfolding need_of
need_remainder a c = at_remainder Need need_at a c

pub need_select : (c a b : Expr) → need_of (e.Select c a b) ≡ of_parts (max (need c) (max (1 + need a) (2 + need b)))
unfolding need_of
need_select c a b = at_select Need need_at c a b

pub need_load : (source : Source) (x y : Expr) → need_of (e.Load source x y) ≡ of_parts (max (need x) (beside_first (need_of y)))
unfolding need_of
need_load source x y = at_load Need need_at source x y

-- ---- statements

pub greatest_store : (store : Store) → greatest_need (s.Store store) ≡ store_need store
unfolding greatest_need
greatest_store store = ap greatest_need (sym (rolls-Store store)) ∙ fold-roll-Stmt ℕ greatest_at (layer.Store store)

pub greatest_sequence : (first second : Stmt) → greatest_need (s.Sequence first second) ≡ max (greatest_need first) (greatest_need second)
unfolding greatest_need
greatest_sequence first second = ap greatest_need (sym (rolls-Sequence first second)) ∙ fold-roll-Stmt ℕ greatest_at (layer.Sequence first second)

pub greatest_for : (counter : Counter) (count : ℕ) (kind : LoopKind) (body : Stmt) → greatest_need (s.For counter count kind body) ≡ greatest_need body
unfolding greatest_need
greatest_for counter count kind body = ap greatest_need (sym (rolls-For counter count kind body))
    ∙ fold-roll-Stmt ℕ greatest_at (layer.For counter count kind body)

pub greatest_bind : (counter : Counter) (whole : Whole) (extent : ℕ) (body : Stmt) → greatest_need (s.Bind counter whole extent body) ≡ greatest_need body
unfolding greatest_need
greatest_bind counter whole extent body = ap greatest_need (sym (rolls-Bind counter whole extent body))
    ∙ fold-roll-Stmt ℕ greatest_at (layer.Bind counter whole extent body)

-- How large each kind of expression and of statement is, in terms of its parts.
use Rattle.std.proofs.Common.{◌≡◌, ℕ, ◌+◌, length, ap, sym, ◌∙◌}
use Rattle.halide_pipeline.specs.declared.expressions.Operation.{Operation}
use Rattle.halide_pipeline.specs.declared.expressions.Source.{Source}
use Rattle.loop_ir.specs.declared.expressions.Counter.{Counter}
use Rattle.loop_ir.specs.declared.expressions.Expr.{Expr}
use Rattle.loop_ir.specs.declared.expressions.Expr.TheVariants as e
use Rattle.loop_ir.specs.declared.expressions.Linear.{Linear}
use Rattle.loop_ir.specs.declared.statements.LoopKind.{LoopKind}
use Rattle.loop_ir.specs.declared.statements.Store.{Store}
use Rattle.loop_ir.specs.declared.statements.Whole.{Whole}
use Rattle.loop_ir.specs.declared.statements.Stmt.{Stmt, fold-roll-Stmt}
use Rattle.loop_ir.specs.declared.statements.Stmt.TheOpen as layer
use Rattle.loop_ir.specs.declared.statements.Stmt.TheVariants.{rolls-Store, rolls-Sequence, rolls-For, rolls-Bind}
use Rattle.loop_ir.specs.declared.statements.Stmt.TheVariants as s
use Rattle.loop_ir.specs.Sizes.{Size, leaf, of_parts, kept, size_at, size_of, size, store_size, is_laid_out, loop_room, whole_at, whole_size}
use Rattle.loop_ir.proofs.Folds.{at_number, at_linear, at_binary, at_divide, at_remainder, at_select, at_load}

-- ---- expressions

pub size_number : (n : ℕ) → size_of (e.Number n) ≡ leaf 0
unfolding size_of
size_number n = at_number Size size_at n

pub size_linear : (sum : Linear) → size_of (e.Linear sum) ≡ leaf (length sum.terms)
unfolding size_of
size_linear sum = at_linear Size size_at sum

pub size_binary : (o : Operation) (a b : Expr) → size_of (e.Binary o a b) ≡ of_parts (size a + size b + kept (size_of b) + 4)
unfolding size_of
size_binary o a b = at_binary Size size_at o a b

pub size_divide : (a : Expr) (c : ℕ) → size_of (e.Divide a c) ≡ of_parts (size a + 11)
unfolding size_of
size_divide a c = at_divide Size size_at a c

pub size_remainder : (a : Expr) (c : ℕ) → size_of (e.Remainder a c) ≡ of_parts (size a + 13)
unfolding size_of
size_remainder a c = at_remainder Size size_at a c

pub size_select : (c a b : Expr) → size_of (e.Select c a b) ≡ of_parts (size c + size a + size b + 33)
unfolding size_of
size_select c a b = at_select Size size_at c a b

pub size_load : (source : Source) (x y : Expr) → size_of (e.Load source x y) ≡ of_parts (size x + size y + kept (size_of y) + 13)
unfolding size_of
size_load source x y = at_load Size size_at source x y

-- ---- statements

pub whole_store : (store : Store) → whole_size (s.Store store) ≡ store_size store
unfolding whole_size
whole_store store = ap whole_size (sym (rolls-Store store)) ∙ fold-roll-Stmt ℕ whole_at (layer.Store store)

pub whole_sequence : (first second : Stmt) → whole_size (s.Sequence first second) ≡ whole_size first + whole_size second
unfolding whole_size
whole_sequence first second = ap whole_size (sym (rolls-Sequence first second)) ∙ fold-roll-Stmt ℕ whole_at (layer.Sequence first second)

pub whole_for : (counter : Counter) (count : ℕ) (kind : LoopKind) (body : Stmt) → whole_size (s.For counter count kind body) ≡ loop_room (is_laid_out kind)
    count (whole_size body)
unfolding whole_size
whole_for counter count kind body = ap whole_size (sym (rolls-For counter count kind body)) ∙ fold-roll-Stmt ℕ whole_at (layer.For counter count kind body)

pub whole_bind : (counter : Counter) (whole : Whole) (extent : ℕ) (body : Stmt) → whole_size (s.Bind counter whole extent body) ≡ whole_size body + 25
unfolding whole_size
whole_bind counter whole extent body = ap whole_size (sym (rolls-Bind counter whole extent body))
    ∙ fold-roll-Stmt ℕ whole_at (layer.Bind counter whole extent body)

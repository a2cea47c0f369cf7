-- How many words of code a statement may ask for, with a copy of the body of an unrolled loop for each of its iterations: a bound
-- for whoever makes such code of it, wherever the values of its expressions stand. This project's own.
use Rattle.std.specs.Prelude.{ℕ, ◌+◌, ◌*◌, ◌&&◌, Bool, true, false, nat_lt, if◌then◌else◌, length}
use Rattle.loop_ir.specs.declared.expressions.Expr.{Expr, fold-Expr}
use Rattle.loop_ir.specs.declared.expressions.Expr.TheOpen.{Expr-F}
use Rattle.loop_ir.specs.declared.expressions.Expr.TheOpen as layer
use Rattle.loop_ir.specs.declared.statements.LoopKind.{LoopKind}
use Rattle.loop_ir.specs.declared.statements.LoopKind.TheVariants as kinds
use Rattle.loop_ir.specs.declared.statements.Store.{Store}
use Rattle.loop_ir.specs.declared.statements.Stmt.{Stmt, fold-Stmt}
use Rattle.loop_ir.specs.declared.statements.Stmt.TheOpen.{Stmt-F}
use Rattle.loop_ir.specs.declared.statements.Stmt.TheOpen as parts

-- ---- expressions

-- whether an expression is a number or a sum of counters, and how many words it takes
pub record Size : Type 0 where
  pub is_leaf : Bool
  pub words : ℕ

-- a number, and four words for each term that is added to it
abbrev pub leaf : ℕ → Size
leaf terms = record { is_leaf = true; words = 2 + 4 * terms }

abbrev pub of_parts : ℕ → Size
of_parts words = record { is_leaf = false; words = words }

-- A first operand may have to be kept while a second one is made, which is no leaf: 7 words to keep it, 8 to take it back.
abbrev pub kept : Size → ℕ
kept second = if second.is_leaf then 0 else 15

abbrev pub size_at : Expr-F Size → Size
size_at (layer.Number n) = leaf 0
size_at (layer.Linear own) = leaf (length own.terms)
size_at (layer.Binary operation a b) = of_parts (a.words + b.words + kept b + 4)
size_at (layer.Divide a c) = of_parts (a.words + 11)
size_at (layer.Remainder a c) = of_parts (a.words + 13)
size_at (layer.Select c a b) = of_parts (c.words + a.words + b.words + 33)
size_at (layer.Load source x y) = of_parts (x.words + y.words + kept y + 13)

unfoldable pub size_of : Expr → Size
size_of e = fold-Expr Size size_at e

abbrev pub size : Expr → ℕ
size e = (size_of e).words

-- ---- statements

-- An index and then the address may have to be kept while what comes next is made: 5 words for both, 12 for the address of two values, and the
-- store.
abbrev pub store_size : Store → ℕ
store_size store = size store.x + size store.y + size store.value + 18

-- whether a loop is laid out, one copy of its body an iteration
abbrev pub is_laid_out : LoopKind → Bool
is_laid_out kinds.Serial = false
is_laid_out kinds.Unrolled = true
is_laid_out kinds.Vectorized = false

-- there is a copy for each iteration; a loop of none is counted
abbrev pub are_copies : Bool → ℕ → Bool
are_copies is_laid count = is_laid && nat_lt 0 count

-- of a loop in this many iterations, with a body of this many words: one that is laid out asks for a word at first and another one after each copy
abbrev pub loop_size : Bool → ℕ → ℕ → ℕ
loop_size is_laid count body = if are_copies is_laid count then count * (body + 1) + 1 else body + 7

-- and with room for what held registers want: their values before the first iteration, and their steps
abbrev pub loop_room : Bool → ℕ → ℕ → ℕ
loop_room is_laid count body = loop_size is_laid count body + 31

-- A split loop's value takes 14 words with the test on it, and there is room for 11 more.
abbrev pub whole_at : Stmt-F ℕ → ℕ
whole_at (parts.Store store) = store_size store
whole_at (parts.Sequence first second) = first + second
whole_at (parts.For counter count kind body) = loop_room (is_laid_out kind) count body
whole_at (parts.Bind counter whole extent body) = body + 25

-- of all of a statement
unfoldable pub whole_size : Stmt → ℕ
whole_size statement = fold-Stmt ℕ whole_at statement

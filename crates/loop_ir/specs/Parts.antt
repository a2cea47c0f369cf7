-- What expressions, stores and statements are, by their parts. This project's own.
use Rattle.loop_ir.specs.declared.expressions.Expr.{Expr}
use Rattle.loop_ir.specs.declared.expressions.Expr.TheVariants as exprs
use Rattle.loop_ir.specs.declared.parts.ExprParts.{ExprParts}
use Rattle.loop_ir.specs.declared.parts.ExprParts.TheVariants as parts
use Rattle.loop_ir.specs.declared.parts.StmtParts.{StmtParts}
use Rattle.loop_ir.specs.declared.parts.StmtParts.TheVariants as pieces
use Rattle.loop_ir.specs.declared.parts.StoreParts.{StoreParts}
use Rattle.loop_ir.specs.declared.statements.Stmt.{Stmt}
use Rattle.loop_ir.specs.declared.statements.Stmt.TheVariants as stmts
use Rattle.loop_ir.specs.declared.statements.Store.{Store}

-- the expression of these parts
abbrev pub expression_of : ExprParts → Expr
expression_of (parts.Number number) = exprs.Number number
expression_of (parts.Linear own) = exprs.Linear own
expression_of (parts.Binary operation a b) = exprs.Binary operation a b
expression_of (parts.Divide a divisor) = exprs.Divide a divisor
expression_of (parts.Remainder a divisor) = exprs.Remainder a divisor
expression_of (parts.Select c a b) = exprs.Select c a b
expression_of (parts.Load source x y) = exprs.Load source x y

-- the store of these parts
abbrev pub store_of : StoreParts → Store
store_of store = record { func = store.func; x = store.x; y = store.y; value = store.value }

-- the statement of these parts
abbrev pub statement_of : StmtParts → Stmt
statement_of (pieces.Store store) = stmts.Store store
statement_of (pieces.Sequence first second) = stmts.Sequence first second
statement_of (pieces.For counter count kind body) = stmts.For counter count kind body
statement_of (pieces.Bind counter own extent body) = stmts.Bind counter own extent body

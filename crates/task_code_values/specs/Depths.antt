-- For how many of an expression, its first operand, the first operand of that one and so on the stack has no room. This project's own.
use Rattle.std.specs.Prelude.{ℕ, suc, nat_le, if◌then◌else◌}
use Rattle.loop_ir.specs.declared.expressions.Expr.{Expr, fold-Expr}
use Rattle.loop_ir.specs.declared.expressions.Expr.TheOpen.{Expr-F}
use Rattle.loop_ir.specs.declared.expressions.Expr.TheOpen as layer
use Rattle.loop_ir.specs.Needs.{Need, need_at}

-- what an expression needs, and how many they are
pub record Depth : Type 0 where
  pub needs : Need
  pub firsts : ℕ

-- the stack has 12 registers
abbrev pub over : Need → ℕ → Depth
over needs first = record { needs = needs; firsts = if nat_le needs.count 12 then 0 else suc first }

abbrev pub depth_at : Expr-F Depth → Depth
depth_at (layer.Number n) = over (need_at (layer.Number n)) 0
depth_at (layer.Linear own) = over (need_at (layer.Linear own)) 0
depth_at (layer.Binary operation a b) = over (need_at (layer.Binary operation a.needs b.needs)) a.firsts
depth_at (layer.Divide a c) = over (need_at (layer.Divide a.needs c)) a.firsts
depth_at (layer.Remainder a c) = over (need_at (layer.Remainder a.needs c)) a.firsts
depth_at (layer.Select c a b) = over (need_at (layer.Select c.needs a.needs b.needs)) c.firsts
depth_at (layer.Load source x y) = over (need_at (layer.Load source x.needs y.needs)) x.firsts

unfoldable pub depth_of : Expr → Depth
depth_of e = fold-Expr Depth depth_at e

abbrev pub depth : Expr → ℕ
depth e = (depth_of e).firsts

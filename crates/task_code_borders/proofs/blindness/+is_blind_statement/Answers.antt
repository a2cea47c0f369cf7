use Rattle.std.proofs.Common.{sym, ◌∙◌}
use Rattle.std.specs.Prelude.{not}
use Rattle.std.proofs.lemmas.Bool.{and_parts, not-true}
use Rattle.loop_ir.specs.declared.statements.Stmt.TheVariants as s
use Rattle.task_code_borders.specs.Borders.{is_border}
use Rattle.task_code_borders.proofs.BlindStatements.{store_blind, blind_as, blind_sequence, blind_for, blind_bind}
use Rattle.task_code_borders.proofs.blindness.+is_blind_statement.Goals as goal

pub returns-in-Store : goal.returns-in-Store
returns-in-Store t c =
    λ u. blind_as c.args.statement.now (s.Store c.in-Store.store) c.in-Store.is (store_blind c.in-Store.store (c.is_blind_store.ensures u))

pub returns-then-is_blind_statement : goal.returns-then-is_blind_statement
returns-then-is_blind_statement t c =
    λ u. blind_sequence c.args.statement.now c.in-Sequence.first c.in-Sequence.second _ _ c.in-Sequence.is c.get.ensures
    c.get-then-is_blind_statement.ensures (c.is_blind_statement.ensures c.if-is_blind_statement.true) (c.is_blind_statement-then-is_blind_statement.ensures u)

pub returns-then-not-is_border : goal.returns-then-not-is_border
returns-then-not-is_border t c =
    λ u. blind_for c.args.statement.now c.in-For.counter c.in-For.field-1 c.in-For.field-2 c.in-For.body _ c.in-For.is c.get-then-not-is_border.ensures
    (sym c.is_border.ensures ∙ c.if-not-is_border.true) (c.is_blind_statement-then-not-is_border.ensures u)

pub returns-then-has_stages : goal.returns-then-has_stages
returns-then-has_stages t c =
    λ u. let parts = and_parts (not (is_border c.in-Bind.whole.outer)) (not (is_border c.in-Bind.whole.inner))
    (sym c.has_stages.ensures ∙ c.if-has_stages.true) in
    blind_bind c.args.statement.now c.in-Bind.counter c.in-Bind.whole c.in-Bind.field-2 c.in-Bind.body _ c.in-Bind.is c.get-then-has_stages.ensures
    (sym c.is_border-in-Bind.ensures ∙ c.if-not-is_border-2.true) (not-true (is_border c.in-Bind.whole.outer) parts.0)
    (not-true (is_border c.in-Bind.whole.inner) parts.1) (c.is_blind_statement-then-has_stages.ensures u)

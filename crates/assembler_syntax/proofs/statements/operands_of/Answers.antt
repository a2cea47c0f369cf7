use Rattle.std.proofs.Common.{sym, ◌∙◌}
use Rattle.assembler_syntax.proofs.Keeping.{no_operands, first_starts, goes_on, stops, fails}
use Rattle.assembler_syntax.specs.Tokens.{tokens_of}
use Rattle.assembler_syntax.proofs.statements.operands_of.Goals as goal

pub returns-then-is_over : goal.returns-then-is_over
returns-then-is_over c = no_operands c.args.most (tokens_of c.args.bytes.now) c.new-operands.result (sym c.is_over.ensures ∙ c.if-is_over.true) c.new-operands.ensures

pub pieces-init : goal.pieces-init
pieces-init c = first_starts c.args.most (tokens_of c.args.bytes.now) c.new-operands.result (sym c.is_over.ensures ∙ c.if-is_over.false) c.new-operands.ensures

pub returns-in_default : goal.returns-in_default
returns-in_default c =
    fails c.args.most (tokens_of c.args.bytes.now) (tokens_of c.pieces.rest.now) _ (rw c.in_default.is at c.in_ok-operand.ensures.value) c.pieces.invariant

pub returns-in_default-after : goal.returns-in_default-after
returns-in_default-after c =
    stops c.args.most (tokens_of c.args.bytes.now) (tokens_of c.pieces.rest.now) _ c.keep.new.operands c.in-Some.operand
    (rw (c.in-Some.is, c.in_default-after.is) at c.in_ok-operand.ensures.value) c.in_ok-keep.ensures c.pieces.invariant

pub pieces-preserved : goal.pieces-preserved
pieces-preserved c =
    goes_on c.args.most (tokens_of c.args.bytes.now) (tokens_of c.pieces.rest.now) (tokens_of c.in-Some-after.more.now) _ c.keep.new.operands c.in-Some.operand
    (rw (c.in-Some.is, c.in-Some-after.is) at c.in_ok-operand.ensures.value) c.in_ok-keep.ensures c.pieces.invariant

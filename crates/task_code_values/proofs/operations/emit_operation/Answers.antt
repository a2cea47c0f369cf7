use Rattle.halide_pipeline.specs.declared.expressions.Operation.TheVariants as op
use Rattle.task_code_values.proofs.Operating.{ok-map, made-as, made-add, made-subtract, made-multiply, made-minimum, made-maximum, made-less}
use Rattle.task_code_values.proofs.Operating.{made-less-or-equal, made-greater, made-greater-or-equal, made-equal, made-not-equal}
use Rattle.task_code_values.proofs.operations.emit_operation.Goals as goal

pub returns-in-Add : goal.returns-in-Add
returns-in-Add c =
    ok-map c.alu.result (λ x. made-as c.args.r c.args.a c.args.b c.requires op.Add c.args.op _ _ c.in-Add.is (made-add c.args.r c.args.a c.args.b
    c.requires _ _ x)) c.alu.ensures

pub returns-in-Subtract : goal.returns-in-Subtract
returns-in-Subtract c =
    ok-map c.alu-in-Subtract.result (λ x. made-as c.args.r c.args.a c.args.b c.requires op.Subtract c.args.op _ _ c.in-Subtract.is (made-subtract
    c.args.r c.args.a c.args.b c.requires _ _ x)) c.alu-in-Subtract.ensures

pub returns-in-Multiply : goal.returns-in-Multiply
returns-in-Multiply c =
    ok-map c.alu-in-Multiply.result (λ x. made-as c.args.r c.args.a c.args.b c.requires op.Multiply c.args.op _ _ c.in-Multiply.is (made-multiply
    c.args.r c.args.a c.args.b c.requires _ _ x)) c.alu-in-Multiply.ensures

pub returns-in_ok-alu-in-Minimum : goal.returns-in_ok-alu-in-Minimum
returns-in_ok-alu-in-Minimum c =
    ok-map c.emit_blend.result (λ x. made-as c.args.r c.args.a c.args.b c.requires op.Minimum c.args.op _ _ c.in-Minimum.is (made-minimum c.args.r
    c.args.a c.args.b c.requires _ _ _ c.in_ok-alu-in-Minimum.ensures x)) c.emit_blend.ensures

pub returns-in_ok-alu-in-Maximum : goal.returns-in_ok-alu-in-Maximum
returns-in_ok-alu-in-Maximum c =
    ok-map c.emit_blend-in-Maximum.result (λ x. made-as c.args.r c.args.a c.args.b c.requires op.Maximum c.args.op _ _ c.in-Maximum.is (made-maximum
    c.args.r c.args.a c.args.b c.requires _ _ _ c.in_ok-alu-in-Maximum.ensures x)) c.emit_blend-in-Maximum.ensures

pub returns-in-Less : goal.returns-in-Less
returns-in-Less c =
    ok-map c.alu-in-Less.result (λ x. made-as c.args.r c.args.a c.args.b c.requires op.Less c.args.op _ _ c.in-Less.is (made-less c.args.r c.args.a
    c.args.b c.requires _ _ x)) c.alu-in-Less.ensures

pub returns-in_ok-alu-in-LessOrEqual : goal.returns-in_ok-alu-in-LessOrEqual
returns-in_ok-alu-in-LessOrEqual c =
    ok-map c.alu_small.result (λ x. made-as c.args.r c.args.a c.args.b c.requires op.LessOrEqual c.args.op _ _ c.in-LessOrEqual.is
    (made-less-or-equal c.args.r c.args.a c.args.b c.requires _ _ _ c.in_ok-alu-in-LessOrEqual.ensures x)) c.alu_small.ensures

pub returns-in-Greater : goal.returns-in-Greater
returns-in-Greater c =
    ok-map c.alu-in-Greater.result (λ x. made-as c.args.r c.args.a c.args.b c.requires op.Greater c.args.op _ _ c.in-Greater.is (made-greater
    c.args.r c.args.a c.args.b c.requires _ _ x)) c.alu-in-Greater.ensures

pub returns-in_ok-alu-in-GreaterOrEqual : goal.returns-in_ok-alu-in-GreaterOrEqual
returns-in_ok-alu-in-GreaterOrEqual c =
    ok-map c.alu_small-in-GreaterOrEqual.result (λ x. made-as c.args.r c.args.a c.args.b c.requires op.GreaterOrEqual c.args.op _ _
    c.in-GreaterOrEqual.is (made-greater-or-equal c.args.r c.args.a c.args.b c.requires _ _ _ c.in_ok-alu-in-GreaterOrEqual.ensures x))
    c.alu_small-in-GreaterOrEqual.ensures

pub returns-in_ok-alu-in-Equal : goal.returns-in_ok-alu-in-Equal
returns-in_ok-alu-in-Equal c =
    ok-map c.alu_small-in-Equal.result (λ x. made-as c.args.r c.args.a c.args.b c.requires op.Equal c.args.op _ _ c.in-Equal.is (made-equal c.args.r
    c.args.a c.args.b c.requires _ _ _ c.in_ok-alu-in-Equal.ensures x)) c.alu_small-in-Equal.ensures

pub returns-in_ok-alu-in-NotEqual : goal.returns-in_ok-alu-in-NotEqual
returns-in_ok-alu-in-NotEqual c =
    ok-map c.alu-in-NotEqual-2.result (λ x. made-as c.args.r c.args.a c.args.b c.requires op.NotEqual c.args.op _ _ c.in-NotEqual.is (made-not-equal
    c.args.r c.args.a c.args.b c.requires _ _ _ c.in_ok-alu-in-NotEqual.ensures x)) c.alu-in-NotEqual-2.ensures

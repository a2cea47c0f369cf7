use Rattle.std.proofs.Common.{◌∙◌, ap}
use Rattle.assembler.specs.Places.{after}
use Rattle.assembler.proofs.LineGiven.{no_statement, product_given, fault_given}
use Rattle.assembler.proofs.lines.line_product.Goals as goal

pub returns-in_default : goal.returns-in_default
returns-in_default c = no_statement _ c.args.line.now c.in_ok-statement.field-0 c.in_ok-statement.ensures c.in_default.is

pub returns-in-Ok : goal.returns-in-Ok
returns-in-Ok c =
    product_given c.args.survey.now c.args.here c.args.line.now c.in_ok-statement.field-0 c.in-Some.statement c.behind-behind.result c.in-Ok.product c.stated.result
    c.in_ok-statement.ensures c.in-Some.is (c.behind-behind.ensures ∙ ap (after c.args.here.place) c.in_ok-head_of.ensures) c.stated.ensures c.in-Ok.is

pub returns : goal.returns
returns c =
    fault_given c.args.survey.now c.args.here c.args.line.now c.in_ok-statement.field-0 c.in-Some.statement c.behind-behind.result c.in-Err.fault c.stated.result
    c.in_ok-statement.ensures c.in-Some.is (c.behind-behind.ensures ∙ ap (after c.args.here.place) c.in_ok-head_of.ensures) c.stated.ensures c.in-Err.is

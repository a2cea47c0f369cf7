use Rattle.halide_pipeline.specs.declared.expressions.Variable.TheVariants as variables
use Rattle.lowering_expressions.proofs.Calling.{variable_follows}
use Rattle.lowering_expressions.proofs.lowering.variable_of.Goals as goal

pub returns-in_ok-expression-in-FirstArgument-clause-follows :
    goal.returns-in_ok-expression-in-FirstArgument-clause-follows
returns-in_ok-expression-in-FirstArgument-clause-follows c = λ corners values reads.
    variable_follows corners values reads c.args.variables.now.first_argument.now c.args.variables.now.second_argument.now
    c.args.variables.now.first_reduction.now c.args.variables.now.second_reduction.now
    c.args.variable variables.FirstArgument c.in_ok-expression-in-FirstArgument.expression c.in-FirstArgument.is c.in_ok-expression-in-FirstArgument.ensures

pub returns-in_ok-expression-in-SecondArgument-clause-follows :
    goal.returns-in_ok-expression-in-SecondArgument-clause-follows
returns-in_ok-expression-in-SecondArgument-clause-follows c = λ corners values reads.
    variable_follows corners values reads c.args.variables.now.first_argument.now c.args.variables.now.second_argument.now
    c.args.variables.now.first_reduction.now c.args.variables.now.second_reduction.now
    c.args.variable variables.SecondArgument c.in_ok-expression-in-SecondArgument.expression c.in-SecondArgument.is c.in_ok-expression-in-SecondArgument.ensures

pub returns-in_ok-expression-in-FirstReduction-clause-follows :
    goal.returns-in_ok-expression-in-FirstReduction-clause-follows
returns-in_ok-expression-in-FirstReduction-clause-follows c = λ corners values reads.
    variable_follows corners values reads c.args.variables.now.first_argument.now c.args.variables.now.second_argument.now
    c.args.variables.now.first_reduction.now c.args.variables.now.second_reduction.now
    c.args.variable variables.FirstReduction c.in_ok-expression-in-FirstReduction.expression c.in-FirstReduction.is c.in_ok-expression-in-FirstReduction.ensures

pub returns-in_ok-expression-in-SecondReduction-clause-follows :
    goal.returns-in_ok-expression-in-SecondReduction-clause-follows
returns-in_ok-expression-in-SecondReduction-clause-follows c = λ corners values reads.
    variable_follows corners values reads c.args.variables.now.first_argument.now c.args.variables.now.second_argument.now
    c.args.variables.now.first_reduction.now c.args.variables.now.second_reduction.now
    c.args.variable variables.SecondReduction c.in_ok-expression-in-SecondReduction.expression c.in-SecondReduction.is c.in_ok-expression-in-SecondReduction.ensures

use Rattle.std.proofs.Common.{◌∙◌, sym, refl}
use Rattle.task_code_variables.proofs.Entering.{zero-standing, variable-standing, stands-held}
use Rattle.task_code_variables.proofs.splits.register_for.Goals as goal

pub returns-in-None : goal.returns-in-None
returns-in-None c = zero-standing c.args.scope.now c.args.around.now c.args.counter _ (sym c.standing.ensures ∙ c.in-None.is) refl

pub returns-in-Some : goal.returns-in-Some
returns-in-Some c =
    variable-standing c.args.scope.now c.args.around.now c.args.counter c.in-Some.own _ (sym c.standing.ensures ∙ c.in-Some.is) c.register_of.ensures

pub register_of-requires : goal.register_of-requires
register_of-requires c =
    stands-held c.args.around.now c.args.scope.now c.args.counter c.in-Some.own (sym c.standing.ensures ∙ c.in-Some.is) c.requires.have

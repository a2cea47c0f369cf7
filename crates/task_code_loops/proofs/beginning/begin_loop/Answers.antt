use Rattle.std.proofs.Common.{refl}
use Rattle.task_code_loops.specs.declared.tests.Tested.{Tested}
use Rattle.task_code_loops.proofs.Telling.{begun-is, plain-begun}
use Rattle.task_code_loops.proofs.beginning.begin_loop.Goals as goal

pub returns-clause-ok : goal.returns-clause-ok
returns-clause-ok c =
    let first = c.in_ok-first.field-0 in
    let middle : Tested = record { scope = c.in_ok-inner.inner; register = first.register; limit = first.limit } in
    begun-is c.args.bound.counter c.args.bound.count c.args.reserved c.args.scope.now c.args.wanted.now first middle c.in_ok-last.last _ _ _ _ _
    c.requires.loop_invariant c.requires.some c.in_ok-first.ensures.ok c.in_ok-inner.ensures.gains refl refl c.in_ok-last.ensures refl refl refl refl refl

pub returns-clause-plain : goal.returns-clause-plain
returns-clause-plain c = λ none.
    let first = c.in_ok-first.field-0 in
    let middle : Tested = record { scope = c.in_ok-inner.inner; register = first.register; limit = first.limit } in
    plain-begun c.args.bound.counter c.args.reserved c.args.scope.now first middle c.in_ok-last.last _ _ (c.in_ok-inner.ensures.none none)
    c.in_ok-last.ensures (c.in_ok-first.ensures.plain none)

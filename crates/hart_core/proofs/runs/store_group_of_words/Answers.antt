use Rattle.std.proofs.Common.{◌<◌, ◌≤◌, ◌∙◌, ap, sym, arith}
use Rattle.vector_unit.specs.Vector.{element_from, group}
use Rattle.hart_core.specs.inner.Pieces.{words_put}
use Rattle.hart_core.proofs.WordRuns.{count-four, count-two, count-one, lies-all}
use Rattle.hart_core.proofs.runs.store_group_of_words.Goals as goal

pub store_four-requires-clause-lies : goal.store_four-requires-clause-lies
store_four-requires-clause-lies g c =
    let size = c.group-size.ensures.value in
    let more : 2 < group c.args.state.now = omega (arith, size, c.if-size-gt2.true) in
    lies-all _ _ _ _ c.requires 16 (count-four _ _ _ _ c.requires more)

pub returns-then-size-gt2-clause-put : goal.returns-then-size-gt2-clause-put
returns-then-size-gt2-clause-put g c =
    let size = c.group-size.ensures.value in
    let more : 2 < group c.args.state.now = omega (arith, size, c.if-size-gt2.true) in
    c.store_four.ensures.put
    ∙ ap (words_put (element_from c.args.state.now 32 c.args.vs3) (g.M.Bytes.memory c.args.memory.now) 0 c.args.base) (sym (count-four _ _ _ _ c.requires more))

pub store_two-requires-clause-lies : goal.store_two-requires-clause-lies
store_two-requires-clause-lies g c =
    let size = c.group-size.ensures.value in
    let more : 1 < group c.args.state.now = omega (arith, size, c.if-size-gt1.true) in
    let few : group c.args.state.now ≤ 2 = omega (arith, size, c.if-size-gt2.false) in
    lies-all _ _ _ _ c.requires 8 (count-two _ _ _ _ c.requires more few)

pub returns-then-size-gt1-clause-put : goal.returns-then-size-gt1-clause-put
returns-then-size-gt1-clause-put g c =
    let size = c.group-size.ensures.value in
    let more : 1 < group c.args.state.now = omega (arith, size, c.if-size-gt1.true) in
    let few : group c.args.state.now ≤ 2 = omega (arith, size, c.if-size-gt2.false) in
    c.store_two.ensures.put
    ∙ ap (words_put (element_from c.args.state.now 32 c.args.vs3) (g.M.Bytes.memory c.args.memory.now) 0 c.args.base)
    (sym (count-two _ _ _ _ c.requires more few))

pub store_register-requires-clause-lies : goal.store_register-requires-clause-lies
store_register-requires-clause-lies g c =
    let size = c.group-size.ensures.value in
    let few : group c.args.state.now ≤ 1 = omega (arith, size, c.if-size-gt1.false) in
    lies-all _ _ _ _ c.requires 4 (count-one _ _ _ _ c.requires few)

pub returns-else-size-gt1-clause-put : goal.returns-else-size-gt1-clause-put
returns-else-size-gt1-clause-put g c =
    let size = c.group-size.ensures.value in
    let few : group c.args.state.now ≤ 1 = omega (arith, size, c.if-size-gt1.false) in
    c.store_register.ensures.put
    ∙ ap (words_put (element_from c.args.state.now 32 c.args.vs3) (g.M.Bytes.memory c.args.memory.now) 0 c.args.base)
    (sym (count-one _ _ _ _ c.requires few))

use Rattle.std.proofs.Common.{◌<◌, ◌≤◌, ◌∙◌, ap, sym, arith}
use Rattle.memory.specs.Access.{number_at}
use Rattle.vector_unit.specs.Vector.{group}
use Rattle.hart_core.specs.HartState.{vectors_of, with_vectors}
use Rattle.hart_core.specs.inner.Pieces.{words_filled}
use Rattle.hart_core.proofs.WordRuns.{count-four, count-two, count-one, lies-all}
use Rattle.hart_core.proofs.harts.Hart.load_group_of_words.Goals as goal

pub load_four-requires-clause-lies : goal.load_four-requires-clause-lies
load_four-requires-clause-lies g c =
    let size = rw c.vectors.ensures at c.group-size.ensures.value in
    let more : 2 < group (vectors_of c.args.self.now) = omega (arith, size, c.if-size-gt2.true) in
    lies-all _ _ _ _ c.requires 16 (count-four _ _ _ _ c.requires more)

pub returns-then-size-gt2 : goal.returns-then-size-gt2
returns-then-size-gt2 g c =
    let size = rw c.vectors.ensures at c.group-size.ensures.value in
    let more : 2 < group (vectors_of c.args.self.now) = omega (arith, size, c.if-size-gt2.true) in
    c.load_four.ensures
    ∙ ap (λ n. with_vectors c.args.self.now (words_filled (number_at (g.M.Bytes.text c.args.memory.now) (g.M.Bytes.memory c.args.memory.now)) c.args.vd
    (vectors_of c.args.self.now) 0 c.args.base n)) (sym (count-four _ _ _ _ c.requires more))

pub load_two-requires-clause-lies : goal.load_two-requires-clause-lies
load_two-requires-clause-lies g c =
    let size = rw c.vectors.ensures at c.group-size.ensures.value in
    let more : 1 < group (vectors_of c.args.self.now) = omega (arith, size, c.if-size-gt1.true) in
    let few : group (vectors_of c.args.self.now) ≤ 2 = omega (arith, size, c.if-size-gt2.false) in
    lies-all _ _ _ _ c.requires 8 (count-two _ _ _ _ c.requires more few)

pub returns-then-size-gt1 : goal.returns-then-size-gt1
returns-then-size-gt1 g c =
    let size = rw c.vectors.ensures at c.group-size.ensures.value in
    let more : 1 < group (vectors_of c.args.self.now) = omega (arith, size, c.if-size-gt1.true) in
    let few : group (vectors_of c.args.self.now) ≤ 2 = omega (arith, size, c.if-size-gt2.false) in
    c.load_two.ensures
    ∙ ap (λ n. with_vectors c.args.self.now (words_filled (number_at (g.M.Bytes.text c.args.memory.now) (g.M.Bytes.memory c.args.memory.now)) c.args.vd
    (vectors_of c.args.self.now) 0 c.args.base n)) (sym (count-two _ _ _ _ c.requires more few))

pub load_register-requires-clause-lies : goal.load_register-requires-clause-lies
load_register-requires-clause-lies g c =
    let size = rw c.vectors.ensures at c.group-size.ensures.value in
    let few : group (vectors_of c.args.self.now) ≤ 1 = omega (arith, size, c.if-size-gt1.false) in
    lies-all _ _ _ _ c.requires 4 (count-one _ _ _ _ c.requires few)

pub returns-else-size-gt1 : goal.returns-else-size-gt1
returns-else-size-gt1 g c =
    let size = rw c.vectors.ensures at c.group-size.ensures.value in
    let few : group (vectors_of c.args.self.now) ≤ 1 = omega (arith, size, c.if-size-gt1.false) in
    c.load_register.ensures
    ∙ ap (λ n. with_vectors c.args.self.now (words_filled (number_at (g.M.Bytes.text c.args.memory.now) (g.M.Bytes.memory c.args.memory.now)) c.args.vd
    (vectors_of c.args.self.now) 0 c.args.base n)) (sym (count-one _ _ _ _ c.requires few))

use Rattle.std.proofs.Common.{◌∷◌, [], arith}
use Rattle.memory.specs.Access.{read_by, touched, written_by}
use Rattle.hart_core.specs.VectorRows.{accesses_at}
use Rattle.turn_accesses.specs.Accesses.{kind_in}
use Rattle.turn_accesses.proofs.Spanning.{covers_if_fits, covers_kind, in_one}
use Rattle.turn_accesses.proofs.spans.number_span.Goals as goal

pub returns : goal.returns
returns c = λ f.
    let kind = c.args.kind in
    let accesses = accesses_at c.args.width (c.args.address ∷ []) in
    covers_if_fits _ f (touched (read_by (kind_in kind) accesses)) (touched (written_by (kind_in kind) accesses))
    (covers_kind _ kind accesses (λ place is.
    (let lies = in_one place c.args.address c.args.width is in
    let from = lies.0 in
    let to = lies.1 in
    let first = c.from-first.ensures in
    let wide = c.from.ensures in
    let count = c.bytes_of.ensures in
    (omega (arith, from, first), omega (arith, to, first, wide, count)))) (λ quiet. c.may_store.ensures quiet))

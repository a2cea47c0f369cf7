use Rattle.picture.proofs.Tables.{known-at}
use Rattle.picture.proofs.lookups.known_of.Goals as goal

pub returns-then-one-updates : goal.returns-then-one-updates
returns-then-one-updates c = λ funcs pictures are.
    known-at funcs pictures c.args.known.now c.loop-one.one-index c.one-item.result c.args.func_index c.args.updates are c.one-item.is c.loop-one-test.true
    c.if-one-func_index.true c.if-one-updates.true

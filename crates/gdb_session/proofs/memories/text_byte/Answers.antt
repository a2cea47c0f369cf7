use Rattle.std.proofs.Common.{◌∙◌, ℕ, Some, ap}
use Rattle.gdb_session.proofs.Bytes.{no_text, none_before, text_is}
use Rattle.gdb_session.proofs.memories.text_byte.Goals as goal

pub returns-then-address : goal.returns-then-address
returns-then-address c = λ state same. none_before state c.args.address c.if-address.true

pub returns-then-offset-words : goal.returns-then-offset-words
returns-then-offset-words c =
    λ state same.
    ap (λ (n : ℕ). Some n) c.byte_of.ensures
    ∙ text_is state c.args.words.now c.args.address c.requires c.if-address.false same c.if-offset-words.true

pub returns-else-offset-words : goal.returns-else-offset-words
returns-else-offset-words c = λ state same. no_text state c.args.words.now c.args.address c.requires c.if-address.false same c.if-offset-words.false

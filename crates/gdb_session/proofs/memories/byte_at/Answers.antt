use Rattle.std.proofs.Common.{◌∙◌, ap}
use Rattle.debugger.specs.Places.{state_here}
use Rattle.multi_hart.specs.Run.{State}
use Rattle.gdb_session.proofs.Bytes.{few_words_here, words_here}
use Rattle.gdb_session.proofs.memories.byte_at.Goals as goal

pub returns-then-address : goal.returns-then-address
returns-then-address c =
    let s = c.args.session.now.state in
    c.text_byte.ensures (state_here s) (c.words-words.ensures.value ∙ words_here s)

pub returns-else-address : goal.returns-else-address
returns-else-address c =
    let s = c.args.session.now.state in
    c.data_byte.ensures (state_here s) (c.data.ensures ∙ ap (λ (m : State). m.memory) c.machine.ensures.state) (few_words_here s c.words-words.ensures.rules)

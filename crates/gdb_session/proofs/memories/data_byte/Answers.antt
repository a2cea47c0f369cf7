use Rattle.gdb_session.proofs.Bytes.{data_is, no_data}
use Rattle.gdb_session.proofs.memories.data_byte.Goals as goal

pub returns-then-offset-bytes : goal.returns-then-offset-bytes
returns-then-offset-bytes c = λ state same few. data_is state c.args.bytes.now c.args.address c.requires same c.if-offset-bytes.true

pub returns-else-offset-bytes : goal.returns-else-offset-bytes
returns-else-offset-bytes c = λ state same few. no_data state c.args.bytes.now c.args.address c.requires same few c.if-offset-bytes.false

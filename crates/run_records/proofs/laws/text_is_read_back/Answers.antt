use Rattle.run_records.proofs.ReadBack.{read_back}
use Rattle.run_records.proofs.laws.text_is_read_back.Goals as goal

pub returns : goal.returns
returns c = read_back

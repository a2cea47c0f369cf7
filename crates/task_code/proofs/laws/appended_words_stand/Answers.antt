use Rattle.task_code.proofs.Standing.{appended-stand}
use Rattle.task_code.proofs.laws.appended_words_stand.Goals as goal

pub returns : goal.returns
returns c = appended-stand

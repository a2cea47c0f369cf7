use Rattle.std.proofs.Common.{refl}
use Rattle.task_code_values.proofs.Waiting.{slot-is}
use Rattle.task_code_values.proofs.frames.slot_form.Goals as goal

pub returns : goal.returns
returns c = slot-is c.args.start c.args.word _ c.of_number-sum.result refl refl c.of_number-sum.ensures.value c.of_number-sum.ensures.few

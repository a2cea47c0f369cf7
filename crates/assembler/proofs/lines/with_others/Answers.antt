use Rattle.std.proofs.Common.{sym, ◌∙◌}
use Rattle.assembler.proofs.Together.{both_hold}
use Rattle.assembler.proofs.lines.with_others.Goals as goal

pub returns : goal.returns
returns c = λ given performs. both_hold given c.args.product c.args.others _ (sym c.both.ensures ∙ c.in_ok-product.was) performs

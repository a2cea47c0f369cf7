use Rattle.std.proofs.Common.{◌+◌, ◌%◌, ◌^◌, ap, ◌∙◌}
use Rattle.lowering.proofs.BaseWords.{stride_is}
use Rattle.lowering.proofs.corners.stride_of.Goals as goal

pub returns : goal.returns
returns c = ap (λ n. (n + c.args.multiple.less) % 2 ^ 32) c.subtract.ensures ∙ stride_is c.args.multiple.more
    c.args.multiple.less

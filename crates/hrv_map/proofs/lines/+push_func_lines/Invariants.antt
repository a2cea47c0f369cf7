use Rattle.std.proofs.Common.{length}
use Rattle.hrv_map.proofs.lines.+push_func_lines.Given as goal

abbrev pub decreases-push_func_lines : goal.decreases-push_func_lines
decreases-push_func_lines l = length l.funcs.now

use Rattle.std.proofs.Common.{◌≡◌, ◌++◌, length}
use Rattle.std.specs.Prelude.{map}
use Rattle.hrv_engines.specs.Digests.{digest_lines}
use Rattle.hrv_engines.proofs.digests.digest_lines.Given as goal

-- the lines so far and those of the paths that are left are all lines
abbrev pub invariant-loop-rest : goal.invariant-loop-rest
invariant-loop-rest l =
    l.text.items ++ digest_lines (map (λ path. path.now) l.rest) l.left ≡ digest_lines (map (λ path. path.now) l.paths) l.digests

abbrev pub decreases-loop-rest : goal.decreases-loop-rest
decreases-loop-rest l = length l.rest

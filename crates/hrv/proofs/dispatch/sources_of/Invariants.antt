use Rattle.std.proofs.Common.{◌≡◌, ◌++◌, length}
use Rattle.std.specs.Prelude.{map}
use Rattle.std.specs.List.{All}
use Rattle.hrv.proofs.dispatch.sources_of.Given as goal

-- no source so far has failed, and their paths are the first ones
abbrev pub invariant-loop-rest : goal.invariant-loop-rest
invariant-loop-rest g l = record {
  fresh : All (λ source. g.D.Read.Source.failed source ≡ 0) l.sources.items;
  paths : map g.D.Read.Source.place l.sources.items ++ map (λ path. path.now) l.rest ≡ map (λ path. path.now) l.fn.paths;
}

abbrev pub decreases-loop-rest : goal.decreases-loop-rest
decreases-loop-rest g l = length l.rest

use Rattle.std.proofs.Common.{◌≡◌, None, ap, ◌∙◌, ◌++◌, ◌∷◌, [], List}
use Rattle.halide_pipeline.specs.Pipelines.{lookup, pairs_of, Named}
use Rattle.halide_pipeline.proofs.Pairs.{added}
use Rattle.halide_pipeline.proofs.names.Names.add.Goals as goal

pub returns-clause-ok : goal.returns-clause-ok
returns-clause-ok c =
    let none : lookup c.in_ok-key.key.items (pairs_of c.self.inside.sources.entries) ≡ None = rw (c.in_ok-key.ensures.items, c.self.view_is) c.requires in
    ap pairs_of c.in_ok-insert.ensures.entries ∙ added c.in_ok-key.key c.args.source c.self.inside.sources.entries none
    ∙ rw (c.in_ok-key.ensures.items) (ap (λ (ns : List Named). ns ++ (c.args.name.now, c.args.source) ∷ []) c.self.view_is)

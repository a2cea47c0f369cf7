use Rattle.std.proofs.Common.{ap, sym, ◌∙◌}
use Rattle.std.specs.Prelude.{option_map}
use Rattle.assembler.specs.Names.{label_named}
use Rattle.assembler.proofs.Pairs.{found, label}
use Rattle.assembler.proofs.labels.Labels.get.Goals as goal

pub returns-in_err-found : goal.returns-in_err-found
returns-in_err-found c =
    c.from_residual.ensures ∙ ap (option_map label) (sym c.in_err-found.was ∙ c.copied.ensures ∙ c.get.ensures.value)
    ∙ found c.args.name.now c.self.inside.places.entries c.self.invariant.0 ∙ ap (λ ns. label_named ns c.args.name.now) c.self.view_is

pub returns : goal.returns
returns c =
    ap (option_map label) (sym c.in_ok-found.was ∙ c.copied.ensures ∙ c.get.ensures.value)
    ∙ found c.args.name.now c.self.inside.places.entries c.self.invariant.0 ∙ ap (λ ns. label_named ns c.args.name.now) c.self.view_is

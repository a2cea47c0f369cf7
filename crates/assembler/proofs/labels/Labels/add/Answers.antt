use Rattle.std.proofs.Common.{◌≡◌, None, ap, ◌∙◌, ◌++◌, ◌∷◌, [], List}
use Rattle.assembler.specs.Names.{label_named, Named}
use Rattle.assembler.specs.inner.Numbering.{pairs_of}
use Rattle.assembler.proofs.Pairs.{appends_name, keeps_numbers}
use Rattle.assembler.proofs.labels.Labels.add.Goals as goal

pub invariant_of-self-2 : goal.invariant_of-self-2
invariant_of-self-2 c =
    let none : label_named (pairs_of c.self.inside.places.entries) c.in_ok-key.key.items ≡ None = rw (c.in_ok-key.ensures.items, c.self.view_is) c.requires in
    keeps_numbers c.in_ok-key.key (record { number = c.len-number.result; label = c.args.label }) c.self.inside.places.entries c.insert.new.self.entries
    c.self.invariant c.len-number.ensures.len none c.in_ok-insert.ensures.entries c.in_ok-insert.ensures.ordered

pub returns-clause-ok : goal.returns-clause-ok
returns-clause-ok c =
    let none : label_named (pairs_of c.self.inside.places.entries) c.in_ok-key.key.items ≡ None = rw (c.in_ok-key.ensures.items, c.self.view_is) c.requires in
    appends_name c.in_ok-key.key (record { number = c.len-number.result; label = c.args.label }) c.self.inside.places.entries c.insert.new.self.entries
    c.self.invariant c.len-number.ensures.len none c.in_ok-insert.ensures.entries
    ∙ rw (c.in_ok-key.ensures.items) (ap (λ (ns : List Named). ns ++ (c.args.name.now, c.args.label) ∷ []) c.self.view_is)

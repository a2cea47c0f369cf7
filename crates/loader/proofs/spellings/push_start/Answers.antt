use Rattle.std.proofs.Common.{ap, sym, ◌∙◌, ◌++◌, ℕ, List}
use Rattle.loader.specs.declared.formats.Format.TheVariants.{Hrv2}
use Rattle.loader.specs.Parts.{image_with}
use Rattle.loader.proofs.Joined.{start_joined}
use Rattle.loader.proofs.Trims.{length-padded}
use Rattle.loader.proofs.spellings.push_start.Goals as goal

pub returns-clause-items : goal.returns-clause-items
returns-clause-items c =
    start_joined Hrv2 (image_with c.args.parts.now) c.args.out.now.items c.push_bytes.new.out.items c.push_number.new.out.items c.push_number-2.new.out.items
    c.push_number-3.new.out.items c.push_numbers.new.out.items c.output_fields.result c.args.parts.now.size
    (c.push_bytes.ensures.items ∙ ap (λ (letters : List ℕ). c.args.out.now.items ++ letters) c.magic.ensures) c.push_number.ensures.items
    c.push_number-2.ensures.items c.push_number-3.ensures.items c.push_numbers.ensures.items
    (sym (length-padded c.args.parts.now.size c.args.parts.now.front.now c.requires.parts.front)) c.output_fields.ensures

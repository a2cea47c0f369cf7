use Rattle.std.proofs.Common.{length, ap, arith, sym, ◌∙◌, ◌++◌}
use Rattle.std.proofs.lemmas.Result.{err_from_is_err_and}
use Rattle.loader.specs.declared.formats.Format.TheVariants.{Hrv2}
use Rattle.loader.specs.Parts.{image_with}
use Rattle.loader.specs.Spelling.{spelled_start}
use Rattle.loader.proofs.Contents.{length-spelled}
use Rattle.loader.proofs.Joined.{all_joined}
use Rattle.loader.proofs.Trims.{trimmed_front}
use Rattle.loader.proofs.spellings.store_parts.Goals as goal

pub returns-in_err-reserve-clause-full : goal.returns-in_err-reserve-clause-full
returns-in_err-reserve-clause-full c =
    let p = err_from_is_err_and c.from_residual.result c.from_residual.ensures.1 in
    let bytes = ap length (c.trimmed-stored.ensures.value ∙ sym (trimmed_front c.args.parts.now.size c.args.parts.now.front.now)) in
    let len = length-spelled Hrv2 (image_with c.args.parts.now) in
    rw p.1 (omega (arith, c.in_err-reserve.ensures.full, bytes, len))

pub returns-clause-ok : goal.returns-clause-ok
returns-clause-ok c =
    all_joined (image_with c.args.parts.now) c.args.out.now.items c.push_start.new.out.items c.push_number.new.out.items c.push_numbers.new.out.items
    c.push_bytes.new.out.items c.trimmed-stored.result.now
    (c.trimmed-stored.ensures.value ∙ sym (trimmed_front c.args.parts.now.size c.args.parts.now.front.now))
    (c.push_start.ensures.items ∙ ap (λ items. items ++ spelled_start Hrv2 (image_with c.args.parts.now)) c.in_ok-reserve.ensures.items)
    c.push_number.ensures.items c.push_numbers.ensures.items c.push_bytes.ensures.items

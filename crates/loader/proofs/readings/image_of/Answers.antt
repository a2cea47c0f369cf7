use Rattle.std.proofs.Common.{ℕ, true, false, ◌+◌, ◌-◌, ◌*◌, take, drop, length, ◌∙◌, ap, refl}
use Rattle.loader.specs.Spelling.{image_of, padded, stores_zero, unless_zero}
use Rattle.loader.proofs.Laws.{answers_err}
use Rattle.loader.proofs.Frames.{judged_answer}
use Rattle.loader.proofs.readings.image_of.Goals as goal

pub returns-clause-exact : goal.returns-clause-exact
returns-clause-exact c =
    let front = take (length c.args.bytes.now - (c.header_len-header.result + 4 * c.number_at-count.result))
    (drop (c.header_len-header.result + 4 * c.number_at-count.result) c.args.bytes.now) in
    let all = judged_answer c.in_ok-format.format c.args.bytes.now c.number_at-count.result c.header_len-header.result c.number_at-2.result
    c.in_ok-words.words.items front c.in_ok-data.data.items c.output_at.result
    c.stores_zero.result c.new.result c.in_ok-format.ensures.ok c.in_ok-format.ensures.length c.number_at-count.ensures c.header_len-header.ensures
    c.number_at-2.ensures c.in_ok-words.ensures refl
    (c.in_ok-data.ensures ∙ ap (λ (count : ℕ). padded count front) c.number_at.ensures) c.output_at.ensures c.new.ensures.exact c.stores_zero.ensures in
    all ∙ ap (λ b. unless_zero b c.new.result) c.if-stores_zero.false ∙ ap (unless_zero false) c.in_ok-image.was

pub returns-then-stores_zero-clause-exact : goal.returns-then-stores_zero-clause-exact
returns-then-stores_zero-clause-exact c =
    let front = take (length c.args.bytes.now - (c.header_len-header.result + 4 * c.number_at-count.result))
    (drop (c.header_len-header.result + 4 * c.number_at-count.result) c.args.bytes.now) in
    let all = judged_answer c.in_ok-format.format c.args.bytes.now c.number_at-count.result c.header_len-header.result c.number_at-2.result
    c.in_ok-words.words.items front c.in_ok-data.data.items c.output_at.result
    c.stores_zero.result c.new.result c.in_ok-format.ensures.ok c.in_ok-format.ensures.length c.number_at-count.ensures c.header_len-header.ensures
    c.number_at-2.ensures c.in_ok-words.ensures refl
    (c.in_ok-data.ensures ∙ ap (λ (count : ℕ). padded count front) c.number_at.ensures) c.output_at.ensures c.new.ensures.exact c.stores_zero.ensures in
    all ∙ ap (λ b. unless_zero b c.new.result) c.if-stores_zero.true ∙ ap (unless_zero true) c.in_ok-image.was

pub returns-in_err-image-clause-exact : goal.returns-in_err-image-clause-exact
returns-in_err-image-clause-exact c =
    let front = take (length c.args.bytes.now - (c.header_len-header.result + 4 * c.number_at-count.result))
    (drop (c.header_len-header.result + 4 * c.number_at-count.result) c.args.bytes.now) in
    let all = judged_answer c.in_ok-format.format c.args.bytes.now c.number_at-count.result c.header_len-header.result c.number_at-2.result
    c.in_ok-words.words.items front c.in_ok-data.data.items c.output_at.result
    (stores_zero c.in_ok-format.format front) c.new.result c.in_ok-format.ensures.ok c.in_ok-format.ensures.length c.number_at-count.ensures
    c.header_len-header.ensures c.number_at-2.ensures c.in_ok-words.ensures refl
    (c.in_ok-data.ensures ∙ ap (λ (count : ℕ). padded count front) c.number_at.ensures) c.output_at.ensures c.new.ensures.exact refl in
    answers_err c.from_residual-in_err-image.result c.in_err-image.field-0.0 (image_of c.args.bytes.now) c.from_residual-in_err-image.ensures.1
    (all ∙ ap (unless_zero (stores_zero c.in_ok-format.format front)) c.in_err-image.was)

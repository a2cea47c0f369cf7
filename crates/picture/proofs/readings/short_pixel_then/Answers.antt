use Rattle.std.proofs.Common.{◌≡◌, ◌-◌, List, ℕ, Ok, sym, ap, ◌∙◌, arith, length, take, drop, refl}
use Rattle.picture.specs.Reading.{behind}
use Rattle.picture.proofs.ShortNumbers.{behind_byte, short-pixel, sign-passed}
use Rattle.picture.proofs.readings.short_pixel_then.Goals as goal

pub returns : goal.returns
returns c =
    let unsigned = c.split_at.result.1.now in
    let after = c.split_at-2.result.1.now in
    let stops : behind c.args.word.now after ≡ Ok (take (length after - 1) (drop 1 after)) =
    behind_byte c.args.word.now after (omega arith) (omega arith) c.if-first-separator.false in
    short-pixel c.args.word.now c.args.text.now unsigned _ _ c.in_ok-size.size c.in_ok-size.len c.signed.result
    (sign-passed c.args.text.now unsigned _ c.from.result (omega arith) refl c.from.ensures c.split_at.ensures.back) c.in_ok-size.ensures.len
    c.in_ok-size.ensures.number c.in_ok-size.ensures.few
    (rw c.split_at-2.ensures.front at (sym c.is_plain.ensures ∙ c.if-not-is_plain.false))
    (ap (λ (l : List ℕ). behind c.args.word.now l) (sym c.split_at-2.ensures.back) ∙ stops) c.signed.ensures

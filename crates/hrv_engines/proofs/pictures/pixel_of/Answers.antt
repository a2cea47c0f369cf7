use Rattle.std.proofs.Common.{◌≡◌, Some, sym, ◌∙◌, subst, refl}
use Rattle.std.specs.Prelude.{IsSome}
use Rattle.hrv_engines.specs.Dump.{pixel}
use Rattle.hrv_engines.proofs.Pixels.{pixel_word}
use Rattle.hrv_engines.proofs.pictures.pixel_of.Goals as goal

pub unwrap-requires : goal.unwrap-requires
unwrap-requires c =
    let found = pixel_word c.args.machine.now c.args.output c.args.x c.args.y c.requires.fits c.requires.column c.requires.row in
    subst (λ o. IsSome o) (sym (c.word.ensures ∙ found)) refl

pub returns : goal.returns
returns c =
    let found = pixel_word c.args.machine.now c.args.output c.args.x c.args.y c.requires.fits c.requires.column c.requires.row in
    let same : Some c.unwrap.result ≡ Some (pixel c.args.machine.now c.args.output c.args.x c.args.y) = sym c.unwrap.ensures ∙ c.word.ensures ∙ found in
    cc

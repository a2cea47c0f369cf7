use Rattle.std.proofs.Common.{◌≡◌, ℕ, length, subst, sym}
use Rattle.std.specs.Prelude.{IfSome}
use Rattle.halide_pipeline.specs.Pixel.{Plane}
use Rattle.halide_pipeline.specs.Words as word
use Rattle.picture.specs.declared.lines.KnownPixels.{KnownPixels}
use Rattle.picture.specs.inner.Lines.{Fits, IsLong, Knows}
use Rattle.picture_rows.specs.Rows.{value_at, AreValues, HasLength, IsRow}
use Rattle.picture.proofs.AlongLines.{long-of, shared-known}
use Rattle.picture.proofs.lines.own_read.Goals as goal

pub returns-in_ok-row-in-Pixels : goal.returns-in_ok-row-in-Pixels
returns-in_ok-row-in-Pixels c =
    let line = c.args.line in
    let row = c.in_ok-row-in-Pixels.row in
    let before = c.in-Pixels.before.now in
    let says : Plane → ℕ → ℕ = λ plane at. plane (value_at c.args.x.now at) (value_at c.args.y.now at) in
    let same : length before ≡ line.width = subst (λ (own : KnownPixels). IsLong line.width own) c.in-Pixels.is c.requires.line in
    let long : IfSome row (HasLength line.width) = subst (λ (n : ℕ). IfSome row (HasLength n)) same c.in_ok-row-in-Pixels.ensures.len in
    let is : (plane : Plane) → Fits line plane → IfSome row (IsRow line.width (says plane)) = λ plane fits.
    let known : AreValues line.width (λ at. plane (word.add line.start.first_argument at) line.start.second_argument) before =
    subst (λ (own : KnownPixels). Knows line.width line.start own plane) c.in-Pixels.is fits in
    subst (λ (n : ℕ). IfSome row (IsRow n (says plane))) same
    (c.in_ok-row-in-Pixels.ensures.values plane (subst (λ (n : ℕ). AreValues n (λ at. plane (word.add line.start.first_argument at) line.start.second_argument)
    before) (sym same) known)) in
    shared-known line says row long is

pub returns-in_ok-row-in-Box : goal.returns-in_ok-row-in-Box
returns-in_ok-row-in-Box c =
    let line = c.args.line in
    let row = c.in_ok-row-in-Box.row in
    let says : Plane → ℕ → ℕ = λ plane at. plane (value_at c.args.x.now at) (value_at c.args.y.now at) in
    let some = subst (λ (own : KnownPixels). IsLong line.width own) c.in-Box.is c.requires.line in
    let long : IfSome row (HasLength line.width) = long-of line.width (says some.0) row (c.in_ok-row-in-Box.ensures some.0 some.1) in
    let is : (plane : Plane) → Fits line plane → IfSome row (IsRow line.width (says plane)) = λ plane fits.
    c.in_ok-row-in-Box.ensures plane (subst (λ (own : KnownPixels). Knows line.width line.start own plane) c.in-Box.is fits) in
    shared-known line says row long is

-- A picture that is spelled is read again, whatever follows.
use Rattle.std.proofs.Common.{◌≡◌, ℕ, ◌-◌, ◌*◌, ◌%◌, ◌^◌, ◌<◌, ◌≤◌, Bool, true, false, cond, List, [], ◌∷◌, ◌++◌, length, Ok, refl, sym, ap, ◌∙◌, append_assoc}
use Rattle.std.proofs.Common.{arith, inl, inr}
use Rattle.std.specs.Prelude.{◌==◌, ◌&&◌, nat_le, codes}
use Rattle.std.specs.List.{AllByRecursion, prefix_len}
use Rattle.std.specs.Fmt.{decimal}
use Rattle.std.proofs.lemmas.Bool.{cases_lt, and_parts, leb-true, eqb-true, lt-ltb, le-ltb}
use Rattle.std.proofs.lemmas.Bool.Decides.{nat_tests}
use Rattle.std.proofs.lemmas.List.Elements.{recursion_from_All}
use Rattle.std.proofs.lemmas.List.{append-nil}
use Rattle.std.proofs.Math.Nat.{mul_comm}
use Rattle.line_text.specs.Lines.{is_digit}
use Rattle.line_text.proofs.Numerals.{decimal_value}
use Rattle.halide_pipeline.specs.WellFormed.{is_width, is_height, most_extent, most_points}
use Rattle.halide_pipeline.specs.Picture.{IsPicture, is_picture}
use Rattle.halide_pipeline.specs.Contents.{PictureContents}
use Rattle.picture.specs.Reading.{number_text, rows_text, heading, spelled, separator, pixel_then, pixels_at, heading_at, extent_at, picture_at, picture_of}
use Rattle.picture.specs.Reading.{ended, behind, numeral_at}
use Rattle.picture.proofs.Numerals.{numeral_at-decimal, numeral_at-signed}
use Rattle.picture.proofs.Rows.{pixels_text, rows_flat}

-- ---- pixels

separator_stops : (width left : ℕ) (rest : List ℕ) → prefix_len is_digit (separator width left ++ rest) ≡ 0
separator_stops width left rest = by_test (left % width == 0)
  where
    by_test : (test : Bool) → prefix_len is_digit (cond test (codes "\n") (codes " ") ++ rest) ≡ 0
    by_test true = refl
    by_test false = refl

behind-separator : (width left : ℕ) (rest : List ℕ) → behind (separator width left) (separator width left ++ rest) ≡ Ok rest
unfolding behind
behind-separator width left rest = by_test (left % width == 0)
  where
    by_test : (test : Bool) → behind (cond test (codes "\n") (codes " ")) (cond test (codes "\n") (codes " ") ++ rest) ≡ Ok rest
    by_test true = refl
    by_test false = refl

pixel_back : (width left pixel : ℕ) (rest : List ℕ) → pixel < 2 ^ 32 → pixel_then (separator width left) (number_text pixel ++ (separator width left ++ rest))
    ≡ Ok (pixel, rest)
unfolding pixel_then number_text
pixel_back width left pixel rest small =
    elim (cases_lt pixel (2 ^ 31)) [
      | inl low ↦
          let at : numeral_at (decimal pixel ++ (separator width left ++ rest)) ≡ Ok (
            record { negative = false; digits = decimal pixel },
            separator width left
                ++ rest,
          ) =
          numeral_at-decimal pixel (separator width left ++ rest) (omega arith) (separator_stops width left rest) in
          rw (lt-ltb pixel (2 ^ 31) low, at, decimal_value pixel (omega arith), lt-ltb pixel (2 ^ 31) low, behind-separator width left rest) refl
      | inr high ↦
          let size = 2 ^ 32 - pixel in
          let some : 0 < size = omega arith in
          let few : size ≤ 2 ^ 31 = omega arith in
          let test : nat_le size (2 ^ 31) ≡ true = grind (arith, nat_tests) in
          let again : (2 ^ 32 - size) % 2 ^ 32 ≡ pixel = omega arith in
          let at : numeral_at (45 ∷ (decimal size ++ (separator width left ++ rest))) ≡ Ok (
            record { negative = true; digits = decimal size },
            separator width
                left ++ rest,
          ) =
          numeral_at-signed size (separator width left ++ rest) some (omega arith) (separator_stops width left rest) in
          rw (le-ltb pixel (2 ^ 31) high, at, decimal_value size (omega arith), test, behind-separator width left rest, again) refl
    ]

pub pixels_back : (width : ℕ) (pixels rest : List ℕ) → AllByRecursion (λ pixel. pixel < 2 ^ 32) pixels
    → pixels_at width (length pixels) (pixels_text width pixels ++ rest) ≡ Ok (pixels, rest)
unfolding pixels_at pixels_text
pixels_back width [] rest fit = refl
pixels_back width (pixel ∷ pixels) rest fit =
    let sep = separator width (length pixels) in
    let grouped : (number_text pixel ++ (sep ++ pixels_text width pixels)) ++ rest ≡ number_text pixel ++ (sep ++ (pixels_text width pixels ++ rest)) =
    simp append_assoc in
    let at : pixel_then sep ((number_text pixel ++ (sep ++ pixels_text width pixels)) ++ rest) ≡ Ok (pixel, pixels_text width pixels ++ rest) =
    ap (λ (text : List ℕ). pixel_then sep text) grouped ∙ pixel_back width (length pixels) pixel (pixels_text width pixels ++ rest) fit.0 in
    rw (at, pixels_back width pixels rest fit.1) refl

-- ---- the heading

extent_back : (test : ℕ → Bool) (extent : ℕ) (rest : List ℕ) → test extent ≡ true → extent < 2 ^ 64 → prefix_len is_digit rest ≡ 0
    → extent_at test (decimal extent ++ rest) ≡ Ok (extent, rest)
unfolding extent_at
extent_back test extent rest passes small stops =
    rw (numeral_at-decimal extent rest small stops, decimal_value extent small, passes) refl

heading_back : (width height : ℕ) (rest : List ℕ) → is_width width ≡ true → is_height width height ≡ true → width < 2 ^ 64 → height < 2 ^ 64
    → heading_at (heading width height ++ rest) ≡ Ok ((width, height), rest)
unfolding heading heading_at behind
heading_back width height rest wide high small_width small_height =
    let from_height = decimal height ++ (10 ∷ rest) in
    let grouped : (codes "picture " ++ decimal width ++ codes " " ++ decimal height ++ codes "\n") ++ rest ≡ codes "picture "
    ++ (decimal width ++ (32 ∷ from_height)) = simp append_assoc in
    let w : extent_at is_width (decimal width ++ (32 ∷ from_height)) ≡ Ok (width, 32 ∷ from_height) = extent_back is_width width (32 ∷ from_height) wide
    small_width refl in
    let h : extent_at (is_height width) from_height ≡ Ok (height, 10 ∷ rest) = extent_back (is_height width) height (10 ∷ rest) high small_height refl in
    rw (grouped, w, h) refl

-- ---- the whole

-- the limits of a picture, one by one
pub record HasLimits (picture : PictureContents) : Type 0 where
  pub width : is_width picture.width ≡ true
  pub height : is_height picture.width picture.height ≡ true
  pub len : length picture.pixels ≡ picture.width * picture.height
  pub wide : 0 < picture.width
  pub most_width : picture.width ≤ most_extent
  pub most_height : picture.height ≤ most_extent

pub limits_of : (picture : PictureContents) → is_picture picture ≡ true → HasLimits picture
limits_of picture e =
    let whole = and_parts (is_width picture.width && is_height picture.width picture.height) (length picture.pixels == picture.width * picture.height) e in
    let extents = and_parts (is_width picture.width) (is_height picture.width picture.height) whole.0 in
    let widths = and_parts (nat_le 1 picture.width) (nat_le picture.width most_extent) extents.0 in
    let heights = and_parts (nat_le 1 picture.height && nat_le picture.height most_extent) (nat_le (picture.width * picture.height) most_points) extents.1 in
    let within = and_parts (nat_le 1 picture.height) (nat_le picture.height most_extent) heights.0 in
    record {
      width = extents.0;
      height = extents.1;
      len = eqb-true (length picture.pixels) (picture.width * picture.height) whole.1;
      wide = leb-true 1 picture.width widths.0;
      most_width = leb-true picture.width most_extent widths.1;
      most_height = leb-true picture.height most_extent within.1;
    }

pub picture_back : (picture : PictureContents) (rest : List ℕ) → IsPicture picture → picture_at (spelled picture ++ rest) ≡ Ok (picture, rest)
unfolding picture_at spelled
picture_back picture rest rules =
    let limits = limits_of picture rules.limits in
    let flat : rows_text picture.width picture.height picture.pixels ≡ pixels_text picture.width picture.pixels =
    rows_flat picture.width picture.height picture.pixels limits.wide (limits.len ∙ mul_comm picture.width picture.height) in
    let grouped : (heading picture.width picture.height ++ rows_text picture.width picture.height picture.pixels) ++ rest ≡ heading picture.width picture.height
    ++ (pixels_text picture.width picture.pixels ++ rest) =
    append_assoc (heading picture.width picture.height) (rows_text picture.width picture.height picture.pixels) rest
    ∙ ap (λ (text : List ℕ). heading picture.width picture.height ++ (text ++ rest)) flat in
    let pixels : pixels_at picture.width (picture.width * picture.height) (pixels_text picture.width picture.pixels ++ rest) ≡ Ok (picture.pixels, rest) =
    ap (λ (count : ℕ). pixels_at picture.width count (pixels_text picture.width picture.pixels ++ rest)) (sym limits.len)
    ∙ pixels_back picture.width picture.pixels rest (recursion_from_All (λ pixel. pixel < 2 ^ 32) picture.pixels rules.words) in
    rw (
      grouped,
      heading_back picture.width picture.height (pixels_text picture.width picture.pixels ++ rest) limits.width limits.height (omega (arith, limits.most_width))
          (omega (arith, limits.most_height)),
      pixels,
    ) refl

pub picture_of-spelled : (picture : PictureContents) → IsPicture picture → picture_of (spelled picture) ≡ Ok picture
unfolding picture_of ended
picture_of-spelled picture rules =
    let e : picture_at (spelled picture) ≡ Ok (picture, []) = ap picture_at (sym (append-nil (spelled picture))) ∙ picture_back picture [] rules in
    rw e refl

pub same_from_spelled : (a b : PictureContents) (x y : List ℕ) → IsPicture a → IsPicture b → spelled a ++ x ≡ spelled b ++ y → (a ≡ b) × (x ≡ y)
same_from_spelled a b x y rules_a rules_b e =
    let both : Ok (a, x) ≡ Ok (b, y) = sym (picture_back a x rules_a) ∙ ap picture_at e ∙ picture_back b y rules_b in
    let pair : (a, x) ≡ (b, y) = cc in
    (ap (λ (p : PictureContents × List ℕ). p.0) pair, ap (λ (p : PictureContents × List ℕ). p.1) pair)

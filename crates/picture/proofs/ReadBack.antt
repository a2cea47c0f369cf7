-- What is read was spelled so.
use Rattle.std.proofs.Common.{◌≡◌, ℕ, zero, suc, ◌-◌, ◌*◌, ◌%◌, ◌^◌, ◌<◌, ◌≤◌, Bool, true, false, List, [], ◌∷◌, ◌++◌, length, take, drop, Result, Ok, Err}
use Rattle.std.proofs.Common.{refl, sym, ap, subst, ◌∙◌, append_assoc, arith}
use Rattle.std.specs.Prelude.{◌==◌, ◌&&◌, nat_eq, nat_lt, nat_le, codes, IfOk}
use Rattle.std.specs.List.{AllByRecursion, starts_with}
use Rattle.std.specs.Fmt.{decimal}
use Rattle.std.specs.Cmp.Lexicographic.{bytes_decides}
use Rattle.std.proofs.lemmas.Bool.{and_parts, leb-true, ltb-true, lt-ltb, le-ltb, eq-eqb}
use Rattle.std.proofs.lemmas.List.Elements.{All-from_recursion}
use Rattle.std.proofs.lemmas.List.{take-append-drop, append-nil}
use Rattle.std.proofs.Math.Nat.{mul_comm}
use Rattle.line_text.specs.Lines.{decimal_number, Gives}
use Rattle.line_text.specs.declared.read_errors.ReadError.{ReadError}
use Rattle.picture.specs.declared.faults.PictureFault.{PictureFault}
use Rattle.picture.specs.declared.faults.PictureFault.TheVariants.{Syntax, Extents, Number}
use Rattle.halide_pipeline.specs.WellFormed.{is_width, is_height, most_extent, most_points}
use Rattle.halide_pipeline.specs.Picture.{IsPicture}
use Rattle.halide_pipeline.specs.Contents.{PictureContents}
use Rattle.picture.specs.Reading.{number_text, rows_text, heading, spelled, Numeral, separator, pixel_of, pixel_then, pixels_at, heading_at, extent_at}
use Rattle.picture.specs.Reading.{extent_of, picture_at, picture_of, ended, behind, numeral_at}
use Rattle.picture.proofs.Numerals.{cond-Ok, then-Ok, sign, HasNumeral, numeral_at-Ok, decimal-decimal_number, some_below_zero}
use Rattle.picture.proofs.Rows.{pixels_text, rows_flat}
use Rattle.picture.proofs.SpelledBack.{picture_of-spelled}

behind-Ok : (word text rest : List ℕ) → behind word text ≡ Ok rest → text ≡ word ++ rest
unfolding behind
behind-Ok word text rest e =
    let passed = cond-Ok (starts_with nat_eq text word) (drop (length word) text) rest Syntax e in
    let front : word ≡ take (length word) text = (bytes_decides word (take (length word) text)).0 passed.0 in
    sym (take-append-drop (length word) text) ∙ ap (λ (xs : List ℕ). xs ++ drop (length word) text) (sym front) ∙ ap (λ (xs : List ℕ). word ++ xs) passed.1

-- ---- pixels

pub record IsPixelOf (numeral : Numeral) (pixel : ℕ) : Type 0 where
  pub text_is : number_text pixel ≡ sign numeral.negative ++ numeral.digits
  pub word : pixel < 2 ^ 32

pixel_of-Ok : (negative : Bool) (text digits rest : List ℕ) (pixel : ℕ) → HasNumeral text (record { negative = negative; digits = digits }, rest)
    → pixel_of (record { negative = negative; digits = digits }) ≡ Ok pixel → IsPixelOf (record { negative = negative; digits = digits }) pixel
unfolding number_text
pixel_of-Ok true text digits rest pixel has e =
    let passed = cond-Ok (nat_le (decimal_number digits) (2 ^ 31)) ((2 ^ 32 - decimal_number digits) % 2 ^ 32) pixel Number e in
    let few : decimal_number digits ≤ 2 ^ 31 = leb-true (decimal_number digits) (2 ^ 31) passed.0 in
    let some : 0 < decimal_number digits = some_below_zero digits has.digits has.plain (omega arith) in
    let is : pixel ≡ 2 ^ 32 - decimal_number digits = omega (arith, passed.1) in
    let again : 2 ^ 32 - pixel ≡ decimal_number digits = omega arith in
    record {
      text_is = rw (le-ltb pixel (2 ^ 31) (omega arith), again, decimal-decimal_number true digits has.digits has.plain (omega arith)) refl;
      word = omega arith;
    }
pixel_of-Ok false text digits rest pixel has e =
    let passed = cond-Ok (nat_lt (decimal_number digits) (2 ^ 31)) (decimal_number digits) pixel Number e in
    let few : decimal_number digits < 2 ^ 31 = ltb-true (decimal_number digits) (2 ^ 31) passed.0 in
    let is : pixel ≡ decimal_number digits = sym passed.1 in
    record {
      text_is = rw (is, lt-ltb (decimal_number digits) (2 ^ 31) few, decimal-decimal_number false digits has.digits has.plain (omega arith)) refl;
      word = omega arith;
    }

-- a pixel at the front, and what is after the word after it
pub record HasPixel (word text : List ℕ) (read : ℕ × List ℕ) : Type 0 where
  pub text_is : text ≡ number_text read.0 ++ (word ++ read.1)
  pub fits : read.0 < 2 ^ 32

pixel_then-Ok : (word text : List ℕ) (read : ℕ × List ℕ) → pixel_then word text ≡ Ok read → HasPixel word text read
unfolding pixel_then
pixel_then-Ok word text read e =
    let number = then-Ok (numeral_at text) _ read e in
    let pixel = then-Ok (pixel_of number.0.0) _ read number.1.1 in
    let rest = then-Ok (behind word number.0.1) _ read pixel.1.1 in
    let has = numeral_at-Ok text number.0 number.1.0 in
    let is = pixel_of-Ok number.0.0.negative text number.0.0.digits number.0.1 pixel.0 has pixel.1.0 in
    let found : (pixel.0, rest.0) ≡ read = cc rest.1.1 in
    subst (λ (r : ℕ × List ℕ). HasPixel word text r) found (record {
      text_is = has.text_is ∙ sym (append_assoc (sign number.0.0.negative) number.0.0.digits number.0.1)
          ∙ ap (λ (xs : List ℕ). xs ++ number.0.1) (sym is.text_is)
          ∙ ap (λ (xs : List ℕ). number_text pixel.0 ++ xs) (behind-Ok word number.0.1 rest.0 rest.1.0);
      fits = is.word;
    })

pub record HasPixels (width count : ℕ) (text : List ℕ) (read : List ℕ × List ℕ) : Type 0 where
  pub text_is : text ≡ pixels_text width read.0 ++ read.1
  pub len : length read.0 ≡ count
  pub fit : AllByRecursion (λ pixel. pixel < 2 ^ 32) read.0

pixels_at-Ok : (width count : ℕ) (text : List ℕ) (read : List ℕ × List ℕ) → pixels_at width count text ≡ Ok read → HasPixels width count text read
unfolding pixels_at pixels_text
pixels_at-Ok width zero text read e =
    let found : ([], text) ≡ read = cc e in
    subst (λ (r : List ℕ × List ℕ). HasPixels width zero text r) found (record { text_is = refl; len = refl; fit = tt })
pixels_at-Ok width (suc left) text read e =
    let first = then-Ok (pixel_then (separator width left) text) _ read e in
    let others = then-Ok (pixels_at width left first.0.1) _ read first.1.1 in
    let has = pixel_then-Ok (separator width left) text first.0 first.1.0 in
    let behind_it = pixels_at-Ok width left first.0.1 others.0 others.1.0 in
    let found : (first.0.0 ∷ others.0.0, others.0.1) ≡ read = cc others.1.1 in
    subst (λ (r : List ℕ × List ℕ). HasPixels width (suc left) text r) found (record {
      text_is = has.text_is ∙ ap (λ (xs : List ℕ). number_text first.0.0 ++ (separator width left ++ xs)) behind_it.text_is
          ∙ ap (λ (n : ℕ). number_text first.0.0 ++ (separator width n ++ (pixels_text width others.0.0 ++ others.0.1))) (sym behind_it.len)
          ∙ regrouped (number_text first.0.0) (separator width (length others.0.0)) (pixels_text width others.0.0) others.0.1;
      len = ap suc behind_it.len;
      fit = (has.fits, behind_it.fit);
    })
  where
    regrouped : (a b c d : List ℕ) → a ++ (b ++ (c ++ d)) ≡ (a ++ (b ++ c)) ++ d
    regrouped a b c d = simp append_assoc

-- ---- the heading

pub record HasExtent (test : ℕ → Bool) (text : List ℕ) (read : ℕ × List ℕ) : Type 0 where
  pub text_is : text ≡ decimal read.0 ++ read.1
  pub passes : test read.0 ≡ true

extent_of-Ok : (test : ℕ → Bool) (negative : Bool) (text digits rest : List ℕ) (extent : ℕ) → ((n : ℕ) → test n ≡ true → n < 2 ^ 64)
    → HasNumeral text (record { negative = negative; digits = digits }, rest)
    → extent_of test (record { negative = negative; digits = digits }) ≡ Ok extent → HasExtent test text (extent, rest)
extent_of-Ok test true text digits rest extent small has e = absurd cc
extent_of-Ok test false text digits rest extent small has e =
    let passed = cond-Ok (test (decimal_number digits)) (decimal_number digits) extent Extents e in
    subst (λ (n : ℕ). HasExtent test text (n, rest)) passed.1 (record {
      text_is = has.text_is ∙ ap (λ (xs : List ℕ). xs ++ rest) (sym (decimal-decimal_number false digits has.digits has.plain (small (decimal_number digits)
          passed.0)));
      passes = passed.0;
    })

extent_at-Ok : (test : ℕ → Bool) (text : List ℕ) (read : ℕ × List ℕ) → ((n : ℕ) → test n ≡ true → n < 2 ^ 64) → extent_at test text ≡ Ok read
    → HasExtent test text read
unfolding extent_at
extent_at-Ok test text read small e =
    let number = then-Ok (numeral_at text) _ read e in
    let extent = then-Ok (extent_of test number.0.0) _ read number.1.1 in
    let has = numeral_at-Ok text number.0 number.1.0 in
    let found : (extent.0, number.0.1) ≡ read = cc extent.1.1 in
    subst (λ (r : ℕ × List ℕ). HasExtent test text r) found (extent_of-Ok test number.0.0.negative text number.0.0.digits number.0.1 extent.0 small has
    extent.1.0)

width_small : (n : ℕ) → is_width n ≡ true → n < 2 ^ 64
width_small n e =
    let most = leb-true n most_extent (and_parts (nat_le 1 n) (nat_le n most_extent) e).1 in
    omega arith

height_small : (width n : ℕ) → is_height width n ≡ true → n < 2 ^ 64
height_small width n e =
    let limits = and_parts (nat_le 1 n && nat_le n most_extent) (nat_le (width * n) most_points) e in
    let most = leb-true n most_extent (and_parts (nat_le 1 n) (nat_le n most_extent) limits.0).1 in
    omega arith

pub record HasHeading (text : List ℕ) (read : (ℕ × ℕ) × List ℕ) : Type 0 where
  pub text_is : text ≡ heading read.0.0 read.0.1 ++ read.1
  pub width : is_width read.0.0 ≡ true
  pub height : is_height read.0.0 read.0.1 ≡ true

heading_at-Ok : (text : List ℕ) (read : (ℕ × ℕ) × List ℕ) → heading_at text ≡ Ok read → HasHeading text read
unfolding heading_at heading
heading_at-Ok text read e =
    let from_width = then-Ok (behind (codes "picture ") text) _ read e in
    let width = then-Ok (extent_at is_width from_width.0) _ read from_width.1.1 in
    let from_height = then-Ok (behind (codes " ") width.0.1) _ read width.1.1 in
    let height = then-Ok (extent_at (is_height width.0.0) from_height.0) _ read from_height.1.1 in
    let rest = then-Ok (behind (codes "\n") height.0.1) _ read height.1.1 in
    let has_width = extent_at-Ok is_width from_width.0 width.0 width_small width.1.0 in
    let has_height = extent_at-Ok (is_height width.0.0) from_height.0 height.0 (height_small width.0.0) height.1.0 in
    let found : ((width.0.0, height.0.0), rest.0) ≡ read = cc rest.1.1 in
    subst (λ (r : (ℕ × ℕ) × List ℕ). HasHeading text r) found (record {
      text_is = behind-Ok (codes "picture ") text from_width.0 from_width.1.0
          ∙ ap (λ (xs : List ℕ). codes "picture " ++ xs) has_width.text_is
          ∙ ap (λ (xs : List ℕ). codes "picture " ++ (decimal width.0.0 ++ xs)) (behind-Ok (codes " ") width.0.1 from_height.0 from_height.1.0)
          ∙ ap (λ (xs : List ℕ). codes "picture " ++ (decimal width.0.0 ++ (codes " " ++ xs))) has_height.text_is
          ∙ ap (λ (xs : List ℕ). codes "picture " ++ (decimal width.0.0 ++ (codes " " ++ (decimal height.0.0 ++ xs)))) (behind-Ok (codes "\n") height.0.1 rest.0
          rest.1.0)
          ∙ regrouped (codes "picture ") (decimal width.0.0) (codes " ") (decimal height.0.0) (codes "\n") rest.0;
      width = has_width.passes;
      height = has_height.passes;
    })
  where
    regrouped : (a b c d e f : List ℕ) → a ++ (b ++ (c ++ (d ++ (e ++ f)))) ≡ (a ++ b ++ c ++ d ++ e) ++ f
    regrouped a b c d e f = simp append_assoc

-- ---- the whole

pub record HasPicture (text : List ℕ) (read : PictureContents × List ℕ) : Type 0 where
  pub text_is : text ≡ spelled read.0 ++ read.1
  pub rules : IsPicture read.0

picture_at-Ok : (text : List ℕ) (read : PictureContents × List ℕ) → picture_at text ≡ Ok read → HasPicture text read
unfolding picture_at spelled
picture_at-Ok text read e =
    let extents = then-Ok (heading_at text) _ read e in
    let width = extents.0.0.0 in
    let height = extents.0.0.1 in
    let pixels = then-Ok (pixels_at width (width * height) extents.0.1) _ read extents.1.1 in
    let has = heading_at-Ok text extents.0 extents.1.0 in
    let has_pixels = pixels_at-Ok width (width * height) extents.0.1 pixels.0 pixels.1.0 in
    let found : (record { width = width; height = height; pixels = pixels.0.0 }, pixels.0.1) ≡ read = cc pixels.1.1 in
    let wide : 0 < width = leb-true 1 width (and_parts (nat_le 1 width) (nat_le width most_extent) has.width).0 in
    let flat : rows_text width height pixels.0.0 ≡ pixels_text width pixels.0.0 = rows_flat width height pixels.0.0 wide (has_pixels.len
    ∙ mul_comm width height) in
    let enough : (length pixels.0.0 == width * height) ≡ true = eq-eqb (length pixels.0.0) (width * height) has_pixels.len in
    subst (λ (r : PictureContents × List ℕ). HasPicture text r) found (record {
      text_is = has.text_is
          ∙ ap (λ (xs : List ℕ). heading width height ++ xs) has_pixels.text_is
          ∙ ap (λ (xs : List ℕ). heading width height ++ (xs ++ pixels.0.1)) (sym flat)
          ∙ sym (append_assoc (heading width height) (rows_text width height pixels.0.0) pixels.0.1);
      rules = record {
        limits = rw (has.width, has.height, enough) refl;
        words = All-from_recursion (λ pixel. pixel < 2 ^ 32) pixels.0.0 has_pixels.fit;
      };
    })

ended-Ok : (picture read : PictureContents) (rest : List ℕ) → ended picture rest ≡ Ok read → (rest ≡ []) × (picture ≡ read)
unfolding ended
ended-Ok picture read [] e = (refl, cc)
ended-Ok picture read (byte ∷ rest) e = absurd cc

picture_of-Ok : (text : List ℕ) (picture : PictureContents) → picture_of text ≡ Ok picture → text ≡ spelled picture
unfolding picture_of
picture_of-Ok text picture e =
    let whole = then-Ok (picture_at text) _ picture e in
    let has = picture_at-Ok text whole.0 whole.1.0 in
    let at_end = ended-Ok whole.0.0 picture whole.0.1 whole.1.1 in
    has.text_is ∙ ap (λ (xs : List ℕ). spelled whole.0.0 ++ xs) at_end.0 ∙ append-nil (spelled whole.0.0) ∙ ap spelled at_end.1

-- ---- the same, of what a call answers

pub IfOk-spelled : (text : List ℕ) (answer : Result PictureContents (ReadError PictureFault)) → Gives (λ picture. picture) answer (picture_of text)
    → IfOk answer (λ picture. text ≡ spelled picture)
IfOk-spelled text (Ok picture) given = picture_of-Ok text picture given
IfOk-spelled text (Err error) given = tt

pub Gives-again : (text : List ℕ) (answer : Result PictureContents (ReadError PictureFault)) (picture : PictureContents)
    → Gives (λ read. read) answer (picture_of text) → IsPicture picture → text ≡ spelled picture
    → Gives (λ read. read) answer (Ok picture)
Gives-again text answer picture given rules e =
    subst (λ (wanted : Result PictureContents PictureFault). Gives (λ read. read) answer wanted) (ap picture_of e ∙ picture_of-spelled picture rules) given

-- What is in the data of an image: at each byte what the part that it is of holds there.
use Rattle.std.proofs.Common.{◌≡◌, ℕ, zero, suc, ◌+◌, ◌-◌, ◌*◌, ◌/◌, ◌%◌, ◌<◌, ◌≤◌, Bool, true, false, cond, List, [], ◌∷◌, ◌++◌, map, length, replicate}
use Rattle.std.proofs.Common.{Option, Some, None, refl, sym, ap, ◌∙◌, arith, inl, inr}
use Rattle.std.specs.Prelude.{◌&&◌, ◌==◌, nat_lt, nat_le, slice_index, slice_get}
use Rattle.std.specs.Int.{w32, to_le_bytes}
use Rattle.std.proofs.Math.Nat.{mul_comm, mod-lt, div-lt_iff_lt-mul}
use Rattle.std.proofs.lemmas.Nat.{div-add-mod', le-div}
use Rattle.std.proofs.Math.Seq.{get_or-append_right}
use Rattle.std.proofs.lemmas.Bool.{and_parts, cases_lt, eqb-true, lt-ltb, le-ltb, leb-true}
use Rattle.std.proofs.lemmas.List.{append_assoc, get_or_append_left, length-append, length-replicate}
use Rattle.halide_pipeline.specs.declared.definitions.Input.{Input}
use Rattle.halide_pipeline.specs.WellFormed.{is_width, is_height}
use Rattle.halide_pipeline.specs.Picture.{IsPicture}
use Rattle.halide_pipeline.specs.Contents.{PictureContents}
use Rattle.halide_pipeline.specs.Pixel.{Planes, input_plane, input_planes}
use Rattle.bounds.specs.Layout.{input_bytes, total}
use Rattle.picture.specs.Evaluated.{is_size, are_sizes}
use Rattle.bounds.specs.Parts.{Found, find, further}
use Rattle.vector_codegen_laws.specs.Uses.{byte_of, input_byte}
use Rattle.hrv_compiler.specs.Images.{ArePictures, whole, word_bytes, input_data, inputs_data}
use Rattle.loader.specs.Spelling.{padded}

-- ---- lists

pub zeros : (n i : ℕ) → slice_index (replicate n 0) i ≡ 0
zeros zero i = refl
zeros (suc n) zero = refl
zeros (suc n) (suc i) = zeros n i

-- after a list stand zeros
pub before-zeros : (xs : List ℕ) (n i : ℕ) → i < length xs → slice_index (xs ++ replicate n 0) i ≡ slice_index xs i
before-zeros xs n i l = get_or_append_left xs (replicate n 0) 0 i l

pub behind-zeros : (xs : List ℕ) (n i : ℕ) → length xs ≤ i → slice_index (xs ++ replicate n 0) i ≡ 0
behind-zeros xs n i l = get_or-append_right xs (replicate n 0) i 0 l ∙ zeros n (i - length xs)

-- ---- words

pub words-length : (pixels : List ℕ) → length (word_bytes pixels) ≡ length pixels * 4
words-length [] = refl
words-length (pixel ∷ pixels) = let rest = words-length pixels in omega (arith, rest)

words-at : (pixels : List ℕ) (n : ℕ) → n < length pixels * 4 → slice_index (word_bytes pixels) n ≡ byte_of (slice_index pixels (n / 4)) (n % 4)
words-at [] n l = absurd (omega (arith, l))
words-at (pixel ∷ pixels) n l = elim (cases_lt n 4) [
  | inl b ↦
      let d : n / 4 ≡ 0 = omega (arith, b) in
      let m : n % 4 ≡ n = omega (arith, b) in
      get_or_append_left (to_le_bytes w32 pixel) (word_bytes pixels) 0 n b
      ∙ (ap (λ (k : ℕ). byte_of pixel k) (sym m) ∙ ap (λ (k : ℕ). byte_of (slice_index (pixel ∷ pixels) k) (n % 4)) (sym d))
  | inr b ↦
      let d : n / 4 ≡ suc ((n - 4) / 4) = omega (arith, b) in
      let m : n % 4 ≡ (n - 4) % 4 = omega (arith, b) in
      get_or-append_right (to_le_bytes w32 pixel) (word_bytes pixels) n 0 b
      ∙ (words-at pixels (n - 4) (omega (arith, l, b))
      ∙ (ap (λ (k : ℕ). byte_of (slice_index pixels ((n - 4) / 4)) k) (sym m) ∙ ap (λ (k : ℕ). byte_of (slice_index (pixel ∷ pixels) k) (n % 4)) (sym d)))
]

-- ---- one picture

-- a pixel by its number, and 0 after the last
module _ (picture : PictureContents) (rules : IsPicture picture) (n : ℕ) where
  shape : ((is_width picture.width && is_height picture.width picture.height) ≡ true) × ((length picture.pixels == picture.width * picture.height) ≡ true)
  shape = and_parts (is_width picture.width && is_height picture.width picture.height) (length picture.pixels == picture.width * picture.height) rules.limits

  wide : 0 < picture.width
  wide =
      let extents = and_parts (is_width picture.width) (is_height picture.width picture.height) shape.0 in
      let l = leb-true 1 picture.width (and_parts (nat_le 1 picture.width) (nat_le picture.width 65536) extents.0).0 in
      omega (arith, l)

  pub count : length picture.pixels ≡ picture.width * picture.height
  count = eqb-true (length picture.pixels) (picture.width * picture.height) shape.1

  abbrev column : ℕ
  column = n % picture.width

  abbrev row : ℕ
  row = n / picture.width

  back : row * picture.width + column ≡ n
  back = div-add-mod' n picture.width

  pub numbered : n < length picture.pixels → input_plane (Some picture) column row ≡ slice_index picture.pixels n
  numbered l =
      let inside : n < picture.height * picture.width = omega (arith, l, count, mul_comm picture.width picture.height) in
      let low : nat_lt column picture.width ≡ true = lt-ltb column picture.width (mod-lt n wide) in
      let high : nat_lt row picture.height ≡ true = lt-ltb row picture.height ((div-lt_iff_lt-mul wide).1 inside) in
      ap (λ (b : Bool). cond (b && nat_lt row picture.height) (slice_index picture.pixels (row * picture.width + column)) 0) low
      ∙ (ap (λ (b : Bool). cond b (slice_index picture.pixels (row * picture.width + column)) 0) high ∙ ap (λ (k : ℕ). slice_index picture.pixels k) back)

  pub beyond : length picture.pixels ≤ n → input_plane (Some picture) column row ≡ 0
  beyond l =
      let inside : picture.height * picture.width ≤ n = omega (arith, l, count, mul_comm picture.width picture.height) in
      let low : nat_lt column picture.width ≡ true = lt-ltb column picture.width (mod-lt n wide) in
      let high : nat_lt row picture.height ≡ false = le-ltb row picture.height (le-div picture.height n picture.width wide inside) in
      ap (λ (b : Bool). cond (b && nat_lt row picture.height) (slice_index picture.pixels (row * picture.width + column)) 0) low
      ∙ ap (λ (b : Bool). cond b (slice_index picture.pixels (row * picture.width + column)) 0) high

-- ---- one input

module _ (input : Input) (picture : PictureContents) (rules : IsPicture picture) (sized : is_size input picture ≡ true) where
  widths : picture.width ≡ input.width
  widths = eqb-true picture.width input.width (and_parts (picture.width == input.width) (picture.height == input.height) sized).0

  heights : picture.height ≡ input.height
  heights = eqb-true picture.height input.height (and_parts (picture.width == input.width) (picture.height == input.height) sized).1

  pixels_are : length picture.pixels ≡ input.width * input.height
  pixels_are = count picture rules 0 ∙ (ap (λ (w : ℕ). w * picture.height) widths ∙ ap (λ (h : ℕ). input.width * h) heights)

  pub length-input : length (input_data input picture) ≡ input_bytes input
  length-input = by_kind input.is_bytes
    where
      by_kind : (kind : Bool) → length (cond kind (padded (whole (length picture.pixels)) picture.pixels) (word_bytes picture.pixels))
          ≡ cond kind ((input.width * input.height + 3) / 4 * 4) (input.width * input.height * 4)
      by_kind true =
          let l : length picture.pixels ≤ whole (length picture.pixels) = omega arith in
          length-append picture.pixels (replicate (whole (length picture.pixels) - length picture.pixels) 0)
          ∙ (ap (λ (k : ℕ). length picture.pixels + k) (length-replicate (whole (length picture.pixels) - length picture.pixels) 0)
          ∙ (let e : length picture.pixels + (whole (length picture.pixels) - length picture.pixels) ≡ whole (length picture.pixels) = omega (arith, l) in e)
          ∙ ap whole pixels_are)
      by_kind false = words-length picture.pixels ∙ ap (λ (k : ℕ). k * 4) pixels_are

  module _ (func_index : ℕ) (inputs : Planes) (same : (x y : ℕ) → inputs func_index x y ≡ input_plane (Some picture) x y) (n : ℕ) (l : n < input_bytes input) where
    of_bytes : slice_index (padded (whole (length picture.pixels)) picture.pixels) n ≡ inputs func_index (n % input.width) (n / input.width)
    of_bytes = elim (cases_lt n (length picture.pixels)) [
      | inl b ↦
          before-zeros picture.pixels (whole (length picture.pixels) - length picture.pixels) n b
          ∙ (sym (numbered picture rules n b) ∙ (ap (λ (w : ℕ). input_plane (Some picture) (n % w) (n / w)) widths
          ∙ sym (same (n % input.width) (n / input.width))))
      | inr b ↦
          behind-zeros picture.pixels (whole (length picture.pixels) - length picture.pixels) n b
          ∙ (sym (beyond picture rules n b) ∙ (ap (λ (w : ℕ). input_plane (Some picture) (n % w) (n / w)) widths
          ∙ sym (same (n % input.width) (n / input.width))))
    ]

    of_words : n < length picture.pixels * 4 → slice_index (word_bytes picture.pixels) n ≡ byte_of (inputs func_index (n / 4 % input.width) (n / 4 / input.width))
        (n % 4)
    of_words b =
        let q : n / 4 < length picture.pixels = omega (arith, b) in
        words-at picture.pixels n b
        ∙ ap (λ (p : ℕ). byte_of p (n % 4)) (sym (numbered picture rules (n / 4) q) ∙ (ap (λ (w : ℕ). input_plane (Some picture) (n / 4 % w) (n / 4 / w)) widths
        ∙ sym (same (n / 4 % input.width) (n / 4 / input.width))))

    pub byte-of-input : slice_index (input_data input picture) n ≡ input_byte (Some input) func_index inputs n
    byte-of-input = by_kind input.is_bytes l
      where
        by_kind : (kind : Bool) → n < cond kind ((input.width * input.height + 3) / 4 * 4) (input.width * input.height * 4)
            → slice_index (cond kind (padded (whole (length picture.pixels)) picture.pixels) (word_bytes picture.pixels)) n
            ≡ cond kind (inputs func_index (n % input.width) (n / input.width)) (byte_of (inputs func_index (n / 4 % input.width) (n / 4 / input.width)) (n % 4))
        by_kind true b = of_bytes
        by_kind false b = of_words (omega (arith, b, pixels_are))

-- ---- all inputs

-- what is found at a byte after the control words: of an input, or 0
abbrev pub found_byte : List Input → Planes → Option Found → ℕ
found_byte all inputs None = 0
found_byte all inputs (Some found) = input_byte (slice_get all found.place) found.place inputs found.offset

one_further : (input : Input) (others : List Input) (picture : PictureContents) (pictures : List PictureContents) (found_found : Option Found)
    → found_byte (input ∷ others) (input_planes (picture ∷ pictures)) (further found_found) ≡ found_byte others (input_planes pictures) found_found
one_further input others picture pictures None = refl
one_further input others picture pictures (Some found_found) = of_place (slice_get others found_found.place)
  where
    of_place : (own_input : Option Input) → input_byte own_input (suc found_found.place)
        (input_planes (picture ∷ pictures)) found_found.offset
        ≡ input_byte own_input found_found.place (input_planes pictures) found_found.offset
    of_place None = refl
    of_place (Some own_input) = refl

pub inputs-found : (inputs : List Input) (pictures : List PictureContents) → length pictures ≡ length inputs → are_sizes inputs pictures ≡ true
    → ArePictures pictures
    → (zeros_behind n : ℕ) → slice_index (inputs_data inputs pictures ++ replicate zeros_behind 0) n ≡ found_byte inputs (input_planes pictures)
    (find (map input_bytes inputs) n)
inputs-found [] [] e s r behind n = zeros behind n
inputs-found [] (picture ∷ pictures) e s r behind n = absurd cc
inputs-found (input ∷ inputs) [] e s r behind n = absurd cc
inputs-found (input ∷ inputs) (picture ∷ pictures) e s r behind n =
    let sizes = and_parts (is_size input picture) (are_sizes inputs pictures) s in
    let long = length-input input picture r.0 sizes.0 in
    let rest = inputs_data inputs pictures ++ replicate behind 0 in
    ap (λ (xs : List ℕ). slice_index xs n) (append_assoc (input_data input picture) (inputs_data inputs pictures) (replicate behind 0))
    ∙ elim (cases_lt n (input_bytes input)) [
      | inl l ↦
          get_or_append_left (input_data input picture) rest 0 n (omega (arith, l, long))
          ∙ (byte-of-input input picture r.0 sizes.0 0 (input_planes (picture ∷ pictures)) (λ x y. refl) n l
          ∙ ap (λ (b : Bool). found_byte (input ∷ inputs) (input_planes (picture ∷ pictures)) (cond b (Some (record { place = 0; offset = n }))
          (further (find (map input_bytes inputs) (n - input_bytes input))))) (sym (lt-ltb n (input_bytes input) l)))
      | inr l ↦
          get_or-append_right (input_data input picture) rest n 0 (omega (arith, l, long))
          ∙ (ap (λ (k : ℕ). slice_index rest (n - k)) long
          ∙ (inputs-found inputs pictures (let p : length pictures ≡ length inputs = omega (arith, e) in p) sizes.1 r.1 behind (n - input_bytes input)
          ∙ (sym (one_further input inputs picture pictures (find (map input_bytes inputs) (n - input_bytes input)))
          ∙ ap (λ (b : Bool). found_byte (input ∷ inputs) (input_planes (picture ∷ pictures)) (cond b (Some (record { place = 0; offset = n }))
          (further (find (map input_bytes inputs) (n - input_bytes input))))) (sym (le-ltb n (input_bytes input) l)))))
    ]

pub length-inputs : (inputs : List Input) (pictures : List PictureContents) → length pictures ≡ length inputs → are_sizes inputs pictures ≡ true
    → ArePictures pictures
    → length (inputs_data inputs pictures) ≡ total (map input_bytes inputs)
length-inputs [] pictures e s r = refl
length-inputs (input ∷ inputs) [] e s r = absurd cc
length-inputs (input ∷ inputs) (picture ∷ pictures) e s r =
    let sizes = and_parts (is_size input picture) (are_sizes inputs pictures) s in
    let fewer : length pictures ≡ length inputs = omega (arith, e) in
    let one = length-input input picture r.0 sizes.0 in
    let rest = length-inputs inputs pictures fewer sizes.1 r.1 in
    let both = length-append (input_data input picture) (inputs_data inputs pictures) in
    omega (arith, one, rest, both)

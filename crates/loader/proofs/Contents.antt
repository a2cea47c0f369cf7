-- The contents of an image, spelled and read again, after which anything may stand.
use Rattle.std.proofs.Common.{◌≡◌, ℕ, ◌+◌, ◌*◌, ◌%◌, ◌^◌, ◌<◌, ◌≤◌, true, false, List, [], ◌∷◌, ◌++◌, length, take, drop, Option, Some, None, refl, sym, ap}
use Rattle.std.proofs.Common.{◌∙◌, append_assoc, arith}
use Rattle.std.specs.Prelude.{IfSome, IsTrue, nat_le, nat_lt, ◌&&◌, ◌==◌}
use Rattle.std.specs.Int.{w32, to_le_bytes, from_le_bytes}
use Rattle.std.proofs.lemmas.Bool.{and_parts, and_left, and_right, leb-true, ltb-true, ne_eqb, cond-false}
use Rattle.std.proofs.lemmas.List.{drop-drop, drop_at, take_at, length-append}
use Rattle.std.proofs.lemmas.List.Elements.{recursion_from_All}
use Rattle.std.proofs.lemmas.Nat.{from_le_bytes-to_le_bytes_4}
use Rattle.memory.specs.Access.{most_words, most_bytes, text_start, data_start}
use Rattle.loader.specs.declared.formats.Format.{Format}
use Rattle.loader.specs.declared.formats.Format.TheVariants.{Hrv1, Hrv2}
use Rattle.loader.specs.declared.outputs.Output.{Output}
use Rattle.loader.specs.Image.{ImageContents, IsImage, IsInWords, is_output_or_none, is_output, is_picture, end_of, most_pixels}
use Rattle.loader.specs.Spelling.{header_length, stored, stored_field, spelled_numbers, output_fields, spelled_start, spelled_header, spelled, number_at}
use Rattle.loader.specs.Spelling.{numbers_in, output_at, format_of, word_count, byte_count, stored_count, stored_in, contents_in}
use Rattle.loader.proofs.Numbers.{drop_twice, number_again, numbers_again, length-spelled_numbers}
use Rattle.loader.proofs.Trims.{length-stored, stored_padded}

-- ---- sizes

pub record IsSized (image : ImageContents) : Type 0 where
  pub words : length image.words ≤ most_words
  pub bytes : length image.bytes ≤ most_bytes
  pub entry : image.entry < 2 ^ 32

pub sizes_of : (image : ImageContents) → IsImage image → IsSized image
sizes_of image rules =
    let limits = and_parts (nat_le (length image.words) most_words) (nat_le (length image.bytes) most_bytes) rules.limits in
    let entry = and_parts (image.entry % 4 == 0 && nat_le text_start image.entry) (nat_lt image.entry (text_start + 4 * length image.words)) rules.entry in
    let words = leb-true (length image.words) most_words limits.0 in
    let below = ltb-true image.entry (text_start + 4 * length image.words) entry.1 in
    record { words = words; bytes = leb-true (length image.bytes) most_bytes limits.1; entry = omega arith }

has_width : (bytes : ℕ) (output : Output) → is_output bytes output ≡ true → 1 ≤ output.width
has_width bytes output e =
    let lies = and_parts (is_picture output && nat_le data_start output.address) (nat_le (end_of output) (data_start + bytes)) e in
    let picture = and_parts (is_picture output) (nat_le data_start output.address) lies.0 in
    let aligned = output.address % 4 == 0 && output.stride % 4 == 0 in
    let strides = and_parts (aligned && nat_le 1 output.width && nat_le 1 output.height && nat_le (output.width * output.height) most_pixels)
    (nat_le (4 * output.width) output.stride) picture.0 in
    let pixels = and_parts (aligned && nat_le 1 output.width && nat_le 1 output.height) (nat_le (output.width * output.height) most_pixels) strides.0 in
    let height = and_parts (aligned && nat_le 1 output.width) (nat_le 1 output.height) pixels.0 in
    leb-true 1 output.width (and_parts aligned (nat_le 1 output.width) height.0).1

-- ---- the header

-- a number after what is in front
pub number_behind : (bytes tail : List ℕ) (m n k : ℕ) → drop m bytes ≡ tail → m + n ≡ k → number_at bytes k ≡ number_at tail n
unfolding number_at
number_behind bytes tail m n k e sum_is =
    ap (λ (xs : List ℕ). from_le_bytes w32 (take 4 xs)) (sym (drop_twice m n k bytes sum_is) ∙ ap (λ (xs : List ℕ). drop n xs) e)

-- four numbers, read from where they are spelled
record Reads4 (tail : List ℕ) (a b c d : ℕ) : Type 0 where
  pub first : number_at tail 0 ≡ a
  pub second : number_at tail 4 ≡ b
  pub third : number_at tail 8 ≡ c
  pub fourth : number_at tail 12 ≡ d

reads_four : (a b c d : ℕ) (rest : List ℕ) → a < 2 ^ 32 → b < 2 ^ 32 → c < 2 ^ 32 → d < 2 ^ 32 → Reads4 (spelled_numbers (a ∷ b ∷ c ∷ d ∷ []) ++ rest) a b c d
unfolding number_at
reads_four a b c d rest la lb lc ld = record {
  first = from_le_bytes-to_le_bytes_4 a la;
  second = from_le_bytes-to_le_bytes_4 b lb;
  third = from_le_bytes-to_le_bytes_4 c lc;
  fourth = from_le_bytes-to_le_bytes_4 d ld;
}

output_again : (bytes rest : List ℕ) (count : ℕ) (output : Option Output) → drop 16 bytes ≡ spelled_numbers (output_fields output) ++ rest
    → IsTrue (is_output_or_none count output) → IfSome output IsInWords → output_at bytes ≡ output
output_again bytes rest count None e lies fits =
    let tail = spelled_numbers (output_fields None) ++ rest in
    let four = reads_four 0 0 0 0 rest (omega arith) (omega arith) (omega arith) (omega arith) in
    rw (
      number_behind bytes tail 16 0 16 e refl ∙ four.first,
      number_behind bytes tail 16 4 20 e refl ∙ four.second,
      number_behind bytes tail 16 8 24 e refl ∙ four.third,
      number_behind bytes tail 16 12 28 e refl ∙ four.fourth,
    ) refl
output_again bytes rest count (Some o) e lies fits =
    let tail = spelled_numbers (output_fields (Some o)) ++ rest in
    let four = reads_four o.address o.width o.height o.stride rest fits.address fits.width fits.height fits.stride in
    let wide = has_width count o lies in
    let no_width : (o.width == 0) ≡ false = ne_eqb o.width 0 (λ z. absurd (omega arith)) in
    let no_zeros : (o.address == 0 && o.width == 0 && o.height == 0 && o.stride == 0) ≡ false =
    and_left (o.address == 0 && o.width == 0 && o.height == 0) (o.stride == 0) (and_left (o.address == 0 && o.width == 0) (o.height == 0)
    (and_right (o.address == 0) (o.width == 0) no_width)) in
    rw (
      number_behind bytes tail 16 0 16 e refl ∙ four.first,
      number_behind bytes tail 16 4 20 e refl ∙ four.second,
      number_behind bytes tail 16 8 24 e refl ∙ four.third,
      number_behind bytes tail 16 12 28 e refl ∙ four.fourth,
    )
    (cond-false (o.address == 0 && o.width == 0 && o.height == 0 && o.stride == 0) None (Some o) no_zeros)

-- the part of a header that both formats have, and what is after it
record ReadsStart (format : Format) (image : ImageContents) (bytes rest : List ℕ) : Type 0 where
  pub begins : format_of bytes ≡ Some format
  pub entry : number_at bytes 4 ≡ image.entry
  pub words : word_count bytes ≡ length image.words
  pub data_bytes : byte_count bytes ≡ length image.bytes
  pub output : output_at bytes ≡ image.output
  pub behind : drop 32 bytes ≡ rest

length-output_fields : (output : Option Output) → length (spelled_numbers (output_fields output)) ≡ 16
length-output_fields None = refl
length-output_fields (Some output) = refl

start_again : (format : Format) (image : ImageContents) (rest : List ℕ) → IsImage image → ReadsStart format image (spelled_start format image ++ rest) rest
unfolding format_of spelled_start number_at
start_again Hrv1 image rest rules =
    let sized = sizes_of image rules in
    let fields = spelled_numbers (output_fields image.output) in
    record {
      begins = refl;
      entry = from_le_bytes-to_le_bytes_4 image.entry sized.entry;
      words = from_le_bytes-to_le_bytes_4 (length image.words) (omega arith);
      data_bytes = from_le_bytes-to_le_bytes_4 (length image.bytes) (omega arith);
      output = output_again (spelled_start Hrv1 image ++ rest) rest (length image.bytes) image.output refl rules.output rules.output_fits;
      behind = sym (drop-drop 16 16 (spelled_start Hrv1 image ++ rest)) ∙ drop_at fields rest 16 (length-output_fields image.output);
    }
start_again Hrv2 image rest rules =
    let sized = sizes_of image rules in
    let fields = spelled_numbers (output_fields image.output) in
    record {
      begins = refl;
      entry = from_le_bytes-to_le_bytes_4 image.entry sized.entry;
      words = from_le_bytes-to_le_bytes_4 (length image.words) (omega arith);
      data_bytes = from_le_bytes-to_le_bytes_4 (length image.bytes) (omega arith);
      output = output_again (spelled_start Hrv2 image ++ rest) rest (length image.bytes) image.output refl rules.output rules.output_fits;
      behind = sym (drop-drop 16 16 (spelled_start Hrv2 image ++ rest)) ∙ drop_at fields rest 16 (length-output_fields image.output);
    }

-- a header, and what is after it
pub record ReadsHeader (format : Format) (image : ImageContents) (bytes rest : List ℕ) : Type 0 where
  pub begins : format_of bytes ≡ Some format
  pub entry : number_at bytes 4 ≡ image.entry
  pub words : word_count bytes ≡ length image.words
  pub data_bytes : byte_count bytes ≡ length image.bytes
  pub output : output_at bytes ≡ image.output
  pub stored_bytes : stored_count format bytes ≡ length (stored format image.bytes)
  pub behind : drop (header_length format) bytes ≡ rest

with_field : (format : Format) (image : ImageContents) (bytes rest : List ℕ) → IsImage image
    → ReadsStart format image bytes (stored_field format (length (stored format image.bytes)) ++ rest) → ReadsHeader format image bytes rest
with_field Hrv1 image bytes rest rules start =
    record {
      begins = start.begins;
      entry = start.entry;
      words = start.words;
      data_bytes = start.data_bytes;
      output = start.output;
      stored_bytes =
          start.data_bytes;
      behind = start.behind;
    }
with_field Hrv2 image bytes rest rules start =
    let sized = sizes_of image rules in
    let count = length (stored Hrv2 image.bytes) in
    let fits : count < 2 ^ 32 = omega (arith, length-stored Hrv2 image.bytes) in
    record {
      begins = start.begins;
      entry = start.entry;
      words = start.words;
      data_bytes = start.data_bytes;
      output = start.output;
      stored_bytes = number_behind bytes (to_le_bytes w32 count ++ rest) 32 0 32 start.behind refl ∙ number_again count rest fits;
      behind = sym (drop_twice 32 4 36 bytes refl) ∙ ap (λ (xs : List ℕ). drop 4 xs) start.behind;
    }

pub header_again : (format : Format) (image : ImageContents) (rest : List ℕ) → IsImage image
    → ReadsHeader format image (spelled_header format image ++ rest) rest
unfolding spelled_header
header_again format image rest rules =
    let field = stored_field format (length (stored format image.bytes)) in
    with_field format image (spelled_header format image ++ rest) rest rules
    (rw (append_assoc (spelled_start format image) field rest) (start_again format image (field ++ rest) rules))

-- ---- the whole

regrouped : (format : Format) (image : ImageContents) (rest : List ℕ)
    → spelled format image ++ rest ≡ spelled_header format image ++ (spelled_numbers image.words ++ (stored format image.bytes ++ rest))
unfolding spelled
regrouped format image rest =
    append_assoc (spelled_header format image ++ spelled_numbers image.words) (stored format image.bytes) rest
    ∙ append_assoc (spelled_header format image) (spelled_numbers image.words) (stored format image.bytes ++ rest)

pub spelled_again : (format : Format) (image : ImageContents) (rest : List ℕ) → IsImage image
    → ReadsHeader format image (spelled format image ++ rest) (spelled_numbers image.words ++ (stored format image.bytes ++ rest))
spelled_again format image rest rules =
    rw (regrouped format image rest) (header_again format image (spelled_numbers image.words ++ (stored format image.bytes ++ rest)) rules)

-- what is stored is read from the front, whatever follows
pub stored_again : (format : Format) (image : ImageContents) (rest : List ℕ) → IsImage image → stored_in format (spelled format image ++ rest)
    ≡ stored format image.bytes
stored_again format image rest rules =
    let read = spelled_again format image rest rules in
    let front = stored format image.bytes in
    let behind : drop (header_length format + 4 * length image.words) (spelled format image ++ rest) ≡ front ++ rest =
    sym (drop_twice (header_length format) (4 * length image.words) (header_length format + 4 * length image.words) (spelled format image ++ rest) refl)
    ∙ ap (λ (xs : List ℕ). drop (4 * length image.words) xs) read.behind
    ∙ drop_at (spelled_numbers image.words) (front ++ rest) (4 * length image.words) (length-spelled_numbers image.words) in
    rw (read.stored_bytes, read.words, behind) (take_at front rest (length front) refl)

-- and so are the contents
pub contents_again : (format : Format) (image : ImageContents) (rest : List ℕ) → IsImage image → contents_in format (spelled format image ++ rest) ≡ image
contents_again format image rest rules =
    let read = spelled_again format image rest rules in
    let words : numbers_in (length image.words) (spelled_numbers image.words ++ (stored format image.bytes ++ rest)) ≡ image.words =
    numbers_again image.words (stored format image.bytes ++ rest) (recursion_from_All (λ word. word < 2 ^ 32) image.words rules.words_fit) in
    rw (stored_again format image rest rules, read.entry, read.words, read.data_bytes, read.output, read.behind, words, stored_padded format image.bytes) refl

length-start : (format : Format) (image : ImageContents) → length (spelled_start format image) ≡ 32
unfolding spelled_start
length-start Hrv1 image = omega (arith, length-output_fields image.output)
length-start Hrv2 image = omega (arith, length-output_fields image.output)

pub length-header : (format : Format) (image : ImageContents) → length (spelled_header format image) ≡ header_length format
unfolding spelled_header
length-header Hrv1 image =
    omega (arith, length-append (spelled_start Hrv1 image) (stored_field Hrv1 (length (stored Hrv1 image.bytes))), length-start Hrv1 image)
length-header Hrv2 image =
    omega (arith, length-append (spelled_start Hrv2 image) (stored_field Hrv2 (length (stored Hrv2 image.bytes))), length-start Hrv2 image)

pub length-spelled : (format : Format) (image : ImageContents)
    → length (spelled format image) ≡ header_length format + 4 * length image.words + length (stored format image.bytes)
unfolding spelled
length-spelled format image =
    omega (
      arith,
      length-append (spelled_header format image ++ spelled_numbers image.words) (stored format image.bytes),
      length-append (spelled_header format image) (spelled_numbers image.words),
      length-spelled_numbers image.words,
      length-header format image,
    )

-- The tests of a header and a length, one by one.
use Rattle.std.proofs.Common.{◌≡◌, ℕ, ◌+◌, ◌-◌, ◌*◌, ◌≤◌, Bool, true, false, cond, List, length, take, drop, Option, Some, None, Result, Ok, Err, refl, sym, ap}
use Rattle.std.proofs.Common.{◌∙◌, arith}
use Rattle.std.specs.Prelude.{nat_lt, nat_eq, not, ◌||◌}
use Rattle.std.specs.List.{starts_with}
use Rattle.std.specs.Cmp.Lexicographic.{bytes_decides}
use Rattle.std.proofs.lemmas.Bool.{ltb-false, le-ltb, or_parts}
use Rattle.std.proofs.lemmas.List.{take_all, take_rest, length-drop}
use Rattle.memory.specs.Access.{most_words, most_bytes}
use Rattle.loader.specs.declared.formats.Format.{Format}
use Rattle.loader.specs.declared.formats.Format.TheVariants.{Hrv1, Hrv2}
use Rattle.loader.specs.declared.faults.LoadFault.{LoadFault}
use Rattle.loader.specs.declared.faults.LoadFault.TheVariants.{Truncated, TrailingBytes, OverLimit, Entry, OutputRange}
use Rattle.loader.specs.declared.outputs.Output.{Output}
use Rattle.loader.specs.Image.{ImageContents, judged, is_within_limits, is_entry, is_output_or_none}
use Rattle.loader.specs.Spelling.{magic, header_length, number_at, numbers_in, output_at, format_of, word_count, byte_count, stored_count, stored_place}
use Rattle.loader.specs.Spelling.{stored_in, whole_length, padded, contents_in, stores_zero, unless_zero, judged_in, image_in, image_by, image_of}

-- a header and a length with no fault
pub record IsFramed (format : Format) (bytes : List ℕ) : Type 0 where
  pub header : header_length format ≤ length bytes
  pub begins : format_of bytes ≡ Some format
  pub words : word_count bytes ≤ most_words
  pub data_bytes : byte_count bytes ≤ most_bytes
  pub stored : stored_count format bytes ≤ byte_count bytes
  pub whole : length bytes ≡ whole_length format bytes

pub least_header : (format : Format) → 32 ≤ header_length format
least_header Hrv1 = omega arith
least_header Hrv2 = omega arith

-- only the rules for the contents are left then
pub image_of_framed : (format : Format) (bytes : List ℕ) → IsFramed format bytes → image_of bytes ≡ judged_in format bytes
unfolding image_of
image_of_framed format bytes framed =
    let long = least_header format in
    let header = framed.header in
    let whole = framed.whole in
    rw (
      le-ltb (length bytes) 4 (omega arith),
      framed.begins,
      le-ltb (length bytes) (header_length format) framed.header,
      le-ltb most_words (word_count bytes) framed.words,
      le-ltb most_bytes (byte_count bytes) framed.data_bytes,
      le-ltb (byte_count bytes) (stored_count format bytes) framed.stored,
      le-ltb (length bytes) (whole_length format bytes) (omega arith),
      le-ltb (whole_length format bytes) (length bytes) (omega arith),
    ) refl

-- a test that did not fail
passed : (b : Bool) (fault : LoadFault) (rest : Result ImageContents LoadFault) (image : ImageContents) → cond b (Err fault) rest ≡ Ok image
    → (b ≡ false) × (rest ≡ Ok image)
passed true fault rest image e = absurd cc
passed false fault rest image e = (refl, e)

-- what is answered is what was judged
judged_is : (contents image : ImageContents) → judged contents ≡ Ok image → contents ≡ image
judged_is contents image e =
    let within = passed (not (is_within_limits contents)) OverLimit _ image e in
    let entry = passed (not (is_entry (length contents.words) contents.entry)) Entry _ image within.1 in
    let output = passed (not (is_output_or_none (length contents.bytes) contents.output)) OutputRange (Ok contents) image entry.1 in
    cc output.1

-- and no zero was stored
no_zero : (has_zero : Bool) (answer : Result ImageContents LoadFault) (image : ImageContents) → unless_zero has_zero answer ≡ Ok image
    → (has_zero ≡ false) × (answer ≡ Ok image)
no_zero true (Ok found) image e = absurd cc
no_zero false (Ok found) image e = (refl, e)
no_zero has_zero (Err fault) image e = absurd cc

-- bytes from which an image was read
pub record ReadsAs (bytes : List ℕ) (image : ImageContents) : Type 0 where
  pub format : Format
  pub framed : IsFramed format bytes
  pub contents : contents_in format bytes ≡ image
  pub ends : stores_zero format (stored_in format bytes) ≡ false

framed_in : (format : Format) (bytes : List ℕ) (image : ImageContents) → format_of bytes ≡ Some format → image_in format bytes ≡ Ok image → ReadsAs bytes image
framed_in format bytes image begins e =
    let counts_fail = nat_lt most_words (word_count bytes) || nat_lt most_bytes (byte_count bytes) || nat_lt (byte_count bytes) (stored_count format bytes) in
    let header = passed (nat_lt (length bytes) (header_length format)) Truncated _ image e in
    let counts = passed counts_fail OverLimit _ image header.1 in
    let enough = passed (nat_lt (length bytes) (whole_length format bytes)) Truncated _ image counts.1 in
    let all = passed (nat_lt (whole_length format bytes) (length bytes)) TrailingBytes (judged_in format bytes) image enough.1 in
    let three = or_parts (nat_lt most_words (word_count bytes) || nat_lt most_bytes (byte_count bytes)) (nat_lt (byte_count bytes) (stored_count format bytes))
    counts.0 in
    let both = or_parts (nat_lt most_words (word_count bytes)) (nat_lt most_bytes (byte_count bytes)) three.0 in
    let at_least = ltb-false (length bytes) (whole_length format bytes) enough.0 in
    let at_most = ltb-false (whole_length format bytes) (length bytes) all.0 in
    let kept = no_zero (stores_zero format (stored_in format bytes)) (judged (contents_in format bytes)) image all.1 in
    record {
      format = format;
      framed = record {
        header = ltb-false (length bytes) (header_length format) header.0;
        begins = begins;
        words = ltb-false most_words (word_count bytes) both.0;
        data_bytes = ltb-false most_bytes (byte_count bytes) both.1;
        stored = ltb-false (byte_count bytes) (stored_count format bytes) three.1;
        whole = omega arith;
      };
      contents = judged_is (contents_in format bytes) image kept.1;
      ends = kept.0;
    }

-- where an image was read, header and length have no fault
pub framed_since : (bytes : List ℕ) (image : ImageContents) → image_of bytes ≡ Ok image → ReadsAs bytes image
unfolding image_of
framed_since bytes image e = by_format (format_of bytes) refl (passed (nat_lt (length bytes) 4) Truncated _ image e).1
  where
    by_format : (found : Option Format) → format_of bytes ≡ found → image_by found bytes ≡ Ok image → ReadsAs bytes image
    by_format None begins read = absurd cc
    by_format (Some format) begins read = framed_in format bytes image begins read

-- bytes that begin with a magic
begins_with : (bytes letters : List ℕ) → starts_with nat_eq bytes letters ≡ true → take (length letters) bytes ≡ letters
begins_with bytes letters e = sym ((bytes_decides letters (take (length letters) bytes)).0 e)

pub magic_is : (format : Format) (bytes : List ℕ) → format_of bytes ≡ Some format → take 4 bytes ≡ magic format
unfolding format_of
magic_is format bytes e = by_tests (starts_with nat_eq bytes (magic Hrv1)) (starts_with nat_eq bytes (magic Hrv2)) refl refl format e
  where
    by_tests : (first second : Bool) → starts_with nat_eq bytes (magic Hrv1) ≡ first → starts_with nat_eq bytes (magic Hrv2) ≡ second
        → (format : Format) → cond first (Some Hrv1) (cond second (Some Hrv2) None) ≡ Some format → take 4 bytes ≡ magic format
    by_tests true second is_first is_second Hrv1 found = begins_with bytes (magic Hrv1) is_first
    by_tests true second is_first is_second Hrv2 found = absurd cc
    by_tests false true is_first is_second Hrv2 found = begins_with bytes (magic Hrv2) is_second
    by_tests false true is_first is_second Hrv1 found = absurd cc
    by_tests false false is_first is_second format found = absurd cc

-- what is stored at the end of the whole is all that is there
pub stored_at_end : (format : Format) (bytes : List ℕ) → length bytes ≡ whole_length format bytes
    → stored_in format bytes ≡ drop (stored_place format bytes) bytes
stored_at_end format bytes whole =
    take_all (stored_count format bytes) (drop (stored_place format bytes) bytes) (omega (arith, length-drop (stored_place format bytes) bytes))

pub length-stored_in : (format : Format) (bytes : List ℕ) → length bytes ≡ whole_length format bytes
    → length (stored_in format bytes) ≡ stored_count format bytes
length-stored_in format bytes whole = ap length (stored_at_end format bytes whole) ∙ length-drop (stored_place format bytes) bytes ∙ omega (arith, whole)

-- contents that are read part by part, each from a place to the end
pub judged_parts : (format : Format) (bytes : List ℕ) (count header entry : ℕ) (words front data_bytes : List ℕ) (output : Option Output)
    → length bytes ≡ whole_length format bytes → count ≡ word_count bytes → header ≡ header_length format
    → entry ≡ number_at bytes 4 → words ≡ numbers_in count (take (length bytes - header) (drop header bytes))
    → front ≡ take (length bytes - (header + 4 * count)) (drop (header + 4 * count) bytes) → data_bytes ≡ padded (byte_count bytes) front
    → output ≡ output_at bytes
    → (front ≡ stored_in format bytes) × (judged (contents_in format bytes) ≡ judged (record {
      entry = entry;
      words = words;
      bytes = data_bytes;
      output =
          output;
    }))
judged_parts format bytes count header entry words front data_bytes output whole counted headed e w f d o =
    let make : ℕ → List ℕ → List ℕ → Option Output → ImageContents = λ e w d o. record { entry = e; words = w; bytes = d; output = o } in
    let w' : words ≡ numbers_in (word_count bytes) (drop (header_length format) bytes) = w ∙ rw (take_rest bytes header, counted, headed) refl in
    let f' : front ≡ stored_in format bytes = f ∙ rw (take_rest bytes (header + 4 * count), counted, headed) (sym (stored_at_end format bytes whole)) in
    let d' : data_bytes ≡ padded (byte_count bytes) (stored_in format bytes) = d ∙ ap (padded (byte_count bytes)) f' in
    let same : make (number_at bytes 4) (numbers_in (word_count bytes) (drop (header_length format) bytes)) (padded (byte_count bytes) (stored_in format bytes))
    (output_at bytes) ≡ make entry words data_bytes output =
    rw (e, w', d', o) refl in
    (f', ap judged same)

-- an answer to these contents, unless a zero was stored
pub judged_answer : (format : Format) (bytes : List ℕ) (count header entry : ℕ) (words front data_bytes : List ℕ) (output : Option Output) (has_zero : Bool)
    (answer : Result ImageContents LoadFault)
    → image_of bytes ≡ judged_in format bytes → length bytes ≡ whole_length format bytes → count ≡ word_count bytes → header ≡ header_length format
    → entry ≡ number_at bytes 4 → words ≡ numbers_in count (take (length bytes - header) (drop header bytes))
    → front ≡ take (length bytes - (header + 4 * count)) (drop (header + 4 * count) bytes) → data_bytes ≡ padded (byte_count bytes) front
    → output ≡ output_at bytes
    → answer ≡ judged (record { entry = entry; words = words; bytes = data_bytes; output = output }) → has_zero ≡ stores_zero format front
    → image_of bytes ≡ unless_zero has_zero answer
judged_answer format bytes count header entry words front data_bytes output has_zero answer read whole counted headed e w f d o judged_so zero_so =
    let parts = judged_parts format bytes count header entry words front data_bytes output whole counted headed e w f d o in
    read
    ∙ ap (λ (found : Result ImageContents LoadFault). unless_zero (stores_zero format (stored_in format bytes)) found) (parts.1 ∙ sym judged_so)
    ∙ ap (λ (b : Bool). unless_zero b answer) (ap (stores_zero format) (sym parts.0) ∙ sym zero_so)

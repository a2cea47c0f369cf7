-- What a call answers, and the laws of the format: what is read is spelled so, what is spelled so is read, and
-- no two images share a spelling.
use Rattle.std.proofs.Common.{◌≡◌, ℕ, ◌*◌, ◌≤◌, cond, Bool, false, List, [], ◌∷◌, ◌++◌, length, take, drop, Some, None, Result, Ok, Err, refl, sym, ap, subst}
use Rattle.std.proofs.Common.{◌∙◌, append_assoc, arith, inl, inr}
use Rattle.std.specs.Prelude.{IfOk, IsErrAnd, ◌==◌, ◌&&◌}
use Rattle.std.specs.Int.{w32, to_le_bytes}
use Rattle.std.proofs.lemmas.Bool.{cases_Bool, and_parts, eqb-true, cond-true, cond-false}
use Rattle.std.proofs.lemmas.List.{append-nil, append_cancel_left, take-append-drop, length-drop}
use Rattle.loader.specs.declared.formats.Format.{Format}
use Rattle.loader.specs.declared.formats.Format.TheVariants.{Hrv1, Hrv2}
use Rattle.loader.specs.declared.faults.LoadFault.{LoadFault}
use Rattle.loader.specs.declared.faults.LoadFault.TheVariants.{Magic, Truncated, TrailingBytes, OverLimit, Entry, OutputRange, HartCount, StoredZero}
use Rattle.loader.specs.declared.faults.LoadFault.TheVariants.{OutOfMemory}
use Rattle.loader.specs.Image.{ImageContents, IsImage, judged}
use Rattle.loader.specs.Spelling.{magic, header_length, stored, stored_field, spelled_numbers, output_fields, spelled_start, spelled_header, spelled, Spells}
use Rattle.loader.specs.Spelling.{number_at, numbers_in, output_at, format_of, word_count, byte_count, stored_count, stored_place, stored_in, padded}
use Rattle.loader.specs.Spelling.{contents_in, stores_zero, unless_zero, image_of, Refuses, Answers}
use Rattle.loader.proofs.Numbers.{IsBytes, IsBytes-drop, drop_twice, number_cut, numbers_cut, length-numbers_in}
use Rattle.loader.proofs.Trims.{length-stored, length-padded, padded_stored, stored_ends}
use Rattle.loader.proofs.Frames.{IsFramed, image_of_framed, framed_since, least_header, magic_is, stored_at_end, length-stored_in}
use Rattle.loader.proofs.Contents.{sizes_of, spelled_again, stored_again, contents_again, length-spelled}

-- ---- answers

refuses_from : (fault : LoadFault) (wanted : Result ImageContents LoadFault) → wanted ≡ Err fault → Refuses fault wanted
refuses_from Magic wanted e = e
refuses_from Truncated wanted e = e
refuses_from TrailingBytes wanted e = e
refuses_from OverLimit wanted e = e
refuses_from Entry wanted e = e
refuses_from OutputRange wanted e = e
refuses_from HartCount wanted e = e
refuses_from StoredZero wanted e = e
refuses_from OutOfMemory wanted e = tt

-- an error that is passed on
pub answers_err : (answer : Result ImageContents LoadFault) (fault : LoadFault) (wanted : Result ImageContents LoadFault) → IsErrAnd answer (λ f. f ≡ fault)
    → wanted ≡ Err fault
    → Answers answer wanted
answers_err (Ok image) fault wanted is e = absurd is
answers_err (Err f) fault wanted is e = refuses_from f wanted (e ∙ ap Err (sym is))

-- ---- what is read is spelled so

fields_are : (bytes : List ℕ) → output_fields (output_at bytes) ≡ number_at bytes 16 ∷ number_at bytes 20 ∷ number_at bytes 24 ∷ number_at bytes 28 ∷ []
fields_are bytes = by_test (number_at bytes 16) (number_at bytes 20) (number_at bytes 24) (number_at bytes 28) where
  by_test : (a w h s : ℕ) → output_fields (cond (a == 0 && w == 0 && h == 0 && s == 0) None (Some (record { address = a; width = w; height = h; stride = s })))
      ≡ a ∷ w ∷ h ∷ s ∷ []
  by_test a w h s =
      let test = a == 0 && w == 0 && h == 0 && s == 0 in
      elim (cases_Bool test) [
        | inl zero_all ↦
            let three = and_parts (a == 0 && w == 0 && h == 0) (s == 0) zero_all in
            let two = and_parts (a == 0 && w == 0) (h == 0) three.0 in
            let one = and_parts (a == 0) (w == 0) two.0 in
            let a_is = eqb-true a 0 one.0 in
            let w_is = eqb-true w 0 one.1 in
            let h_is = eqb-true h 0 two.1 in
            let s_is = eqb-true s 0 three.1 in
            let zeros : 0 ∷ 0 ∷ 0 ∷ 0 ∷ [] ≡ a ∷ w ∷ h ∷ s ∷ [] = cc in
            ap output_fields (cond-true test None (Some (record { address = a; width = w; height = h; stride = s })) zero_all) ∙ zeros
        | inr not_all ↦ ap output_fields (cond-false test None (Some (record { address = a; width = w; height = h; stride = s })) not_all)
      ]

assembled : (m e t d a w h s rest : List ℕ) → m ++ (e ++ (t ++ (d ++ (a ++ (w ++ (h ++ (s ++ rest))))))) ≡ (m ++ e ++ t ++ d ++ (a ++ (w ++ (h ++ (s ++ [])))))
    ++ rest
assembled m e t d a w h s rest = simp append_assoc

-- the part of the header that both formats have, with the counts that it names
start_of : Format → List ℕ → ℕ → ℕ → List ℕ
start_of format bytes words data_bytes =
    magic format ++ to_le_bytes w32 (number_at bytes 4) ++ to_le_bytes w32 words ++ to_le_bytes w32 data_bytes
    ++ spelled_numbers (output_fields (output_at bytes))

start_cut : (format : Format) (bytes : List ℕ) → IsBytes bytes → 32 ≤ length bytes → take 4 bytes ≡ magic format
    → bytes ≡ start_of format bytes (word_count bytes) (byte_count bytes) ++ drop 32 bytes
unfolding start_of
start_cut format bytes fits long begins =
    let at : ℕ → List ℕ = λ place. to_le_bytes w32 (number_at bytes place) in
    let from28 : drop 28 bytes ≡ at 28 ++ drop 32 bytes = number_cut bytes 28 32 fits refl long in
    let from24 : drop 24 bytes ≡ at 24 ++ (at 28 ++ drop 32 bytes) = number_cut bytes 24 28 fits refl (omega arith)
    ∙ ap (λ (xs : List ℕ). at 24 ++ xs) from28 in
    let from20 : drop 20 bytes ≡ at 20 ++ (at 24 ++ (at 28 ++ drop 32 bytes)) = number_cut bytes 20 24 fits refl (omega arith)
    ∙ ap (λ (xs : List ℕ). at 20 ++ xs) from24 in
    let from16 = number_cut bytes 16 20 fits refl (omega arith) ∙ ap (λ (xs : List ℕ). at 16 ++ xs) from20 in
    let from12 = number_cut bytes 12 16 fits refl (omega arith) ∙ ap (λ (xs : List ℕ). at 12 ++ xs) from16 in
    let from8 = number_cut bytes 8 12 fits refl (omega arith) ∙ ap (λ (xs : List ℕ). at 8 ++ xs) from12 in
    let from4 = number_cut bytes 4 8 fits refl (omega arith) ∙ ap (λ (xs : List ℕ). at 4 ++ xs) from8 in
    sym (take-append-drop 4 bytes)
    ∙ ap (λ (xs : List ℕ). xs ++ drop 4 bytes) begins
    ∙ ap (λ (xs : List ℕ). magic format ++ xs) from4
    ∙ assembled (magic format) (at 4) (at 8) (at 12) (at 16) (at 20) (at 24) (at 28) (drop 32 bytes)
    ∙ ap (λ (fields : List ℕ). (magic format ++ at 4 ++ at 8 ++ at 12 ++ spelled_numbers fields) ++ drop 32 bytes) (sym (fields_are bytes))

-- and after it what the second format has more
field_cut : (format : Format) (bytes : List ℕ) → IsBytes bytes → header_length format ≤ length bytes
    → drop 32 bytes ≡ stored_field format (stored_count format bytes) ++ drop (header_length format) bytes
field_cut Hrv1 bytes fits long = refl
field_cut Hrv2 bytes fits long = number_cut bytes 32 36 fits refl long

header_of : Format → List ℕ → ℕ → ℕ → ℕ → List ℕ
header_of format bytes words data_bytes count = start_of format bytes words data_bytes ++ stored_field format count

header_cut : (format : Format) (bytes : List ℕ) → IsBytes bytes → IsFramed format bytes
    → bytes ≡ header_of format bytes (word_count bytes) (byte_count bytes) (stored_count format bytes) ++ drop (header_length format) bytes
unfolding header_of
header_cut format bytes fits framed =
    let least = least_header format in
    let header = framed.header in
    let start = start_of format bytes (word_count bytes) (byte_count bytes) in
    start_cut format bytes fits (omega arith) (magic_is format bytes framed.begins)
    ∙ ap (λ (xs : List ℕ). start ++ xs) (field_cut format bytes fits header)
    ∙ sym (append_assoc start (stored_field format (stored_count format bytes)) (drop (header_length format) bytes))

-- the words and the data after a header
behind_cut : (format : Format) (bytes : List ℕ) → IsBytes bytes → IsFramed format bytes
    → drop (header_length format) bytes ≡ spelled_numbers (numbers_in (word_count bytes) (drop (header_length format) bytes)) ++ stored_in format bytes
behind_cut format bytes fits framed =
    let from = header_length format in
    let whole = framed.whole in
    let words = numbers_cut (word_count bytes) (drop from bytes) (IsBytes-drop from bytes fits) (omega (arith, length-drop from bytes)) in
    let rest = drop_twice from (4 * word_count bytes) (stored_place format bytes) bytes refl ∙ sym (stored_at_end format bytes whole) in
    words ∙ ap (λ (xs : List ℕ). spelled_numbers (numbers_in (word_count bytes) (drop from bytes)) ++ xs) rest

spelled_contents : (format : Format) (bytes : List ℕ) → IsBytes bytes → IsFramed format bytes → stores_zero format (stored_in format bytes) ≡ false
    → bytes ≡ spelled format (contents_in format bytes)
unfolding header_of start_of spelled spelled_header spelled_start
spelled_contents format bytes fits framed ends =
    let words = numbers_in (word_count bytes) (drop (header_length format) bytes) in
    let front = stored_in format bytes in
    let front_len : length front ≡ stored_count format bytes = length-stored_in format bytes framed.whole in
    let fitting : length front ≤ byte_count bytes = omega (arith, framed.stored) in
    let word_len : length words ≡ word_count bytes = length-numbers_in (word_count bytes) (drop (header_length format) bytes) in
    let byte_len : length (padded (byte_count bytes) front) ≡ byte_count bytes = length-padded (byte_count bytes) front fitting in
    let kept : stored format (padded (byte_count bytes) front) ≡ front = padded_stored format bytes front front_len ends in
    header_cut format bytes fits framed
    ∙ ap (λ (xs : List ℕ). header_of format bytes (word_count bytes) (byte_count bytes) (stored_count format bytes) ++ xs) (behind_cut format bytes fits framed)
    ∙ sym (append_assoc (header_of format bytes (word_count bytes) (byte_count bytes) (stored_count format bytes)) (spelled_numbers words) front)
    ∙ ap (λ (n : ℕ). header_of format bytes n (byte_count bytes) (stored_count format bytes) ++ spelled_numbers words ++ front) (sym word_len)
    ∙ ap (λ (n : ℕ). header_of format bytes (length words) n (stored_count format bytes) ++ spelled_numbers words ++ front) (sym byte_len)
    ∙ ap (λ (n : ℕ). header_of format bytes (length words) (length (padded (byte_count bytes) front)) n ++ spelled_numbers words ++ front) (sym front_len)
    ∙ ap (λ (xs : List ℕ). header_of format bytes (length words) (length (padded (byte_count bytes) front)) (length xs) ++ spelled_numbers words ++ xs)
    (sym kept)

pub spelled_from_image_of : (bytes : List ℕ) (image : ImageContents) → IsBytes bytes → image_of bytes ≡ Ok image → Spells bytes image
spelled_from_image_of bytes image fits e =
    let read = framed_since bytes image e in
    record { format = read.format; bytes_are = spelled_contents read.format bytes fits read.framed read.ends ∙ ap (spelled read.format) read.contents }

-- ---- what is spelled so is read

judged_kept : (image : ImageContents) → IsImage image → judged image ≡ Ok image
judged_kept image rules = rw (rules.limits, rules.entry, rules.output) refl

pub image_of-spelled : (format : Format) (image : ImageContents) → IsImage image → image_of (spelled format image) ≡ Ok image
image_of-spelled format image rules =
    let sized = sizes_of image rules in
    let whole = spelled format image in
    let read = rw (append-nil whole) at (spelled_again format image [] rules) in
    let contents = rw (append-nil whole) at (contents_again format image [] rules) in
    let front = rw (append-nil whole) at (stored_again format image [] rules) in
    let len = length-spelled format image in
    let framed : IsFramed format whole = record {
      header = omega arith;
      begins = read.begins;
      words = omega (arith, read.words);
      data_bytes = omega (arith, read.data_bytes);
      stored = omega (arith, read.data_bytes, read.stored_bytes, length-stored format image.bytes);
      whole = omega (arith, read.words, read.stored_bytes);
    } in
    image_of_framed format whole framed
    ∙ ap (λ (b : Bool). unless_zero b (judged (contents_in format whole))) (ap (stores_zero format) front ∙ stored_ends format image.bytes)
    ∙ ap (unless_zero false) (ap judged contents ∙ judged_kept image rules)

-- ---- one spelling

pub same_from_spelled : (f g : Format) (a b : ImageContents) (x y : List ℕ) → IsImage a → IsImage b → spelled f a ++ x ≡ spelled g b ++ y
    → (f ≡ g) × (a ≡ b) × (x ≡ y)
same_from_spelled f g a b x y fits_a fits_b e =
    let found : Some f ≡ Some g = sym (spelled_again f a x fits_a).begins ∙ ap format_of e ∙ (spelled_again g b y fits_b).begins in
    let format : f ≡ g = cc found in
    let e' : spelled f a ++ x ≡ spelled f b ++ y = e ∙ ap (λ (h : Format). spelled h b ++ y) (sym format) in
    let same : a ≡ b = sym (contents_again f a x fits_a) ∙ ap (contents_in f) e' ∙ contents_again f b y fits_b in
    (format, same, append_cancel_left (spelled f a) x y (e' ∙ ap (λ (image : ImageContents). spelled f image ++ y) (sym same)))

-- ---- the same, of what a call answers

pub IfOk-found : (bytes : List ℕ) (answer : Result ImageContents LoadFault) → IsBytes bytes → Answers answer (image_of bytes) → IfOk answer (Spells bytes)
IfOk-found bytes (Ok image) fits e = spelled_from_image_of bytes image fits e
IfOk-found bytes (Err fault) fits e = tt

pub answers_again : (bytes : List ℕ) (answer : Result ImageContents LoadFault) (image : ImageContents) → Answers answer (image_of bytes) → IsImage image
    → Spells bytes image → Answers answer (Ok image)
answers_again bytes answer image e rules spells =
    subst (λ (wanted : Result ImageContents LoadFault). Answers answer wanted) (ap image_of spells.bytes_are ∙ image_of-spelled spells.format image rules) e

-- Appending one piece after the other, or all of them at once.
use Rattle.std.proofs.Common.{◌≡◌, ℕ, List, ◌++◌, length, append_assoc, refl}
use Rattle.std.specs.Int.{w32, to_le_bytes}
use Rattle.loader.specs.declared.formats.Format.{Format}
use Rattle.loader.specs.declared.formats.Format.TheVariants.{Hrv2}
use Rattle.loader.specs.Image.{ImageContents}
use Rattle.loader.specs.Spelling.{magic, spelled_numbers, output_fields, spelled, spelled_header, spelled_start, trimmed}

regrouped : (out m e t d f : List ℕ) → out ++ m ++ e ++ t ++ d ++ f ≡ out ++ (m ++ e ++ t ++ d ++ f)
regrouped out m e t d f = simp append_assoc

pub start_joined : (format : Format) (image : ImageContents) (out with_magic with_entry with_words with_bytes whole fields : List ℕ) (size : ℕ)
    → with_magic ≡ out ++ magic format → with_entry ≡ with_magic ++ to_le_bytes w32 image.entry
    → with_words ≡ with_entry ++ to_le_bytes w32 (length image.words) → with_bytes ≡ with_words ++ to_le_bytes w32 size
    → whole ≡ with_bytes ++ spelled_numbers fields → size ≡ length image.bytes → fields ≡ output_fields image.output
    → whole ≡ out ++ spelled_start format image
unfolding spelled_start
start_joined format image out with_magic with_entry with_words with_bytes whole fields size m e t d f size_is fields_are =
    rw (f, d, t, e, m, fields_are, size_is)
    (regrouped out (magic format) (to_le_bytes w32 image.entry) (to_le_bytes w32 (length image.words)) (to_le_bytes w32 (length image.bytes))
    (spelled_numbers (output_fields image.output)))

pub all_joined : (image : ImageContents) (out started counted with_words whole front : List ℕ) → front ≡ trimmed image.bytes
    → started ≡ out ++ spelled_start Hrv2 image → counted ≡ started ++ to_le_bytes w32 (length front) → with_words ≡ counted ++ spelled_numbers image.words
    → whole ≡ with_words ++ front → whole ≡ out ++ spelled Hrv2 image
unfolding spelled spelled_header
all_joined image out started counted with_words whole front is s c w f =
    rw (f, w, c, s, is)
    (pieces out (spelled_start Hrv2 image) (to_le_bytes w32 (length (trimmed image.bytes))) (spelled_numbers image.words) (trimmed image.bytes))
  where
    pieces : (out start count words front : List ℕ) → (((out ++ start) ++ count) ++ words) ++ front ≡ out ++ ((start ++ count) ++ words ++ front)
    pieces out start count words front = simp append_assoc

-- The listing of words, read as a text: it assembles to these words, and to nothing else.
-- This project's own.
use Rattle.std.specs.Prelude.{◌≡◌, ℕ, ◌<◌, ◌^◌, List, [], None, Ok}
use Rattle.std.specs.List.{All}
use Rattle.memory.specs.Access.{text_start}
use Rattle.loader.specs.Image.{ImageContents}
use Rattle.disassembler.specs.Listing.{addressed_listing, listing}
use Rattle.assembler.specs.Object.{Assembled, IsObject, assembled}

-- numbers of 32 bits
abbrev pub AreWords : List ℕ → Type 0
AreWords words = All (λ word. word < 2 ^ 32) words

-- these words and no data, with the entry at the first word
abbrev pub of_words : List ℕ → ImageContents
of_words words = record { entry = text_start; words = words; bytes = []; output = None }

-- The listing has no faulty line, and of all objects whose words are numbers of 32 bits it means that of these words alone.
pub record AssemblesBack (words : List ℕ) : Type 0 where
  pub meaning : Assembled
  pub assembled_is : assembled (listing words) ≡ Ok meaning
  pub is_object : IsObject (of_words words) meaning
  pub alone : (object : ImageContents) → AreWords object.words → IsObject object meaning → object ≡ of_words words

-- The same of the listing whose lines say where their words stand, whatever the first one's address.
pub record AssemblesBackFrom (start : ℕ) (words : List ℕ) : Type 0 where
  pub meaning : Assembled
  pub assembled_is : assembled (addressed_listing start words) ≡ Ok meaning
  pub is_object : IsObject (of_words words) meaning
  pub alone : (object : ImageContents) → AreWords object.words → IsObject object meaning → object ≡ of_words words

-- What the bytes of an image mean when they are listed: a line for each word of text, or the refusal of the image.
-- This project's own.
use Rattle.std.specs.Prelude.{◌≡◌, ℕ, List, Option, Some, None, Result, Ok, Err}
use Rattle.loader.specs.Image.{ImageContents}
use Rattle.loader.specs.Spelling.{Spells, image_of}
use Rattle.loader.specs.declared.faults.LoadFault.{LoadFault}
use Rattle.memory.specs.Access.{text_start}
use Rattle.disassembler.specs.Listing.{addressed_listing, listing}
use Rattle.hrv_engines.specs.declared.faults.Refusal.{Refusal}
use Rattle.hrv_engines.specs.declared.faults.Refusal.TheVariants.{Load}

-- The bytes spell contents, of which the text lists the words.
pub record IsListing (image text : List ℕ) : Type 0 where
  pub contents : ImageContents
  pub is_read : image_of image ≡ Ok contents
  pub is_spelled : Spells image contents
  pub is_listed : text ≡ listing contents.words

-- The same, where each line says the address of its word.
pub record IsAddressedListing (image text : List ℕ) : Type 0 where
  pub contents : ImageContents
  pub is_read : image_of image ≡ Ok contents
  pub is_spelled : Spells image contents
  pub is_listed : text ≡ addressed_listing text_start contents.words

abbrev pub refused_by : Result ImageContents LoadFault → Option Refusal
refused_by (Ok contents) = None
refused_by (Err fault) = Some (Load fault)

-- why bytes are refused as an image
abbrev pub IsRefusedImage : List ℕ → Refusal → Type 0
IsRefusedImage image refusal = refused_by (image_of image) ≡ Some refusal

-- What the bytes of an image mean when it is renewed: the bytes that spell the same contents in the second format, or the refusal of
-- the image. This project's own.
use Rattle.std.specs.Prelude.{◌≡◌, ℕ, List, Ok}
use Rattle.loader.specs.Image.{ImageContents, IsImage}
use Rattle.loader.specs.Spelling.{image_of, spelled}
use Rattle.loader.specs.declared.formats.Format.TheVariants.{Hrv2}

-- The bytes spell contents in either format, which the new bytes spell in the second.
pub record IsRenewal (image bytes : List ℕ) : Type 0 where
  pub contents : ImageContents
  pub is_read : image_of image ≡ Ok contents
  pub is_image : IsImage contents
  pub is_spelled : bytes ≡ spelled Hrv2 contents

-- Images by their parts, without the zeros at the end of their data.
use Rattle.std.specs.Prelude.{ℕ, ◌≤◌, length}
use Rattle.memory.specs.Access.{most_words, most_bytes}
use Rattle.loader.specs.declared.parts.ImageParts.{ImageParts}
use Rattle.loader.specs.Image.{ImageContents}
use Rattle.loader.specs.Spelling.{padded}

-- what an image of such parts holds
abbrev pub image_with : ImageParts → ImageContents
image_with parts = record {
  entry = parts.entry;
  words = parts.words.now;
  bytes = padded parts.size parts.front.now;
  output = parts.output;
}

-- text and data are within the machine's limits, and there are no more first bytes than bytes
pub record AreParts (parts : ImageParts) : Type 0 where
  pub words : length parts.words.now ≤ most_words
  pub size : parts.size ≤ most_bytes
  pub front : length parts.front.now ≤ parts.size

-- What an image holds, and the rules that it keeps: where a machine starts, its text and data, and which
-- part of the data, if any, is a picture. The rules are this project's own.
use Rattle.std.specs.Prelude.{ℕ, ◌+◌, ◌-◌, ◌*◌, ◌%◌, ◌^◌, ◌<◌, ◌==◌, ◌&&◌, Bool, true, not, nat_le, if◌then◌else◌, IsTrue, List, length, Option, Some, None}
use Rattle.std.specs.Prelude.{IfSome, Result, Ok, Err}
use Rattle.std.specs.List.{All}
use Rattle.memory.specs.Access.{is_text_word, data_start, most_words, most_bytes}
use Rattle.loader.specs.declared.outputs.Output.{Output}
use Rattle.loader.specs.declared.faults.LoadFault.{LoadFault}
use Rattle.loader.specs.declared.faults.LoadFault.TheVariants.{OverLimit, Entry, OutputRange}

pub record ImageContents : Type 0 where
  -- the address at which every hart starts
  pub entry : ℕ
  -- text: numbers of 32 bits
  pub words : List ℕ
  -- data: numbers of 8 bits
  pub bytes : List ℕ
  pub output : Option Output

-- a picture has at most this many pixels
abbrev pub most_pixels : ℕ
most_pixels = 1048576

-- text and data are within the machine's limits
abbrev pub is_within_limits : ImageContents → Bool
is_within_limits image = nat_le (length image.words) most_words && nat_le (length image.bytes) most_bytes

-- the entry is the address of a word, where text has this many words
abbrev pub is_entry : ℕ → ℕ → Bool
is_entry words entry = is_text_word words entry

-- rows of whole words, at least one and each of at least one pixel, that don't overlap
abbrev pub is_picture : Output → Bool
is_picture output =
    output.address % 4 == 0 && output.stride % 4 == 0 && nat_le 1 output.width && nat_le 1 output.height
    && nat_le (output.width * output.height) most_pixels && nat_le (4 * output.width) output.stride

-- the address after the last pixel of the last row; a pixel has 4 bytes
abbrev pub end_of : Output → ℕ
end_of output = output.address + (output.height - 1) * output.stride + 4 * output.width

-- a picture that lies in data, where data has this many bytes
abbrev pub is_output : ℕ → Output → Bool
is_output bytes output =
    is_picture output && nat_le data_start output.address && nat_le (end_of output) (data_start + bytes)

-- the picture, if there is one, lies in data
abbrev pub is_output_or_none : ℕ → Option Output → Bool
is_output_or_none bytes None = true
is_output_or_none bytes (Some output) = is_output bytes output

-- the contents, or the first rule that they break
abbrev pub judged : ImageContents → Result ImageContents LoadFault
judged image =
    if not (is_within_limits image) then Err OverLimit
    else if not (is_entry (length image.words) image.entry) then Err Entry
    else if not (is_output_or_none (length image.bytes) image.output) then Err OutputRange
    else Ok image

-- each field is a number of 32 bits
pub record IsInWords (output : Output) : Type 0 where
  pub address : output.address < 2 ^ 32
  pub width : output.width < 2 ^ 32
  pub height : output.height < 2 ^ 32
  pub stride : output.stride < 2 ^ 32

-- contents that keep the rules, of numbers that fit: exactly what has a spelling
pub record IsImage (image : ImageContents) : Type 0 where
  pub limits : IsTrue (is_within_limits image)
  pub entry : IsTrue (is_entry (length image.words) image.entry)
  pub output : IsTrue (is_output_or_none (length image.bytes) image.output)
  pub words_fit : All (λ word. word < 2 ^ 32) image.words
  pub bytes_fit : All (λ byte. byte < 256) image.bytes
  pub output_fits : IfSome image.output IsInWords

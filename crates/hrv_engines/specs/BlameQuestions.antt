-- What the words of a question ask about who wrote data: one word of data, or all pixels of the output.
-- This project's own.
use Rattle.std.specs.Prelude.{ℕ, ◌+◌, ◌%◌, ◌≤◌, ◌==◌, ◌&&◌, IsTrue, Bool, true, false, nat_le, nat_lt, if◌then◌else◌, List, length, Option, Some, None}
use Rattle.std.specs.Prelude.{option_map, Result, Ok, Err}
use Rattle.memory.specs.Access.{data_start, most_bytes}
use Rattle.loader.specs.Image.{ImageContents, is_output}
use Rattle.loader.specs.declared.outputs.Output.{Output}
use Rattle.debugger_blame.specs.declared.marks.Marking.{Marking}
use Rattle.debugger_blame.specs.declared.marks.Marking.TheVariants.{Harts, Turns}
use Rattle.hrv_engines.specs.Commands.{number_of}
use Rattle.hrv_engines.specs.Dump.{pixel_address}
use Rattle.hrv_engines.specs.declared.questions.BlameFault.{BlameFault}
use Rattle.hrv_engines.specs.declared.questions.BlameFault.TheVariants.{Words, Number, NoOutput, OutsideOutput, NoDataWord}
use Rattle.hrv_engines.specs.declared.questions.Question.{Question}
use Rattle.hrv_engines.specs.declared.questions.BlameQuestion.{BlameQuestion}
use Rattle.hrv_engines.specs.declared.questions.BlameQuestion.TheVariants.{Word, Pixels}

-- the words that are given: the numbers of a pixel, an address, and whether turns are told of in place of harts
pub record Given : Type 0 where
  pub x : Option (List ℕ)
  pub y : Option (List ℕ)
  pub address : Option (List ℕ)
  pub with_turns : Bool

abbrev pub given_by : Question → Given
given_by question = record {
  x = option_map (λ s. s.now) question.x;
  y = option_map (λ s. s.now) question.y;
  address = option_map (λ s. s.now) question.address;
  with_turns = question.with_turns;
}

abbrev pub marking_of : Bool → Marking
marking_of true = Turns
marking_of false = Harts

-- all pixels of an output
abbrev pub pixels_of : Option Output → Bool → Result BlameQuestion BlameFault
pixels_of None with_turns = Err NoOutput
pixels_of (Some output) with_turns = Ok (Pixels output (marking_of with_turns))

-- a pixel of an output
abbrev pub pixel_in : Option Output → ℕ → ℕ → Result BlameQuestion BlameFault
pixel_in None x y = Err NoOutput
pixel_in (Some output) x y =
    if nat_lt x output.width && nat_lt y output.height then Ok (Word (pixel_address output x y)) else Err OutsideOutput

abbrev pub pixel_of : Option Output → Option ℕ → Option ℕ → Result BlameQuestion BlameFault
pixel_of output None y = Err Number
pixel_of output (Some x) None = Err Number
pixel_of output (Some x) (Some y) = pixel_in output x y

-- a word of data, of which there are this many bytes
abbrev pub is_data_word : ℕ → ℕ → Bool
is_data_word bytes address = address % 4 == 0 && nat_le data_start address && nat_le (address + 4) (data_start + bytes)

abbrev pub word_of : ℕ → Option ℕ → Result BlameQuestion BlameFault
word_of bytes None = Err Number
word_of bytes (Some address) = if is_data_word bytes address then Ok (Word address) else Err NoDataWord

-- which words go together: none of them, or `--turns`; both numbers of a pixel; an address
abbrev pub asked_of : ImageContents → Option (List ℕ) → Option (List ℕ) → Option (List ℕ) → Bool → Result BlameQuestion BlameFault
asked_of image None None None with_turns = pixels_of image.output with_turns
asked_of image (Some x) (Some y) None false = pixel_of image.output (number_of x) (number_of y)
asked_of image None None (Some address) false = word_of (length image.bytes) (number_of address)
asked_of image x y address with_turns = Err Words

abbrev pub wanted_of : ImageContents → Given → Result BlameQuestion BlameFault
wanted_of image given = asked_of image given.x given.y given.address given.with_turns

-- an output lies in data, of which there are this many bytes
pub record LiesInData (output : Output) : Type 0 where
  pub bytes : ℕ
  pub few : bytes ≤ most_bytes
  pub fits : IsTrue (is_output bytes output)

-- the output whose pixels are asked for does
abbrev pub PixelsLie : BlameQuestion → Type 0
PixelsLie (Word address) = Unit {0}
PixelsLie (Pixels output marking) = LiesInData output

-- the number of a refusal
abbrev pub fault_number : BlameFault → ℕ
fault_number Words = 1
fault_number Number = 2
fault_number NoOutput = 3
fault_number OutsideOutput = 4
fault_number NoDataWord = 5

-- What a text of a picture is read as, or its first fault. The text is judged from the front, and the
-- first place that is faulty decides. A number is judged as a whole, where it begins: its digits are
-- all that stand there, and they are judged before the byte after them.
-- The format is this project's own.
use Rattle.std.specs.Prelude.{◌≡◌, ℕ, zero, suc, ◌-◌, ◌*◌, ◌%◌, ◌^◌, ◌==◌, ◌&&◌, not, Bool, true, false, nat_eq, nat_lt, nat_le, if◌then◌else◌, List, [], ◌∷◌}
use Rattle.std.specs.Prelude.{length, take, drop, codes, Result, Ok, Err, ◌++◌, map}
use Rattle.std.specs.List.{prefix_len, starts_with, join_with_byte}
use Rattle.std.specs.Fmt.{decimal}
use Rattle.line_text.specs.Lines.{is_digit, decimal_number, ◌>>=◌}
use Rattle.picture.specs.declared.faults.PictureFault.{PictureFault}
use Rattle.picture.specs.declared.faults.PictureFault.TheVariants.{Syntax, Extents, Number}
use Rattle.halide_pipeline.specs.WellFormed.{is_width, is_height}
use Rattle.halide_pipeline.specs.Contents.{PictureContents}

-- ---- faults

abbrev pub number_of : PictureFault → ℕ
number_of Syntax = 1
number_of Extents = 2
number_of Number = 3

-- ---- parts of a text

-- a value and what is after it, or a fault
abbrev pub Read : Type 0 → Type 0
Read A = Result (A × List ℕ) PictureFault

-- what is after this word
unfoldable pub behind : List ℕ → List ℕ → Result (List ℕ) PictureFault
behind word text = if starts_with nat_eq text word then Ok (drop (length word) text) else Err Syntax

-- whether a sign is before a number, and its digits
pub record Numeral : Type 0 where
  pub negative : Bool
  pub digits : List ℕ

-- digits after a sign or none: no leading zero, and no `-0`
abbrev pub is_plain : Bool → List ℕ → Bool
is_plain negative [] = false
is_plain negative (first ∷ []) = not (negative && first == 48)
is_plain negative (first ∷ second ∷ digits) = not (first == 48)

-- the digits at the front
abbrev pub digits_at : List ℕ → List ℕ
digits_at text = take (prefix_len is_digit text) text

unfoldable pub plain_at : Bool → List ℕ → Read Numeral
plain_at negative text =
    if is_plain negative (digits_at text)
    then Ok (record { negative = negative; digits = digits_at text }, drop (prefix_len is_digit text) text)
    else Err Syntax

-- the number at the front
unfoldable pub numeral_at : List ℕ → Read Numeral
numeral_at [] = Err Syntax
numeral_at (byte ∷ text) = if byte == 45 then plain_at true text else plain_at false (byte ∷ text)

-- ---- the heading

-- a width or a height, where a number without sign passes the test
abbrev pub extent_of : (ℕ → Bool) → Numeral → Result ℕ PictureFault
extent_of test numeral = if not numeral.negative && test (decimal_number numeral.digits) then Ok (decimal_number numeral.digits) else Err Extents

unfoldable pub extent_at : (ℕ → Bool) → List ℕ → Read ℕ
extent_at test text = numeral_at text >>= λ numeral. extent_of test numeral.0 >>= λ extent. Ok (extent, numeral.1)

-- `picture W H`, as width and height
unfoldable pub heading_at : List ℕ → Read (ℕ × ℕ)
heading_at text =
    behind (codes "picture ") text >>= λ from_width.
    extent_at is_width from_width >>= λ width.
    behind (codes " ") width.1 >>= λ from_height.
    extent_at (is_height width.0) from_height >>= λ height.
    behind (codes "\n") height.1 >>= λ rest.
    Ok ((width.0, height.0), rest)

-- ---- pixels

-- the pixel of a signed number of 32 bits
abbrev pub pixel_of : Numeral → Result ℕ PictureFault
pixel_of numeral =
    if numeral.negative
    then (if nat_le (decimal_number numeral.digits) (2 ^ 31) then Ok ((2 ^ 32 - decimal_number numeral.digits) % 2 ^ 32) else Err Number)
    else (if nat_lt (decimal_number numeral.digits) (2 ^ 31) then Ok (decimal_number numeral.digits) else Err Number)

-- a pixel, and this word after it
unfoldable pub pixel_then : List ℕ → List ℕ → Read ℕ
pixel_then word text =
    numeral_at text >>= λ numeral.
    pixel_of numeral.0 >>= λ pixel.
    behind word numeral.1 >>= λ rest.
    Ok (pixel, rest)

-- what is after a pixel that this many follow: a line feed after the last of a row
abbrev pub separator : ℕ → ℕ → List ℕ
separator width left = if left % width == 0 then codes "\n" else codes " "

-- this many pixels, in rows of this width
unfoldable pub pixels_at : ℕ → ℕ → List ℕ → Read (List ℕ)
pixels_at width zero text = Ok ([], text)
pixels_at width (suc left) text =
    pixel_then (separator width left) text >>= λ first.
    pixels_at width left first.1 >>= λ others.
    Ok (first.0 ∷ others.0, others.1)

-- ---- the whole

-- the picture at the front
unfoldable pub picture_at : List ℕ → Read PictureContents
picture_at text =
    heading_at text >>= λ heading.
    pixels_at heading.0.0 (heading.0.0 * heading.0.1) heading.1 >>= λ pixels.
    Ok (record { width = heading.0.0; height = heading.0.1; pixels = pixels.0 }, pixels.1)

-- nothing is after the picture
unfoldable pub ended : PictureContents → List ℕ → Result PictureContents PictureFault
ended picture [] = Ok picture
ended picture (byte ∷ text) = Err Syntax

-- the picture that a text is read as, or its first fault
unfoldable pub picture_of : List ℕ → Result PictureContents PictureFault
picture_of text = picture_at text >>= λ picture. ended picture.0 picture.1

-- ---- what a call answers

-- the answer, seen by view, is the wanted one
abbrev pub Shows : {A B F : Type 0} → (A → B) → Result A F → Result B F → Type 0
Shows view (Ok value) wanted = wanted ≡ Ok (view value)
Shows view (Err fault) wanted = wanted ≡ Err fault

-- ---- The text of a picture: `picture W H`, and a line for each row of pixels. A picture has this one
-- spelling.
-- The format is this project's own.

-- the signed number of a pixel in decimal digits, after a `-` where it is below 0
unfoldable pub number_text : ℕ → List ℕ
number_text pixel = if nat_lt pixel (2 ^ 31) then decimal pixel else codes "-" ++ decimal (2 ^ 32 - pixel)

-- the numbers of a row, joined by one space, and a line feed
abbrev pub row_text : List ℕ → List ℕ
row_text row = join_with_byte 32 (map number_text row) ++ codes "\n"

-- this many rows, each of this width
unfoldable pub rows_text : ℕ → ℕ → List ℕ → List ℕ
rows_text width zero pixels = []
rows_text width (suc rows) pixels = row_text (take width pixels) ++ rows_text width rows (drop width pixels)

-- `picture W H`
unfoldable pub heading : ℕ → ℕ → List ℕ
heading width height = codes "picture " ++ decimal width ++ codes " " ++ decimal height ++ codes "\n"

unfoldable pub spelled : PictureContents → List ℕ
spelled picture = heading picture.width picture.height ++ rows_text picture.width picture.height picture.pixels

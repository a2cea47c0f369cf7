-- What a refusal means, in lines that are chosen from the table.
-- This project's own.
use Rattle.std.specs.Prelude.{ℕ, ◌==◌, ◌&&◌, ◌||◌, not, Bool, false, if◌then◌else◌, List, [], ◌∷◌, ◌++◌, codes}
use Rattle.std.specs.List.{list_any}
use Rattle.std.specs.Str.{bytes_eq}
use Rattle.line_text.specs.Lines.{lines_of}
use Rattle.hrv_refusals.specs.declared.table.TheConstants.{REFUSALS}

-- ---- headings

-- the code after a blank (32), where there is one
abbrev pub behind_blank : List ℕ → List ℕ
behind_blank [] = []
behind_blank (digit ∷ digits) = 32 ∷ digit ∷ digits

abbrev pub name : List ℕ → List ℕ → List ℕ
name family code = family ++ behind_blank code

abbrev pub is_indented : List ℕ → Bool
is_indented [] = false
is_indented (byte ∷ line) = byte == 32

abbrev pub is_heading : List ℕ → List ℕ → List ℕ → Bool
is_heading family code line = not (is_indented line) && bytes_eq line (name family code)

-- there is a refusal of this family and code, or with no code a family of this name
unfoldable pub is_explained : List ℕ → List ℕ → Bool
is_explained family code = list_any (is_heading family code) (lines_of REFUSALS)

-- ---- lines

abbrev pub newline : List ℕ
newline = 10 ∷ []

abbrev pub line_if : Bool → List ℕ → List ℕ
line_if is_chosen line = if is_chosen then line ++ newline else []

-- A line is what is in front of the first blank: the family alone, of a family and a code in one word.
unfoldable pub is_front : List ℕ → List ℕ → Bool
is_front [] line = bytes_eq line []
is_front (byte ∷ word) [] = byte == 32
is_front (byte ∷ word) (first ∷ line) = not (byte == 32) && (first == byte && is_front word line)

-- the heading is that of the refusal, or of its family alone
abbrev pub chooses : List ℕ → List ℕ → List ℕ → Bool
chooses family code line = not (is_indented line) && is_front family line || is_heading family code line

-- the indented lines below such headings
unfoldable pub chosen : Bool → List ℕ → List ℕ → List (List ℕ) → List ℕ
chosen is_chosen family code [] = []
chosen is_chosen family code (line ∷ lines) =
    if is_indented line then line_if is_chosen line ++ chosen is_chosen family code lines
    else chosen (chooses family code line) family code lines

-- the heading of a family alone: no blank (32) is in it
abbrev pub is_family : List ℕ → Bool
is_family line = not (list_any (λ byte. byte == 32) line)

-- all families, a line each
unfoldable pub families : List (List ℕ) → List ℕ
families [] = []
families (line ∷ lines) = line_if (is_family line) line ++ families lines

-- how the refusal is printed, what its family says, and each cause with what helps
unfoldable pub refusal : List ℕ → List ℕ → List ℕ
refusal family code = codes "refused " ++ name family code ++ newline ++ chosen false family code (lines_of REFUSALS)

-- without a family and a code, all families
unfoldable pub explanation : List ℕ → List ℕ → List ℕ
explanation [] [] = families (lines_of REFUSALS)
explanation family code = refusal family code

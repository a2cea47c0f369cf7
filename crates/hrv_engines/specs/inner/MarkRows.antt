-- Rows of marks that stand in a list as the rows of an output stand in data, a mark a word.
use Rattle.std.specs.Prelude.{ℕ, zero, suc, ◌+◌, ◌*◌, ◌/◌, List, [], ◌∷◌, ◌++◌, slice_index}
use Rattle.loader.specs.declared.outputs.Output.{Output}
use Rattle.picture.specs.Reading as spelling

abbrev pub mark_in : List ℕ → Output → ℕ → ℕ → ℕ
mark_in marks output x y = slice_index marks (y * (output.stride / 4) + x)

-- the first this many marks of a row
unfoldable pub row_in : List ℕ → Output → ℕ → ℕ → List ℕ
row_in marks output y zero = []
row_in marks output y (suc x) = row_in marks output y x ++ mark_in marks output x y ∷ []

-- the first this many rows, as a picture's text has them
unfoldable pub rows_in : List ℕ → Output → ℕ → List ℕ
rows_in marks output zero = []
rows_in marks output (suc y) = rows_in marks output y ++ spelling.row_text (row_in marks output y output.width)

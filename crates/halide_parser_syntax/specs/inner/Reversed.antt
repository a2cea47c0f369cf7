-- A list from its end.
-- This project's own.
use Rattle.std.specs.Prelude.{List, [], ◌∷◌, ◌++◌}

-- the last first
abbrev pub on_top : {A : Type 0} → List A → List A
on_top [] = []
on_top (item ∷ items) = on_top items ++ item ∷ []

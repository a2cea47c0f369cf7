-- How many line feeds a text has. This project's own.
use Rattle.std.specs.Prelude.{ℕ, suc, ◌==◌, if◌then◌else◌, List, [], ◌∷◌}

abbrev pub line_feeds : List ℕ → ℕ
line_feeds [] = 0
line_feeds (byte ∷ text) = if byte == 10 then suc (line_feeds text) else line_feeds text

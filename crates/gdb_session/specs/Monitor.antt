-- The one line of gdb's `monitor` that is known, `goto PLACE`, as the digits of a `qRcmd` packet. This project's own.
use Rattle.std.specs.Prelude.{ℕ, ◌+◌, ◌-◌, ◌*◌, ◌^◌, ◌==◌, ◌&&◌, nat_eq, nat_le, min, if◌then◌else◌, Bool, List, [], ◌∷◌, drop, codes, Option, Some, None}
use Rattle.std.specs.List.{starts_with}

-- No log has this many turns. A number that is larger counts as this one.
abbrev pub most_place : ℕ
most_place = 2 ^ 60

-- `3` (51) and a decimal digit
abbrev pub is_pair : ℕ → ℕ → Bool
is_pair three digit = three == 51 && nat_le 48 digit && nat_le digit 57

-- The number that decimal digits spell, after those that spelled this one. Each is spelled by `3` (51) and itself.
unfoldable pub number_from : ℕ → List ℕ → Option ℕ
number_from number [] = Some number
number_from number (three ∷ []) = None
number_from number (three ∷ digit ∷ digits) =
    if is_pair three digit then number_from (min (number * 10 + (digit - 48)) most_place) digits else None

abbrev pub number_in : List ℕ → Option ℕ
number_in [] = None
number_in (first ∷ digits) = number_from 0 (first ∷ digits)

-- the place after `goto ` and a blank
unfoldable pub place_in : List ℕ → Option ℕ
place_in digits = if starts_with nat_eq digits (codes "676f746f20") then number_in (drop 10 digits) else None

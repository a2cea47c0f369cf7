-- Numbers with a sign as natural ones: ends of ranges are kept with 2^62 added.
-- This project's own.
use Rattle.std.specs.Prelude.{ℕ, ◌+◌, ◌-◌, ◌%◌, ◌^◌}

-- the end 0
abbrev pub origin : ℕ
origin = 2 ^ 62

-- the ends of the signed words
abbrev pub least : ℕ
least = 2 ^ 62 - 2 ^ 31

abbrev pub greatest : ℕ
greatest = 2 ^ 62 + 2 ^ 31 - 1

-- where a word is among the ends
abbrev pub spot : ℕ → ℕ
spot x = (x + 2 ^ 31) % 2 ^ 32 + least

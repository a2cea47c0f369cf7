-- The labels of a map, which has them by their names, in the order in which they were added.
-- This project's own.
use Rattle.std.specs.Prelude.{ℕ, ◌<◌, nat_lt, List, [], ◌∷◌, map, length, if◌then◌else◌, Vec}
use Rattle.std.specs.declared.cmp.Ordering.{Ordering}
use Rattle.std.specs.Ordering.{nat_cmp}
use Rattle.std.specs.Cmp.Lexicographic.{slice_cmp}
use Rattle.std.specs.List.{AllByRecursion}
use Rattle.std.specs.List.Sorted.{IsStrictlySortedBy}
use Rattle.std.specs.Map.{keys_of}
use Rattle.std.specs.declared.alloc.Global.{Global}
use Rattle.assembler.specs.declared.labels.Numbered.{Numbered}
use Rattle.assembler.specs.Names.{Named}

-- the entries of the map
abbrev pub Entries : Type 0
Entries = List (Vec ℕ Global × Numbered)

-- names with their labels, each with its number
abbrev pub Places : Type 0
Places = List (ℕ × Named)

-- one more, before the first that has a greater number
abbrev pub among : ℕ → Named → Places → Places
among number named [] = (number, named) ∷ []
among number named (other ∷ others) =
    if nat_lt number other.0 then (number, named) ∷ other ∷ others else other ∷ among number named others

abbrev pub in_order : Entries → Places
in_order [] = []
in_order (entry ∷ entries) = among entry.1.number (entry.0.items, entry.1.label) (in_order entries)

abbrev pub without_numbers : Places → List Named
without_numbers places = map (λ place. place.1) places

-- what contracts see
abbrev pub pairs_of : Entries → List Named
pairs_of entries = without_numbers (in_order entries)

-- the order of names
abbrev pub order : Vec ℕ Global → Vec ℕ Global → Ordering
order name other = slice_cmp nat_cmp name.items other.items

abbrev pub AreBelow : ℕ → Entries → Type 0
AreBelow count entries = AllByRecursion (λ entry. entry.1.number < count) entries

-- no name occurs twice, and each number is below how many there are
abbrev pub AreNumbered : Entries → Type 0
AreNumbered entries = IsStrictlySortedBy order (keys_of entries) × AreBelow (length entries) entries

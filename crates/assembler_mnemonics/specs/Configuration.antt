-- How a vtype is written by names: the element's width, how many registers are grouped, and what happens to
-- elements after the last and to those that the mask leaves out.
-- RISC-V Vector Extension 1.0, sections 3.4 and 6.1; which codes have names is this project's own.
use Rattle.std.specs.Prelude.{ℕ, ◌+◌, ◌*◌, ◌/◌, ◌%◌, ◌&&◌, Bool, nat_lt, if◌then◌else◌, List, [], ◌∷◌, codes, bytes_eq, slice_index_or, Option, Some, None}
use Rattle.std.specs.Prelude.{option_map}
use Rattle.std.specs.Option.{option_and_then}

abbrev pub width_names : List (List ℕ)
width_names = codes "e8" ∷ codes "e16" ∷ codes "e32" ∷ []

abbrev pub group_names : List (List ℕ)
group_names = codes "m1" ∷ codes "m2" ∷ codes "m4" ∷ []

abbrev pub tail_names : List (List ℕ)
tail_names = codes "tu" ∷ codes "ta" ∷ []

abbrev pub mask_names : List (List ℕ)
mask_names = codes "mu" ∷ codes "ma" ∷ []

-- the vtype of codes: vlmul in bits 2 to 0, vsew in bits 5 to 3, vta in bit 6, vma in bit 7
abbrev pub vtype_of : ℕ → ℕ → ℕ → ℕ → ℕ
vtype_of width group tail mask = group + 8 * width + 64 * tail + 128 * mask

-- its codes
abbrev pub group_code : ℕ → ℕ
group_code vtype = vtype % 8

abbrev pub width_code : ℕ → ℕ
width_code vtype = vtype / 8 % 8

abbrev pub tail_code : ℕ → ℕ
tail_code vtype = vtype / 64 % 2

abbrev pub mask_code : ℕ → ℕ
mask_code vtype = vtype / 128 % 2

-- whether it is written by names
abbrev pub has_names : ℕ → Bool
has_names vtype = nat_lt vtype 256 && nat_lt (group_code vtype) 3 && nat_lt (width_code vtype) 3

-- the place of a name in a list of names, from 0 on
unfoldable pub place_in : List (List ℕ) → List ℕ → Option ℕ
place_in [] name = None
place_in (first ∷ names) name = if bytes_eq first name then Some 0 else option_map (λ place. place + 1) (place_in names name)

-- the vtype of four names
unfoldable pub vtype_named : List ℕ → List ℕ → List ℕ → List ℕ → Option ℕ
vtype_named width group tail mask =
    option_and_then (λ w. option_and_then (λ g. option_and_then (λ t. option_map (λ m. vtype_of w g t m) (place_in mask_names mask)) (place_in tail_names tail))
    (place_in group_names group)) (place_in width_names width)

-- the name in a place of a list of names
abbrev pub name_at : List (List ℕ) → ℕ → List ℕ
name_at names place = slice_index_or names place []

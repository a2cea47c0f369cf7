-- What loops inside add, and what those outside do, are what all do.
use Rattle.std.proofs.Common.{◌≡◌, ℕ, ◌+◌, ◌*◌, Bool, true, false, List, [], ◌∷◌, refl, arith}
use Rattle.std.specs.Prelude.{not, nat_lt, if◌then◌else◌}
use Rattle.bounds_ranges.specs.declared.bases.Multiple.{Multiple}
use Rattle.bounds_ranges.specs.Ranges.{zero_multiple, more_sum, less_sum}
use Rattle.bounds.specs.Views.{chosen, inner_part, outer_part}

less_head : (test : Bool) (m : Multiple) (v a b c : ℕ) → a + b ≡ c
    → ((if test then m else zero_multiple).less * v + a) + ((if not test then m else zero_multiple).less * v + b) ≡ m.less * v + c
less_head true m v a b c e = omega (arith, e)
less_head false m v a b c e = omega (arith, e)

less_chosen : (test : ℕ → Bool) (at : ℕ) (base : List Multiple) (values : List ℕ)
    → less_sum (chosen test at base) values + less_sum (chosen (λ n. not (test n)) at base) values ≡ less_sum base values
less_chosen test at [] values = refl
less_chosen test at (m ∷ ms) [] = refl
less_chosen test at (m ∷ ms) (v ∷ values) =
    less_head (test at) m v (less_sum (chosen test (at + 1) ms) values) (less_sum (chosen (λ n. not (test n)) (at + 1) ms) values) (less_sum ms values)
    (less_chosen test (at + 1) ms values)

more_head : (test : Bool) (m : Multiple) (v a b c : ℕ) → a + b ≡ c
    → ((if test then m else zero_multiple).more * v + a) + ((if not test then m else zero_multiple).more * v + b) ≡ m.more * v + c
more_head true m v a b c e = omega (arith, e)
more_head false m v a b c e = omega (arith, e)

more_chosen : (test : ℕ → Bool) (at : ℕ) (base : List Multiple) (values : List ℕ)
    → more_sum (chosen test at base) values + more_sum (chosen (λ n. not (test n)) at base) values ≡ more_sum base values
more_chosen test at [] values = refl
more_chosen test at (m ∷ ms) [] = refl
more_chosen test at (m ∷ ms) (v ∷ values) =
    more_head (test at) m v (more_sum (chosen test (at + 1) ms) values) (more_sum (chosen (λ n. not (test n)) (at + 1) ms) values) (more_sum ms values)
    (more_chosen test (at + 1) ms values)

pub less_parts : (inner : ℕ) (base : List Multiple) (values : List ℕ) → less_sum (inner_part inner base) values + less_sum (outer_part inner base) values
    ≡ less_sum base values
less_parts inner base values = less_chosen (λ at. nat_lt at inner) 0 base values

pub more_parts : (inner : ℕ) (base : List Multiple) (values : List ℕ) → more_sum (inner_part inner base) values + more_sum (outer_part inner base) values
    ≡ more_sum base values
more_parts inner base values = more_chosen (λ at. nat_lt at inner) 0 base values

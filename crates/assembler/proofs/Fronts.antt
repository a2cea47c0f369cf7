-- Lists and their first elements.
use Rattle.std.proofs.Common.{◌≡◌, ◌-◌, ◌<◌, ◌≤◌, List, [], ◌∷◌, length, take, drop, refl, arith}
use Rattle.std.proofs.Math.ListN.{get_or}
use Rattle.std.proofs.lemmas.List.{take_all}

pub front_and_rest : {X : Type 0} (xs : List X) (d : X) → 1 ≤ length xs → xs ≡ get_or xs 0 d ∷ take (length xs - 1) (drop 1 xs)
front_and_rest [] d some = absurd (omega (arith, some))
front_and_rest (x ∷ xs) d some =
    let e : length (x ∷ xs) - 1 ≡ length xs = omega arith in
    rw (e, take_all (length xs) xs (omega arith)) refl

pub no_front : {X : Type 0} (xs : List X) → length xs < 1 → xs ≡ []
no_front [] few = refl
no_front (x ∷ xs) few = absurd (omega (arith, few))

pub named_front : {X : Type 0} (xs : List X) (x : X) → x ≡ get_or xs 0 x → 1 ≤ length xs → xs ≡ x ∷ take (length xs - 1) (drop 1 xs)
named_front [] x is some = absurd (omega (arith, some))
named_front (y ∷ xs) x is some =
    let e : length (y ∷ xs) - 1 ≡ length xs = omega arith in
    let same : x ≡ y = is in
    rw (e, take_all (length xs) xs (omega arith), same) refl

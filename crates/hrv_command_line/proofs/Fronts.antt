-- Lists by their first item.
use Rattle.std.proofs.Common.{◌≡◌, ◌≤◌, ◌<◌, ◌-◌, arith, refl, List, [], ◌∷◌, length, get_or, take, drop}
use Rattle.std.proofs.Common.{take_all}

pub front_and_rest : {X : Type 0} (xs : List X) (d : X) → 1 ≤ length xs → xs ≡ get_or xs 0 d ∷ take (length xs - 1) (drop 1 xs)
front_and_rest [] d some = absurd (omega (arith, some))
front_and_rest (x ∷ xs) d some =
    let e : length (x ∷ xs) - 1 ≡ length xs = omega arith in
    rw (e, take_all (length xs) xs (omega arith)) refl

pub no_front : {X : Type 0} (xs : List X) → length xs < 1 → xs ≡ []
no_front [] few = refl
no_front (x ∷ xs) few = absurd (omega (arith, few))

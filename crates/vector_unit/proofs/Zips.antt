-- Results of pairs whose operands are exchanged.
use Rattle.std.proofs.Common.{◌≡◌, ℕ, List, [], ◌∷◌, refl, ap}
use Rattle.lanes.specs.Words.{zip_with}

pub zip_swapped : {A : Type 0} → (f : ℕ → ℕ → A) (xs ys : List ℕ) → zip_with f ys xs ≡ zip_with (λ a b. f b a) xs ys
zip_swapped f [] [] = refl
zip_swapped f [] (y ∷ ys) = refl
zip_swapped f (x ∷ xs) [] = refl
zip_swapped f (x ∷ xs) (y ∷ ys) = ap (λ t. f y x ∷ t) (zip_swapped f xs ys)

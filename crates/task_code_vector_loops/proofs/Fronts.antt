-- What slices of known lengths are.
use Rattle.std.proofs.Common.{◌≡◌, ◌-◌, ◌<◌, ◌≤◌, List, [], ◌∷◌, length, get_or, take, drop, ap, sym, ◌∙◌, arith, refl}
use Rattle.task_code_registers.proofs.Knowing.{others-are}

pub none-there : {A : Type 0} (l : List A) → length l < 1 → l ≡ []
none-there [] less = refl
none-there (first ∷ others) less = absurd (omega (arith, less))

pub only-there : {A : Type 0} (l : List A) (first : A) → 1 ≤ length l → length l < 2 → first ≡ get_or l 0 first → l ≡ first ∷ []
only-there [] first some few is = absurd (omega (arith, some))
only-there (own ∷ []) first some few is = ap (λ x. x ∷ []) (sym is)
only-there (own ∷ other ∷ others) first some few is = absurd (omega (arith, few))

-- the first and the others
pub cons-of : {A : Type 0} (l : List A) (first : A) → 1 ≤ length l → first ≡ get_or l 0 first → l ≡ first ∷ take (length l - 1) (drop 1 l)
cons-of l first some is = others-are l first some ∙ ap (λ x. x ∷ take (length l - 1) (drop 1 l)) (sym is)

-- Places that stores touch.
use Rattle.std.proofs.Common.{◌≡◌, ◌||◌, ◌==◌, ℕ, Bool, true, false, refl, List, [], ◌∷◌, ◌++◌}
use Rattle.std.specs.Prelude.{if◌then◌else◌}
use Rattle.multi_hart.specs.Run.{is_in}

or_kept : (b x y z : Bool) → x ≡ y || z → (if b then true else x) ≡ (if b then true else y) || z
or_kept true x y z is = refl
or_kept false x y z is = is

pub in_both : (place : ℕ) (xs ys : List ℕ) → is_in place (xs ++ ys) ≡ is_in place xs || is_in place ys
in_both place [] ys = refl
in_both place (x ∷ xs) ys = or_kept (place == x) (is_in place (xs ++ ys)) (is_in place xs) (is_in place ys) (in_both place xs ys)

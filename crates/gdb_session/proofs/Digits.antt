-- Numbers whose digits are spelled by two digits each.
use Rattle.std.proofs.Common.{◌≡◌, ℕ, suc, ◌+◌, ◌-◌, ◌*◌, ◌≤◌, List, [], ◌∷◌, Bool, true, length, take, drop, get_or, sym, ap, subst, ◌∙◌, arith, Option, None}
use Rattle.std.specs.Prelude.{if◌then◌else◌, min}
use Rattle.std.proofs.Math.Seq.{take-length}
use Rattle.gdb_session.specs.Monitor.{is_pair, most_place, number_from}

-- what follows the first byte
abbrev rest : List ℕ → List ℕ
rest xs = take (length xs - 1) (drop 1 xs)

rest_is : (x : ℕ) (xs : List ℕ) → rest (x ∷ xs) ≡ xs
rest_is x xs = let n : length (x ∷ xs) - 1 ≡ length xs = omega arith in ap (λ (k : ℕ). take k xs) n ∙ take-length xs

-- one more digit
pub number_more : (number next : ℕ) (digits : List ℕ) (result : Option ℕ) → 1 ≤ length digits → 1 ≤ length (rest digits)
    → is_pair (get_or digits 0 0) (get_or (rest digits) 0 0) ≡ true → next ≡ min (number * 10 + (get_or (rest digits) 0 0 - 48)) most_place
    → result ≡ number_from next (rest (rest digits)) → result ≡ number_from number digits
unfolding number_from
number_more number next [] result some more pair is e = absurd (omega (arith, some))
number_more number next (x ∷ []) result some more pair is e =
    let none : 1 ≤ 0 = subst (λ (b : List ℕ). 1 ≤ length b) (rest_is x []) more in
    absurd (omega (arith, none))
number_more number next (x ∷ y ∷ digits) result some more pair is e =
    let behind = rest_is x (y ∷ digits) in
    e
    ∙ ap (λ (b : List ℕ). number_from next (rest b)) behind
    ∙ ap (number_from next) (rest_is y digits)
    ∙ ap (λ (n : ℕ). number_from n digits) (subst (λ (b : List ℕ). next ≡ min (number * 10 + (get_or b 0 0 - 48)) most_place) behind is)
    ∙ sym (ap (λ (b : Bool). if b then number_from (min (number * 10 + (y - 48)) most_place) digits else None)
    (subst (λ (b : List ℕ). is_pair x (get_or b 0 0) ≡ true) behind pair))

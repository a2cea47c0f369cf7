-- What searches for places come to.
use Rattle.std.proofs.Common.{◌≡◌, ℕ, zero, suc, ◌+◌, ◌<◌, ◌≤◌, Bool, true, false, refl, ap, ◌∙◌, arith}
use Rattle.std.specs.Prelude.{if◌then◌else◌, nat_lt, Some, None}
use Rattle.std.proofs.lemmas.Bool.Decides.{nat_tests}
use Rattle.gdb_session.specs.Stopping.{first_from, last_below}

pub first_is : (rule : ℕ → Bool) (place count found : ℕ) → place ≤ found → found < place + count → rule found ≡ true
    → ((k : ℕ) → place ≤ k → k < found → rule k ≡ false) → first_from rule place count ≡ Some found
unfolding first_from
first_is rule place zero found low high is least = absurd (omega (arith, low, high))
first_is rule place (suc count) found low high is least =
    go (λ below. first_is rule (suc place) count found (omega (arith, below)) (omega (arith, high)) is (λ k a b. least k (omega (arith, a)) b))
    (nat_lt place found) refl
  where
    go : (place < found → first_from rule (suc place) count ≡ Some found) → (b : Bool) → nat_lt place found ≡ b → first_from rule place (suc count) ≡ Some found
    go further true e =
        let below : place < found = grind (arith, nat_tests) in
        let passes : rule place ≡ false = least place (omega arith) below in
        rw passes (further below)
    go further false e =
        let here : place ≡ found = grind (arith, nat_tests, low) in
        let stands : rule place ≡ true = ap rule here ∙ is in
        rw stands (ap (λ k. Some k) here)

pub first_is_none : (rule : ℕ → Bool) (place count : ℕ) → ((k : ℕ) → place ≤ k → k < place + count → rule k ≡ false) → first_from rule place count ≡ None
unfolding first_from
first_is_none rule place zero none = refl
first_is_none rule place (suc count) none =
    let passes : rule place ≡ false = none place (omega arith) (omega arith) in
    rw passes (first_is_none rule (suc place) count (λ k a b. none k (omega (arith, a)) (omega (arith, b))))

pub last_is : (rule : ℕ → Bool) (place found : ℕ) → found < place → rule found ≡ true → ((k : ℕ) → found < k → k < place → rule k ≡ false)
    → last_below rule place ≡ Some found
unfolding last_below
last_is rule zero found below is greatest = absurd (omega (arith, below))
last_is rule (suc place) found below is greatest =
    go (λ before. last_is rule place found before is (λ k a b. greatest k a (omega (arith, b)))) (nat_lt found place) refl
  where
    go : (found < place → last_below rule place ≡ Some found) → (b : Bool) → nat_lt found place ≡ b → last_below rule (suc place) ≡ Some found
    go further true e =
        let before : found < place = grind (arith, nat_tests) in
        let passes : rule place ≡ false = greatest place before (omega arith) in
        rw passes (further before)
    go further false e =
        let at_least : place ≤ found = grind (arith, nat_tests) in
        let here : place ≡ found = omega (arith, at_least, below) in
        let stands : rule place ≡ true = ap rule here ∙ is in
        rw stands (ap (λ k. Some k) here)

pub last_is_none : (rule : ℕ → Bool) (place : ℕ) → ((k : ℕ) → k < place → rule k ≡ false) → last_below rule place ≡ None
unfolding last_below
last_is_none rule zero none = refl
last_is_none rule (suc place) none =
    let passes : rule place ≡ false = none place (omega arith) in
    rw passes (last_is_none rule place (λ k b. none k (omega (arith, b))))

-- what is found lies among the places that are looked at
pub first_within : (rule : ℕ → Bool) (place count found : ℕ) → first_from rule place count ≡ Some found → (place ≤ found) × (found < place + count)
unfolding first_from
first_within rule place zero found e = absurd (grind arith)
first_within rule place (suc count) found e = go (rule place) e (first_within rule (suc place) count found)
  where
    go : (b : Bool) → (if b then Some place else first_from rule (suc place) count) ≡ Some found
        → (first_from rule (suc place) count ≡ Some found → (suc place ≤ found) × (found < suc place + count)) → (place ≤ found) × (found < place + suc count)
    go true at further = let same : place ≡ found = grind arith in (omega (arith, same), omega (arith, same))
    go false at further = let later = further at in (omega (arith, later.0), omega (arith, later.1))

pub last_within : (rule : ℕ → Bool) (place found : ℕ) → last_below rule place ≡ Some found → found < place
unfolding last_below
last_within rule zero found e = absurd (grind arith)
last_within rule (suc place) found e = go (rule place) e (last_within rule place found)
  where
    go : (b : Bool) → (if b then Some place else last_below rule place) ≡ Some found → (last_below rule place ≡ Some found → found < place) → found < suc place
    go true at further = let same : place ≡ found = grind arith in omega (arith, same)
    go false at further = let before = further at in omega (arith, before)

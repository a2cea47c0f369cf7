-- What is known of the harts' turns: under the lock of all, in a seat of one.
-- This project's own.
use Rattle.std.specs.Prelude.{◌≡◌, ℕ, zero, suc, List, [], ◌∷◌}
use Rattle.shared_machine.specs.declared.books.Blanks.{Blanks}
use Rattle.shared_machine.specs.declared.books.Books.{Books}
use Rattle.shared_machine.specs.declared.books.Shares.{Shares}
use Rattle.shared_machine.specs.declared.books.Shares.TheVariants.{Hart0, Hart1, Hart2, Hart3, Hart4, Hart5, Hart6, Hart7}

-- a number for each of eight harts
abbrev pub each : (ℕ → ℕ) → List ℕ
each f = f 0 ∷ f 1 ∷ f 2 ∷ f 3 ∷ f 4 ∷ f 5 ∷ f 6 ∷ f 7 ∷ []

abbrev pub zeros : List ℕ
zeros = each (λ hart. 0)

-- the ledgers have these names
abbrev pub AreNamed : (ℕ → ℕ) → (ℕ → ℕ) → Blanks → Type 0
AreNamed numbers tallies blanks =
    (blanks.hart0.number.name ≡ numbers 0) × (blanks.hart0.tally.name ≡ tallies 0)
    × (blanks.hart1.number.name ≡ numbers 1) × (blanks.hart1.tally.name ≡ tallies 1)
    × (blanks.hart2.number.name ≡ numbers 2) × (blanks.hart2.tally.name ≡ tallies 2)
    × (blanks.hart3.number.name ≡ numbers 3) × (blanks.hart3.tally.name ≡ tallies 3)
    × (blanks.hart4.number.name ≡ numbers 4) × (blanks.hart4.tally.name ≡ tallies 4)
    × (blanks.hart5.number.name ≡ numbers 5) × (blanks.hart5.tally.name ≡ tallies 5)
    × (blanks.hart6.number.name ≡ numbers 6) × (blanks.hart6.tally.name ≡ tallies 6)
    × (blanks.hart7.number.name ≡ numbers 7) × (blanks.hart7.tally.name ≡ tallies 7)

-- the names of blank ledgers, by hart: what to pick where a machine is made
abbrev pub number_name : Blanks → ℕ → ℕ
number_name blanks zero = blanks.hart0.number.name
number_name blanks (suc zero) = blanks.hart1.number.name
number_name blanks (suc (suc zero)) = blanks.hart2.number.name
number_name blanks (suc (suc (suc zero))) = blanks.hart3.number.name
number_name blanks (suc (suc (suc (suc zero)))) = blanks.hart4.number.name
number_name blanks (suc (suc (suc (suc (suc zero))))) = blanks.hart5.number.name
number_name blanks (suc (suc (suc (suc (suc (suc zero)))))) = blanks.hart6.number.name
number_name blanks (suc (suc (suc (suc (suc (suc (suc zero))))))) = blanks.hart7.number.name
number_name blanks (suc (suc (suc (suc (suc (suc (suc (suc more)))))))) = 0

abbrev pub tally_name : Blanks → ℕ → ℕ
tally_name blanks zero = blanks.hart0.tally.name
tally_name blanks (suc zero) = blanks.hart1.tally.name
tally_name blanks (suc (suc zero)) = blanks.hart2.tally.name
tally_name blanks (suc (suc (suc zero))) = blanks.hart3.tally.name
tally_name blanks (suc (suc (suc (suc zero)))) = blanks.hart4.tally.name
tally_name blanks (suc (suc (suc (suc (suc zero))))) = blanks.hart5.tally.name
tally_name blanks (suc (suc (suc (suc (suc (suc zero)))))) = blanks.hart6.tally.name
tally_name blanks (suc (suc (suc (suc (suc (suc (suc zero))))))) = blanks.hart7.tally.name
tally_name blanks (suc (suc (suc (suc (suc (suc (suc (suc more)))))))) = 0

-- ---- under the lock

abbrev pub numbers_of : {F : Type 0} → Books F → List ℕ
numbers_of books = books.hart0.number.total ∷ books.hart1.number.total ∷ books.hart2.number.total ∷ books.hart3.number.total ∷ books.hart4.number.total
    ∷ books.hart5.number.total ∷ books.hart6.number.total ∷ books.hart7.number.total ∷ []

abbrev pub tallies_of : {F : Type 0} → Books F → List ℕ
tallies_of books = books.hart0.tally.total ∷ books.hart1.tally.total ∷ books.hart2.tally.total ∷ books.hart3.tally.total ∷ books.hart4.tally.total
    ∷ books.hart5.tally.total ∷ books.hart6.tally.total ∷ books.hart7.tally.total ∷ []

-- ---- in a seat

abbrev pub hart_of : {F : Type 0} → Shares F → ℕ
hart_of (Hart0 one) = 0
hart_of (Hart1 one) = 1
hart_of (Hart2 one) = 2
hart_of (Hart3 one) = 3
hart_of (Hart4 one) = 4
hart_of (Hart5 one) = 5
hart_of (Hart6 one) = 6
hart_of (Hart7 one) = 7

-- how many turns the hart has made
abbrev pub number_in : {F : Type 0} → Shares F → ℕ
number_in (Hart0 one) = one.number.amount
number_in (Hart1 one) = one.number.amount
number_in (Hart2 one) = one.number.amount
number_in (Hart3 one) = one.number.amount
number_in (Hart4 one) = one.number.amount
number_in (Hart5 one) = one.number.amount
number_in (Hart6 one) = one.number.amount
number_in (Hart7 one) = one.number.amount

-- the sum of their codes
abbrev pub tally_in : {F : Type 0} → Shares F → ℕ
tally_in (Hart0 one) = one.tally.amount
tally_in (Hart1 one) = one.tally.amount
tally_in (Hart2 one) = one.tally.amount
tally_in (Hart3 one) = one.tally.amount
tally_in (Hart4 one) = one.tally.amount
tally_in (Hart5 one) = one.tally.amount
tally_in (Hart6 one) = one.tally.amount
tally_in (Hart7 one) = one.tally.amount

-- the shares of the harts from one on, where these are the harts' numbers and tallies
abbrev pub AreSharesAt : {F : Type 0} → (ℕ → ℕ) → (ℕ → ℕ) → ℕ → List (Shares F) → Type 0
AreSharesAt numbers tallies hart [] = Unit {0}
AreSharesAt numbers tallies hart (one ∷ others) = (hart_of one ≡ hart) × (number_in one ≡ numbers hart) × (tally_in one ≡ tallies hart)
    × AreSharesAt numbers tallies (suc hart) others

-- A number for each of eight harts.
use Rattle.std.proofs.Common.{◌≡◌, ◌≢◌, ℕ, zero, suc, ◌+◌, ◌<◌, List, [], ◌∷◌, set, refl, sym, ap, ◌∙◌, arith}
use Rattle.std.specs.Prelude.{slice_index}
use Rattle.shared_machine.specs.Tallies.{each}

pub each-index : (f : ℕ → ℕ) (hart : ℕ) → hart < 8 → slice_index (each f) hart ≡ f hart
each-index f zero below = refl
each-index f (suc zero) below = refl
each-index f (suc (suc zero)) below = refl
each-index f (suc (suc (suc zero))) below = refl
each-index f (suc (suc (suc (suc zero)))) below = refl
each-index f (suc (suc (suc (suc (suc zero))))) below = refl
each-index f (suc (suc (suc (suc (suc (suc zero)))))) below = refl
each-index f (suc (suc (suc (suc (suc (suc (suc zero))))))) below = refl
each-index f (suc (suc (suc (suc (suc (suc (suc (suc more)))))))) below = absurd (omega (arith))

-- one number is another, and the others are the same
pub each-set : (f g : ℕ → ℕ) (hart : ℕ) → hart < 8 → ((other : ℕ) → hart ≢ other → g other ≡ f other) → each g ≡ set (each f) hart (g hart)
each-set f g zero below same = λ i. g 0 ∷ same 1 (λ e. let q = e in omega (arith)) i ∷ same 2 (λ e. let q = e in omega (arith)) i
    ∷ same 3 (λ e. let q = e in omega (arith)) i ∷ same 4 (λ e. let q = e in omega (arith)) i ∷ same 5 (λ e. let q = e in omega (arith)) i
    ∷ same 6 (λ e. let q = e in omega (arith)) i ∷ same 7 (λ e. let q = e in omega (arith)) i ∷ []
each-set f g (suc zero) below same = λ i. same 0 (λ e. let q = e in omega (arith)) i ∷ g 1 ∷ same 2 (λ e. let q = e in omega (arith)) i
    ∷ same 3 (λ e. let q = e in omega (arith)) i ∷ same 4 (λ e. let q = e in omega (arith)) i ∷ same 5 (λ e. let q = e in omega (arith)) i
    ∷ same 6 (λ e. let q = e in omega (arith)) i ∷ same 7 (λ e. let q = e in omega (arith)) i ∷ []
each-set f g (suc (suc zero)) below same = λ i. same 0 (λ e. let q = e in omega (arith)) i ∷ same 1 (λ e. let q = e in omega (arith)) i ∷ g 2
    ∷ same 3 (λ e. let q = e in omega (arith)) i ∷ same 4 (λ e. let q = e in omega (arith)) i ∷ same 5 (λ e. let q = e in omega (arith)) i
    ∷ same 6 (λ e. let q = e in omega (arith)) i ∷ same 7 (λ e. let q = e in omega (arith)) i ∷ []
each-set f g (suc (suc (suc zero))) below same = λ i. same 0 (λ e. let q = e in omega (arith)) i ∷ same 1 (λ e. let q = e in omega (arith)) i
    ∷ same 2 (λ e. let q = e in omega (arith)) i ∷ g 3 ∷ same 4 (λ e. let q = e in omega (arith)) i ∷ same 5 (λ e. let q = e in omega (arith)) i
    ∷ same 6 (λ e. let q = e in omega (arith)) i ∷ same 7 (λ e. let q = e in omega (arith)) i ∷ []
each-set f g (suc (suc (suc (suc zero)))) below same = λ i. same 0 (λ e. let q = e in omega (arith)) i ∷ same 1 (λ e. let q = e in omega (arith)) i
    ∷ same 2 (λ e. let q = e in omega (arith)) i ∷ same 3 (λ e. let q = e in omega (arith)) i ∷ g 4 ∷ same 5 (λ e. let q = e in omega (arith)) i
    ∷ same 6 (λ e. let q = e in omega (arith)) i ∷ same 7 (λ e. let q = e in omega (arith)) i ∷ []
each-set f g (suc (suc (suc (suc (suc zero))))) below same = λ i. same 0 (λ e. let q = e in omega (arith)) i ∷ same 1 (λ e. let q = e in omega (arith)) i
    ∷ same 2 (λ e. let q = e in omega (arith)) i ∷ same 3 (λ e. let q = e in omega (arith)) i ∷ same 4 (λ e. let q = e in omega (arith)) i ∷ g 5
    ∷ same 6 (λ e. let q = e in omega (arith)) i ∷ same 7 (λ e. let q = e in omega (arith)) i ∷ []
each-set f g (suc (suc (suc (suc (suc (suc zero)))))) below same = λ i. same 0 (λ e. let q = e in omega (arith)) i ∷ same 1 (λ e. let q = e in omega (arith)) i
    ∷ same 2 (λ e. let q = e in omega (arith)) i ∷ same 3 (λ e. let q = e in omega (arith)) i ∷ same 4 (λ e. let q = e in omega (arith)) i
    ∷ same 5 (λ e. let q = e in omega (arith)) i ∷ g 6 ∷ same 7 (λ e. let q = e in omega (arith)) i ∷ []
each-set f g (suc (suc (suc (suc (suc (suc (suc zero))))))) below same = λ i. same 0 (λ e. let q = e in omega (arith)) i
    ∷ same 1 (λ e. let q = e in omega (arith)) i ∷ same 2 (λ e. let q = e in omega (arith)) i ∷ same 3 (λ e. let q = e in omega (arith)) i
    ∷ same 4 (λ e. let q = e in omega (arith)) i ∷ same 5 (λ e. let q = e in omega (arith)) i ∷ same 6 (λ e. let q = e in omega (arith)) i ∷ g 7 ∷ []
each-set f g (suc (suc (suc (suc (suc (suc (suc (suc more)))))))) below same = absurd (omega (arith))

-- what a seat knows, where the books have each hart's number
pub read-each : (numbers : List ℕ) (f : ℕ → ℕ) (hart n : ℕ) → numbers ≡ each f → hart < 8 → n ≡ slice_index numbers hart → n ≡ f hart
read-each numbers f hart n same below is = is ∙ ap (λ xs. slice_index xs hart) same ∙ each-index f hart below

-- the books after one hart's number became another
pub write-each : (numbers new : List ℕ) (f g : ℕ → ℕ) (hart more : ℕ) → numbers ≡ each f → hart < 8 → new ≡ set numbers hart (slice_index numbers hart + more)
    → g hart ≡ f hart + more → ((other : ℕ) → hart ≢ other → g other ≡ f other) → new ≡ each g
write-each numbers new f g hart more same below is here others =
    is ∙ (λ i. set (same i) hart (slice_index (same i) hart + more)) ∙ ap (λ n. set (each f) hart n) (ap (λ n. n + more) (each-index f hart below) ∙ sym here)
    ∙ sym (each-set f g hart below others)

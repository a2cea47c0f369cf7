-- What steps tell of a point, each of which may mark a trace as stored.
use Rattle.std.proofs.Common.{◌≡◌, ℕ, zero, suc, ◌<◌, ◌≤◌, Bool, true, false, List, [], ◌∷◌, refl, sym, ap, ◌∙◌, arith}
use Rattle.std.specs.Prelude.{◌||◌}
use Rattle.std.specs.List.{AllByRecursion, list_any}
use Rattle.std.proofs.lemmas.List.Folds.{list_any-append}
use Rattle.schedule_loops.specs.Visits.{upto}
use Rattle.loop_ir.specs.Running.{iterated}
use Rattle.loop_ir.specs.Stores.{Trace}
use Rattle.lowering_nests.specs.Nests.{all}

-- a step that marks exactly if this holds
abbrev pub Tells : (Trace → Trace) → Bool → Type 0
Tells step hit = (so_far : Trace) → (step so_far).is_stored ≡ (so_far.is_stored || hit)

pub or_none : (b : Bool) → b ≡ (b || false)
or_none true = refl
or_none false = refl

pub or_or : (a b c : Bool) → ((a || b) || c) ≡ (a || (b || c))
or_or true b c = refl
or_or false b c = refl

pub list_tells : {A : Type 0} (step : A → Trace → Trace) (hit : A → Bool) (list : List A) → AllByRecursion (λ a. Tells (step a) (hit a)) list
    → Tells (all step list) (list_any hit list)
list_tells step hit [] each so_far = or_none so_far.is_stored
list_tells step hit (a ∷ others) each so_far =
    list_tells step hit others each.1 (step a so_far) ∙ ap (λ (b : Bool). b || list_any hit others) (each.0 so_far)
    ∙ or_or so_far.is_stored (hit a) (list_any hit others)

pub iterations_tell : {A : Type 0} (n most : ℕ) → n ≤ most → (one : ℕ → Trace → Trace) (hit : A → Bool) (lists : ℕ → List A) → ((iteration : ℕ) → iteration < most
    → Tells (one iteration) (list_any hit (lists iteration)))
    → Tells (iterated n one) (list_any hit (upto n lists))
unfolding iterated upto
iterations_tell zero most few one hit lists each so_far = or_none so_far.is_stored
iterations_tell (suc n) most few one hit lists each so_far =
    each n (omega (arith, few)) (iterated n one so_far)
    ∙ ap (λ (b : Bool). b || list_any hit (lists n)) (iterations_tell n most (omega (arith, few)) one hit lists each so_far)
    ∙ or_or so_far.is_stored (list_any hit (upto n lists)) (list_any hit (lists n))
    ∙ ap (λ (b : Bool). so_far.is_stored || b) (sym (list_any-append hit (upto n lists) (lists n)))

-- steps none of which marks
pub none_told : {A : Type 0} (step : A → Trace → Trace) → ((a : A) (so_far : Trace) → (step a so_far).is_stored ≡ so_far.is_stored)
    → (list : List A) (so_far : Trace) → (all step list so_far).is_stored ≡ so_far.is_stored
none_told step none [] so_far = refl
none_told step none (a ∷ others) so_far = none_told step none others (step a so_far) ∙ none a so_far

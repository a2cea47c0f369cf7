-- The iterations in which loops outside are while those inside make a visit.
use Rattle.std.proofs.Common.{◌≡◌, ℕ, zero, suc, ◌<◌, List, [], ◌∷◌, map, length, refl, ap, ◌∙◌, subst, arith, inl, inr}
use Rattle.std.specs.Prelude.{Contains, slice_index_or}
use Rattle.std.specs.List.{AllByRecursion}
use Rattle.std.proofs.lemmas.List.Elements.{Contains-append_cases}
use Rattle.schedule_lines.specs.declared.stages.Loop.{Loop}
use Rattle.schedule_loops.specs.Visits.{Values, with, counts, upto, nest, over_loops, zeros, visit_of}
use Rattle.schedule_loops.specs.Laws.{VisitsAreMade}
use Rattle.schedule_loops.specs.Reach.{wholes}
use Rattle.schedule_loops.specs.Runs.{AreIterations}
use Rattle.schedule_loops.proofs.Nesting.{has_same, InRange, in_range_more, nest-append}
use Rattle.schedule_loops.proofs.Wholes.{visits_of_wholes}

-- ---- elements

pub of_all : {A : Type 0} (P : A → Type 0) (xs : List A) → AllByRecursion P xs → (x : A) → Contains xs x → P x
of_all {A} P xs all x there = at xs there.0 all there.1 there.2
  where
    at : (ys : List A) (k : ℕ) → AllByRecursion P ys → k < length ys → slice_index_or ys k x ≡ x → P x
    at [] k every l e = absurd (omega (arith, l))
    at (y ∷ ys) zero every l e = subst P e every.0
    at (y ∷ ys) (suc k) every l e = at ys k every.1 (omega (arith, l)) e

-- what is after an element of a list that is mapped
record Behind {A B : Type 0} (f : A → B) (xs : List A) (y : B) : Type 0 where
  pub x : A
  pub there : Contains xs x
  pub is : f x ≡ y

behind : {A B : Type 0} (f : A → B) (xs : List A) (y : B) → Contains (map f xs) y → Behind f xs y
behind {A} {B} f xs y there = at xs there.0 there.1 there.2
  where
    further : (x : A) (ys : List A) → Behind f ys y → Behind f (x ∷ ys) y
    further x ys b = record { x = b.x; there = (suc b.there.0, omega (arith, b.there.1), b.there.2); is = b.is }

    at : (ys : List A) (k : ℕ) → k < length (map f ys) → slice_index_or (map f ys) k y ≡ y → Behind f ys y
    at [] k l e = absurd (omega (arith, l))
    at (x ∷ ys) zero l e = record { x = x; there = (0, omega arith, refl); is = e }
    at (x ∷ ys) (suc k) l e = further x ys (at ys k (omega (arith, l)) e)

-- ---- nests

record Iteration {A : Type 0} (n : ℕ) (list : ℕ → List A) (a : A) : Type 0 where
  pub iteration : ℕ
  pub below : iteration < n
  pub found : Contains (list iteration) a

iteration_of : {A : Type 0} (n : ℕ) (list : ℕ → List A) (a : A) → Contains (upto n list) a → Iteration n list a
unfolding upto
iteration_of zero list a there = absurd (omega (arith, there.1))
iteration_of (suc n) list a there = elim (Contains-append_cases (upto n list) (list n) a there) [
  | inl before ↦ let t = iteration_of n list a before in record { iteration = t.iteration; below = omega (arith, t.below); found = t.found }
  | inr last ↦ record { iteration = n; below = omega arith; found = last }
]

record Finds {A : Type 0} (counts : Values) (loops : List Loop) (list : Values → List A) (a : A) : Type 0 where
  pub iterations : Values
  pub in_range : InRange counts loops iterations
  pub found : Contains (list iterations) a

finds : {A : Type 0} (counts : Values) (loops : List Loop) (list : Values → List A) (values : Values) (a : A) → Contains (nest counts loops list values) a
    → Finds counts loops list a
finds counts [] list values a there = record { iterations = values; in_range = λ id in_it. absurd (omega (arith, in_it)); found = there }
finds counts (own ∷ outside) list values a there =
    let f = finds counts outside (λ outer. upto (counts own.id) (λ iteration. list (with own.id iteration outer))) values a there in
    let t = iteration_of (counts own.id) (λ iteration. list (with own.id iteration f.iterations)) a f.found in
    record { iterations = with own.id t.iteration f.iterations; in_range = in_range_more counts own outside f.iterations t.iteration f.in_range t.below; found = t.found }

are_iterations : (counts : Values) (loops : List Loop) (iterations : Values) → InRange counts loops iterations → AreIterations counts loops iterations
are_iterations counts [] iterations in_range = tt
are_iterations counts (own ∷ others) iterations in_range =
    (in_range own.id (omega (arith, has_same own)), are_iterations counts others iterations (λ id there. in_range id (omega (arith, there))))

pub visits_are_made : VisitsAreMade
visits_are_made extents stage inside outside parts visit there =
    let body = over_loops extents stage.splits (λ whole. visit_of extents whole ∷ []) in
    let nested : Contains (nest (counts extents stage.splits) outside (nest (counts extents stage.splits) inside body) zeros) visit =
    subst (λ xs. Contains xs visit)
    (ap (λ (ls : List Loop). nest (counts extents stage.splits) ls body zeros) parts ∙ nest-append (counts extents stage.splits) inside outside body zeros)
    there in
    let f = finds (counts extents stage.splits) outside (nest (counts extents stage.splits) inside body) zeros visit nested in
    let b = behind (visit_of extents) (wholes extents stage.splits inside f.iterations) visit (subst (λ xs. Contains xs visit) (visits_of_wholes extents stage.splits
    inside f.iterations) f.found) in
    record {
      iterations = f.iterations;
      are = are_iterations (counts extents stage.splits) outside f.iterations f.in_range;
      whole = b.x;
      visited = b.there;
      visit_is = b.is;
    }

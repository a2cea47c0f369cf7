-- The tasks of a phase in any order.
use Rattle.std.proofs.Common.{◌≡◌, ℕ, ◌+◌, ◌<◌, ◌≤◌, Bool, true, false, cond, List, [], ◌∷◌, refl, sym, ap, subst, ◌∙◌, arith, inl, inr, true≢false}
use Rattle.std.specs.Prelude.{◌==◌, ◌||◌}
use Rattle.std.proofs.lemmas.Bool.{cases_eq, cases_lt, eq-eqb, ne_eqb, or_parts}
use Rattle.halide_pipeline.specs.Pixel.{Planes}
use Rattle.schedule_loops.specs.Visits.{IsOrder, times}
use Rattle.loop_ir.specs.Buffers.{Points}
use Rattle.lowering.specs.Phases.{Hold, DoesTask, DoesPhase, Done, Nothing, Task, TasksInAnyOrder}

-- ---- orders

-- each below a bound, and none twice
abbrev AreApart : ℕ → List ℕ → Type 0
AreApart count [] = Unit {0}
AreApart count (first ∷ others) = (first < count) × ((times first others ≡ 0) × AreApart count others)

first_counts : (first : ℕ) (others : List ℕ) → times first (first ∷ others) ≡ 1 + times first others
first_counts first others = ap (λ (b : Bool). cond b 1 0 + times first others) (eq-eqb first first refl)

more_counts : (n first : ℕ) (others : List ℕ) → times n others ≤ times n (first ∷ others)
more_counts n first others = by_test (first == n)
  where
    by_test : (test : Bool) → times n others ≤ cond test 1 0 + times n others
    by_test true = omega arith
    by_test false = omega arith

apart : (count : ℕ) (order : List ℕ) → ((n : ℕ) → times n order ≤ 1) → ((n : ℕ) → count ≤ n → times n order ≡ 0) → AreApart count order
apart count [] few none = tt
apart count (first ∷ others) few none = (
  elim (cases_lt first count) [
    | inl l ↦ l
    | inr l ↦ let z = none first l in absurd (omega (arith, z, first_counts first others))
  ],
  (
    omega (arith, few first, first_counts first others),
    apart count others (λ n. omega (arith, few n, more_counts n first others)) (λ n l. omega (arith, none n l, more_counts n first others)),
  ),
)

of_order : (count : ℕ) (order : List ℕ) → IsOrder count order → AreApart count order
of_order count order is =
    apart count order
    (λ n. elim (cases_lt n count) [ inl l ↦ omega (arith, is.once n l) | inr l ↦ omega (arith, is.no_other n l) ])
    is.no_other

module _ (points : Points) (is_private : ℕ → Bool) (func_index : ℕ) (start result : Planes) (count : ℕ) (owns : ℕ → ℕ → ℕ → Bool) (tasks : ℕ → Planes → Planes)
    (phase : DoesPhase points is_private func_index start result count owns tasks) where
  -- one of the tasks of a list owns the point
  owned_by : List ℕ → ℕ → ℕ → Bool
  owned_by [] x y = false
  owned_by (first ∷ others) x y = owns first x y || owned_by others x y

  or_left : (a b : Bool) → a ≡ true → (a || b) ≡ true
  or_left true b e = refl
  or_left false b e = absurd cc

  or_right : (a b : Bool) → b ≡ true → (a || b) ≡ true
  or_right true b e = refl
  or_right false b e = e

  -- the tasks that are still to be done find the start at their points, and at those of other Funcs
  abbrev Ready : List ℕ → Planes → Type 0
  Ready order funcs = Hold points is_private func_index (owned_by order) start funcs

  differs : (first second : ℕ) (others : List ℕ) → first < count → times first (second ∷ others) ≡ 0 → AreApart count (second ∷ others) → (x y : ℕ)
      → owned_by (second ∷ others) x y ≡ true
      → (owned_by others x y ≡ true → owns first x y ≡ false) → (b : Bool) → owns second x y ≡ b → (a : Bool) → owns first x y ≡ a → owns first x y ≡ false
  unfolding owned_by
  differs first second others below none are x y e later b second_is false first_is = first_is
  differs first second others below none are x y e later false second_is true first_is = later (ap (λ (t : Bool). t || owned_by others x y) (sym second_is) ∙ e)
  differs first second others below none are x y e later true second_is true first_is =
      let same = phase.one_owner x y first second below are.0 first_is second_is in
      let zero_times : times second (second ∷ others) ≡ 0 = subst (λ (n : ℕ). times n (second ∷ others) ≡ 0) same none in
      let one = first_counts second others in
      absurd (omega (arith, one, zero_times))

  -- another task owns none of these points
  others_differ : (first : ℕ) (others : List ℕ) → first < count → times first others ≡ 0 → AreApart count others → (x y : ℕ) → owned_by others x y ≡ true
      → owns first x y ≡ false
  unfolding owned_by
  others_differ first [] below none are x y e = absurd cc
  others_differ first (second ∷ others) below none are x y e =
      differs first second others below none are x y e (λ rest. others_differ first others below (omega (arith, none, more_counts first second others)) are.1.1
      x y rest) (owns second x y) refl (owns first x y) refl

  abbrev Leaves : List ℕ → Planes → Planes → Type 0
  Leaves order funcs after =
      ((x y : ℕ) → owned_by order x y ≡ true → after func_index x y ≡ result func_index x y)
      × ((place x y : ℕ) → is_private place ≡ false → (place ≡ func_index → owned_by order x y ≡ false) → after place x y ≡ funcs place x y)

  step : (first : ℕ) (others : List ℕ) (funcs before after : Planes) → AreApart count (first ∷ others) → ((place x y : ℕ) → is_private place ≡ false
      → before place x y ≡ funcs place x y)
      → Ready (first ∷ others) funcs → (Ready others (tasks first before) → Leaves others (tasks first before) after) → Leaves (first ∷ others) funcs after
  unfolding owned_by
  step first others funcs before after are same ready next = (does, keeps)
    where
      task : DoesTask points is_private func_index start result (owns first) (tasks first)
      task = phase.each first are.0

      found : Hold points is_private func_index (owns first) start before
      found place x y public_so at passes = same place x y public_so
          ∙ ready place x y public_so at (λ e. or_left (owns first x y) (owned_by others x y) (passes e))

      ready_next : Ready others (tasks first before)
      ready_next place x y public_so at passes =
          let free : place ≡ func_index → owns first x y ≡ false = λ e. others_differ first others are.0 are.1.0 are.1.1 x y (passes e) in
          task.keeps before found place x y public_so free ∙ same place x y public_so
          ∙ ready place x y public_so at (λ e. or_right (owns first x y) (owned_by others x y) (passes e))

      left : Leaves others (tasks first before) after
      left = next ready_next

      does_by : (b : Bool) (x y : ℕ) → owned_by others x y ≡ b → (owns first x y || owned_by others x y) ≡ true → after func_index x y ≡ result func_index x y
      does_by true x y later e = left.0 x y later
      does_by false x y later e =
          let own_now : owns first x y ≡ true = or_false (owns first x y) (owned_by others x y) later e in
          left.1 func_index x y phase.not_private (λ s. later) ∙ task.does before found x y own_now
        where
          or_false : (a b : Bool) → b ≡ false → (a || b) ≡ true → a ≡ true
          or_false true b f g = refl
          or_false false b f g = absurd (true≢false (sym g ∙ f))

      does : (x y : ℕ) → (owns first x y || owned_by others x y) ≡ true → after func_index x y ≡ result func_index x y
      does x y e = does_by (owned_by others x y) x y refl e

      keeps : (place x y : ℕ) → is_private place ≡ false → (place ≡ func_index → (owns first x y || owned_by others x y) ≡ false) → after place x y ≡ funcs place x y
      keeps place x y public_so free =
          let parts : place ≡ func_index → (owns first x y ≡ false) × (owned_by others x y ≡ false) = λ e. or_parts (owns first x y) (owned_by others x y) (free e) in
          left.1 place x y public_so (λ e. (parts e).1) ∙ task.keeps before found place x y public_so (λ e. (parts e).0) ∙ same place x y public_so

  leaves : (order : List ℕ) (funcs after : Planes) → AreApart count order → Ready order funcs → Done is_private tasks order funcs after
      → Leaves order funcs after
  unfolding owned_by
  leaves _ funcs _ are ready (Nothing _) = (λ x y e. absurd cc, λ place x y public_so free. refl)
  leaves _ funcs after are ready (Task first others _ before _ same done) =
      step first others funcs before after are same ready (λ ready_next. leaves others (tasks first before) after are.1.1 ready_next done)

  -- a task that is in the list owns what the list owns
  owned_in : (order : List ℕ) (number x y : ℕ) → 1 ≤ times number order → owns number x y ≡ true → owned_by order x y ≡ true
  unfolding owned_by
  owned_in [] number x y there e = absurd (omega (arith, there))
  owned_in (first ∷ others) number x y there e = elim (cases_eq first number) [
    | inl same ↦ or_left (owns first x y) (owned_by others x y) (subst (λ (n : ℕ). owns n x y ≡ true) (sym same) e)
    | inr other ↦
        let count_is : times number (first ∷ others) ≡ 0 + times number others = ap (λ (b : Bool). cond b 1 0 + times number others) (ne_eqb first number other)
        in
        or_right (owns first x y) (owned_by others x y) (owned_in others number x y (omega (arith, there, count_is)) e)
  ]

  module _ (order : List ℕ) (is : IsOrder count order) (funcs after : Planes) (holds : (place x y : ℕ) → is_private place ≡ false → points place x y ≡ true
      → funcs place x y ≡ start place x y)
      (done : Done is_private tasks order funcs after) where
    left : Leaves order funcs after
    left = leaves order funcs after (of_order count order is) (λ p a b public_there there passes. holds p a b public_there there) done

    own_left : (x y : ℕ) → points func_index x y ≡ true → (b : Bool) → owned_by order x y ≡ b
        → after func_index x y ≡ result func_index x y
    own_left x y at true e = left.0 x y e
    own_left x y at false e =
        left.1 func_index x y phase.not_private (λ s. e) ∙ holds func_index x y phase.not_private at
        ∙ sym (phase.unowned x y at (λ number below. none number below (owns number x y) refl))
      where
        none : (number : ℕ) → number < count → (b : Bool) → owns number x y ≡ b → owns number x y ≡ false
        none number below false f = f
        none number below true f =
            let one : times number order ≡ 1 = is.once number below in
            absurd (true≢false (sym (owned_in order number x y (omega (arith, one)) f) ∙ e))

    pub whole : (place x y : ℕ) → is_private place ≡ false → points place x y ≡ true → after place x y ≡ result place x y
    whole place x y public_so at = elim (cases_eq place func_index) [
      | inl same ↦
          subst (λ (p : ℕ). after p x y ≡ result p x y) (sym same) (own_left x y (subst (λ (p : ℕ). points p x y ≡ true) same at) (owned_by order x y) refl)
      | inr other ↦ left.1 place x y public_so (λ e. absurd (other e)) ∙ holds place x y public_so at ∙ sym (phase.others place x y other)
    ]

pub tasks_in_any_order : TasksInAnyOrder
tasks_in_any_order points is_private own start result count owns tasks phase order is funcs after holds done place x y public_so at =
    whole points is_private own start result count owns tasks phase order is funcs after holds done place x y public_so at

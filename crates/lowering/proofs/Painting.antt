-- Steps that each write a final value, one after the other.
use Rattle.std.proofs.Common.{◌≡◌, ℕ, Bool, true, false, cond, List, [], ◌∷◌, refl, sym, ap, ◌∙◌, true≢false}
use Rattle.std.specs.Prelude.{◌==◌, ◌&&◌, ◌||◌}
use Rattle.std.specs.List.{AllByRecursion, list_any}
use Rattle.std.proofs.lemmas.Bool.{and_parts, and_from, eqb-true, eq-eqb, or_parts}
use Rattle.halide_pipeline.specs.Pixel.{Plane, Planes}
use Rattle.loop_ir.specs.Buffers.{Points, put}
use Rattle.lowering_nests.specs.Nests.{all}
use Rattle.lowering.specs.Consuming.{Keeps}

-- ---- one point written

pub put_there : (points : Points) (func_index x y value : ℕ) (funcs : Planes) → points func_index x y ≡ true → put points func_index x y value funcs func_index x y ≡ value
put_there points func_index x y value funcs there =
    ap (λ (b : Bool). cond b value (funcs func_index x y))
    (and_from (points func_index x y) (func_index == func_index && (x == x && y == y)) there (and_from (func_index == func_index) (x == x && y == y) (eq-eqb func_index func_index refl)
    (and_from (x == x) (y == y) (eq-eqb x x refl) (eq-eqb y y refl))))

pub put_other : (points : Points) (func_index x y value : ℕ) (funcs : Planes) (place i j : ℕ) → (place ≡ func_index → (x == i && y == j) ≡ false)
    → put points func_index x y value funcs place i j ≡ funcs place i j
put_other points func_index x y value funcs place i j free = by_test (points func_index x y && (place == func_index && (i == x && j == y))) refl
  where
    by_test : (test : Bool) → (points func_index x y && (place == func_index && (i == x && j == y))) ≡ test → cond test value (funcs place i j) ≡ funcs place i j
    by_test false e = refl
    by_test true e =
        let a = and_parts (points func_index x y) (place == func_index && (i == x && j == y)) e in
        let b = and_parts (place == func_index) (i == x && j == y) a.1 in
        let c = and_parts (i == x) (j == y) b.1 in
        let here : (x == i && y == j) ≡ true = and_from (x == i) (y == j) (eq-eqb x i (sym (eqb-true i x c.0))) (eq-eqb y j (sym (eqb-true j y c.1))) in
        absurd (true≢false (sym here ∙ free (eqb-true place func_index b.0)))

-- ---- many

-- The steps want something of the buffers that holds of them as long as all but the own Func's is kept.
module _ (points : Points) (func_index : ℕ) (plane : Plane) (Ready : Planes → Type 0) (stays : (funcs after : Planes) → Keeps func_index funcs after → Ready funcs
    → Ready after) where
  module _ {A : Type 0} (x_of y_of : A → ℕ) (step : A → Planes → Planes) where
    -- a step writes the plane's value at its point
    pub record Writes (a : A) : Type 0 where
      pub there : points func_index (x_of a) (y_of a) ≡ true
      pub does : (funcs : Planes) → Ready funcs → step a funcs ≡ put points func_index (x_of a) (y_of a) (plane (x_of a) (y_of a)) funcs

    abbrev pub is_at : ℕ → ℕ → A → Bool
    is_at x y a = x_of a == x && y_of a == y

    pub record Paints (list : List A) (funcs after : Planes) : Type 0 where
      pub there : (x y : ℕ) → list_any (is_at x y) list ≡ true → after func_index x y ≡ plane x y
      pub keeps : (place x y : ℕ) → (place ≡ func_index → list_any (is_at x y) list ≡ false) → after place x y ≡ funcs place x y

    module _ (a : A) (funcs : Planes) (writes : Writes a) (ready : Ready funcs) where
      step_keeps : (place x y : ℕ) → (place ≡ func_index → is_at x y a ≡ false)
          → step a funcs place x y ≡ funcs place x y
      step_keeps place x y free =
          ap (λ (f : Planes). f place x y) (writes.does funcs ready) ∙ put_other points func_index (x_of a) (y_of a) (plane (x_of a) (y_of a)) funcs place x y free

      step_there : (x y : ℕ) → is_at x y a ≡ true → step a funcs func_index x y ≡ plane x y
      step_there x y e =
          let p = and_parts (x_of a == x) (y_of a == y) e in
          let same_x : x_of a ≡ x = eqb-true (x_of a) x p.0 in
          let same_y : y_of a ≡ y = eqb-true (y_of a) y p.1 in
          let here : step a funcs func_index (x_of a) (y_of a) ≡ plane (x_of a) (y_of a) =
          ap (λ (f : Planes). f func_index (x_of a) (y_of a)) (writes.does funcs ready) ∙ put_there points func_index (x_of a) (y_of a) (plane (x_of a) (y_of a)) funcs
          writes.there in
          ap (λ (n : ℕ). step a funcs func_index n y) (sym same_x) ∙ ap (λ (n : ℕ). step a funcs func_index (x_of a) n) (sym same_y) ∙ here
          ∙ ap (λ (n : ℕ). plane n (y_of a)) same_x ∙ ap (λ (n : ℕ). plane x n) same_y

      step_ready : Ready (step a funcs)
      step_ready = stays funcs (step a funcs) (λ other x y d. step_keeps other x y (λ e. absurd (d e))) ready

    first_of : (b c : Bool) → c ≡ false → (b || c) ≡ true → b ≡ true
    first_of true c f e = refl
    first_of false c f e = absurd (true≢false (sym e ∙ f))

    paints_more : (a : A) (others : List A) (funcs : Planes) → Writes a → Ready funcs
        → (Ready (step a funcs) → Paints others (step a funcs) (all step others (step a funcs)))
        → Paints (a ∷ others) funcs (all step others (step a funcs))
    paints_more a others funcs writes ready next = record { there = λ x y e. by_later x y (list_any (is_at x y) others) refl e; keeps = keeps }
      where
        later : Paints others (step a funcs) (all step others (step a funcs))
        later = next (step_ready a funcs writes ready)

        by_later : (x y : ℕ) (test : Bool) → list_any (is_at x y) others ≡ test → (is_at x y a || list_any (is_at x y) others) ≡ true
            → all step others (step a funcs) func_index x y ≡ plane x y
        by_later x y true found e = later.there x y found
        by_later x y false found e = later.keeps func_index x y (λ s. found)
            ∙ step_there a funcs writes ready x y (first_of (is_at x y a) (list_any (is_at x y) others) found e)

        keeps : (place x y : ℕ) → (place ≡ func_index → (is_at x y a || list_any (is_at x y) others) ≡ false) → all step others (step a funcs) place x y
            ≡ funcs place x y
        keeps place x y free =
            let parts : place ≡ func_index → (is_at x y a ≡ false) × (list_any (is_at x y) others ≡ false) = λ e. or_parts (is_at x y a) (list_any (is_at x y) others)
            (free e) in
            later.keeps place x y (λ e. (parts e).1) ∙ step_keeps a funcs writes ready place x y (λ e. (parts e).0)

    pub paints : (list : List A) (funcs : Planes) → AllByRecursion Writes list → Ready funcs → Paints list funcs (all step list funcs)
    paints [] funcs writes ready = record { there = λ x y e. absurd cc; keeps = λ place x y free. refl }
    paints (a ∷ others) funcs writes ready = paints_more a others funcs writes.0 ready (λ ready_next. paints others (step a funcs) writes.1 ready_next)

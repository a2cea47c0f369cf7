-- Steps that each take a slice one further: what is after all of them.
use Rattle.std.proofs.Common.{◌≡◌, ℕ, zero, suc, ◌+◌, ◌-◌, Bool, true, false, cond, List, [], ◌∷◌, map, refl, sym, ap, subst, ◌∙◌, arith}
use Rattle.std.specs.Prelude.{◌&&◌, ◌||◌}
use Rattle.std.specs.List.{AllByRecursion, list_any}
use Rattle.halide_pipeline.specs.Pixel.{Planes}
use Rattle.schedule_loops.specs.Visits.{Visit, is_slice, slice, rising}
use Rattle.loop_ir.specs.Stores.{Trace}
use Rattle.lowering_nests.specs.Nests.{all}
use Rattle.lowering.proofs.Marks.{or_none, or_or}

-- ---- the first of what is left of a slice

-- how far the slice is, and how much is left of it, where the test says whether the visit is of the slice
abbrev further : Bool → Visit → ℕ → ℕ
further test visit at = cond test (suc visit.number) at

abbrev less : Bool → ℕ → ℕ
less test left = cond test (left - 1) left

record Next (test : Bool) (visit : Visit) (later : List Visit) (x y at left : ℕ) : Type 0 where
  number : test ≡ true → visit.number ≡ at
  rest : later ≡ rising x y (further test visit at) (less test left)
  sum : further test visit at + less test left ≡ at + left

none_left : (visit : Visit) (rest : List Visit) → visit ∷ rest ≡ [] → ⊥
none_left visit rest e = cc

first_is : (visit : Visit) (rest : List Visit) (x y at left : ℕ) → visit ∷ rest ≡ record { x = x; y = y; number = at } ∷ rising x y (suc at) left
    → (visit.number ≡ at) × (rest ≡ rising x y (suc at) left)
first_is visit rest x y at left e =
    let one : visit ≡ record { x = x; y = y; number = at } = cc in
    (ap (λ (v : Visit). v.number) one, cc)

next_by : (test : Bool) (visit : Visit) (rest : List Visit) (x y at left : ℕ) → cond test (visit ∷ rest) rest ≡ rising x y at left
    → Next test visit rest x y at left
next_by false visit rest x y at left e = record { number = λ f. absurd cc; rest = e; sum = refl }
next_by true visit rest x y at zero e = absurd (none_left visit rest e)
next_by true visit rest x y at (suc left) e =
    let p = first_is visit rest x y at left e in
    let one_less : suc left - 1 ≡ left = omega arith in
    record {
      number = λ f. p.0;
      rest = p.1 ∙ ap (λ (n : ℕ). rising x y (suc n) left) (sym p.0) ∙ ap (rising x y (suc visit.number)) (sym one_less);
      sum = omega (arith, p.0, one_less);
    }

-- ---- slices of a plane

module _ (func_index : ℕ) (begin : Planes) (inside : ℕ → ℕ → Bool) (column row : ℕ → ℕ) (stands : ℕ → ℕ → ℕ → ℕ) where
  -- other Funcs are as at first
  abbrev pub Others : Planes → Type 0
  Others funcs = (place x y : ℕ) → (place ≡ func_index → ⊥) → funcs place x y ≡ begin place x y

  abbrev pub is_on : Visit → ℕ → ℕ → Bool
  is_on visit x y = is_slice (column x) (row y) visit

  -- the points of a slice that are inside hold what is after this many visits of it
  abbrev pub HoldsAt : Visit → ℕ → Planes → Type 0
  HoldsAt visit number funcs = (x y : ℕ) → inside x y ≡ true → is_on visit x y ≡ true → funcs func_index x y ≡ stands number x y

  -- a visit takes its slice one further, and leaves all else as it was
  pub record Goes (visit : Visit) (step : Planes → Planes) : Type 0 where
    pub does : (funcs : Planes) → Others funcs → HoldsAt visit visit.number funcs → HoldsAt visit (suc visit.number) (step funcs)
    pub keeps : (funcs : Planes) → Others funcs → HoldsAt visit visit.number funcs
        → (place x y : ℕ) → (place ≡ func_index → (inside x y && is_on visit x y) ≡ false) → step funcs place x y ≡ funcs place x y

  -- the points inside hold what is after this many visits of each slice
  abbrev Stand : (ℕ → ℕ → ℕ) → Planes → Type 0
  Stand at funcs = (x y : ℕ) → inside x y ≡ true → funcs func_index x y ≡ stands (at (column x) (row y)) x y

  pub record Gone (at left : ℕ → ℕ → ℕ) (funcs after : Planes) : Type 0 where
    pub does : (x y : ℕ) → inside x y ≡ true → after func_index x y ≡ stands (at (column x) (row y) + left (column x) (row y)) x y
    pub keeps : (place x y : ℕ) → (place ≡ func_index → inside x y ≡ false) → after place x y ≡ funcs place x y

  and_left : (a b : Bool) → a ≡ false → (a && b) ≡ false
  and_left a b e = ap (λ (t : Bool). t && b) e

  and_right : (a b : Bool) → b ≡ false → (a && b) ≡ false
  and_right true b e = e
  and_right false b e = refl

  no_rest : (x y at left : ℕ) → [] ≡ rising x y at left → left ≡ 0
  no_rest x y at zero e = refl
  no_rest x y at (suc left) e = cc

  module _ {A : Type 0} (visit_of : A → Visit) (step : A → Planes → Planes) where
    -- what is left of each slice comes in order
    abbrev pub Rise : (ℕ → ℕ → ℕ) → (ℕ → ℕ → ℕ) → List A → Type 0
    Rise at left list = (x y : ℕ) → inside x y ≡ true → slice (column x) (row y) (map visit_of list) ≡ rising (column x) (row y) (at (column x) (row y))
        (left (column x) (row y))

    module _ (a : A) (others : List A) (at left : ℕ → ℕ → ℕ) (funcs : Planes) (goes : Goes (visit_of a) (step a)) (rise : Rise at left (a ∷ others))
        (ready : Others funcs) (stand : Stand at funcs) where
      abbrev visit : Visit
      visit = visit_of a

      abbrev at_next : ℕ → ℕ → ℕ
      at_next x y = further (is_slice x y visit) visit (at x y)

      abbrev left_next : ℕ → ℕ → ℕ
      left_next x y = less (is_slice x y visit) (left x y)

      next : (x y : ℕ) → inside x y ≡ true → Next (is_on visit x y) visit (slice (column x) (row y) (map visit_of others)) (column x) (row y)
          (at (column x) (row y)) (left (column x) (row y))
      next x y e = next_by (is_on visit x y) visit (slice (column x) (row y) (map visit_of others)) (column x) (row y) (at (column x) (row y))
          (left (column x) (row y)) (rise x y e)

      holds : HoldsAt visit visit.number funcs
      holds x y e on = stand x y e ∙ ap (λ (n : ℕ). stands n x y) (sym ((next x y e).number on))

      rise_next : Rise at_next left_next others
      rise_next x y e = (next x y e).rest

      ready_next : Others (step a funcs)
      ready_next place x y other = goes.keeps funcs ready holds place x y (λ e. absurd (other e)) ∙ ready place x y other

      stand_by : (x y : ℕ) → inside x y ≡ true → (test : Bool) → is_on visit x y ≡ test
          → step a funcs func_index x y ≡ stands (further test visit (at (column x) (row y))) x y
      stand_by x y e true on = goes.does funcs ready holds x y e on
      stand_by x y e false off = goes.keeps funcs ready holds func_index x y (λ s. and_right (inside x y) (is_on visit x y) off) ∙ stand x y e

      stand_next : Stand at_next (step a funcs)
      stand_next x y e = stand_by x y e (is_on visit x y) refl

      gone_more : (after : Planes) → Gone at_next left_next (step a funcs) after → Gone at left funcs after
      gone_more after gone = record {
        does = λ x y e. gone.does x y e ∙ ap (λ (n : ℕ). stands n x y) (next x y e).sum;
        keeps = λ place x y free. gone.keeps place x y free ∙ goes.keeps funcs ready holds place x y (λ e. and_left (inside x y) (is_on visit x y) (free e));
      }

    -- What each visit takes on, all visits take through, if those of each slice come in order.
    pub slices_go : (list : List A) (at left : ℕ → ℕ → ℕ) (funcs : Planes) → AllByRecursion (λ a. Goes (visit_of a) (step a)) list → Rise at left list
        → Others funcs → Stand at funcs
        → Gone at left funcs (all step list funcs)
    slices_go [] at left funcs goes rise ready stand = record {
      does = λ x y e.
          let none : left (column x) (row y) ≡ 0 = no_rest (column x) (row y) (at (column x) (row y)) (left (column x) (row y)) (rise x y e) in
          let same : at (column x) (row y) ≡ at (column x) (row y) + left (column x) (row y) = omega (arith, none) in
          stand x y e ∙ ap (λ (n : ℕ). stands n x y) same;
      keeps = λ place x y free. refl;
    }
    slices_go (a ∷ others) at left funcs goes rise ready stand =
        gone_more a others at left funcs goes.0 rise ready stand (all step others (step a funcs))
        (slices_go others (at_next a others at left funcs goes.0 rise ready stand) (left_next a others at left funcs goes.0 rise ready stand) (step a funcs)
        goes.1
        (rise_next a others at left funcs goes.0 rise ready stand) (ready_next a others at left funcs goes.0 rise ready stand) (stand_next a others at left
        funcs goes.0 rise ready stand))

    -- ---- beside a trace

    module _ (traced : A → Trace → Trace) (hit : A → Bool) where
      -- a visit does what its step does, and stores at the point if it hits
      abbrev pub Marks : A → Type 0
      Marks a = (so_far : Trace) → Others so_far.funcs → HoldsAt (visit_of a) (visit_of a).number so_far.funcs
          → ((traced a so_far).funcs ≡ step a so_far.funcs) × ((traced a so_far).is_stored ≡ (so_far.is_stored || hit a))

      -- So the point is stored at if one of the visits hits.
      pub slices_mark : (list : List A) (at left : ℕ → ℕ → ℕ) (so_far : Trace) → AllByRecursion (λ a. Goes (visit_of a) (step a)) list
          → AllByRecursion Marks list → Rise at left list
          → Others so_far.funcs → Stand at so_far.funcs → (all traced list so_far).is_stored ≡ (so_far.is_stored || list_any hit list)
      slices_mark [] at left so_far goes marks rise ready stand = or_none so_far.is_stored
      slices_mark (a ∷ others) at left so_far goes marks rise ready stand =
          let funcs = so_far.funcs in
          let made = marks.0 so_far ready (holds a others at left funcs goes.0 rise ready stand) in
          slices_mark others (at_next a others at left funcs goes.0 rise ready stand) (left_next a others at left funcs goes.0 rise ready stand)
          (traced a so_far) goes.1 marks.1
          (rise_next a others at left funcs goes.0 rise ready stand)
          (subst Others (sym made.0) (ready_next a others at left funcs goes.0 rise ready stand))
          (subst (Stand (at_next a others at left funcs goes.0 rise ready stand)) (sym made.0) (stand_next a others at left funcs goes.0 rise ready stand))
          ∙ ap (λ (b : Bool). b || list_any hit others) made.1 ∙ or_or so_far.is_stored (hit a) (list_any hit others)

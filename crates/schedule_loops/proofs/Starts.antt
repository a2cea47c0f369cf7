-- The nests of an update, from its first loops on.
use Rattle.std.proofs.Common.{◌≡◌, ◌≢◌, ℕ, zero, suc, ◌+◌, ◌*◌, ◌<◌, ◌≤◌, Bool, true, false, not, cond, List, [], ◌∷◌, ◌==◌, refl, sym, ap, subst, ◌∙◌, arith}
use Rattle.std.proofs.Common.{inl, inr}
use Rattle.std.specs.Prelude.{◌&&◌, ◌||◌, filter}
use Rattle.std.proofs.lemmas.Bool.{eq-eqb, ne_eqb, and_left, and_right}
use Rattle.halide_pipeline.specs.declared.expressions.Variable.TheVariants as variables
use Rattle.schedule_lines.specs.declared.stages.Loop.{Loop}
use Rattle.schedule_lines.specs.declared.stages.LoopId.{LoopId}
use Rattle.schedule_lines.specs.declared.stages.LoopId.TheVariants as ids
use Rattle.schedule_lines.specs.Directives.{same_id, is_shift}
use Rattle.schedule_lines.specs.Making.{total}
use Rattle.schedule_loops.specs.Visits.{Values, with, upto, nest, Visit, is_slice, rising}
use Rattle.schedule_loops.specs.Stages.{has_variable}
use Rattle.schedule_loops.proofs.Iterations.{upto_same, upto-add, upto_split}
use Rattle.schedule_loops.proofs.Nesting.{filter-nest}
use Rattle.schedule_loops.proofs.Selecting.{fills, is_free, is_one, filled, nest_ids, selected}
use Rattle.schedule_loops.proofs.Order.{IsPassedOn, Begins, guard_from}
use Rattle.schedule_loops.proofs.FirstLoops.{Plain, free, among, sound, reductions_of, IsUpdateStart}
use Rattle.schedule_loops.proofs.Resting.{in_place, seen}

-- ---- loops over arguments

free_at : (free : Bool) (a b : Bool) → 1 ≤ cond {A = ℕ} (a && free) 1 0 + (cond {A = ℕ} (b && free) 1 0 + 0) → free ≡ true
free_at true a b l = refl
free_at false true true l = absurd (omega arith)
free_at false true false l = absurd (omega arith)
free_at false false true l = absurd (omega arith)
free_at false false false l = absurd (omega arith)

pub free_passed_on : IsPassedOn true is_free
free_passed_on = record {
  bare_is = λ own. refl;
  inner = λ own place line id is there. (
    free_at (is_free own) (same_id (ids.Inner place) id) (same_id (ids.Outer place) id) there,
    guard_from line.tail
        is.unshifted,
  );
}

-- loops over arguments that don't come from a shifted split, of any stage
abbrev pub is_loop_invariant : Loop → Bool
is_loop_invariant own = is_free own && not own.is_from_shift

invariant_at : (free from shift a b : Bool) → 1 ≤ cond {A = ℕ} (a && (free && not (from || shift))) 1 0 + (cond {A = ℕ} (b && (free && not (from || shift))) 1 0
    + 0) → ((free && not from) ≡ true) × (shift ≡ false)
invariant_at true false false a b l = (refl, refl)
invariant_at true true shift true true l = absurd (omega arith)
invariant_at true true shift true false l = absurd (omega arith)
invariant_at true true shift false b l = absurd (at b l)
  where
    at : (b : Bool) → 1 ≤ 0 + (cond {A = ℕ} (b && false) 1 0 + 0) → ⊥
    at true l = omega arith
    at false l = omega arith
invariant_at true false true a b l = absurd (at a b l)
  where
    at : (a b : Bool) → 1 ≤ cond {A = ℕ} (a && false) 1 0 + (cond {A = ℕ} (b && false) 1 0 + 0) → ⊥
    at true true l = omega arith
    at true false l = omega arith
    at false true l = omega arith
    at false false l = omega arith
invariant_at false from shift a b l = absurd (at a b l)
  where
    at : (a b : Bool) → 1 ≤ cond {A = ℕ} (a && false) 1 0 + (cond {A = ℕ} (b && false) 1 0 + 0) → ⊥
    at true true l = omega arith
    at true false l = omega arith
    at false true l = omega arith
    at false false l = omega arith

pub invariant_passed_on : (is_update : Bool) → IsPassedOn is_update is_loop_invariant
invariant_passed_on is_update = record {
  bare_is = λ own. refl;
  inner = λ own place line id is there.
      let t = invariant_at (is_free own) own.is_from_shift (is_shift line.tail) (same_id (ids.Inner place) id) (same_id (ids.Outer place) id) there in
      (t.0, guard_from line.tail t.1);
}

invariant_free_at : (same free loop_invariant : Bool) → cond {A = ℕ} (same && (free && loop_invariant)) 1 0 ≤ cond {A = ℕ} (same && free) 1 0
invariant_free_at true true true = omega arith
invariant_free_at true true false = omega arith
invariant_free_at true false loop_invariant = omega arith
invariant_free_at false free loop_invariant = omega arith

pub invariant_free : (id : LoopId) (loops : List Loop) → total (is_one is_loop_invariant id) loops ≤ total (is_one is_free id) loops
invariant_free id [] = omega arith
invariant_free id (own ∷ loops) = omega (arith, invariant_free_at (same_id own.id id) (is_free own) (not own.is_from_shift), invariant_free id loops)

pub free_free : (id : LoopId) (loops : List Loop) → total (is_one is_free id) loops ≤ total (is_one is_free id) loops
free_free id loops = omega arith

-- ---- slices

abbrev pub slice_values : ℕ → ℕ → Values
slice_values x y = with (ids.Whole variables.FirstArgument) x (with (ids.Whole variables.SecondArgument) y (λ id. 0))

-- a slice that there is: arguments are below their extents, and 0 where no loop is over them
pub record IsSlice (start : List Loop) (extents : Values) (x y : ℕ) : Type 0 where
  pub x_below : has_variable variables.FirstArgument start ≡ true → x < extents (ids.Whole variables.FirstArgument)
  pub y_below : has_variable variables.SecondArgument start ≡ true → y < extents (ids.Whole variables.SecondArgument)
  pub no_x : has_variable variables.FirstArgument start ≡ false → x ≡ 0
  pub no_y : has_variable variables.SecondArgument start ≡ false → y ≡ 0

kept_not : (keep : Visit → Bool) (visit : Visit) → keep visit ≡ false → filter keep (visit ∷ []) ≡ []
kept_not keep visit e = rw e refl

-- loops that pass a test, none of them over a reduction, have the values of the slice
pub begins : (test : Loop → Bool) → ((id : LoopId) (loops : List Loop) → total (is_one test id) loops ≤ total (is_one is_free id) loops)
    → (count : ℕ) (extents : Values) (start : List Loop) (x y : ℕ) → Plain start → IsSlice start extents x y
    → Begins Visit extents (seen start count) (is_slice x y) test start (slice_values x y)
begins test below count extents start x y plain slice = record {
  sound = sound start plain;
  range = λ id there. elim (free id start plain (omega (arith, there, below id start))) [
    | inl p ↦ subst (λ (i : LoopId). slice_values x y i < extents i) (sym p.0) (slice.x_below p.1)
    | inr p ↦ subst (λ (i : LoopId). slice_values x y i < extents i) (sym p.0) (slice.y_below p.1)
  ];
  only = λ values in_range id there d. kept_not (is_slice x y) (seen start count values) (elim (free id start plain (omega (arith, there, below id start))) [
    | inl p ↦
        let differ : values (ids.Whole variables.FirstArgument) ≢ x = subst (λ (i : LoopId). values i ≢ slice_values x y i) p.0 d in
        rw p.1 (and_left (values (ids.Whole variables.FirstArgument) == x) (in_place (has_variable variables.SecondArgument start)
        (values (ids.Whole variables.SecondArgument)) == y) (ne_eqb (values (ids.Whole variables.FirstArgument)) x differ))
    | inr p ↦
        let differ : values (ids.Whole variables.SecondArgument) ≢ y = subst (λ (i : LoopId). values i ≢ slice_values x y i) p.0 d in
        rw p.1 (and_right (in_place (has_variable variables.FirstArgument start) (values (ids.Whole variables.FirstArgument)) == x)
        (values (ids.Whole variables.SecondArgument) == y) (ne_eqb (values (ids.Whole variables.SecondArgument)) y differ))
  ]);
}

upto_rises : (x y from n : ℕ) → upto n (λ m. (record { x = x; y = y; number = from + m }) ∷ []) ≡ rising x y from n
unfolding upto
upto_rises x y from zero = refl
upto_rises x y from (suc n) =
    let visit : ℕ → List Visit = λ m. record { x = x; y = y; number = from + m } ∷ [] in
    let later : ℕ → List Visit = λ m. record { x = x; y = y; number = suc from + m } ∷ [] in
    let e : suc n ≡ 1 + n = omega arith in
    let f : from + 0 ≡ from = omega arith in
    ap (λ (k : ℕ). upto k visit) e ∙ upto-add 1 n visit
    ∙ ap (λ (k : ℕ). record { x = x; y = y; number = k } ∷ upto n (λ v. visit (1 + v))) f
    ∙ ap (λ (vs : List Visit). record { x = x; y = y; number = from } ∷ vs)
    (upto_same n (λ v. visit (1 + v)) later (λ v l. let g : from + (1 + v) ≡ suc from + v = omega arith in ap (λ (k : ℕ). record { x = x; y = y; number = k }
    ∷ []) g) ∙ upto_rises x y (suc from) n)

pub in_place_is : (placed : Bool) (value x : ℕ) → (placed ≡ true → value ≡ x) → (placed ≡ false → x ≡ 0) → in_place placed value ≡ x
in_place_is true value x here none = here refl
in_place_is false value x here none = sym (none refl)

slice_itself : (x y number : ℕ) → filter (is_slice x y) (record { x = x; y = y; number = number } ∷ []) ≡ record { x = x; y = y; number = number } ∷ []
slice_itself x y number = rw (eq-eqb x x refl, eq-eqb y y refl) refl

-- how many reduction points there are
abbrev pub points : Bool → Values → ℕ
points two extents = cond two (extents (ids.Whole variables.SecondReduction) * extents (ids.Whole variables.FirstReduction))
    (extents (ids.Whole variables.FirstReduction))

module _ (extents : Values) (start : List Loop) (is : IsUpdateStart start) (x y : ℕ) (slice : IsSlice start extents x y) where
  abbrev count : ℕ
  count = extents (ids.Whole variables.FirstReduction)

  abbrev w : Values
  w = filled (slice_values x y) start (λ id. 0)

  abbrev body : Values → List Visit
  body values = filter (is_slice x y) (seen start count values ∷ [])

  filled_first : has_variable variables.FirstArgument start ≡ true → w (ids.Whole variables.FirstArgument) ≡ x
  filled_first p = (fills (slice_values x y) start (λ id. 0) (ids.Whole variables.FirstArgument)).0 (among variables.FirstArgument start is.plain refl p)

  filled_second : has_variable variables.SecondArgument start ≡ true → w (ids.Whole variables.SecondArgument) ≡ y
  filled_second p = (fills (slice_values x y) start (λ id. 0) (ids.Whole variables.SecondArgument)).0 (among variables.SecondArgument start is.plain refl p)

  body_is : (i j : ℕ) (values : Values) → values (ids.Whole variables.FirstArgument) ≡ w (ids.Whole variables.FirstArgument)
      → values (ids.Whole variables.SecondArgument) ≡ w (ids.Whole variables.SecondArgument)
      → values (ids.Whole variables.FirstReduction) ≡ i → in_place (has_variable variables.SecondReduction start) (values (ids.Whole variables.SecondReduction))
      ≡ j → body values ≡ record { x = x; y = y; number = j * count + i } ∷ []
  body_is i j values ex ey ei ej =
      let fx : in_place (has_variable variables.FirstArgument start) (values (ids.Whole variables.FirstArgument)) ≡ x =
      in_place_is (has_variable variables.FirstArgument start) (values (ids.Whole variables.FirstArgument)) x (λ p. ex ∙ filled_first p) slice.no_x in
      let fy : in_place (has_variable variables.SecondArgument start) (values (ids.Whole variables.SecondArgument)) ≡ y =
      in_place_is (has_variable variables.SecondArgument start) (values (ids.Whole variables.SecondArgument)) y (λ p. ey ∙ filled_second p) slice.no_y in
      let fi : in_place (has_variable variables.FirstReduction start) (values (ids.Whole variables.FirstReduction)) ≡ i =
      ap (λ (b : Bool). in_place b (values (ids.Whole variables.FirstReduction))) is.one ∙ ei in
      let same : seen start count values ≡ record { x = x; y = y; number = j * count + i } =
      ap (λ (a : ℕ). record {
        x = a;
        y = in_place (has_variable variables.SecondArgument start) (values (ids.Whole variables.SecondArgument));
        number =
            in_place (has_variable variables.SecondReduction start) (values (ids.Whole variables.SecondReduction)) * count + in_place
            (has_variable variables.FirstReduction start) (values (ids.Whole variables.FirstReduction));
      }) fx
      ∙ ap (λ (b : ℕ). record {
        x = x;
        y = b;
        number = in_place (has_variable variables.SecondReduction start) (values (ids.Whole variables.SecondReduction))
            * count + in_place (has_variable variables.FirstReduction start) (values (ids.Whole variables.FirstReduction));
      }) fy
      ∙ ap (λ (c : ℕ). record {
        x = x;
        y = y;
        number = c * count + in_place (has_variable variables.FirstReduction start)
            (values (ids.Whole variables.FirstReduction));
      }) ej
      ∙ ap (λ (c : ℕ). record { x = x; y = y; number = j * count + c }) fi in
      ap (λ (v : Visit). filter (is_slice x y) (v ∷ [])) same ∙ slice_itself x y (j * count + i)

  pub seen_same : (one other : Values) → ((id : LoopId) → one id ≡ other id) → seen start count one ≡ seen start count other
  seen_same one other same = rw (
    same (ids.Whole variables.FirstArgument),
    same (ids.Whole variables.SecondArgument),
    same (ids.Whole variables.FirstReduction),
    same (ids.Whole variables.SecondReduction),
  ) refl

  abbrev visit : ℕ → List Visit
  visit m = record { x = x; y = y; number = m } ∷ []

  by_reductions : (two : Bool) → has_variable variables.SecondReduction start ≡ two → nest_ids extents (reductions_of two) body w
      ≡ rising x y 0 (points two extents)
  by_reductions true e =
      let placed : (n : ℕ) → in_place (has_variable variables.SecondReduction start) n ≡ n = λ n. ap (λ (b : Bool). in_place b n) e in
      upto_same (extents (ids.Whole variables.SecondReduction))
      (λ j. upto count (λ i. body (with (ids.Whole variables.FirstReduction) i (with (ids.Whole variables.SecondReduction) j w))))
      (λ j. upto count (λ i. visit (j * count + i)))
      (λ j lj. upto_same count (λ i. body (with (ids.Whole variables.FirstReduction) i (with (ids.Whole variables.SecondReduction) j w)))
      (λ i. visit (j * count + i))
      (λ i li. body_is i j (with (ids.Whole variables.FirstReduction) i (with (ids.Whole variables.SecondReduction) j w)) refl refl refl (placed j)))
      ∙ sym (upto_split (extents (ids.Whole variables.SecondReduction)) count visit)
      ∙ upto_same (extents (ids.Whole variables.SecondReduction) * count) visit (λ m. visit (0 + m)) (λ m l. let z : m ≡ 0 + m = omega arith in ap visit z)
      ∙ upto_rises x y 0 (extents (ids.Whole variables.SecondReduction) * count)
  by_reductions false e =
      upto_same count (λ i. body (with (ids.Whole variables.FirstReduction) i w)) (λ m. visit (0 + m))
      (λ i li. body_is i 0 (with (ids.Whole variables.FirstReduction) i w) refl refl refl
      (ap (λ (b : Bool). in_place b (w (ids.Whole variables.SecondReduction))) e) ∙ (let z : 0 * count + i ≡ 0 + i = omega arith in ap visit z))
      ∙ upto_rises x y 0 count

  -- the first nest visits the points of a slice in their order
  pub slice_rises : filter (is_slice x y) (nest extents start (λ v. seen start count v ∷ []) (λ id. 0))
      ≡ rising x y 0 (points (has_variable variables.SecondReduction start) extents)
  slice_rises =
      let b = begins is_free free_free count extents start x y is.plain slice in
      filter-nest (is_slice x y) extents start (λ v. seen start count v ∷ []) (λ id. 0)
      ∙ selected Visit extents (slice_values x y) start body b.sound.unique (λ one other same. ap (λ (v : Visit). filter (is_slice x y) (v ∷ []))
      (seen_same one other same)) b.range b.only (λ id. 0)
      ∙ ap (λ (ids : List LoopId). nest_ids extents ids body w) is.two
      ∙ by_reductions (has_variable variables.SecondReduction start) refl

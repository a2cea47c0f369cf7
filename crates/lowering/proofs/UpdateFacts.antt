-- What is known of an update of a Func that is computed.
use Rattle.std.proofs.Common.{◌≡◌, ℕ, ◌+◌, ◌*◌, ◌/◌, ◌%◌, ◌<◌, ◌≤◌, Bool, true, false, cond, List, Option, Some, None, refl, sym, ap, ◌∙◌, arith}
use Rattle.std.specs.Prelude.{◌&&◌, ◌==◌, nat_le}
use Rattle.std.proofs.lemmas.Bool.{and_parts, leb-true}
use Rattle.std.proofs.lemmas.Nat.{div-mul-add, mod-mul-add}
use Rattle.halide_pipeline.specs.declared.definitions.Func.{Func}
use Rattle.halide_pipeline.specs.declared.definitions.Input.{Input}
use Rattle.halide_pipeline.specs.declared.definitions.Reduction.{Reduction}
use Rattle.halide_pipeline.specs.declared.definitions.Update.{Update}
use Rattle.halide_pipeline.specs.declared.expressions.Expr.{Expr}
use Rattle.halide_pipeline.specs.declared.expressions.Variable.TheVariants as variables
use Rattle.halide_pipeline.specs.WellFormed.{dimensions, is_first_in_place, is_second, is_second_in_place, IsWellFormed, IsUpdate, is_width, is_height, is_box}
use Rattle.halide_pipeline.specs.WellFormed.{keeps_index, is_read, is_update_variable, most_points}
use Rattle.halide_pipeline.specs.WellFormed as formed
use Rattle.halide_pipeline.specs.Pixel.{points, second_extent}
use Rattle.schedule_lines.specs.declared.stages.Loop.{Loop}
use Rattle.schedule_loops.specs.Stages.{first_loops, has_variable, points_of}
use Rattle.bounds.specs.declared.boxes.SourceBox.{SourceBox}
use Rattle.bounds.specs.Extents.{update_extents}

-- ---- which variables have loops

module _ (func : Func) (update : Update) where
  abbrev pub start : List Loop
  start = first_loops func (Some update)

  -- by the arguments in place, and whether there are a second argument and a second reduction variable
  abbrev Tests : Type 0
  Tests =
      (has_variable variables.FirstArgument start ≡ is_first_in_place update)
      × ((is_second_in_place update ≡ false → has_variable variables.SecondArgument start ≡ false)
      × ((has_variable variables.FirstReduction start ≡ true) × (cond (has_variable variables.SecondReduction start) (second_extent update.second) 1
      ≡ second_extent update.second)))

  tests_by : (first second : Bool) → is_first_in_place update ≡ first → is_second_in_place update ≡ second → (name : Option (List ℕ))
      → func.second_argument ≡ name → (reduction : Option Reduction) → update.second ≡ reduction → Tests
  tests_by true true ef es None en None er = rw (ef, es, en, er) (refl, (λ e. absurd cc, (refl, refl)))
  tests_by true true ef es (Some n) en None er = rw (ef, es, en, er) (refl, (λ e. absurd cc, (refl, refl)))
  tests_by true true ef es None en (Some r) er = rw (ef, es, en, er) (refl, (λ e. absurd cc, (refl, refl)))
  tests_by true true ef es (Some n) en (Some r) er = rw (ef, es, en, er) (refl, (λ e. absurd cc, (refl, refl)))
  tests_by false true ef es None en None er = rw (ef, es, en, er) (refl, (λ e. absurd cc, (refl, refl)))
  tests_by false true ef es (Some n) en None er = rw (ef, es, en, er) (refl, (λ e. absurd cc, (refl, refl)))
  tests_by false true ef es None en (Some r) er = rw (ef, es, en, er) (refl, (λ e. absurd cc, (refl, refl)))
  tests_by false true ef es (Some n) en (Some r) er = rw (ef, es, en, er) (refl, (λ e. absurd cc, (refl, refl)))
  tests_by true false ef es name en None er = rw (ef, es, er) (refl, (λ e. refl, (refl, refl)))
  tests_by true false ef es name en (Some r) er = rw (ef, es, er) (refl, (λ e. refl, (refl, refl)))
  tests_by false false ef es name en None er = rw (ef, es, er) (refl, (λ e. refl, (refl, refl)))
  tests_by false false ef es name en (Some r) er = rw (ef, es, er) (refl, (λ e. refl, (refl, refl)))

  tests : Tests
  tests = tests_by (is_first_in_place update) (is_second_in_place update) refl refl func.second_argument refl update.second refl

  pub has_first : has_variable variables.FirstArgument start ≡ is_first_in_place update
  has_first = tests.0

  pub no_second : is_second_in_place update ≡ false → has_variable variables.SecondArgument start ≡ false
  no_second = tests.1.0

  pub has_reduction : has_variable variables.FirstReduction start ≡ true
  has_reduction = tests.1.1.0

  -- a second reduction variable takes all its values; where there is none, that is one
  second_count : cond (has_variable variables.SecondReduction start) (second_extent update.second) 1 ≡ second_extent update.second
  second_count = tests.1.1.1

  pub points_are : (source_box : SourceBox) → points_of func (Some update) (update_extents source_box update) ≡ points
      update
  points_are source_box =
      ap (λ (b : Bool). cond (has_variable variables.SecondReduction start) (second_extent update.second) 1 * cond b update.first.extent 1) has_reduction
      ∙ ap (λ (n : ℕ). n * update.first.extent) second_count ∙ swapped (second_extent update.second) update.first.extent
    where
      swapped : (a b : ℕ) → a * b ≡ b * a
      swapped a b = omega arith

  second_by : (first : Bool) → is_first_in_place update ≡ first → (name : List ℕ) → func.second_argument ≡ Some name → (reduction : Option Reduction)
      → update.second ≡ reduction
      → is_second_in_place update ≡ true → has_variable variables.SecondArgument start ≡ true
  second_by true ef name en None er es = rw (ef, es, en, er) refl
  second_by true ef name en (Some r) er es = rw (ef, es, en, er) refl
  second_by false ef name en None er es = rw (ef, es, en, er) refl
  second_by false ef name en (Some r) er es = rw (ef, es, en, er) refl

  -- a second argument in place is there
  pub second_there : (inputs : List Input) (funcs : List Func) (func_index : ℕ) → IsUpdate inputs funcs func_index (dimensions func) update
      → is_second_in_place update ≡ true → has_variable variables.SecondArgument start ≡ true
  second_there inputs funcs func_index rules es = by_name func.second_argument refl update.left_y refl
    where
      by_name : (name : Option (List ℕ)) → func.second_argument ≡ name → (index : Option Expr) → update.left_y ≡ index
          → has_variable variables.SecondArgument start ≡ true
      by_name (Some name) en index ei = second_by (is_first_in_place update) refl name en update.second refl es
      by_name None en None ei = let wrong : false ≡ true = sym (ap is_second ei) ∙ es in absurd cc
      by_name None en (Some index) ei =
          let kept : keeps_index (is_read inputs funcs func_index) (is_update_variable (dimensions func) update.second) (dimensions func) (Some index) ≡ true =
          ap (keeps_index (is_read inputs funcs func_index) (is_update_variable (dimensions func) update.second) (dimensions func)) (sym ei) ∙ rules.left_y in
          let two : (dimensions func == 2) ≡ true = (and_parts (dimensions func == 2) _ kept).0 in
          let one : dimensions func ≡ 1 = rw en refl in
          let wrong : (1 == 2) ≡ true = ap (λ (n : ℕ). n == 2) (sym one) ∙ two in
          absurd cc

-- ---- how many values variables take

height_some : (width height : ℕ) → is_height width height ≡ true → (1 ≤ height) × (height ≤ 65536)
height_some width height e =
    let p = and_parts (nat_le 1 height && nat_le height 65536) (nat_le (width * height) most_points) e in
    let q = and_parts (nat_le 1 height) (nat_le height 65536) p.0 in
    (leb-true 1 height q.0, leb-true height 65536 q.1)

width_some : (width : ℕ) → is_width width ≡ true → (1 ≤ width) × (width ≤ 65536)
width_some width e = let q = and_parts (nat_le 1 width) (nat_le width 65536) e in (leb-true 1 width q.0, leb-true width 65536 q.1)

module _ (update : Update) (fits : is_box update ≡ true) where
  parts : (is_width update.first.extent ≡ true) × (is_height update.first.extent (formed.second_extent update.second) ≡ true)
  parts = and_parts (is_width update.first.extent) (is_height update.first.extent (formed.second_extent update.second)) fits

  pub first_extent : (1 ≤ update.first.extent) × (update.first.extent ≤ 65536)
  first_extent = width_some update.first.extent parts.0

  same_extent : (second : Option Reduction) → formed.second_extent second ≡ second_extent second
  same_extent None = refl
  same_extent (Some own) = refl

  pub second_few : (1 ≤ second_extent update.second) × (second_extent update.second ≤ 65536)
  second_few =
      let p = height_some update.first.extent (formed.second_extent update.second) parts.1 in
      let s = same_extent update.second in
      (omega (arith, p.0, s), omega (arith, p.1, s))

  -- ---- the point of a reduction box that loops stand at

  pub remainder_is : (first second : ℕ) → first < update.first.extent → (second * update.first.extent + first) % update.first.extent ≡ first
  remainder_is first second few = mod-mul-add second update.first.extent first few

  pub quotient_is : (first second : ℕ) → first < update.first.extent → (second * update.first.extent + first) / update.first.extent ≡ second
  quotient_is first second few = div-mul-add second update.first.extent first few

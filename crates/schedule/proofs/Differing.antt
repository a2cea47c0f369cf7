-- The names of the loops that a stage begins with differ, where those of the Func's variables do.
use Rattle.std.proofs.Common.{◌≡◌, ℕ, ◌≤◌, Bool, true, false, not, cond, List, [], ◌∷◌, ◌++◌, Option, Some, None, refl, ◌∙◌, subst, arith}
use Rattle.std.specs.Prelude.{◌&&◌, ◌||◌}
use Rattle.std.specs.Str.{bytes_eq}
use Rattle.std.proofs.lemmas.Bool.{and_parts, or_parts}
use Rattle.halide_pipeline.specs.declared.definitions.Func.{Func}
use Rattle.halide_pipeline.specs.declared.definitions.Reduction.{Reduction}
use Rattle.halide_pipeline.specs.declared.definitions.Update.{Update}
use Rattle.halide_pipeline.specs.declared.expressions.Variable.{Variable}
use Rattle.halide_pipeline.specs.declared.expressions.Variable.TheVariants as variables
use Rattle.halide_pipeline.specs.WellFormed.{is_first_in_place, is_second_in_place, is_name, is_second_name, are_arguments, is_argument_name}
use Rattle.halide_pipeline.specs.WellFormed.{is_second_reduction, are_reductions}
use Rattle.halide_pipeline.specs.Pipelines.{is_named}
use Rattle.schedule_lines.specs.declared.stages.Loop.{Loop}
use Rattle.schedule_lines.specs.declared.stages.LoopId.TheVariants as ids
use Rattle.schedule_lines.specs.Making.{total, has_name, Differ}
use Rattle.schedule_lines.proofs.Names.{same_bytes, swapped, total-append}
use Rattle.schedule.specs.Plans.{pure_loops, reduction_loops, with_loop, with_second, with_reduction, with_first_in_place, update_loops}

not_true : (test : Bool) → not test ≡ true → test ≡ false
not_true true e = cc
not_true false e = refl

-- a loop over a whole variable
abbrev over : List ℕ → Variable → Loop
over name variable = record { id = ids.Whole variable; name = name; variable = variable; inner_of = None; is_from_shift = false; marked = None }

-- ---- one more loop

abbrev Absent : List ℕ → List Loop → Type 0
Absent name loops = total (has_name name) loops ≡ 0

more_by : (is : Bool) (loops : List Loop) (stage_loop : Loop) (name : List ℕ) → bytes_eq stage_loop.name name ≡ is → Absent stage_loop.name loops → total (has_name name) loops ≤ 1
    → total (has_name name) (loops ++ stage_loop ∷ []) ≤ 1
more_by true loops stage_loop name is absent few =
    let none : total (has_name name) loops ≡ 0 = rw (same_bytes stage_loop.name name is) at absent in
    let one : has_name name stage_loop ≡ 1 = rw is refl in
    omega (arith, total-append (has_name name) loops (stage_loop ∷ []), none, one)
more_by false loops stage_loop name is absent few =
    let zero : has_name name stage_loop ≡ 0 = rw is refl in
    omega (arith, total-append (has_name name) loops (stage_loop ∷ []), zero, few)

more : (loops : List Loop) (stage_loop : Loop) → Absent stage_loop.name loops → Differ loops
    → Differ (loops ++ stage_loop ∷ [])
more loops stage_loop absent differ = λ name. more_by (bytes_eq stage_loop.name name) loops stage_loop name refl absent
    (differ name)

-- a name that is none of the loops, nor of one more
absent_more : (loops : List Loop) (stage_loop : Loop) (name : List ℕ) → bytes_eq stage_loop.name name ≡ false → Absent name loops → Absent name (loops ++ stage_loop ∷ [])
absent_more loops stage_loop name apart absent =
    let zero : has_name name stage_loop ≡ 0 = rw apart refl in
    omega (arith, total-append (has_name name) loops (stage_loop ∷ []), absent, zero)

one_alone : (stage_loop : Loop) → Differ (stage_loop ∷ [])
one_alone stage_loop = more [] stage_loop refl (λ name. omega arith)

absent_one : (stage_loop : Loop) (name : List ℕ) → bytes_eq stage_loop.name name ≡ false → Absent name (stage_loop ∷ [])
absent_one stage_loop name apart = absent_more [] stage_loop name apart refl

-- ---- a pure definition

second_differs : (second : Option (List ℕ)) (first : List ℕ) → is_named second first ≡ false
    → Differ (with_second (with_loop [] first variables.FirstArgument) second variables.SecondArgument)
second_differs None first apart = one_alone (over first variables.FirstArgument)
second_differs (Some name) first apart =
    let swapped_apart : bytes_eq first name ≡ false = swapped first name ∙ apart in
    more (with_loop [] first variables.FirstArgument) (over name variables.SecondArgument)
    (absent_one (over first variables.FirstArgument) name swapped_apart) (one_alone (over first variables.FirstArgument))

pub pure_differs : (func : Func) → are_arguments func.first_argument func.second_argument ≡ true → Differ (pure_loops func)
pure_differs func names =
    let parts = and_parts (is_name func.first_argument && is_second_name func.second_argument) (not (is_named func.second_argument func.first_argument)) names
    in
    second_differs func.second_argument func.first_argument (not_true (is_named func.second_argument func.first_argument) parts.1)

-- ---- an update

-- the name is none of the reduction variables'
record Apart (update : Update) (name : List ℕ) : Type 0 where
  first : bytes_eq update.first.name name ≡ false
  second : (outer : Reduction) → update.second ≡ Some outer → bytes_eq outer.name name ≡ false

absent_reductions_by : (second : Option Reduction) (update : Update) (name : List ℕ) → update.second ≡ second → Apart update name
    → Absent name (with_reduction (with_loop [] update.first.name variables.FirstReduction) second)
absent_reductions_by None update name is apart = absent_one (over update.first.name variables.FirstReduction) name apart.first
absent_reductions_by (Some outer) update name is apart =
    absent_more (with_loop [] update.first.name variables.FirstReduction) (over outer.name variables.SecondReduction) name (apart.second outer is)
    (absent_one (over update.first.name variables.FirstReduction) name apart.first)

absent_reductions : (update : Update) (name : List ℕ) → Apart update name → Absent name (reduction_loops update)
absent_reductions update name apart = absent_reductions_by update.second update name refl apart

reductions_differ : (second : Option Reduction) (inner : List ℕ) → ((outer : Reduction) → second ≡ Some outer → bytes_eq inner outer.name ≡ false)
    → Differ (with_reduction (with_loop [] inner variables.FirstReduction) second)
reductions_differ None inner apart = one_alone (over inner variables.FirstReduction)
reductions_differ (Some outer) inner apart =
    more (with_loop [] inner variables.FirstReduction) (over outer.name variables.SecondReduction)
    (absent_one (over inner variables.FirstReduction) outer.name (apart outer refl)) (one_alone (over inner variables.FirstReduction))

-- with an argument in place, or without it
placed_differs : (in_place : Bool) (loops : List Loop) (stage_loop : Loop) → Absent stage_loop.name loops → Differ loops → Differ (cond in_place (loops ++ stage_loop ∷ []) loops)
placed_differs true loops stage_loop absent differ = more loops stage_loop absent differ
placed_differs false loops stage_loop absent differ = differ

placed_absent : (in_place : Bool) (loops : List Loop) (stage_loop : Loop) (name : List ℕ) → bytes_eq stage_loop.name name ≡ false → Absent name loops
    → Absent name (cond in_place (loops ++ stage_loop ∷ []) loops)
placed_absent true loops stage_loop name apart absent = absent_more loops stage_loop name apart absent
placed_absent false loops stage_loop name apart absent = absent

second_placed : (in_place : Bool) (second : Option (List ℕ)) (loops : List Loop) → ((name : List ℕ) → second ≡ Some name → Absent name loops) → Differ loops
    → Differ (cond in_place (with_second loops second variables.SecondArgument) loops)
second_placed true None loops absent differ = differ
second_placed true (Some name) loops absent differ = more loops (over name variables.SecondArgument) (absent name refl) differ
second_placed false second loops absent differ = differ

-- what an update's names keep, one by one
record AreApart (func : Func) (update : Update) : Type 0 where
  from_first : Apart update func.first_argument
  from_second : (name : List ℕ) → func.second_argument ≡ Some name → Apart update name
  arguments : (name : List ℕ) → func.second_argument ≡ Some name → bytes_eq func.first_argument name ≡ false
  reductions : (outer : Reduction) → update.second ≡ Some outer → bytes_eq update.first.name outer.name ≡ false

second_apart : (second : Option (List ℕ)) (name own : List ℕ) → is_named second own ≡ false → second ≡ Some name → bytes_eq own name ≡ false
second_apart None name own apart is = cc
second_apart (Some other) name own apart is =
    let same : other ≡ name = cc in
    swapped own name ∙ subst (λ (o : List ℕ). bytes_eq o own ≡ false) same apart

-- a reduction variable's name is none of the arguments'
abbrev IsNoArgument : Func → List ℕ → Type 0
IsNoArgument func own = (bytes_eq own func.first_argument ≡ false) × ((name : List ℕ) → func.second_argument ≡ Some name → bytes_eq own name ≡ false)

no_argument : (func : Func) (own : List ℕ) → is_argument_name func.first_argument func.second_argument own ≡ false → IsNoArgument func own
no_argument func own e =
    let parts = or_parts (bytes_eq func.first_argument own) (is_named func.second_argument own) e in
    (swapped own func.first_argument ∙ parts.0, λ name is. second_apart func.second_argument name own parts.1 is)

outer_apart : (second : Option Reduction) (func : Func) (inner : List ℕ) (outer : Reduction)
    → is_second_reduction func.first_argument func.second_argument inner second ≡ true → second ≡ Some outer
    → (bytes_eq inner outer.name ≡ false) × IsNoArgument func outer.name
outer_apart None func inner outer e is = absurd cc
outer_apart (Some other) func inner outer e is =
    let same : other ≡ outer = cc in
    let parts = and_parts (is_name other.name) (not (bytes_eq other.name inner || is_argument_name func.first_argument func.second_argument other.name)) e in
    let tests = or_parts (bytes_eq other.name inner) (is_argument_name func.first_argument func.second_argument other.name) (not_true _ parts.1) in
    subst (λ (o : Reduction). (bytes_eq inner o.name ≡ false) × IsNoArgument func o.name) same (
      swapped inner other.name
          ∙ tests.0,
      no_argument func other.name tests.1,
    )

are_apart : (func : Func) (update : Update) → are_arguments func.first_argument func.second_argument ≡ true
    → are_reductions func.first_argument func.second_argument update ≡ true → AreApart func update
are_apart func update arguments reductions =
    let names = and_parts (is_name func.first_argument && is_second_name func.second_argument) (not (is_named func.second_argument func.first_argument))
    arguments in
    let both = and_parts (is_name update.first.name && not (is_argument_name func.first_argument func.second_argument update.first.name))
    (is_second_reduction func.first_argument func.second_argument update.first.name update.second) reductions in
    let first = and_parts (is_name update.first.name) (not (is_argument_name func.first_argument func.second_argument update.first.name)) both.0 in
    let inner = no_argument func update.first.name (not_true _ first.1) in
    let outer : (o : Reduction) → update.second ≡ Some o → (bytes_eq update.first.name o.name ≡ false) × IsNoArgument func o.name =
    λ o is. outer_apart update.second func update.first.name o both.1 is in
    record {
      from_first = record { first = inner.0; second = λ o is. (outer o is).1.0 };
      from_second = λ name is. record { first = inner.1 name is; second = λ o at. (outer o at).1.1 name is };
      arguments = λ name is. second_apart func.second_argument name func.first_argument (not_true _ names.1) is;
      reductions = λ o is. (outer o is).0;
    }

pub update_differs : (func : Func) (update : Update) → are_arguments func.first_argument func.second_argument ≡ true
    → are_reductions func.first_argument func.second_argument update ≡ true
    → Differ (update_loops func update)
update_differs func update arguments reductions =
    let apart = are_apart func update arguments reductions in
    let begun = reductions_differ update.second update.first.name apart.reductions in
    let first = placed_differs (is_first_in_place update) (reduction_loops update) (over func.first_argument variables.FirstArgument) (absent_reductions update
    func.first_argument apart.from_first) begun in
    second_placed (is_second_in_place update) func.second_argument (with_first_in_place func update (reduction_loops update))
    (λ name is. placed_absent (is_first_in_place update) (reduction_loops update) (over func.first_argument variables.FirstArgument) name
    (apart.arguments name is) (absent_reductions update name (apart.from_second name is))) first

-- The first loops of a stage: each over a whole variable, no two over one.
use Rattle.std.proofs.Common.{◌≡◌, ℕ, ◌≤◌, Bool, true, false, not, cond, List, [], ◌∷◌, Option, Some, None, refl, sym, ap, subst, ◌∙◌, arith, ◌⊎◌, inl, inr}
use Rattle.std.specs.Prelude.{◌&&◌, ◌||◌, if◌then◌else◌}
use Rattle.halide_pipeline.specs.declared.definitions.Func.{Func}
use Rattle.halide_pipeline.specs.declared.definitions.Reduction.{Reduction}
use Rattle.halide_pipeline.specs.declared.definitions.Update.{Update}
use Rattle.halide_pipeline.specs.declared.expressions.Variable.{Variable}
use Rattle.halide_pipeline.specs.declared.expressions.Variable.TheVariants as variables
use Rattle.halide_pipeline.specs.WellFormed.{is_first_in_place, is_second_in_place}
use Rattle.halide_pipeline.specs.Expressions.{same_variable}
use Rattle.schedule_lines.specs.declared.stages.Loop.{Loop}
use Rattle.schedule_lines.specs.declared.stages.LoopId.{LoopId}
use Rattle.schedule_lines.specs.declared.stages.LoopId.TheVariants as ids
use Rattle.schedule_lines.specs.declared.stages.Split.{Split}
use Rattle.schedule_lines.specs.Directives.{same_id, is_reduction, reductions}
use Rattle.schedule_lines.specs.Making.{total, IsMade}
use Rattle.schedule.specs.Plans.{with_loop, with_second, with_reduction, pure_loops, update_loops}
use Rattle.schedule_loops.specs.Stages.{has_variable, first_loops}
use Rattle.schedule_loops.proofs.Ids.{same_id-true, same_variable-true, same_variable-self, is_old}
use Rattle.schedule_loops.proofs.Nesting.{has_id}
use Rattle.schedule_loops.proofs.Selecting.{is_free, is_one, IsAmong, Unique}
use Rattle.schedule_loops.proofs.Making.{Sound, by_making, sound_stays}

-- Each loop is over the whole of a variable, and no two are over one.
abbrev pub Plain : List Loop → Type 0
Plain [] = Unit {0}
Plain (own ∷ others) = ((own.id ≡ ids.Whole own.variable) × (has_variable own.variable others ≡ false)) × Plain others

-- ---- what follows of them

id_of : (stage_loop : Loop) (v : Variable) → stage_loop.id ≡ ids.Whole stage_loop.variable → (test : Bool) → same_variable stage_loop.variable v ≡ test
    → has_id (ids.Whole v) stage_loop ≡ cond test 1 0
id_of stage_loop v e test f = ap (λ (i : LoopId). cond {A = ℕ} (same_id i (ids.Whole v)) 1 0) e ∙ ap (λ (b : Bool). cond {A = ℕ} b 1 0) f

absent_at : (stage_loop : Loop) (others : List Loop) (v : Variable) (test : Bool) → same_variable stage_loop.variable v ≡ test → stage_loop.id ≡ ids.Whole stage_loop.variable
    → (has_variable v others ≡ false → total (has_id (ids.Whole v)) others ≡ 0) → (test || has_variable v others) ≡ false
    → total (has_id (ids.Whole v)) (stage_loop ∷ others) ≡ 0
absent_at stage_loop others v true e plain later none = cc
absent_at stage_loop others v false e plain later none = omega (arith, id_of stage_loop v plain false e, later none)

-- no loop is over the variable
pub absent : (v : Variable) (start : List Loop) → Plain start → has_variable v start ≡ false → total (has_id (ids.Whole v)) start ≡ 0
absent v [] plain none = refl
absent v (own ∷ others) plain none =
    absent_at own others v (same_variable own.variable v) refl plain.0.0 (absent v others plain.1) none

there_at : (stage_loop : Loop) (others : List Loop) (v : Variable) (test : Bool) → same_variable stage_loop.variable v ≡ test → stage_loop.id ≡ ids.Whole stage_loop.variable
    → (has_variable v others ≡ true → 1 ≤ total (has_id (ids.Whole v)) others) → (test || has_variable v others) ≡ true
    → 1 ≤ total (has_id (ids.Whole v)) (stage_loop ∷ others)
there_at stage_loop others v true e plain later some = omega (arith, id_of stage_loop v plain true e)
there_at stage_loop others v false e plain later some = omega (arith, later some)

pub there : (v : Variable) (start : List Loop) → Plain start → has_variable v start ≡ true → 1 ≤ total (has_id (ids.Whole v)) start
there v [] plain some = cc
there v (own ∷ others) plain some = there_at own others v (same_variable own.variable v) refl plain.0.0 (there v others plain.1) some

no_part : (id : LoopId) (stage_loop : Loop) → stage_loop.id ≡ ids.Whole stage_loop.variable → is_old 0 id ≡ false
    → has_id id stage_loop ≡ 0
no_part (ids.Whole v) stage_loop e new = cc
no_part (ids.Outer n) stage_loop e new = ap (λ (i : LoopId). cond {A = ℕ} (same_id i (ids.Outer n)) 1 0) e
no_part (ids.Inner n) stage_loop e new = ap (λ (i : LoopId). cond {A = ℕ} (same_id i (ids.Inner n)) 1 0) e

pub no_parts : (id : LoopId) (start : List Loop) → Plain start → is_old 0 id ≡ false → total (has_id id) start ≡ 0
no_parts id [] plain new = refl
no_parts id (own ∷ others) plain new = omega (arith, no_part id own plain.0.0 new, no_parts id others plain.1 new)

old_at : (id : LoopId) (start : List Loop) → Plain start → (test : Bool) → is_old 0 id ≡ test → 1 ≤ total (has_id id) start → test ≡ true
old_at id start plain true e there = refl
old_at id start plain false e there = absurd (omega (arith, no_parts id start plain e))

few_has : (id : LoopId) (stage_loop : Loop) (test : Bool) → same_id stage_loop.id id ≡ test
    → has_id id stage_loop ≡ cond test 1 0
few_has id stage_loop test e = ap (λ (b : Bool). cond {A = ℕ} b 1 0) e

unique_at : (id : LoopId) (stage_loop : Loop) (others : List Loop) (test : Bool) → same_id stage_loop.id id ≡ test → stage_loop.id ≡ ids.Whole stage_loop.variable
    → total (has_id (ids.Whole stage_loop.variable)) others ≡ 0
    → total (has_id id) others ≤ 1 → total (has_id id) (stage_loop ∷ others) ≤ 1
unique_at id stage_loop others true e plain none few =
    let same : ids.Whole stage_loop.variable ≡ id = sym plain ∙ same_id-true stage_loop.id id e in
    let zero_others : total (has_id id) others ≡ 0 = subst (λ (i : LoopId). total (has_id i) others ≡ 0) same none in
    omega (arith, few_has id stage_loop true e)
unique_at id stage_loop others false e plain none few = omega (arith, few_has id stage_loop false e)

unique : (start : List Loop) → Plain start → Unique start
unique [] plain id = omega arith
unique (own ∷ others) plain id = unique_at id own others (same_id own.id id) refl plain.0.0 (absent own.variable others plain.1 plain.0.1)
    (unique others plain.1 id)

pub sound : (start : List Loop) → Plain start → Sound start []
sound start plain = record { unique = unique start plain; old = λ id there. old_at id start plain (is_old 0 id) refl there }

pub sound_made : {is_update : Bool} {start loops : List Loop} {splits : List Split} → Plain start → IsMade is_update start loops splits → Sound loops splits
sound_made {is_update} {start} plain made = by_making Sound (sound_stays is_update start (sound start plain)) made

-- ---- loops over arguments

free_one : (id : LoopId) (stage_loop : Loop) (same free : Bool) → same_id stage_loop.id id ≡ same
    → is_free stage_loop ≡ free
    → is_one is_free id stage_loop ≡ cond {A = ℕ} (same && free) 1 0
free_one id stage_loop same free e f = ap (λ (b : Bool). cond {A = ℕ} (b && is_free stage_loop) 1 0) e ∙ ap (λ (b : Bool). cond {A = ℕ} (same && b) 1 0) f

argument_of : (v : Variable) → not (is_reduction v) ≡ true → (v ≡ variables.FirstArgument) ⊎ (v ≡ variables.SecondArgument)
argument_of variables.FirstArgument e = inl refl
argument_of variables.SecondArgument e = inr refl
argument_of variables.FirstReduction e = cc
argument_of variables.SecondReduction e = cc

-- which argument a loop is over that is no reduction
abbrev pub IsArgument : List Loop → LoopId → Type 0
IsArgument start id =
    ((id ≡ ids.Whole variables.FirstArgument) × (has_variable variables.FirstArgument start ≡ true)) ⊎ ((id ≡ ids.Whole variables.SecondArgument)
    × (has_variable variables.SecondArgument start ≡ true))

has_later : (v : Variable) (stage_loop : Loop) (others : List Loop) (test : Bool) → same_variable stage_loop.variable v ≡ test → has_variable v others ≡ true
    → (test || has_variable v others) ≡ true
has_later v stage_loop others true e some = refl
has_later v stage_loop others false e some = some

has_here : (v : Variable) (stage_loop : Loop) (others : List Loop) → stage_loop.variable ≡ v
    → has_variable v (stage_loop ∷ others) ≡ true
has_here v stage_loop others e = let s : same_variable stage_loop.variable v ≡ true = ap (λ (u : Variable). same_variable u v) e ∙ same_variable-self v in rw s refl

here_is : (id : LoopId) (stage_loop : Loop) (others : List Loop) → stage_loop.id ≡ ids.Whole stage_loop.variable → stage_loop.id ≡ id → is_free stage_loop ≡ true → IsArgument (stage_loop ∷ others) id
here_is id stage_loop others plain same free = elim (argument_of stage_loop.variable free) [
  | inl e ↦ inl (
    sym same ∙ plain ∙ ap (λ (v : Variable). ids.Whole v) e,
    has_here variables.FirstArgument stage_loop
        others e,
  )
  | inr e ↦ inr (sym same ∙ plain ∙ ap (λ (v : Variable). ids.Whole v) e, has_here variables.SecondArgument stage_loop others e)
]

later_is : (id : LoopId) (stage_loop : Loop) (others : List Loop) → IsArgument others id
    → IsArgument (stage_loop ∷ others) id
later_is id stage_loop others is = elim is [
  | inl p ↦ inl (p.0, has_later variables.FirstArgument stage_loop others (same_variable stage_loop.variable variables.FirstArgument) refl p.1)
  | inr p ↦ inr (p.0, has_later variables.SecondArgument stage_loop others (same_variable stage_loop.variable variables.SecondArgument) refl p.1)
]

free_at : (id : LoopId) (stage_loop : Loop) (others : List Loop) (same is : Bool) → same_id stage_loop.id id ≡ same → is_free stage_loop ≡ is → stage_loop.id ≡ ids.Whole stage_loop.variable
    → (IsAmong is_free others id → IsArgument others id) → IsAmong is_free (stage_loop ∷ others) id → IsArgument (stage_loop ∷ others) id
free_at id stage_loop others true true e f plain later there = here_is id stage_loop others plain
    (same_id-true stage_loop.id id e) f
free_at id stage_loop others true false e f plain later there = later_is id stage_loop others (later (omega (arith, free_one id stage_loop true false e f)))
free_at id stage_loop others false is e f plain later there = later_is id stage_loop others (later (omega (arith, free_one id stage_loop false is e f)))

pub free : (id : LoopId) (start : List Loop) → Plain start → IsAmong is_free start id → IsArgument start id
free id [] plain there = absurd (omega arith)
free id (own ∷ others) plain there = free_at id own others (same_id own.id id) (is_free own) refl refl plain.0.0 (free id others plain.1) there

-- an argument that a loop is over
among_at : (v : Variable) (stage_loop : Loop) (others : List Loop) (test : Bool) → same_variable stage_loop.variable v ≡ test → stage_loop.id ≡ ids.Whole stage_loop.variable
    → not (is_reduction v) ≡ true
    → (has_variable v others ≡ true → IsAmong is_free others (ids.Whole v)) → (test || has_variable v others) ≡ true
    → IsAmong is_free (stage_loop ∷ others) (ids.Whole v)
among_at v stage_loop others true e plain argument later some =
    let u : stage_loop.variable ≡ v = same_variable-true stage_loop.variable v e in
    let same : same_id stage_loop.id (ids.Whole v) ≡ true = ap (λ (i : LoopId). same_id i (ids.Whole v)) plain ∙ e in
    let is : is_free stage_loop ≡ true = ap (λ (w : Variable). not (is_reduction w)) u ∙ argument in
    omega (arith, free_one (ids.Whole v) stage_loop true true same is)
among_at v stage_loop others false e plain argument later some = omega (arith, later some)

pub among : (v : Variable) (start : List Loop) → Plain start → not (is_reduction v) ≡ true → has_variable v start ≡ true → IsAmong is_free start (ids.Whole v)
among v [] plain argument some = cc
among v (own ∷ others) plain argument some = among_at v own others (same_variable own.variable v) refl plain.0.0 argument (among v others plain.1 argument) some

-- ---- sums over the one loop of a variable

-- what only loops over a variable add, each a number of its own
pub record IsOf (v : Variable) (f : Loop → ℕ) (n : ℕ) : Type 0 where
  pub own : (l : Loop) → l.id ≡ ids.Whole l.variable → same_variable l.variable v ≡ true → f l ≡ n
  pub others : (l : Loop) → same_variable l.variable v ≡ false → f l ≡ 0

none_at : (v : Variable) (f : Loop → ℕ) (n : ℕ) → IsOf v f n → (stage_loop : Loop) (others : List Loop) (test : Bool) → same_variable stage_loop.variable v ≡ test
    → (has_variable v others ≡ false → total f others ≡ 0) → (test || has_variable v others) ≡ false → total f (stage_loop ∷ others) ≡ 0
none_at v f n is stage_loop others true e later none = cc
none_at v f n is stage_loop others false e later none = omega (arith, is.others stage_loop e, later none)

pub none_sum : (v : Variable) (f : Loop → ℕ) (n : ℕ) → IsOf v f n → (start : List Loop) → has_variable v start ≡ false → total f start ≡ 0
none_sum v f n is [] none = refl
none_sum v f n is (own ∷ others) none = none_at v f n is own others (same_variable own.variable v) refl (none_sum v f n is others) none

once_at : (v : Variable) (f : Loop → ℕ) (n : ℕ) → IsOf v f n → (stage_loop : Loop) (others : List Loop) (test : Bool) → same_variable stage_loop.variable v ≡ test
    → stage_loop.id ≡ ids.Whole stage_loop.variable → has_variable stage_loop.variable others ≡ false
    → (has_variable v others ≡ true → total f others ≡ n) → (test || has_variable v others) ≡ true → total f (stage_loop ∷ others) ≡ n
once_at v f n is stage_loop others true e plain apart later some =
    let u : stage_loop.variable ≡ v = same_variable-true stage_loop.variable v e in
    omega (arith, is.own stage_loop plain e, none_sum v f n is others (subst (λ (w : Variable). has_variable w others ≡ false) u apart))
once_at v f n is stage_loop others false e plain apart later some = omega (arith, is.others stage_loop e, later some)

pub once_sum : (v : Variable) (f : Loop → ℕ) (n : ℕ) → IsOf v f n → (start : List Loop) → Plain start → has_variable v start ≡ true → total f start ≡ n
once_sum v f n is [] plain some = cc
once_sum v f n is (own ∷ others) plain some =
    once_at v f n is own others (same_variable own.variable v) refl plain.0.0 plain.0.1 (once_sum v f n is others plain.1) some

-- ---- the first loops of a pure definition, and of an update

pure_plain_at : (first : List ℕ) (second : Option (List ℕ)) → Plain (with_second (with_loop [] first variables.FirstArgument) second variables.SecondArgument)
pure_plain_at first None = ((refl, refl), tt)
pure_plain_at first (Some name) = ((refl, refl), ((refl, refl), tt))

pub pure_plain : (func : Func) → Plain (pure_loops func)
pure_plain func = pure_plain_at func.first_argument func.second_argument

-- which reductions loops are over, in their order
abbrev pub reductions_of : Bool → List LoopId
reductions_of two = if two then ids.Whole variables.FirstReduction ∷ ids.Whole variables.SecondReduction ∷ [] else ids.Whole variables.FirstReduction ∷ []

pub record IsUpdateStart (start : List Loop) : Type 0 where
  pub plain : Plain start
  pub one : has_variable variables.FirstReduction start ≡ true
  pub two : reductions start ≡ reductions_of (has_variable variables.SecondReduction start)

abbrev start_of : List ℕ → Option Reduction → Bool → List ℕ → Bool → Option (List ℕ) → List Loop
start_of r two first x second y =
    let reduced = with_reduction (with_loop [] r variables.FirstReduction) two in
    let placed = if first then with_loop reduced x variables.FirstArgument else reduced in
    if second then with_second placed y variables.SecondArgument else placed

update_start_at : (r : List ℕ) (two : Option Reduction) (first : Bool) (x : List ℕ) (second : Bool) (y : Option (List ℕ))
    → IsUpdateStart (start_of r two first x second y)
update_start_at r None false x false y = record { plain = ((refl, refl), tt); one = refl; two = refl }
update_start_at r None false x true None = record { plain = ((refl, refl), tt); one = refl; two = refl }
update_start_at r None false x true (Some y) = record { plain = ((refl, refl), ((refl, refl), tt)); one = refl; two = refl }
update_start_at r None true x false y = record { plain = ((refl, refl), ((refl, refl), tt)); one = refl; two = refl }
update_start_at r None true x true None = record { plain = ((refl, refl), ((refl, refl), tt)); one = refl; two = refl }
update_start_at r None true x true (Some y) = record { plain = ((refl, refl), ((refl, refl), ((refl, refl), tt))); one = refl; two = refl }
update_start_at r (Some s) false x false y = record { plain = ((refl, refl), ((refl, refl), tt)); one = refl; two = refl }
update_start_at r (Some s) false x true None = record { plain = ((refl, refl), ((refl, refl), tt)); one = refl; two = refl }
update_start_at r (Some s) false x true (Some y) = record { plain = ((refl, refl), ((refl, refl), ((refl, refl), tt))); one = refl; two = refl }
update_start_at r (Some s) true x false y = record { plain = ((refl, refl), ((refl, refl), ((refl, refl), tt))); one = refl; two = refl }
update_start_at r (Some s) true x true None = record { plain = ((refl, refl), ((refl, refl), ((refl, refl), tt))); one = refl; two = refl }
update_start_at r (Some s) true x true (Some y) = record { plain = ((refl, refl), ((refl, refl), ((refl, refl), ((refl, refl), tt)))); one = refl; two = refl }

pub update_start : (func : Func) (update : Update) → IsUpdateStart (update_loops func update)
update_start func update = update_start_at update.first.name update.second (is_first_in_place update) func.first_argument (is_second_in_place update)
    func.second_argument

pub plain : (func : Func) (update : Option Update) → Plain (first_loops func update)
plain func None = pure_plain func
plain func (Some update) = (update_start func update).plain

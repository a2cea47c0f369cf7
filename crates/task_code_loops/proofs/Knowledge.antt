-- What scopes know in the iterations of a loop.
use Rattle.std.proofs.Common.{◌≡◌, ℕ, ◌+◌, ◌*◌, ◌%◌, ◌^◌, ◌<◌, List, [], ◌∷◌, ◌++◌, Bool, true, false, refl, ap, ◌∙◌, sym, arith}
use Rattle.std.specs.Prelude.{◌==◌, ◌||◌, ◌&&◌, not, if◌then◌else◌}
use Rattle.std.proofs.lemmas.Bool.{and_from, true≢false}
use Rattle.std.proofs.lemmas.Bool.Decides.{nat_tests}
use Rattle.halide_pipeline.specs.declared.expressions.Variable.{Variable}
use Rattle.halide_pipeline.specs.declared.expressions.Variable.TheVariants as variables
use Rattle.halide_pipeline.specs.Expressions.{same_variable}
use Rattle.schedule_lines.specs.declared.stages.LoopId.{LoopId}
use Rattle.schedule_lines.specs.declared.stages.LoopId.TheVariants as ids
use Rattle.schedule_lines.specs.Directives.{same_id}
use Rattle.loop_ir.specs.declared.expressions.Counter.{Counter}
use Rattle.loop_ir.specs.Counters.{Values, same_counter, with}
use Rattle.loop_ir.specs.Expressions.{linear_value}
use Rattle.task_code_registers.specs.declared.scopes.AffineForm.{AffineForm}
use Rattle.task_code_registers.specs.declared.scopes.Held.{Held}
use Rattle.task_code_registers.specs.Holding.{mentions, can_advance}
use Rattle.task_code_registers.specs.Registers.{may_hold}
use Rattle.task_code_registers.specs.Scopes.{Knows, form_value, has_variable, is_variable}
use Rattle.task_code_registers.specs.Strides.{has_counter}
use Rattle.task_code_registers.proofs.Striding.{form-loop_invariant}
use Rattle.task_code_loops.specs.Beginning.{variable, number}

-- ---- loop variables are themselves

same_variable-self : (a : Variable) → same_variable a a ≡ true
same_variable-self variables.FirstArgument = refl
same_variable-self variables.SecondArgument = refl
same_variable-self variables.FirstReduction = refl
same_variable-self variables.SecondReduction = refl

itself : (n : ℕ) → (n == n) ≡ true
itself n = grind (arith, nat_tests)

same_id-self : (a : LoopId) → same_id a a ≡ true
same_id-self (ids.Whole a) = same_variable-self a
same_id-self (ids.Outer a) = itself a
same_id-self (ids.Inner a) = itself a

pub same_counter-self : (a : Counter) → same_counter a a ≡ true
same_counter-self a = and_from (a.func == a.func) (same_id a.id a.id) (itself a.func) (same_id-self a.id)

pub stands-at : (counter : Counter) (v : ℕ) (values : Values) → with counter v values counter ≡ v
stands-at counter v values = ap (λ t. if t then v else values counter) (same_counter-self counter)

-- ---- values of forms

pub variable-value : (counter : Counter) (hart v : ℕ) (values : Values) → v < 2 ^ 32 → form_value hart (with counter v values) (variable counter) ≡ v
unfolding form_value linear_value
variable-value counter hart v values small =
    let g : ((0 + (v * 1 + 0)) % 2 ^ 32 + hart * 0) % 2 ^ 32 ≡ v = omega (arith, small) in
    ap (λ n. ((0 + (n * 1 + 0)) % 2 ^ 32 + hart * 0) % 2 ^ 32) (stands-at counter v values) ∙ g

pub number-value : (n hart : ℕ) (values : Values) → n < 2 ^ 32 → form_value hart values (number n) ≡ n
unfolding form_value linear_value
number-value n hart values small = let g : ((n + 0) % 2 ^ 32 + hart * 0) % 2 ^ 32 ≡ n = omega (arith, small) in g

-- ---- scopes with no term of a variable

if-parts : (a b : Bool) → (if a then true else b) ≡ false → (a ≡ false) × (b ≡ false)
if-parts true b e = absurd (true≢false e)
if-parts false b e = (refl, e)

-- know the same wherever it is
pub knows-with : (counter : Counter) (v hart : ℕ) (scope : List Held) (values : Values) (f : ℕ → ℕ) → mentions counter scope ≡ false
    → Knows hart scope values f → Knows hart scope (with counter v values) f
knows-with counter v hart [] values f none k = k
knows-with counter v hart (own ∷ others) values f none k =
    let e = if-parts (has_counter counter own.form.sum.terms) (mentions counter others) none in (
      k.0 ∙ sym (form-loop_invariant counter v hart values own.form e.0),
      knows-with counter v hart others values f e.1
          k.1,
    )

pub knows-without : (counter : Counter) (v hart : ℕ) (scope : List Held) (values : Values) (f : ℕ → ℕ) → mentions counter scope ≡ false
    → Knows hart scope (with counter v values) f → Knows hart scope values f
knows-without counter v hart [] values f none k = k
knows-without counter v hart (own ∷ others) values f none k =
    let e = if-parts (has_counter counter own.form.sum.terms) (mentions counter others) none in
    (k.0 ∙ form-loop_invariant counter v hart values own.form e.0, knows-without counter v hart others values f e.1 k.1)

-- and needn't go along with it
pub can-unmentioned : (counter : Counter) (scope : List Held) → mentions counter scope ≡ false → can_advance counter scope ≡ true
can-unmentioned counter [] none = refl
can-unmentioned counter (own ∷ others) none =
    let e = if-parts (has_counter counter own.form.sum.terms) (mentions counter others) none in
    ap (λ t. (not t || may_hold own.register) && can_advance counter others) e.0 ∙ can-unmentioned counter others e.1

pub can-added : (counter : Counter) (held : Held) (others : List Held) → may_hold held.register ≡ true → can_advance counter others ≡ true
    → can_advance counter (held ∷ others) ≡ true
can-added counter held others may can =
    let t = has_counter counter held.form.sum.terms in
    ap (λ m. (not t || m) && can_advance counter others) may ∙ ap (λ b. b && can_advance counter others) (either t) ∙ can
  where
    either : (t : Bool) → (not t || true) ≡ true
    either true = refl
    either false = refl

-- ---- what is added to a scope

pub knows-more : (hart : ℕ) (added scope : List Held) (values : Values) (f : ℕ → ℕ) → Knows hart (added ++ scope) values f → Knows hart scope values f
knows-more hart [] scope values f k = k
knows-more hart (own ∷ others) scope values f k = knows-more hart others scope values f k.1

pub variable-more : (counter : Counter) (added scope : List Held) → has_variable scope counter ≡ true → has_variable (added ++ scope) counter ≡ true
variable-more counter [] scope has = has
variable-more counter (own ∷ others) scope has = by-test (may_hold own.register && is_variable counter own.form) (variable-more counter others scope has)
  where
    by-test : (t : Bool) → has_variable (others ++ scope) counter ≡ true → (if t then true else has_variable (others ++ scope) counter) ≡ true
    by-test true h = refl
    by-test false h = h

-- the variable itself is there
pub variable-there : (counter : Counter) (held : Held) (others : List Held) → may_hold held.register ≡ true → held.form ≡ variable counter
    → has_variable (held ∷ others) counter ≡ true
variable-there counter held others may is =
    ap (λ m. if m && is_variable counter held.form then true else has_variable others counter) may
    ∙ ap (λ (form : AffineForm). if is_variable counter form then true else has_variable others counter) is
    ∙ ap (λ s. if s && true then true else has_variable others counter) (same_counter-self counter)

-- Split loops: their values as sums, and their bodies, under a test or not.
use Rattle.std.proofs.Common.{◌≡◌, ℕ, ◌+◌, ◌*◌, ◌%◌, ◌^◌, ◌<◌, ◌≤◌, List, [], ◌∷◌, ◌++◌, length, true, false, refl, ap, ◌∙◌, sym, subst, arith}
use Rattle.std.specs.Prelude.{if◌then◌else◌, min, nat_lt, IfSome, Option, Some}
use Rattle.std.proofs.Math.Nat.{min-eq_left}
use Rattle.std.proofs.lemmas.Bool.Decides.{nat_tests}
use Rattle.halide_pipeline.specs.Words as word
use Rattle.loop_ir.specs.declared.expressions.Counter.{Counter}
use Rattle.loop_ir.specs.declared.expressions.Linear.{Linear}
use Rattle.loop_ir.specs.declared.expressions.Term.{Term}
use Rattle.loop_ir.specs.declared.statements.Stmt.{Stmt}
use Rattle.loop_ir.specs.declared.statements.Stmt.TheVariants as s
use Rattle.loop_ir.specs.declared.statements.Whole.{Whole}
use Rattle.loop_ir.specs.Counters.{Values, with}
use Rattle.loop_ir.specs.Expressions.{linear_value}
use Rattle.loop_ir.specs.Running.{run, whole_value, at_most}
use Rattle.loop_ir.proofs.Trees.{run_bind}
use Rattle.task_code_scalar.specs.declared.layouts.Places.{Places}
use Rattle.task_code_scalar.specs.Doing.{stored_points}
use Rattle.task_code_scalar.proofs.Tracing.{hit, hit-bind}
use Rattle.task_code_registers.specs.declared.scopes.AffineForm.{AffineForm}
use Rattle.task_code_registers.specs.declared.scopes.Held.{Held}
use Rattle.task_code_registers.specs.Holding.{mentions}
use Rattle.task_code_registers.specs.Scopes.{form_value}
use Rattle.task_code_loops.specs.declared.known.KnownSum.{KnownSum}
use Rattle.task_code_loops.specs.declared.bounds.Bound.{Bound}
use Rattle.task_code_loops.specs.Bounds.{AreBelow, IsBelow}
use Rattle.task_code_loops.specs.Guarding.{GuardsWords, stored_if}
use Rattle.task_code_loops.specs.Known.{AreKnown}
use Rattle.task_code_loops.proofs.Knowledge.{knows-with}
use Rattle.task_code_statements.specs.declared.contexts.Context.{Context}
use Rattle.task_code_statements.specs.Contexts.{MeetsSum, Meets}
use Rattle.task_code_loops.specs.Known.{IsRewrittenSum}
use Rattle.task_code_statements.specs.declared.splits.TaskStart.{TaskStart}
use Rattle.task_code_statements.specs.declared.splits.TaskStart.TheVariants as starts
use Rattle.task_code_statements.specs.Splits.{AddsInner, BeginsRun, HasLesser, IsProduct, IsSplitSum, product, start_value}
use Rattle.task_code_statements.specs.Statements.{EmitsStatement}
use Rattle.task_code_statements.proofs.Following.{did-is, may-split}
use Rattle.task_code_vector_loops.specs.Naming.{AreNamed, is_name}
use Rattle.task_code_statements.proofs.Plainness.{named-with}
use Rattle.task_code_statements.proofs.Same.{form-sum}

-- ---- values

-- no name is in a split loop
pub whole-plain : (whole : Whole) → is_name whole.outer ≡ false → is_name whole.inner ≡ false → (values named : Values) → AreNamed values named
    → whole_value whole named ≡ whole_value whole values
whole-plain whole outer inner values named are =
    ap (λ n. word.add (at_most whole.last (word.multiply n whole.factor)) (named whole.inner)) (are whole.outer outer)
    ∙ ap (word.add (at_most whole.last (word.multiply (values whole.outer) whole.factor))) (are whole.inner inner)

-- ---- where a run begins

product-made : (whole : Whole) (new_sum : Linear) (none one : List Term) → none ≡ [] → one ≡ none ++ (record { counter = whole.outer; stride = whole.factor } ∷ [])
    → new_sum ≡ record { number = 0; terms = one } → (values : Values)
    → linear_value values new_sum ≡ product whole values
unfolding linear_value word.multiply
product-made whole new_sum none one e0 e1 es values =
    let n = values whole.outer * whole.factor in
    let g : (0 + (n + 0)) % 2 ^ 32 ≡ n % 2 ^ 32 = omega arith in
    ap (linear_value values) (es ∙ ap (λ l. record { number = 0; terms = l }) (e1
    ∙ ap (λ l. l ++ (record { counter = whole.outer; stride = whole.factor } ∷ [])) e0)) ∙ g

pub product-is : (context : Context) (known : List KnownSum) (whole : Whole) (none one : List Term) (new_sum : Linear) → known ≡ context.known.items → none ≡ []
    → one ≡ none ++ (record { counter = whole.outer; stride = whole.factor } ∷ []) → IsRewrittenSum known (record { number = 0; terms = one }) new_sum
    → IsProduct context whole new_sum
product-is context known whole none one new_sum ek e0 e1 same = record {
  value_is = λ values are.
      same values (subst (λ k. AreKnown k values) (sym ek) are)
      ∙ product-made whole (record { number = 0; terms = one }) none one e0 e1 refl values;
}

none-there : {A : Type 0} (l : List A) → length l ≡ 0 → l ≡ []
none-there [] e = refl
none-there (first ∷ others) e = absurd (omega (arith, e))

pub number-value : (sum : Linear) (values : Values) → length sum.terms ≡ 0 → sum.number < 2 ^ 32 → linear_value values sum ≡ sum.number
unfolding linear_value
number-value sum values none small =
    let g : (sum.number + 0) % 2 ^ 32 ≡ sum.number = omega (arith, small) in
    ap (λ l. linear_value values (record { number = sum.number; terms = l })) (none-there sum.terms none) ∙ g

module _ (context : Context) (whole : Whole) (last : ℕ) (new_sum : Linear) (el : whole.last ≡ Some last) (is : IsProduct context whole new_sum) where
  last-is : (values : Values) → at_most whole.last (product whole values) ≡ min (product whole values) last
  last-is values = ap (λ o. at_most o (product whole values)) el

  pub number-begins : (number : ℕ) → length new_sum.terms ≡ 0 → new_sum.number < 2 ^ 32
      → number ≡ min new_sum.number last
      → BeginsRun context whole (starts.Number number)
  number-begins number none small e values meets =
      last-is values ∙ ap (λ n. min n last) (sym (is.value_is values meets.known) ∙ number-value new_sum values none small) ∙ sym e

  pub product-begins : (next : ℕ) (bounds : List Bound) → bounds ≡ context.bounds.items → next ≤ last + 1
      → IsBelow bounds (record { sum = new_sum; per_hart = 0 }) next → BeginsRun context whole starts.Product
  product-begins next bounds eb most below values meets =
      let less : product whole values < next =
      subst (λ n. n < next) (form-sum 0 values new_sum ∙ is.value_is values meets.known)
      (below 0 values (subst (λ b. AreBelow b values) (sym eb) meets.below)) in
      last-is values ∙ min-eq_left (omega (arith, less, most))

  pub name-begins : (counter : Counter) → HasLesser context new_sum last counter → BeginsRun context whole (starts.Name counter)
  name-begins counter has values meets =
      last-is values ∙ ap (λ n. min n last) (sym (is.value_is values meets.known)) ∙ sym (has values meets)

-- ---- sums from a start

pub two-terms : (first second : Term) (none one both : List Term) → none ≡ [] → one ≡ none ++ (first ∷ []) → both ≡ one ++ (second ∷ [])
    → both ≡ first ∷ (second ∷ [])
two-terms first second none one both e0 e1 e2 = e2 ∙ ap (λ l. l ++ (second ∷ [])) (e1 ∙ ap (λ l. l ++ (first ∷ [])) e0)

pub product-adds : (whole : Whole) (start : TaskStart) (none one both : List Term) → start ≡ starts.Product → none ≡ []
    → one ≡ none ++ (record { counter = whole.outer; stride = whole.factor } ∷ []) → both ≡ one ++ (record { counter = whole.inner; stride = 1 } ∷ [])
    → AddsInner whole start (record { number = 0; terms = both })
unfolding linear_value word.add word.multiply
product-adds whole start none one both es e0 e1 e2 other values =
    let n = values whole.outer * whole.factor in
    let g : (0 + (n + (values whole.inner * 1 + 0))) % 2 ^ 32 ≡ (n % 2 ^ 32 + values whole.inner) % 2 ^ 32 = omega arith in
    ap (λ l. linear_value values (record { number = 0; terms = l }))
    (two-terms (record { counter = whole.outer; stride = whole.factor }) (record { counter = whole.inner; stride = 1 }) none one both e0 e1 e2)
    ∙ g ∙ sym (ap (λ k. word.add (start_value whole other k values) (values whole.inner)) es)

pub number-adds : (whole : Whole) (start : TaskStart) (number : ℕ) (none one : List Term) → start ≡ starts.Number number → none ≡ []
    → one ≡ none ++ (record { counter = whole.inner; stride = 1 } ∷ []) → AddsInner whole start (record { number = number; terms = one })
unfolding linear_value word.add
number-adds whole start number none one es e0 e1 other values =
    let g : (number + (values whole.inner * 1 + 0)) % 2 ^ 32 ≡ (number + values whole.inner) % 2 ^ 32 = omega arith in
    ap (λ l. linear_value values (record { number = number; terms = l })) (e1 ∙ ap (λ l. l ++ (record { counter = whole.inner; stride = 1 } ∷ [])) e0)
    ∙ g ∙ sym (ap (λ k. word.add (start_value whole other k values) (values whole.inner)) es)

pub name-adds : (whole : Whole) (start : TaskStart) (name : Counter) (none one both : List Term) → start ≡ starts.Name name → none ≡ []
    → one ≡ none ++ (record { counter = name; stride = 1 } ∷ []) → both ≡ one ++ (record { counter = whole.inner; stride = 1 } ∷ [])
    → AddsInner whole start (record { number = 0; terms = both })
unfolding linear_value word.add
name-adds whole start name none one both es e0 e1 e2 other values =
    let g : (0 + (values name * 1 + (values whole.inner * 1 + 0))) % 2 ^ 32 ≡ (values name + values whole.inner) % 2 ^ 32 = omega arith in
    ap (λ l. linear_value values (record { number = 0; terms = l }))
    (two-terms (record { counter = name; stride = 1 }) (record { counter = whole.inner; stride = 1 }) none one both e0 e1 e2)
    ∙ g ∙ sym (ap (λ k. word.add (start_value whole other k values) (values whole.inner)) es)

pub split-is : (context : Context) (known : List KnownSum) (whole : Whole) (start : TaskStart) (found_sum : Option Linear) (new_sum linear : Linear)
    → known ≡ context.known.items → found_sum ≡ Some new_sum → is_name whole.outer ≡ false → is_name whole.inner ≡ false → BeginsRun context whole start
    → IfSome found_sum (AddsInner whole start) → IsRewrittenSum known new_sum linear → IsSplitSum context whole linear
split-is context known whole start found_sum new_sum linear ek ef outer inner begins adds same = record {
  plain = whole-plain whole outer inner;
  value_is = λ values meets.
      let here = at_most whole.last (product whole values) in
      same values (subst (λ k. AreKnown k values) (sym ek) meets.known)
      ∙ subst (λ o. IfSome o (AddsInner whole start)) ef adds here values
      ∙ ap (λ n. word.add n (values whole.inner)) (sym (begins values meets));
}

pub whole-word : (whole : Whole) (values : Values) → whole_value whole values % 2 ^ 32 ≡ whole_value whole values
unfolding word.add
whole-word whole values = omega arith

-- ---- bodies

pub is-below : (a b : ℕ) → a < b → nat_lt a b ≡ true
is-below a b l = grind (arith, nat_tests)

module _ (places : Places) (scope : List Held) (context within : Context) (counter : Counter) (whole : Whole) (extent : ℕ) (body : Stmt) (sum : Linear)
    (none : mentions counter scope ≡ false) (is : IsSplitSum context whole sum) (meets-sum : MeetsSum context counter sum within) where
  abbrev own_form : AffineForm
  own_form = record { sum = sum; per_hart = 0 }

  -- the form is the split loop's value
  form-is : (hart : ℕ) (values : Values) → Meets context values → form_value hart values own_form ≡ whole_value whole values
  form-is hart values meets = form-sum hart values sum ∙ is.value_is values meets

  abbrev entered : Values → Values
  entered values = with counter (whole_value whole values) values

  -- with values of names
  entered-named : (values named : Values) → AreNamed values named → AreNamed (entered values) (entered named)
  entered-named values named are =
      subst (λ n. AreNamed (entered values) (with counter n named)) (sym (is.plain values named are))
      (named-with values named counter (whole_value whole values) are)

  -- with the variable at that value all is as known
  meets-entered : (values : Values) → Meets context values → Meets within (entered values)
  meets-entered values meets =
      meets-sum.meets values (whole_value whole values) (whole-word whole values ∙ sym (is.value_is values meets)) meets

  pub split-emits : (c0 c1 : List ℕ) → IsBelow context.bounds.items own_form extent → EmitsStatement c0 c1 places scope (Meets within) body
      → EmitsStatement c0 c1 places scope (Meets context) (s.Bind counter whole extent body)
  split-emits c0 c1 below x = record {
    insns = x.insns;
    emits = x.emits;
    turns = λ named. x.turns (entered named);
    does = λ own good at-places values named are holders meets may f memory funcs holds knows.
        let e = is.plain values named are in
        let l : whole_value whole values < extent =
        subst (λ n. n < extent) (form-is own.world.hart named meets ∙ e) (below own.world.hart named meets.below) in
        let passes : nat_lt (whole_value whole values) extent ≡ true = is-below (whole_value whole values) extent l in
        did-is refl
        (sym (run_bind own.points own.inputs counter whole extent body values funcs
        ∙ ap (λ t. if t then run own.points own.inputs body (entered values) funcs else funcs) passes))
        (λ func i j h. sym (hit-bind own.points own.inputs func i j counter whole extent body values funcs
        ∙ ap (λ t. if t then hit own.points own.inputs func i j body (entered values) funcs else false) passes) ∙ h)
        (x.does own good at-places (entered values) (entered named) (entered-named values named are) holders (meets-entered named meets)
        (may-split own counter whole extent body values passes may) f memory funcs holds
        (knows-with counter (whole_value whole named) own.world.hart scope named f none knows));
  }

  pub guarded-emits : (c0 c1 words : List ℕ) → (x : EmitsStatement [] words places scope (Meets within) body) → GuardsWords c0 c1 scope own_form extent words
      → EmitsStatement c0 c1 places scope (Meets context) (s.Bind counter whole extent body)
  guarded-emits c0 c1 words x guards =
      let g = guards x.insns x.emits in
      record {
        insns = g.insns;
        emits = g.emits;
        turns = λ named. if nat_lt (whole_value whole named) extent then g.before + x.turns (entered named) else g.past;
        does = λ own good at-places values named are holders meets may f memory funcs holds knows.
            let hart = own.world.hart in
            let e = form-is hart named meets in
            let same = e ∙ is.plain values named are in
            let done = g.does own hart named (x.turns (entered named)) (run own.points own.inputs body (entered values) funcs)
            (stored_points own body (entered values) funcs) f memory funcs holders holds knows
            (λ l h known.
            let passes : nat_lt (whole_value whole values) extent ≡ true =
            is-below (whole_value whole values) extent (subst (λ n. n < extent) same l) in
            x.does own good at-places (entered values) (entered named) (entered-named values named are) holders (meets-entered named meets)
            (may-split own counter whole extent body values passes may) h memory funcs holds
            (knows-with counter (whole_value whole named) hart scope named h none known)) in
            did-is (ap (λ n. if nat_lt n extent then g.before + x.turns (entered named) else g.past) e)
            (ap (λ n. if nat_lt n extent then run own.points own.inputs body (entered values) funcs else funcs) same
            ∙ sym (run_bind own.points own.inputs counter whole extent body values funcs))
            (λ func i j h.
            ap (λ n. stored_if (nat_lt n extent) (stored_points own body (entered values) funcs) func i j) same
            ∙ sym (hit-bind own.points own.inputs func i j counter whole extent body values funcs) ∙ h)
            done;
      }

-- ---- as the emitters call them

pub found-sum : (context : Context) (whole : Whole) (sum : Linear) (new_sum : Option Linear) → new_sum ≡ Some sum → IfSome new_sum (IsSplitSum context whole)
    → IsSplitSum context whole sum
found-sum context whole sum new_sum e is = subst (λ o. IfSome o (IsSplitSum context whole)) e is

pub bind-arm : (places : Places) (scope : List Held) (is_so : Values → Type 0) (statement : Stmt) (counter : Counter) (whole : Whole) (extent : ℕ) (body x : Stmt)
    (c0 c1 : List ℕ) → statement ≡ s.Bind counter whole extent body → x ≡ body → EmitsStatement c0 c1 places scope is_so (s.Bind counter whole extent x)
    → EmitsStatement c0 c1 places scope is_so statement
bind-arm places scope is_so statement counter whole extent body x c0 c1 is ex made =
    subst (λ y. EmitsStatement c0 c1 places scope is_so y) (sym (is ∙ ap (s.Bind counter whole extent) (sym ex))) made

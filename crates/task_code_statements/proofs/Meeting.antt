-- What is known of loop variables, inside of loops and after what binds them.
use Rattle.std.proofs.Common.{◌≡◌, ℕ, ◌%◌, ◌^◌, ◌<◌, List, [], ◌∷◌, ◌++◌, Bool, true, false, refl, ap, ◌∙◌, sym, subst, arith}
use Rattle.std.specs.Prelude.{◌&&◌, ◌||◌, not, if◌then◌else◌}
use Rattle.std.proofs.lemmas.Bool.{true≢false}
use Rattle.loop_ir.specs.declared.expressions.Counter.{Counter}
use Rattle.loop_ir.specs.declared.expressions.Expr.{Expr}
use Rattle.loop_ir.specs.declared.expressions.Linear.{Linear}
use Rattle.loop_ir.specs.Counters.{Values, same_counter, with}
use Rattle.task_code_registers.specs.Strides.{has_counter}
use Rattle.loop_ir.specs.Expressions.{linear_value}
use Rattle.task_code_loops.specs.declared.bounds.Bound.{Bound}
use Rattle.task_code_loops.specs.declared.known.KnownSum.{KnownSum}
use Rattle.task_code_loops.specs.Bounds.{AreBelow}
use Rattle.task_code_loops.specs.Known.{AreKnown, is_fresh}
use Rattle.task_code_loops.proofs.Knowledge.{stands-at}
use Rattle.task_code_loops.proofs.Rewriting.{known-stays, one-more-is-known}
use Rattle.task_code_names.specs.declared.names.Named.{Named}
use Rattle.task_code_names.specs.Names.{AreNames, HasValue}
use Rattle.task_code_statements.specs.declared.contexts.Context.{Context}
use Rattle.task_code_statements.specs.Contexts.{KeepsNames, MeetsLoop, MeetsName, MeetsSum, MeetsNumber, StayNamed, is_bounded, without}
use Rattle.task_code_statements.specs.Lacking.{Lacks}

if-false : (t b : Bool) → (if t then true else b) ≡ false → (t ≡ false) × (b ≡ false)
if-false true b e = absurd (true≢false e)
if-false false b e = (refl, e)

-- variables that stay below their counts do so wherever another one is
below-stays : (counter : Counter) (v : ℕ) (bounds : List Bound) (values : Values) → is_bounded bounds counter ≡ false → AreBelow bounds values
    → AreBelow bounds (with counter v values)
below-stays counter v [] values free are = tt
below-stays counter v (own ∷ others) values free are =
    let k = if-false (same_counter own.counter counter) (is_bounded others counter) free in (
      subst (λ n. n < own.count) (sym (ap (λ t. if t then v else values own.counter) k.0)) are.0,
      below-stays counter v others values k.1 are.1,
    )

-- ---- what is known of others

without-fresh : (counter : Counter) (known : List KnownSum) → is_fresh counter (without counter known) ≡ true
without-fresh counter [] = refl
without-fresh counter (own ∷ others) =
    by (same_counter own.counter counter || has_counter counter own.sum.terms) refl (without-fresh counter others)
  where
    by : (t : Bool) → (same_counter own.counter counter || has_counter counter own.sum.terms) ≡ t → is_fresh counter (without counter others) ≡ true
        → is_fresh counter (if t then without counter others else own ∷ without counter others) ≡ true
    by true e rest = rest
    by false e rest = ap (λ t. not t && is_fresh counter (without counter others)) e ∙ rest

without-known : (counter : Counter) (known : List KnownSum) (values : Values) → AreKnown known values → AreKnown (without counter known) values
without-known counter [] values are = tt
without-known counter (own ∷ others) values are =
    by (same_counter own.counter counter || has_counter counter own.sum.terms) (without-known counter others values are.1)
  where
    by : (t : Bool) → AreKnown (without counter others) values → AreKnown (if t then without counter others else own ∷ without counter others) values
    by true rest = rest
    by false rest = (are.0, rest)

-- ---- names

append-named : (first others : List Named) (values : Values) → AreNames first values → AreNames others values → AreNames (first ++ others) values
append-named [] others values are more = more
append-named (own ∷ rest) others values are more = (are.0, append-named rest others values are.1 more)

-- a name keeps its value where another variable is, which its expression lacks
name-stays : (counter : Counter) (named : Named) (values : Values) (v : ℕ) → same_counter named.counter counter ≡ false → Lacks counter named.e
    → HasValue named.counter named.e values → HasValue named.counter named.e (with counter v values)
name-stays counter named values v other lacks k =
    let e : with counter v values named.counter ≡ values named.counter = ap (λ t. if t then v else values named.counter) other in
    record {
      value_is = λ reads. lacks.value_is reads values v ∙ k.value_is reads ∙ sym e;
      none = λ reads. lacks.loads_are reads values v ∙ k.none reads;
      small = subst (λ n. n < 2 ^ 32) (sym e) k.small;
    }

-- the same expression under the same variable
abbrev pub SameName : Named → Counter → Expr → Type 0
SameName named counter e = (named.counter ≡ counter) × (named.e ≡ e)

same-value : (named : Named) (counter : Counter) (e : Expr) (values : Values) → SameName named counter e → HasValue counter e values
    → HasValue named.counter named.e values
same-value named counter e values same has =
    subst (λ n. HasValue n named.e values) (sym same.0) (subst (λ x. HasValue counter x values) (sym same.1) has)

pub one-kept : (counter : Counter) (names others old mid new : List Named) (first own_named : Named)
    → names ≡ first ∷ others
    → same_counter first.counter counter ≡ false → Lacks counter first.e → SameName own_named first.counter first.e
    → mid ≡ old ++ (own_named ∷ []) → KeepsNames counter others mid new → KeepsNames counter names old new
one-kept counter names others old mid new first own_named is other lacks same em keeps =
    subst (λ l. KeepsNames counter l old new) (sym is) (λ values v are kept.
    let here = same-value own_named first.counter first.e (with counter v values) same (name-stays counter first values v other lacks are.0) in
    keeps values v are.1 (subst (λ l. AreNames l (with counter v values)) (sym em)
    (append-named old (own_named ∷ []) (with counter v values) kept (here, tt))))

module _ (context : Context) (counter : Counter) where
  abbrev rest : List KnownSum
  rest = without counter context.known.items

  pub loop-meets : (free : is_bounded context.bounds.items counter ≡ false) (count : ℕ) (new_context : Context) → new_context.known.items ≡ rest
      → new_context.bounds.items ≡ record { counter = counter; count = count } ∷ context.bounds.items → StayNamed counter context.names.items new_context.names.items
      → MeetsLoop context counter count new_context
  loop-meets free count new_context ek eb names = record {
    meets = λ values i less m. record {
      known = subst (λ k. AreKnown k (with counter i values)) (sym ek)
          (known-stays counter i rest values (without-fresh counter context.known.items) (without-known counter context.known.items values m.known));
      below = subst (λ b. AreBelow b (with counter i values)) (sym eb)
          (subst (λ n. n < count) (sym (stands-at counter i values)) less, below-stays counter i context.bounds.items values free m.below);
      named = names values i m.named;
    };
  }

  pub sum-meets : (free : is_bounded context.bounds.items counter ≡ false) (sum : Linear) (new_context : Context) → has_counter counter sum.terms ≡ false
      → new_context.known.items ≡ record { counter = counter; sum = sum } ∷ rest
      → new_context.bounds.items ≡ context.bounds.items
      → StayNamed counter context.names.items new_context.names.items → MeetsSum context counter sum new_context
  sum-meets free sum new_context none ek eb names = record {
    meets = λ values v is m. record {
      known = subst (λ k. AreKnown k (with counter v values)) (sym ek)
          (one-more-is-known counter v sum rest values (without-fresh counter context.known.items) none is
          (without-known counter context.known.items values m.known));
      below = subst (λ b. AreBelow b (with counter v values)) (sym eb) (below-stays counter v context.bounds.items values free m.below);
      named = names values v m.named;
    };
  }

  pub number-meets : (number : ℕ) (sum : Linear) (new_context : Context) → number < 2 ^ 32 → ((values : Values) → linear_value values sum ≡ number)
      → new_context.known.items ≡ record { counter = counter; sum = sum } ∷ rest
      → new_context.bounds.items ≡ context.bounds.items
      → new_context.names.items ≡ context.names.items → MeetsNumber context counter number new_context
  number-meets number sum new_context small is ek eb en = record {
    meets = λ values stands m. record {
      known = subst (λ k. AreKnown k values) (sym ek) (
        let word : number % 2 ^ 32 ≡ number = omega (arith, small) in
            ap (λ n. n % 2 ^ 32) stands ∙ word ∙ sym (is values),
        without-known counter context.known.items values m.known,
      );
      below = subst (λ b. AreBelow b values) (sym eb) m.below;
      named = subst (λ l. AreNames l values) (sym en) m.named;
    };
  }

  -- a new name
  pub name-meets : (free : is_bounded context.bounds.items counter ≡ false) (e : Expr) (new : Named) (new_context : Context) (none one : List Named) → Lacks counter e
      → SameName new counter e → none ≡ [] → one ≡ none ++ (new ∷ []) → KeepsNames counter context.names.items one new_context.names.items
      → new_context.known.items ≡ rest → new_context.bounds.items ≡ context.bounds.items
      → MeetsName context counter e new_context
  name-meets free e new new_context none one lacks same e0 e1 keeps ek eb = record {
    meets = λ values v small value_is loads_are m.
        let here : with counter v values counter ≡ v = stands-at counter v values in
        let own : HasValue counter e (with counter v values) = record {
          value_is = λ reads. lacks.value_is reads values v ∙ value_is reads ∙ sym here;
          none = λ reads. lacks.loads_are reads values v ∙ loads_are reads;
          small = subst (λ n. n < 2 ^ 32) (sym here) small;
        } in
        let all = subst (λ l. AreNames l (with counter v values)) (sym (e1 ∙ ap (λ l. l ++ (new ∷ [])) e0))
        (same-value new counter e (with counter v values) same own, tt) in
        record {
          known = subst (λ k. AreKnown k (with counter v values)) (sym ek)
              (known-stays counter v rest values (without-fresh counter context.known.items) (without-known counter context.known.items values m.known));
          below = subst (λ b. AreBelow b (with counter v values)) (sym eb) (below-stays counter v context.bounds.items values free m.below);
          named = keeps values v m.named all;
        };
  }

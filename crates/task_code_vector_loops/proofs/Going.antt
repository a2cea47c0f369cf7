-- Expressions whose loop variable is further by the value of another one.
use Rattle.std.proofs.Common.{◌≡◌, ℕ, ◌+◌, ◌*◌, ◌%◌, ◌^◌, List, [], ◌∷◌, ◌++◌, Bool, true, false, refl, ap, ◌∙◌, sym, subst, arith}
use Rattle.std.specs.Prelude.{◌==◌, if◌then◌else◌}
use Rattle.std.proofs.Math.Nat.{add-mul, mul-add}
use Rattle.std.proofs.lemmas.Bool.{true≢false}
use Rattle.std.proofs.lemmas.Nat.{mul-mod_second}
use Rattle.halide_pipeline.specs.declared.expressions.Operation.{Operation}
use Rattle.halide_pipeline.specs.declared.expressions.Source.{Source}
use Rattle.halide_pipeline.specs.Points.{Point}
use Rattle.halide_pipeline.specs.Words as word
use Rattle.loop_ir.specs.declared.expressions.Counter.{Counter}
use Rattle.loop_ir.specs.declared.expressions.Expr.{Expr}
use Rattle.loop_ir.specs.declared.expressions.Expr.TheVariants as e
use Rattle.loop_ir.specs.declared.expressions.Linear.{Linear}
use Rattle.loop_ir.specs.declared.expressions.Term.{Term}
use Rattle.loop_ir.specs.Counters.{Values, same_counter, with}
use Rattle.loop_ir.specs.Expressions.{linear_value, sum_of, value, loads}
use Rattle.loop_ir.proofs.Sums.{sum_push}
use Rattle.task_code_registers.specs.Strides.{has_counter, strides}
use Rattle.task_code_values.proofs.Evaluating.{value_number, value_linear, value_binary, value_divide, value_remainder, value_select, value_load}
use Rattle.task_code_values.proofs.Evaluating.{loads_binary, loads_divide, loads_remainder, loads_select, loads_load}
use Rattle.task_code_names.proofs.Alike.{loads_number, loads_linear}
use Rattle.task_code_vector_loops.specs.declared.further.Further.{Further}
use Rattle.task_code_vector_loops.specs.inner.Going.{GoesOn, IsFurther, IsFurtherSum}

-- ---- sums

terms-further : (own_further : Further) (b i : ℕ) (here there : Values) → ((c : Counter) → same_counter c own_further.by ≡ false → there c ≡ here c) → (terms : List Term)
    → has_counter own_further.by terms ≡ false
    → sum_of (with own_further.counter (b + i) here) terms ≡ sum_of (with own_further.counter i there) terms + b * strides own_further.counter terms
terms-further own_further b i here there same [] none = let e : 0 ≡ 0 + b * 0 = omega arith in e
terms-further own_further b i here there same (first ∷ others) none =
    by-other (same_counter first.counter own_further.by) refl none
    (terms-further own_further b i here there same others)
  where
    by-own : (t : Bool) → there first.counter ≡ here first.counter
        → sum_of (with own_further.counter (b + i) here) others ≡ sum_of (with own_further.counter i there) others + b * strides own_further.counter others
        → (if t then b + i else here first.counter) * first.stride + sum_of (with own_further.counter (b + i) here)
        others
        ≡ ((if t then i else there first.counter) * first.stride + sum_of (with own_further.counter i there) others)
        + b * (if t then first.stride + strides own_further.counter others else strides own_further.counter others)
    by-own true is rest =
        let p = add-mul b i first.stride in
        let q = mul-add b first.stride (strides own_further.counter others) in
        omega (arith, rest, p, q)
    by-own false is rest =
        let p : there first.counter * first.stride ≡ here first.counter * first.stride = ap (λ n. n * first.stride) is in
        omega (arith, rest, p)

    by-other : (t : Bool) → same_counter first.counter own_further.by ≡ t → (if t then true else has_counter own_further.by others) ≡ false
        → (has_counter own_further.by others ≡ false
        → sum_of (with own_further.counter (b + i) here) others ≡ sum_of (with own_further.counter i there) others + b * strides own_further.counter others)
        → sum_of (with own_further.counter (b + i) here) (first ∷ others)
        ≡ sum_of (with own_further.counter i there) (first ∷ others) + b * strides own_further.counter (first ∷ others)
    by-other true is h rest = absurd (true≢false h)
    by-other false is h rest = by-own (same_counter first.counter own_further.counter) (same first.counter is) (rest h)

-- in values that go on
values-further : (own_further : Further) (values moved : Values) (goes : GoesOn own_further values moved) (terms : List Term) → has_counter own_further.by terms ≡ false
    → sum_of values terms ≡ sum_of moved terms + goes.by * strides own_further.counter terms
values-further own_further values moved goes terms none =
    let s = goes.by * strides own_further.counter terms in
    ap (λ v. sum_of v terms) goes.values_are
    ∙ terms-further own_further goes.by goes.iteration goes.here goes.there goes.same terms none
    ∙ ap (λ v. sum_of v terms + s) (sym goes.moved_are)

-- the other variable's value
other-at : (own_further : Further) (values moved : Values) (goes : GoesOn own_further values moved)
    → moved own_further.by ≡ goes.by
other-at own_further values moved goes =
    ap (λ v. v own_further.by) goes.moved_are ∙ ap (λ t. if t then goes.iteration else goes.there own_further.by)
    goes.apart ∙ goes.at

as-words : (n x u s : ℕ) → u % 2 ^ 32 ≡ s % 2 ^ 32 → (n + (x + u)) % 2 ^ 32 ≡ (n + (x + s)) % 2 ^ 32
as-words n x u s is = omega (arith, is)

strided : (b stride s : ℕ) → stride ≡ s % 2 ^ 32 → (b * stride) % 2 ^ 32 ≡ (b * s) % 2 ^ 32
strided b stride s is = ap (λ n. (b * n) % 2 ^ 32) is ∙ mul-mod_second b s (2 ^ 32)

module _ (own_further : Further) (sum new_sum : Linear) (stride : ℕ)
    (none : has_counter own_further.by sum.terms ≡ false)
    (es : stride ≡ strides own_further.counter sum.terms % 2 ^ 32) where
  pub sum-further : (copied : Linear) → copied ≡ sum → new_sum.number ≡ copied.number
      → new_sum.terms ≡ copied.terms ++ record { counter = own_further.by; stride = stride } ∷ []
      → IsFurtherSum own_further sum new_sum
  unfolding linear_value
  sum-further copied is en ec = λ values moved goes.
      let et = ec ∙ ap (λ (l : Linear). l.terms ++ record { counter = own_further.by; stride = stride } ∷ []) is in
      let b = goes.by in
      let x = sum_of moved sum.terms in
      let s = strides own_further.counter sum.terms in
      ap (λ n. (n + sum_of moved new_sum.terms) % 2 ^ 32) (en ∙ ap (λ (l : Linear). l.number) is)
      ∙ ap (λ n. (sum.number + n) % 2 ^ 32) (ap (sum_of moved) et ∙ sum_push moved sum.terms (record { counter = own_further.by; stride = stride })
      ∙ ap (λ n. x + n * stride) (other-at own_further values moved goes))
      ∙ as-words sum.number x (b * stride) (b * s) (strided b stride s es)
      ∙ ap (λ n. (sum.number + n) % 2 ^ 32) (sym (values-further own_further values moved goes sum.terms none))

  -- a sum in which the variable counts for nothing
  pub sum-stays : new_sum ≡ sum → stride ≡ 0 → IsFurtherSum own_further sum new_sum
  unfolding linear_value
  sum-stays is zero = λ values moved goes.
      let b = goes.by in
      let x = sum_of moved sum.terms in
      let s = strides own_further.counter sum.terms in
      let g : sum.number + x ≡ sum.number + (x + b * 0) = omega arith in
      ap (λ (l : Linear). (l.number + sum_of moved l.terms) % 2 ^ 32) is
      ∙ ap (λ n. n % 2 ^ 32) g
      ∙ as-words sum.number x (b * 0) (b * s) (strided b 0 s (sym zero ∙ es))
      ∙ ap (λ n. (sum.number + n) % 2 ^ 32) (sym (values-further own_further values moved goes sum.terms none))

-- ---- expressions

abbrev point : Source → ℕ → ℕ → Point
point source x y = record { source = source; x = x; y = y }

module _ (own_further : Further) where
  further-as : (whole x made : Expr) → whole ≡ x → IsFurther own_further x made → IsFurther own_further whole made
  further-as whole x made is same = subst (λ y. IsFurther own_further y made) (sym is) same

  pub further-number : (whole : Expr) (n : ℕ) → whole ≡ e.Number n → IsFurther own_further whole (e.Number n)
  further-number whole n is = further-as whole (e.Number n) (e.Number n) is (record {
    value_is = λ reads values moved goes. value_number reads moved n ∙ sym (value_number reads values n);
    loads_are = λ reads values moved goes. loads_number reads moved n ∙ sym (loads_number reads values n);
  })

  pub further-linear : (whole : Expr) (sum made : Linear) → whole ≡ e.Linear sum → IsFurtherSum own_further sum made → IsFurther own_further whole (e.Linear made)
  further-linear whole sum made is same = further-as whole (e.Linear sum) (e.Linear made) is (record {
    value_is = λ reads values moved goes. value_linear reads moved made ∙ same values moved goes ∙ sym (value_linear reads values sum);
    loads_are = λ reads values moved goes. loads_linear reads moved made ∙ sym (loads_linear reads values sum);
  })

  pub further-binary : (whole : Expr) (o : Operation) (a b x y p q : Expr) → whole ≡ e.Binary o a b → x ≡ a → y ≡ b → IsFurther own_further x p
      → IsFurther own_further y q → IsFurther own_further whole (e.Binary o p q)
  further-binary whole o a b x y p q is ex ey one two =
      further-as whole (e.Binary o x y) (e.Binary o p q) (is ∙ ap (λ z. e.Binary o z b) (sym ex) ∙ ap (e.Binary o x) (sym ey)) (record {
        value_is = λ reads values moved goes. value_binary reads moved o p q
            ∙ ap (λ z. word.applied o z (value reads moved q)) (one.value_is reads values moved goes)
            ∙ ap (word.applied o (value reads values x)) (two.value_is reads values moved goes) ∙ sym (value_binary reads values o x y);
        loads_are = λ reads values moved goes. loads_binary reads moved o p q
            ∙ ap (λ z. z ++ loads reads moved q) (one.loads_are reads values moved goes)
            ∙ ap (λ z. loads reads values x ++ z) (two.loads_are reads values moved goes) ∙ sym (loads_binary reads values o x y);
      })

  pub further-divide : (whole a x p : Expr) (c : ℕ) → whole ≡ e.Divide a c → x ≡ a → IsFurther own_further x p → IsFurther own_further whole (e.Divide p c)
  further-divide whole a x p c is ex one =
      further-as whole (e.Divide x c) (e.Divide p c) (is ∙ ap (λ z. e.Divide z c) (sym ex)) (record {
        value_is = λ reads values moved goes. value_divide reads moved p c ∙ ap (λ z. word.divide z c) (one.value_is reads values moved goes)
            ∙ sym (value_divide reads values x c);
        loads_are = λ reads values moved goes. loads_divide reads moved p c ∙ one.loads_are reads values moved goes ∙ sym (loads_divide reads values x c);
      })

  pub further-remainder : (whole a x p : Expr) (c : ℕ) → whole ≡ e.Remainder a c → x ≡ a → IsFurther own_further x p → IsFurther own_further whole (e.Remainder p c)
  further-remainder whole a x p c is ex one =
      further-as whole (e.Remainder x c) (e.Remainder p c) (is ∙ ap (λ z. e.Remainder z c) (sym ex)) (record {
        value_is = λ reads values moved goes. value_remainder reads moved p c ∙ ap (λ z. word.remainder z c) (one.value_is reads values moved goes)
            ∙ sym (value_remainder reads values x c);
        loads_are = λ reads values moved goes. loads_remainder reads moved p c ∙ one.loads_are reads values moved goes
            ∙ sym (loads_remainder reads values x c);
      })

  pub further-select : (whole c a b x y z p q r : Expr) → whole ≡ e.Select c a b → x ≡ c → y ≡ a → z ≡ b → IsFurther own_further x p → IsFurther own_further y q
      → IsFurther own_further z r → IsFurther own_further whole (e.Select p q r)
  further-select whole c a b x y z p q r is ex ey ez one two three =
      further-as whole (e.Select x y z) (e.Select p q r) (is ∙ ap (λ t. e.Select t a b) (sym ex) ∙ ap (λ t. e.Select x t b) (sym ey)
      ∙ ap (e.Select x y) (sym ez)) (record {
        value_is = λ reads values moved goes. value_select reads moved p q r
            ∙ ap (λ t. if t == 0 then value reads moved r else value reads moved q) (one.value_is reads values moved goes)
            ∙ ap (λ t. if value reads values x == 0 then value reads moved r else t) (two.value_is reads values moved goes)
            ∙ ap (λ t. if value reads values x == 0 then t else value reads values y) (three.value_is reads values moved goes)
            ∙ sym (value_select reads values x y z);
        loads_are = λ reads values moved goes. loads_select reads moved p q r
            ∙ ap (λ t. t ++ (loads reads moved q ++ loads reads moved r)) (one.loads_are reads values moved goes)
            ∙ ap (λ t. loads reads values x ++ (t ++ loads reads moved r)) (two.loads_are reads values moved goes)
            ∙ ap (λ t. loads reads values x ++ (loads reads values y ++ t)) (three.loads_are reads values moved goes)
            ∙ sym (loads_select reads values x y z);
      })

  pub further-load : (whole : Expr) (source : Source) (a b x y p q : Expr) → whole ≡ e.Load source a b → x ≡ a → y ≡ b → IsFurther own_further x p
      → IsFurther own_further y q → IsFurther own_further whole (e.Load source p q)
  further-load whole source a b x y p q is ex ey one two =
      further-as whole (e.Load source x y) (e.Load source p q) (is ∙ ap (λ z. e.Load source z b) (sym ex) ∙ ap (e.Load source x) (sym ey)) (record {
        value_is = λ reads values moved goes. value_load reads moved source p q
            ∙ ap (λ z. reads source z (value reads moved q)) (one.value_is reads values moved goes)
            ∙ ap (reads source (value reads values x)) (two.value_is reads values moved goes) ∙ sym (value_load reads values source x y);
        loads_are = λ reads values moved goes. loads_load reads moved source p q
            ∙ ap (λ z. (z ++ loads reads moved q) ++ (point source (value reads moved p) (value reads moved q) ∷ [])) (one.loads_are reads values moved goes)
            ∙ ap (λ z. (loads reads values x ++ z) ++ (point source (value reads moved p) (value reads moved q) ∷ []))
            (two.loads_are reads values moved goes)
            ∙ ap (λ z. (loads reads values x ++ loads reads values y) ++ (point source z (value reads moved q) ∷ []))
            (one.value_is reads values moved goes)
            ∙ ap (λ z. (loads reads values x ++ loads reads values y) ++ (point source (value reads values x) z ∷ []))
            (two.value_is reads values moved goes) ∙ sym (loads_load reads values source x y);
      })

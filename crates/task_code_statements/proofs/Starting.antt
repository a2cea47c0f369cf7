-- Runs of split loops that begin at a name, and what is known of names that stay below numbers.
use Rattle.std.proofs.Common.{◌≡◌, ℕ, ◌+◌, ◌^◌, ◌<◌, ◌≤◌, List, ◌∷◌, Bool, true, false, refl, ap, ◌∙◌, sym, subst, arith}
use Rattle.std.specs.Prelude.{◌%◌, if◌then◌else◌, min, nat_lt, IfSome, Option, Some, None}
use Rattle.std.proofs.lemmas.Bool.Decides.{nat_tests}
use Rattle.halide_pipeline.specs.declared.expressions.Operation.{Operation}
use Rattle.halide_pipeline.specs.declared.expressions.Operation.TheVariants as op
use Rattle.halide_pipeline.specs.Pixel.{Reads}
use Rattle.halide_pipeline.specs.Words as word
use Rattle.loop_ir.specs.declared.expressions.Counter.{Counter}
use Rattle.loop_ir.specs.declared.expressions.Expr.{Expr}
use Rattle.loop_ir.specs.declared.expressions.Expr.TheVariants as e
use Rattle.loop_ir.specs.declared.expressions.Linear.{Linear}
use Rattle.loop_ir.specs.declared.statements.Whole.{Whole}
use Rattle.loop_ir.specs.Counters.{Values, with}
use Rattle.loop_ir.specs.Expressions.{linear_value, value}
use Rattle.loop_ir.specs.Running.{at_most}
use Rattle.task_code_values.proofs.Evaluating.{value_binary, value_linear, value_number}
use Rattle.task_code_registers.specs.declared.scopes.AffineForm.{AffineForm}
use Rattle.task_code_loops.specs.declared.bounds.Bound.{Bound}
use Rattle.task_code_loops.specs.Bounds.{AreBelow, IsBelow}
use Rattle.task_code_loops.specs.Known.{AreKnown}
use Rattle.task_code_loops.proofs.Knowledge.{stands-at}
use Rattle.task_code_names.specs.declared.names.Named.{Named}
use Rattle.task_code_names.specs.Names.{AreNames, IsNameOf}
use Rattle.task_code_statements.specs.declared.contexts.Context.{Context}
use Rattle.task_code_statements.specs.Contexts.{MeetsName}
use Rattle.task_code_statements.specs.Lessers.{IsLesser, StaysBelow}
use Rattle.task_code_statements.specs.Rewriting.{IsLeafSum}
use Rattle.task_code_statements.specs.Splits.{BeginsAt, HasLesser, IsProduct, IsStart, product, signed_start}
use Rattle.task_code_statements.proofs.Same.{first-form}

below-so : (a b : ℕ) → nat_lt a b ≡ true → a < b
below-so a b t = grind (arith, nat_tests)

not-below : (a b : ℕ) → nat_lt a b ≡ false → b ≤ a
not-below a b t = grind (arith, nat_tests)

-- of numbers that aren't negative the lesser is the same with a sign as without
least-is : (a b : ℕ) → a < 2 ^ 31 → b < 2 ^ 31 → word.minimum a b ≡ min a b
unfolding word.less
least-is a b la lb = go (word.less b a) refl
  where
    go : (t : Bool) → word.less b a ≡ t → (if t then b else a) ≡ min a b
    go true is = let less = below-so ((b + 2 ^ 31) % 2 ^ 32) ((a + 2 ^ 31) % 2 ^ 32) is in omega (arith, less, la, lb)
    go false is = let more = not-below ((b + 2 ^ 31) % 2 ^ 32) ((a + 2 ^ 31) % 2 ^ 32) is in omega (arith, more, la, lb)

-- all sources hold 0
abbrev no_reads : Reads
no_reads source x y = 0

-- ---- the lesser of a sum and a number

pub lesser-made : (sum : Linear) (number : ℕ) (first second : Expr) → first ≡ e.Linear sum → second ≡ e.Number number
    → IsLesser sum number (e.Binary op.Minimum first second)
lesser-made sum number first second e1 e2 = record {
  value_is = λ reads values.
      value_binary reads values op.Minimum first second
      ∙ ap (λ n. word.minimum n (value reads values second)) (ap (value reads values) e1 ∙ value_linear reads values sum)
      ∙ ap (word.minimum (linear_value values sum)) (ap (value reads values) e2 ∙ value_number reads values number);
}

-- and where a run begins that needs a name
pub start_made : {context : Context} {whole : Whole} {last : ℕ} {sum : Linear} {own : Expr} → whole.last ≡ Some last → IsProduct context whole sum
    → IsLesser sum last own → IsStart context whole own
start_made {context} {whole} {last} {sum} {own} el product lesser = record {
  value_is = λ reads values known.
      lesser.value_is reads values ∙ ap (λ n. word.minimum n last) (product.value_is values known)
      ∙ sym (ap (λ l. signed_start l (word.multiply (values whole.outer) whole.factor)) el);
}

sum-below : (bounds : List Bound) (form : AffineForm) → IsBelow bounds form (2 ^ 31) → (values : Values) → AreBelow bounds values
    → linear_value values form.sum < 2 ^ 31
sum-below bounds form below values are = subst (λ n. n < 2 ^ 31) (first-form values form) (below 0 values are)

lesser-has : (context : Context) (names : List Named) (bounds : List Bound) (sum : Linear) (last : ℕ) (expression : Expr) (counter : Counter)
    → names ≡ context.names.items → bounds ≡ context.bounds.items → last < 2 ^ 31 → IsBelow bounds (record { sum = sum; per_hart = 0 }) (2 ^ 31)
    → IsLesser sum last expression → IsNameOf names expression counter → HasLesser context sum last counter
lesser-has context names bounds sum last expression counter en eb small below lesser is values meets =
    let low = sum-below bounds (record { sum = sum; per_hart = 0 }) below values (subst (λ b. AreBelow b values) (sym eb) meets.below) in
    let has = is values (subst (λ l. AreNames l values) (sym en) meets.named) in
    sym (has.value_is no_reads) ∙ lesser.value_is no_reads values ∙ least-is (linear_value values sum) last low small

-- and where a run begins, which needs no name
pub lesser-begins : (context : Context) (whole : Whole) (bounds : List Bound) (sum : Linear) (last : ℕ) (expression : Expr) → whole.last ≡ Some last
    → bounds ≡ context.bounds.items → last < 2 ^ 31 → IsBelow bounds (record { sum = sum; per_hart = 0 }) (2 ^ 31) → IsProduct context whole sum
    → IsLesser sum last expression → BeginsAt context whole expression
lesser-begins context whole bounds sum last expression el eb small below is lesser reads values meets =
    let low = sum-below bounds (record { sum = sum; per_hart = 0 }) below values (subst (λ b. AreBelow b values) (sym eb) meets.below) in
    lesser.value_is reads values ∙ least-is (linear_value values sum) last low small
    ∙ ap (λ n. min n last) (is.value_is values meets.known) ∙ sym (ap (λ o. at_most o (product whole values)) el)

-- where it has a name
pub has-if : (context : Context) (names : List Named) (bounds : List Bound) (sum : Linear) (last : ℕ) (new_expression : Expr) (loop_counter : Option Counter)
    → names ≡ context.names.items → bounds ≡ context.bounds.items → last < 2 ^ 31 → IsBelow bounds (record { sum = sum; per_hart = 0 }) (2 ^ 31)
    → IsLesser sum last new_expression → IfSome loop_counter (λ counter. IsNameOf names new_expression counter) → IfSome loop_counter (HasLesser context sum last)
has-if context names bounds sum last new_expression None en eb small below lesser is = tt
has-if context names bounds sum last new_expression (Some counter) en eb small below lesser is =
    lesser-has context names bounds sum last new_expression counter en eb small below lesser is

-- an expression that is one
pub lesser-both : (a b : Expr) (sum : Linear) (number : ℕ) → b ≡ e.Number number → IsLeafSum a sum → IsLesser sum number (e.Binary op.Minimum a b)
lesser-both a b sum number eb leaf = record {
  value_is = λ reads values.
      value_binary reads values op.Minimum a b ∙ ap (λ n. word.minimum n (value reads values b)) (sym (leaf.value_is reads values))
      ∙ ap (word.minimum (linear_value values sum)) (ap (value reads values) eb ∙ value_number reads values number);
}

pub lesser-arm : (expression : Expr) (o : Operation) (a b x y : Expr) (P : Expr → Type 0) → expression ≡ e.Binary o a b → o ≡ op.Minimum → x ≡ a → y ≡ b
    → P (e.Binary op.Minimum x y) → P expression
lesser-arm expression o a b x y P is eo ex ey p =
    subst P (sym (is ∙ ap (λ k. e.Binary k a b) eo ∙ ap (λ k. e.Binary op.Minimum k b) (sym ex) ∙ ap (e.Binary op.Minimum x) (sym ey))) p

pub lesser-below : (bounds : List Bound) (expression : Expr) (form : AffineForm) (last : ℕ) → IsLesser form.sum last expression → last < 2 ^ 31 → IsBelow bounds form (2 ^ 31)
    → StaysBelow bounds expression (last + 1)
lesser-below bounds expression form last is small below reads values are =
    let low = sum-below bounds form below values are in
    let here : value reads values expression ≡ min (linear_value values form.sum) last =
    is.value_is reads values ∙ least-is (linear_value values form.sum) last low small in
    omega (arith, here)

-- ---- a name that stays below a number

pub value-meets : (context within new_context : Context) (counter : Counter) (expression : Expr) (count : ℕ) (bounds : List Bound) → bounds ≡ context.bounds.items
    → MeetsName context counter expression within → StaysBelow bounds expression count
    → new_context.known.items ≡ within.known.items
    → new_context.bounds.items ≡ record { counter = counter; count = count } ∷ within.bounds.items → new_context.names.items ≡ within.names.items
    → MeetsName context counter expression new_context
value-meets context within new_context counter expression count bounds eb new below ek ebs en = record {
  meets = λ values v small value_is loads_are m.
      let at = with counter v values in
      let inner = new.meets values v small value_is loads_are m in
      let less : v < count = subst (λ n. n < count) (value_is no_reads) (below no_reads values (subst (λ l. AreBelow l values) (sym eb) m.below)) in
      record {
        known = subst (λ l. AreKnown l at) (sym ek) inner.known;
        below = subst (λ l. AreBelow l at) (sym ebs) (subst (λ n. n < count) (sym (stands-at counter v values)) less, inner.below);
        named = subst (λ l. AreNames l at) (sym en) inner.named;
      };
}

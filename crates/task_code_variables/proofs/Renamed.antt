-- Expressions by numbered variables come to the same.
use Rattle.std.proofs.Common.{◌≡◌, ℕ, suc, ◌+◌, ◌*◌, ◌%◌, ◌^◌, ◌<◌, ◌≤◌, List, [], ◌∷◌, ◌++◌, length, Bool, true, false, refl, ap, ◌∙◌, sym, subst, arith}
use Rattle.std.specs.Prelude.{◌==◌, ◌&&◌, ◌||◌, if◌then◌else◌, max, Option, Some, None}
use Rattle.halide_pipeline.specs.declared.expressions.Operation.{Operation}
use Rattle.halide_pipeline.specs.declared.expressions.Source.{Source}
use Rattle.halide_pipeline.specs.Points.{Point}
use Rattle.halide_pipeline.specs.Words as word
use Rattle.loop_ir.specs.declared.expressions.Counter.{Counter}
use Rattle.loop_ir.specs.declared.expressions.Expr.{Expr}
use Rattle.loop_ir.specs.declared.expressions.Expr.TheVariants as e
use Rattle.loop_ir.specs.declared.expressions.Linear.{Linear}
use Rattle.loop_ir.specs.declared.expressions.Term.{Term}
use Rattle.loop_ir.specs.Counters.{Values, same_counter}
use Rattle.loop_ir.specs.Expressions.{value, loads, linear_value, sum_of}
use Rattle.loop_ir.specs.Needs.{Need, need_of, need, of_parts as needs_of_parts, beside_first, divisor_need}
use Rattle.loop_ir.specs.Sizes.{Size, size, size_of, kept}
use Rattle.loop_ir.proofs.Folds.{at_number, at_linear, at_binary, at_divide, at_remainder, at_select, at_load}
use Rattle.loop_ir.proofs.Needs.{need_linear, need_binary, need_divide, need_remainder, need_select, need_load}
use Rattle.loop_ir.proofs.Sizes.{size_linear, size_binary, size_divide, size_remainder, size_select, size_load}
use Rattle.task_code_registers.specs.declared.scopes.Held.{Held}
use Rattle.task_code_registers.specs.Scopes.{has_variable, have_registers}
use Rattle.task_code_values.specs.Variables.{are_held, are_held_at}
use Rattle.task_code_values.proofs.Evaluating.{value_number, value_linear, value_binary, value_divide, value_remainder, value_select, value_load}
use Rattle.task_code_values.proofs.Evaluating.{loads_binary, loads_divide, loads_remainder, loads_select, loads_load}
use Rattle.task_code_names.proofs.Alike.{loads_number, loads_linear}
use Rattle.task_code_variables.specs.Renaming.{HoldsAround, IsRenamed, StandFor, numbered, renamed, renamed_at, renamed_sum, standing}
use Rattle.task_code_variables.specs.Renaming.{value_in}

-- ---- sums

standing-value : (around : List Counter) (numbers : Values) (counter : Counter) (stride rest : ℕ) (others : List Term)
    → sum_of numbers others ≡ rest → sum_of numbers (renamed_at (standing around counter) stride others) ≡ value_in around numbers counter * stride + rest
standing-value [] numbers counter stride rest others e = let g : 0 * stride + rest ≡ rest = omega arith in e ∙ sym g
standing-value (own ∷ outer) numbers counter stride rest others e =
    by-test (same_counter counter own) (standing-value outer numbers counter stride rest others e)
  where
    by-test : (t : Bool) → sum_of numbers (renamed_at (standing outer counter) stride others) ≡ value_in outer numbers counter * stride + rest
        → sum_of numbers (renamed_at (if t then Some (numbered (length outer)) else standing outer counter) stride others)
        ≡ (if t then numbers (numbered (length outer)) else value_in outer numbers counter) * stride + rest
    by-test true outside = ap (λ n. numbers (numbered (length outer)) * stride + n) e
    by-test false outside = outside

sum-renamed : (around : List Counter) (values numbers : Values) → StandFor around values numbers → (terms : List Term)
    → sum_of numbers (renamed around terms) ≡ sum_of values terms
sum-renamed around values numbers stand [] = refl
sum-renamed around values numbers stand (first ∷ others) =
    standing-value around numbers first.counter first.stride (sum_of values others) (renamed around others) (sum-renamed around values numbers stand others)
    ∙ ap (λ n. n * first.stride + sum_of values others) (sym (stand first.counter))

linear-renamed : (around : List Counter) (values numbers : Values) → StandFor around values numbers → (new_sum : Linear)
    → linear_value numbers (renamed_sum around new_sum) ≡ linear_value values new_sum
unfolding linear_value
linear-renamed around values numbers stand new_sum = ap (λ n. (new_sum.number + n) % 2 ^ 32) (sum-renamed around values numbers stand new_sum.terms)

few-at : (loop_counter : Option Counter) (stride k : ℕ) (others : List Term) → length others ≤ k → length (renamed_at loop_counter stride others) ≤ suc k
few-at None stride k others less = omega (arith, less)
few-at (Some counter) stride k others less = omega (arith, less)

few-renamed : (around : List Counter) (terms : List Term) → length (renamed around terms) ≤ length terms
few-renamed around [] = omega arith
few-renamed around (first ∷ others) =
    few-at (standing around first.counter) first.stride (length others) (renamed around others) (few-renamed around others)

-- ---- registers

found-held : (around : List Counter) (scope : List Held) (counter : Counter) (stride : ℕ) (others : List Term)
    → ((depth : ℕ) → depth < length around → has_variable scope (numbered depth) ≡ true) → have_registers scope others ≡ true
    → have_registers scope (renamed_at (standing around counter) stride others) ≡ true
found-held [] scope counter stride others have rest = rest
found-held (own ∷ outer) scope counter stride others have rest =
    by-test (same_counter counter own) (found-held outer scope counter stride others (λ depth less. have depth (omega (arith, less))) rest)
  where
    or-true : (a : Bool) → (a || true) ≡ true
    or-true true = refl
    or-true false = refl

    here : have_registers scope (renamed_at (Some (numbered (length outer))) stride others) ≡ true
    here =
        ap (λ t. ((stride == 0) || t) && have_registers scope others) (have (length outer) (omega arith))
        ∙ ap (λ t. t && have_registers scope others) (or-true (stride == 0)) ∙ rest

    by-test : (t : Bool) → have_registers scope (renamed_at (standing outer counter) stride others) ≡ true
        → have_registers scope (renamed_at (if t then Some (numbered (length outer)) else standing outer counter) stride others) ≡ true
    by-test true outside = here
    by-test false outside = outside

terms-held : (around : List Counter) (scope : List Held) → HoldsAround around scope → (terms : List Term) → have_registers scope (renamed around terms) ≡ true
terms-held around scope holds [] = refl
terms-held around scope holds (first ∷ others) =
    found-held around scope first.counter first.stride (renamed around others) holds.have (terms-held around scope holds others)

both-true : (a b : Bool) → a ≡ true → b ≡ true → (a && b) ≡ true
both-true a b ea eb = ap (λ t. t && b) ea ∙ eb

-- ---- terms, one by one

-- ---- expressions

abbrev point : Source → ℕ → ℕ → Point
point source x y = record { source = source; x = x; y = y }

words_is : (expression : Expr) (n : Size) → size_of expression ≡ n → size expression ≡ n.words
words_is expression n is = ap (λ (k : Size). k.words) is

kept-same : (a b : Expr) → (size_of a).is_leaf ≡ (size_of b).is_leaf → kept (size_of a) ≡ kept (size_of b)
kept-same a b same = ap (λ t. if t then 0 else 15) same

leaf-same : (a b : Expr) (m n : Size) → size_of a ≡ m → size_of b ≡ n → m.is_leaf ≡ n.is_leaf → (size_of a).is_leaf ≡ (size_of b).is_leaf
leaf-same a b m n em en same = ap (λ (k : Size). k.is_leaf) em ∙ same ∙ sym (ap (λ (k : Size). k.is_leaf) en)

module _ (around : List Counter) where
  renamed-as : (expression x made : Expr) → expression ≡ x → IsRenamed around x made → IsRenamed around expression made
  renamed-as expression x made is same = subst (λ y. IsRenamed around y made) (sym is) same

  pub renamed-number : (expression : Expr) (n : ℕ) → expression ≡ e.Number n → IsRenamed around expression (e.Number n)
  unfolding are_held
  renamed-number expression n is = renamed-as expression (e.Number n) (e.Number n) is (record {
    value_is = λ values numbers stand reads. value_number reads numbers n ∙ sym (value_number reads values n);
    loads_are = λ values numbers stand reads. loads_number reads numbers n ∙ sym (loads_number reads values n);
    need_is = refl;
    leaf_is = refl;
    short = omega arith;
    held = λ scope holds. at_number Bool (are_held_at scope) n;
  })

  pub renamed-linear : (expression : Expr) (sum made : Linear) → expression ≡ e.Linear sum → made ≡ renamed_sum around sum → IsRenamed around expression (e.Linear made)
  unfolding are_held
  renamed-linear expression sum made is em = renamed-as expression (e.Linear sum) (e.Linear made) is
      (subst (λ m. IsRenamed around (e.Linear sum) (e.Linear m)) (sym em) (record {
        value_is = λ values numbers stand reads. value_linear reads numbers (renamed_sum around sum) ∙ linear-renamed around values numbers stand sum
            ∙ sym (value_linear reads values sum);
        loads_are = λ values numbers stand reads. loads_linear reads numbers (renamed_sum around sum) ∙ sym (loads_linear reads values sum);
        need_is = need_linear (renamed_sum around sum) ∙ sym (need_linear sum);
        leaf_is = leaf-same (e.Linear (renamed_sum around sum)) (e.Linear sum) _ _ (size_linear (renamed_sum around sum)) (size_linear sum) refl;
        short =
            let few = few-renamed around sum.terms in
            let m = words_is (e.Linear (renamed_sum around sum)) _ (size_linear (renamed_sum around sum)) in
            let n = words_is (e.Linear sum) _ (size_linear sum) in
            omega (arith, few, m, n);
        held = λ scope holds. at_linear Bool (are_held_at scope) (renamed_sum around sum) ∙ terms-held around scope holds sum.terms;
      }))

  pub renamed-binary : (expression : Expr) (o : Operation) (a b x y p q : Expr) → expression ≡ e.Binary o a b → x ≡ a → y ≡ b → IsRenamed around x p
      → IsRenamed around y q → IsRenamed around expression (e.Binary o p q)
  unfolding are_held
  renamed-binary expression o a b x y p q is ex ey one two = renamed-as expression (e.Binary o x y) (e.Binary o p q)
      (is ∙ ap (λ z. e.Binary o z b) (sym ex) ∙ ap (e.Binary o x) (sym ey)) (record {
        value_is = λ values numbers stand reads. value_binary reads numbers o p q
            ∙ ap (λ z. word.applied o z (value reads numbers q)) (one.value_is values numbers stand reads)
            ∙ ap (word.applied o (value reads values x)) (two.value_is values numbers stand reads) ∙ sym (value_binary reads values o x y);
        loads_are = λ values numbers stand reads. loads_binary reads numbers o p q
            ∙ ap (λ z. z ++ loads reads numbers q) (one.loads_are values numbers stand reads)
            ∙ ap (λ z. loads reads values x ++ z) (two.loads_are values numbers stand reads) ∙ sym (loads_binary reads values o x y);
        need_is = need_binary o p q ∙ ap (λ (n : Need). needs_of_parts (max n.count (beside_first (need_of q)))) one.need_is
            ∙ ap (λ (n : Need). needs_of_parts (max (need x) (beside_first n))) two.need_is ∙ sym (need_binary o x y);
        leaf_is = leaf-same (e.Binary o p q) (e.Binary o x y) _ _ (size_binary o p q) (size_binary o x y) refl;
        short =
            let m = words_is (e.Binary o p q) _ (size_binary o p q) in
            let n = words_is (e.Binary o x y) _ (size_binary o x y) in
            let k = kept-same q y two.leaf_is in
            omega (arith, m, n, k, one.short, two.short);
        held = λ scope holds. at_binary Bool (are_held_at scope) o p q
            ∙ both-true (are_held scope p) (are_held scope q) (one.held scope holds) (two.held scope holds);
      })

  pub renamed-divide : (expression a x p : Expr) (c : ℕ) → expression ≡ e.Divide a c → x ≡ a → IsRenamed around x p → IsRenamed around expression (e.Divide p c)
  unfolding are_held
  renamed-divide expression a x p c is ex one = renamed-as expression (e.Divide x c) (e.Divide p c) (is ∙ ap (λ z. e.Divide z c) (sym ex)) (record {
    value_is = λ values numbers stand reads. value_divide reads numbers p c ∙ ap (λ z. word.divide z c) (one.value_is values numbers stand reads)
        ∙ sym (value_divide reads values x c);
    loads_are = λ values numbers stand reads. loads_divide reads numbers p c ∙ one.loads_are values numbers stand reads ∙ sym (loads_divide reads values x c);
    need_is = need_divide p c ∙ ap (λ (n : Need). needs_of_parts (max n.count (divisor_need c))) one.need_is ∙ sym (need_divide x c);
    leaf_is = leaf-same (e.Divide p c) (e.Divide x c) _ _ (size_divide p c) (size_divide x c) refl;
    short =
        let m = words_is (e.Divide p c) _ (size_divide p c) in
        let n = words_is (e.Divide x c) _ (size_divide x c) in
        omega (arith, m, n, one.short);
    held = λ scope holds. at_divide Bool (are_held_at scope) p c ∙ one.held scope holds;
  })

  pub renamed-remainder : (expression a x p : Expr) (c : ℕ) → expression ≡ e.Remainder a c → x ≡ a → IsRenamed around x p → IsRenamed around expression (e.Remainder p c)
  unfolding are_held
  renamed-remainder expression a x p c is ex one = renamed-as expression (e.Remainder x c) (e.Remainder p c) (is ∙ ap (λ z. e.Remainder z c) (sym ex)) (record {
    value_is = λ values numbers stand reads. value_remainder reads numbers p c ∙ ap (λ z. word.remainder z c) (one.value_is values numbers stand reads)
        ∙ sym (value_remainder reads values x c);
    loads_are = λ values numbers stand reads. loads_remainder reads numbers p c ∙ one.loads_are values numbers stand reads
        ∙ sym (loads_remainder reads values x c);
    need_is = need_remainder p c ∙ ap (λ (n : Need). needs_of_parts (max n.count (divisor_need c))) one.need_is ∙ sym (need_remainder x c);
    leaf_is = leaf-same (e.Remainder p c) (e.Remainder x c) _ _ (size_remainder p c) (size_remainder x c) refl;
    short =
        let m = words_is (e.Remainder p c) _ (size_remainder p c) in
        let n = words_is (e.Remainder x c) _ (size_remainder x c) in
        omega (arith, m, n, one.short);
    held = λ scope holds. at_remainder Bool (are_held_at scope) p c ∙ one.held scope holds;
  })

  pub renamed-select : (expression c a b x y z p q r : Expr) → expression ≡ e.Select c a b → x ≡ c → y ≡ a → z ≡ b → IsRenamed around x p → IsRenamed around y q
      → IsRenamed around z r → IsRenamed around expression (e.Select p q r)
  unfolding are_held
  renamed-select expression c a b x y z p q r is ex ey ez one two three = renamed-as expression (e.Select x y z)
      (e.Select p q r)
      (is ∙ ap (λ t. e.Select t a b) (sym ex) ∙ ap (λ t. e.Select x t b) (sym ey) ∙ ap (e.Select x y) (sym ez)) (record {
        value_is = λ values numbers stand reads. value_select reads numbers p q r
            ∙ ap (λ t. if t == 0 then value reads numbers r else value reads numbers q) (one.value_is values numbers stand reads)
            ∙ ap (λ t. if value reads values x == 0 then value reads numbers r else t) (two.value_is values numbers stand reads)
            ∙ ap (λ t. if value reads values x == 0 then t else value reads values y) (three.value_is values numbers stand reads)
            ∙ sym (value_select reads values x y z);
        loads_are = λ values numbers stand reads. loads_select reads numbers p q r
            ∙ ap (λ t. t ++ (loads reads numbers q ++ loads reads numbers r)) (one.loads_are values numbers stand reads)
            ∙ ap (λ t. loads reads values x ++ (t ++ loads reads numbers r)) (two.loads_are values numbers stand reads)
            ∙ ap (λ t. loads reads values x ++ (loads reads values y ++ t)) (three.loads_are values numbers stand reads)
            ∙ sym (loads_select reads values x y z);
        need_is = need_select p q r
            ∙ ap (λ (n : Need). needs_of_parts (max n.count (max (1 + need q) (2 + need r)))) one.need_is
            ∙ ap (λ (n : Need). needs_of_parts (max (need x) (max (1 + n.count) (2 + need r)))) two.need_is
            ∙ ap (λ (n : Need). needs_of_parts (max (need x) (max (1 + need y) (2 + n.count)))) three.need_is
            ∙ sym (need_select x y z);
        leaf_is = leaf-same (e.Select p q r) (e.Select x y z) _ _ (size_select p q r) (size_select x y z) refl;
        short =
            let m = words_is (e.Select p q r) _ (size_select p q r) in
            let n = words_is (e.Select x y z) _ (size_select x y z) in
            omega (arith, m, n, one.short, two.short, three.short);
        held = λ scope holds. at_select Bool (are_held_at scope) p q r
            ∙ both-true (are_held scope p) (are_held scope q && are_held scope r) (one.held scope holds)
            (both-true (are_held scope q) (are_held scope r) (two.held scope holds) (three.held scope holds));
      })

  pub renamed-load : (expression : Expr) (source : Source) (a b x y p q : Expr) → expression ≡ e.Load source a b → x ≡ a → y ≡ b → IsRenamed around x p
      → IsRenamed around y q → IsRenamed around expression (e.Load source p q)
  unfolding are_held
  renamed-load expression source a b x y p q is ex ey one two = renamed-as expression (e.Load source x y)
      (e.Load source p q)
      (is ∙ ap (λ z. e.Load source z b) (sym ex) ∙ ap (e.Load source x) (sym ey)) (record {
        value_is = λ values numbers stand reads. value_load reads numbers source p q
            ∙ ap (λ z. reads source z (value reads numbers q)) (one.value_is values numbers stand reads)
            ∙ ap (reads source (value reads values x)) (two.value_is values numbers stand reads) ∙ sym (value_load reads values source x y);
        loads_are = λ values numbers stand reads. loads_load reads numbers source p q
            ∙ ap (λ z. (z ++ loads reads numbers q) ++ (point source (value reads numbers p) (value reads numbers q) ∷ []))
            (one.loads_are values numbers stand reads)
            ∙ ap (λ z. (loads reads values x ++ z) ++ (point source (value reads numbers p) (value reads numbers q) ∷ []))
            (two.loads_are values numbers stand reads)
            ∙ ap (λ z. (loads reads values x ++ loads reads values y) ++ (point source z (value reads numbers q) ∷ []))
            (one.value_is values numbers stand reads)
            ∙ ap (λ z. (loads reads values x ++ loads reads values y) ++ (point source (value reads values x) z ∷ []))
            (two.value_is values numbers stand reads)
            ∙ sym (loads_load reads values source x y);
        need_is = need_load source p q ∙ ap (λ (n : Need). needs_of_parts (max n.count (beside_first (need_of q)))) one.need_is
            ∙ ap (λ (n : Need). needs_of_parts (max (need x) (beside_first n))) two.need_is ∙ sym (need_load source x y);
        leaf_is = leaf-same (e.Load source p q) (e.Load source x y) _ _ (size_load source p q) (size_load source x y) refl;
        short =
            let m = words_is (e.Load source p q) _ (size_load source p q) in
            let n = words_is (e.Load source x y) _ (size_load source x y) in
            let k = kept-same q y two.leaf_is in
            omega (arith, m, n, k, one.short, two.short);
        held = λ scope holds. at_load Bool (are_held_at scope) source p q
            ∙ both-true (are_held scope p) (are_held scope q) (one.held scope holds) (two.held scope holds);
      })

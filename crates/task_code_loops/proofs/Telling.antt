-- What tells when a loop ends.
use Rattle.std.proofs.Common.{◌≡◌, ℕ, suc, ◌+◌, ◌-◌, ◌*◌, ◌^◌, ◌<◌, ◌≤◌, List, [], ◌∷◌, length, get_or, take, drop, Bool, true, false}
use Rattle.std.proofs.Common.{refl, ap, ◌∙◌, sym, subst, arith, inl, inr}
use Rattle.std.specs.Prelude.{◌==◌, ◌⊎◌, ◌&&◌, not, nat_lt, if◌then◌else◌}
use Rattle.std.proofs.lemmas.Bool.{cases_lt, ltb-true}
use Rattle.std.proofs.lemmas.Bool.Decides.{nat_tests}
use Rattle.rv_insn.specs.declared.operations.BranchOp.TheVariants as branches
use Rattle.hart_core.specs.Scalar.{is_taken}
use Rattle.loop_ir.specs.declared.expressions.Counter.{Counter}
use Rattle.loop_ir.specs.Counters.{with}
use Rattle.task_code_registers.specs.declared.scopes.AffineForm.{AffineForm}
use Rattle.task_code_registers.specs.declared.scopes.Held.{Held}
use Rattle.task_code_registers.specs.Emitting.{base_words, sum_words}
use Rattle.task_code_registers.specs.Holding.{Enters, Extends, Takes, IsAt, can_advance, mentions, varying}
use Rattle.task_code_registers.specs.Looping as looping
use Rattle.task_code_registers.specs.Registers.{may_hold}
use Rattle.task_code_registers.specs.Scopes.{Knows, are_registers, form_value, has_variable, left_count}
use Rattle.task_code_registers.specs.Strides.{has_counter}
use Rattle.task_code_registers.proofs.Ending.{limits-tell}
use Rattle.task_code_registers.proofs.Knowing.{others-are}
use Rattle.task_code_registers.proofs.Striding.{others-fewer}
use Rattle.task_code_loops.specs.declared.beginning.BegunLoop.{BegunLoop}
use Rattle.task_code_loops.specs.declared.tests.Limit.{Limit}
use Rattle.task_code_loops.specs.declared.tests.Limit.TheVariants.{Register, Number}
use Rattle.task_code_loops.specs.declared.tests.Tested.{Tested}
use Rattle.task_code_loops.specs.Beginning.{variable, number, forms_words, may_be_limit, IsTest, HoldsPlainly}
use Rattle.task_code_loops.specs.Beginning.{Gains, Tests, Betters, begin_words, IsBegun}
use Rattle.task_code_loops.proofs.Entered.{enters-none, enters-more, enters-then, can-taken}
use Rattle.task_code_loops.proofs.Knowledge.{can-unmentioned, knows-more, number-value, variable-more, variable-there, variable-value}

-- ---- tests

differs-below : (i n : ℕ) → i < n → (suc i < n) ⊎ (n ≤ suc i) → not (suc i == n) ≡ nat_lt (suc i) n
differs-below i n less (inl l) = let e : (suc i == n) ≡ false = grind (arith, nat_tests, l) in let t : nat_lt (suc i) n ≡ true = grind (arith, nat_tests, l) in
    ap not e ∙ sym t
differs-below i n less (inr h) =
    let g : suc i ≡ n = omega (arith, less, h) in
    let e : (suc i == n) ≡ true = grind (arith, nat_tests, g) in
    let t : nat_lt (suc i) n ≡ false = grind (arith, nat_tests, h) in
    ap not e ∙ sym t

small-number : (n : ℕ) → n < 2 ^ 32 → nat_lt n (2 ^ 32) ≡ true
small-number n l = grind (arith, nat_tests)

-- the variable itself, and the count
test-variable : (counter : Counter) (count r : ℕ) (scope : List Held) → count < 2 ^ 32 → may_hold r ≡ true
    → IsTest counter count (record { register = r; form = variable counter } ∷ scope) r (Number count)
test-variable counter count r scope small may = record {
  may = may;
  limit_may = small-number count small;
  differs = λ hart i values f less knows.
      let e : f r ≡ suc i = knows.0 ∙ variable-value counter hart (suc i) values (omega (arith, less, small)) in
      ap (λ n. not (n == count)) e ∙ differs-below i count less (cases_lt (suc i) count);
}

-- a form, and what it is after the last iteration
test-form : (counter : Counter) (count a b : ℕ) (scope : List Held) (form limit : AffineForm) → may_hold a ≡ true → may_hold b ≡ true
    → IsAt counter count form limit → looping.is_test counter count form ≡ true
    → IsTest counter count (record { register = b; form = limit } ∷ (record { register = a; form = form } ∷ scope)) a (Register b)
test-form counter count a b scope form limit ma mb at tells = record {
  may = ma;
  limit_may = mb;
  differs = λ hart i values f less knows.
      ap (λ n. is_taken branches.Bne n (f b)) knows.1.0
      ∙ ap (λ n. is_taken branches.Bne (form_value hart (with counter (suc i) values) form) n) knows.0
      ∙ limits-tell counter count i hart values form limit at tells less;
}

-- a test stays one where more is held
test-more : (counter : Counter) (count : ℕ) (scope inner : List Held) (r : ℕ) (limit : Limit) → Extends scope inner → IsTest counter count scope r limit
    → IsTest counter count inner r limit
test-more counter count scope inner r limit extends test = record {
  may = test.may;
  limit_may = test.limit_may;
  differs = λ hart i values f less knows.
      test.differs hart i values f less
      (knows-more hart extends.added scope (with counter (suc i) values) f (subst (λ s. Knows hart s (with counter (suc i) values) f) extends.is knows));
}

-- and where its limit is held too
test-held : (counter : Counter) (count n b r : ℕ) (scope : List Held) → n < 2 ^ 32 → may_hold b ≡ true → IsTest counter count scope r (Number n)
    → IsTest counter count (record { register = b; form = number n } ∷ scope) r (Register b)
test-held counter count n b r scope small mb test = record {
  may = test.may;
  limit_may = mb;
  differs = λ hart i values f less knows.
      ap (λ k. is_taken branches.Bne (f r) k) (knows.0 ∙ number-value n hart (with counter (suc i) values) small)
      ∙ test.differs hart i values f less knows.1;
}

-- ---- scopes with tests

module _ (counter : Counter) (count : ℕ) (scope : List Held) (reserved : ℕ) where
  pub tests-variable : (form : AffineForm) (inner : List Held) (r : ℕ) (c0 c1 : List ℕ) → count < 2 ^ 32 → form ≡ variable counter
      → Takes c0 c1 counter scope form reserved r inner → (tested : Tested) → tested.scope.items ≡ inner → tested.register ≡ r → tested.limit ≡ Number count
      → Tests c0 c1 10 counter count scope reserved tested
  tests-variable form inner r c0 c1 small ef x tested ei er el =
      let s : inner ≡ record { register = r; form = variable counter } ∷ scope = x.is ∙ ap (λ (g : AffineForm). record { register = r; form = g } ∷ scope) ef in
      let z : sum_words form.per_hart form.sum.terms ≡ 6 = ap (λ (g : AffineForm). sum_words g.per_hart g.sum.terms) ef in
      let test : IsTest counter count inner r (Number count) =
      subst (λ k. IsTest counter count k r (Number count)) (sym s) (test-variable counter count r scope small x.may) in
      record {
        enters = subst (λ k. Enters c0 c1 10 counter scope k) (sym ei)
            (enters-more counter scope inner (sum_words form.per_hart form.sum.terms) 10 c0 c1 (omega (arith, z)) x.enters);
        can = λ can. subst (λ k. can_advance counter k ≡ true) (sym ei) (can-taken counter scope inner form r reserved c0 c1 x can);
        left = subst (λ k. reserved ≤ left_count k) (sym ei) x.left;
        test = subst (λ k. IsTest counter count k tested.register tested.limit) (sym ei)
            (subst (λ q. IsTest counter count inner q tested.limit) (sym er) (subst (λ o. IsTest counter count inner r o) (sym el) test));
      }

  one-at-most : (t : Bool) (n : ℕ) → (if t then suc n else n) ≤ suc n
  one-at-most true n = omega arith
  one-at-most false n = omega arith

  -- the variable has a register, and nothing else is held
  pub plain-taken : (form : AffineForm) (inner : List Held) (r : ℕ) (c0 c1 : List ℕ) → form ≡ variable counter → Takes c0 c1 counter scope form reserved r inner
      → HoldsPlainly counter scope inner
  plain-taken form inner r c0 c1 ef x = record {
    variable = subst (λ k. has_variable k counter ≡ true) (sym x.is) (variable-there counter (record { register = r; form = form }) scope x.may ef);
    others = λ other apart.
        ap (mentions other) x.is ∙ ap (λ (g : AffineForm). if has_counter other g.sum.terms then true else mentions other scope) ef
        ∙ ap (λ t. if (if t then true else false) then true else mentions other scope) apart;
    registers = λ are. ap are_registers x.is ∙ ap (λ m. m && are_registers scope) x.may ∙ are;
    moves = subst (λ k. varying counter k ≤ suc (varying counter scope)) (sym x.is)
        (one-at-most (has_counter counter form.sum.terms) (varying counter scope));
  }

  pub tests-form : (form limit : AffineForm) (first first' inner : List Held) (a b : ℕ) (c0 c1 c2 : List ℕ) → first' ≡ first → IsAt counter count form limit
      → looping.is_test counter count form ≡ true → Takes c0 c1 counter scope form (reserved + 1) a first
      → Takes c1 c2 counter first' limit reserved b inner → (tested : Tested) → tested.scope.items ≡ inner → tested.register ≡ a → tested.limit ≡ Register b
      → Tests c0 c2 (10 + 2 * sum_words form.per_hart form.sum.terms) counter count scope reserved tested
  tests-form form limit first first' inner a b c0 c1 c2 ef at tells x y' tested ei er el =
      let y = subst (λ k. Takes c1 c2 counter k limit reserved b inner) ef y' in
      let s : inner ≡ record { register = b; form = limit } ∷ (record { register = a; form = form } ∷ scope) =
      y.is ∙ ap (λ k. record { register = b; form = limit } ∷ k) x.is in
      let few : length limit.sum.terms ≤ length form.sum.terms =
      subst (λ ts. length ts ≤ length form.sum.terms) (sym at.terms) (others-fewer counter form.sum.terms) in
      let part : base_words limit.per_hart ≡ base_words form.per_hart = ap base_words at.per_hart in
      let n = sum_words form.per_hart form.sum.terms in
      let k = sum_words limit.per_hart limit.sum.terms in
      let test : IsTest counter count inner a (Register b) =
      subst (λ z. IsTest counter count z a (Register b)) (sym s) (test-form counter count a b scope form limit x.may y.may at tells) in
      record {
        enters = subst (λ z. Enters c0 c2 (10 + 2 * n) counter scope z) (sym ei)
            (enters-then counter scope first inner n k (10 + 2 * n) c0 c1 c2 (omega (arith, few, part)) x.enters y.enters);
        can = λ can. subst (λ z. can_advance counter z ≡ true) (sym ei)
            (can-taken counter first inner limit b reserved c1 c2 y (can-taken counter scope first form a (reserved + 1) c0 c1 x can));
        left = subst (λ z. reserved ≤ left_count z) (sym ei) y.left;
        test = subst (λ z. IsTest counter count z tested.register tested.limit) (sym ei)
            (subst (λ q. IsTest counter count inner q tested.limit) (sym er) (subst (λ o. IsTest counter count inner a o) (sym el) test));
      }

  pub tests-fewer : (n k : ℕ) (c0 c1 c0' : List ℕ) (tested : Tested) → n ≤ k → c0' ≡ c0 → Tests c0' c1 n counter count scope reserved tested
      → Tests c0 c1 k counter count scope reserved tested
  tests-fewer n k c0 c1 c0' tested fits e x = subst (λ c. Tests c c1 k counter count scope reserved tested) e (record {
    enters = enters-more counter scope tested.scope.items n k c0' c1 fits x.enters;
    can = x.can;
    left = x.left;
    test = x.test;
  })

-- A form is held, and yet the variable tells.
pub tests-later : (counter : Counter) (count : ℕ) (scope first first' : List Held) (form : AffineForm) (reserved a : ℕ) (c0 c1 c1' c2 : List ℕ) (tested : Tested)
    → first' ≡ first → c1' ≡ c1 → Takes c0 c1 counter scope form (reserved + 1) a first → Tests c1' c2 10 counter count first' reserved tested
    → Tests c0 c2 (10 + 2 * sum_words form.per_hart form.sum.terms) counter count scope reserved tested
tests-later counter count scope first first' form reserved a c0 c1 c1' c2 tested ef ec x y' =
    let y = subst (λ k. Tests c1 c2 10 counter count k reserved tested) ef (subst (λ c. Tests c c2 10 counter count first' reserved tested) ec y') in
    let n = sum_words form.per_hart form.sum.terms in
    record {
      enters = enters-then counter scope first tested.scope.items n 10 (10 + 2 * n) c0 c1 c2 (omega arith) x.enters y.enters;
      can = λ can. y.can (can-taken counter scope first form a (reserved + 1) c0 c1 x can);
      left = y.left;
      test = y.test;
    }

-- ---- as the emitters call them

first-fewer : (wanted : List AffineForm) (first other : AffineForm) → 1 ≤ length wanted → first ≡ get_or wanted 0 other
    → forms_words wanted ≡ sum_words first.per_hart first.sum.terms + forms_words (take (length wanted - 1) (drop 1 wanted))
first-fewer wanted first other some is =
    let rest = take (length wanted - 1) (drop 1 wanted) in
    ap forms_words (others-are wanted other some) ∙ ap (λ (f : AffineForm). sum_words f.per_hart f.sum.terms + forms_words rest) (sym is)

pub tests-first : (counter : Counter) (count : ℕ) (scope : List Held) (reserved : ℕ) (wanted : List AffineForm) (first other : AffineForm) (c0 c1 : List ℕ)
    (tested : Tested)
    → 1 ≤ length wanted → first ≡ get_or wanted 0 other → Tests c0 c1 (10 + 2 * sum_words first.per_hart first.sum.terms) counter count scope reserved tested
    → Tests c0 c1 (10 + 2 * forms_words wanted) counter count scope reserved tested
tests-first counter count scope reserved wanted first other c0 c1 tested some is x =
    let e = first-fewer wanted first other some is in
    tests-fewer counter count scope reserved (10 + 2 * sum_words first.per_hart first.sum.terms) (10 + 2 * forms_words wanted) c0 c1 c0 tested
    (omega (arith, e)) refl x

pub tests-others : (counter : Counter) (count : ℕ) (scope : List Held) (reserved : ℕ) (wanted : List AffineForm) (first other : AffineForm) (c0 c1 : List ℕ)
    (tested : Tested)
    → 1 ≤ length wanted → first ≡ get_or wanted 0 other
    → Tests c0 c1 (10 + 2 * forms_words (take (length wanted - 1) (drop 1 wanted))) counter count scope reserved tested
    → Tests c0 c1 (10 + 2 * forms_words wanted) counter count scope reserved tested
tests-others counter count scope reserved wanted first other c0 c1 tested some is x =
    let e = first-fewer wanted first other some is in
    tests-fewer counter count scope reserved (10 + 2 * forms_words (take (length wanted - 1) (drop 1 wanted))) (10 + 2 * forms_words wanted) c0 c1 c0 tested
    (omega (arith, e)) refl x

-- ---- limits that are held

pub betters-none : (counter : Counter) (reserved : ℕ) (tested : Tested) (c0 c1 : List ℕ) → c1 ≡ c0 → Betters c0 c1 6 counter reserved tested tested
betters-none counter reserved tested c0 c1 e = record {
  gains = record {
    enters = subst (λ c. Enters c0 c 6 counter tested.scope.items tested.scope.items) (sym e) (enters-none counter tested.scope.items 6 c0);
    can = λ can. can;
    left = λ left. left;
  };
  test = λ count test. test;
  plain = λ whole plain. plain;
}

pub betters-held : (counter : Counter) (reserved n b : ℕ) (tested new_tested : Tested) (form : AffineForm) (scope' inner : List Held) (c0 c1 : List ℕ)
    → tested.limit ≡ Number n → form ≡ number n → scope' ≡ tested.scope.items → Takes c0 c1 counter scope' form reserved b inner
    → new_tested.scope.items ≡ inner → new_tested.register ≡ tested.register → new_tested.limit ≡ Register b → Betters c0 c1 6 counter reserved tested new_tested
betters-held counter reserved n b tested new_tested form scope' inner c0 c1 en ef es x' ei er el =
    let scope = tested.scope.items in
    let x = subst (λ k. Takes c0 c1 counter k form reserved b inner) es x' in
    let s : inner ≡ record { register = b; form = number n } ∷ scope = x.is ∙ ap (λ (g : AffineForm). record { register = b; form = g } ∷ scope) ef in
    let z : sum_words form.per_hart form.sum.terms ≡ 2 = ap (λ (g : AffineForm). sum_words g.per_hart g.sum.terms) ef in
    record {
      gains = record {
        enters = subst (λ k. Enters c0 c1 6 counter scope k) (sym ei)
            (enters-more counter scope inner (sum_words form.per_hart form.sum.terms) 6 c0 c1 (omega (arith, z)) x.enters);
        can = λ can. subst (λ k. can_advance counter k ≡ true) (sym ei) (can-taken counter scope inner form b reserved c0 c1 x can);
        left = λ left. subst (λ k. reserved ≤ left_count k) (sym ei) x.left;
      };
      test = λ count test.
          let small = ltb-true n (2 ^ 32) (sym (ap may_be_limit en) ∙ test.limit_may) in
          let held = test-held counter count n b tested.register scope small x.may (subst (λ o. IsTest counter count scope tested.register o) en test) in
          subst (λ k. IsTest counter count k new_tested.register new_tested.limit) (sym (ei ∙ s))
          (subst (λ q. IsTest counter count (record { register = b; form = number n } ∷ scope) q new_tested.limit)
          (sym er)
          (subst (λ o. IsTest counter count (record { register = b; form = number n } ∷ scope) tested.register o) (sym el) held));
      plain = λ whole plain. record {
        variable = subst (λ k. has_variable k counter ≡ true) (sym (ei ∙ s))
            (variable-more counter (record { register = b; form = number n } ∷ []) scope plain.variable);
        others = λ other apart. ap (mentions other) (ei ∙ s) ∙ plain.others other apart;
        registers = λ are. ap are_registers (ei ∙ s) ∙ ap (λ m. m && are_registers scope) x.may ∙ plain.registers are;
        moves = subst (λ k. varying counter k ≤ suc (varying counter whole)) (sym (ei ∙ s)) plain.moves;
      };
    }

-- ---- a loop is begun

pub begun-is : (counter : Counter) (count reserved : ℕ) (scope : List Held) (wanted : List AffineForm) (first middle last : Tested) (begun : BegunLoop)
    (c0 c1 c2 c3 : List ℕ)
    → mentions counter scope ≡ false → 1 ≤ count → Tests c0 c1 (10 + 2 * forms_words wanted) counter count scope reserved first
    → Gains c1 c2 (forms_words wanted) counter reserved first.scope.items middle.scope.items → middle.register ≡ first.register → middle.limit ≡ first.limit
    → Betters c2 c3 6 counter reserved middle last
    → begun.counter ≡ counter → begun.count ≡ count → begun.inner.items ≡ last.scope.items → begun.register ≡ last.register → begun.limit ≡ last.limit
    → IsBegun c0 c3 (begin_words wanted) counter count scope reserved begun
begun-is counter count reserved scope wanted first middle last begun c0 c1 c2 c3 none some x y er el z ec en ei eg eo =
    let n = forms_words wanted in
    let enters-y = y.enters in
    let gains = z.gains in
    let test1 = test-more counter count first.scope.items middle.scope.items first.register first.limit enters-y.extends x.test in
    let test2 = subst (λ q. IsTest counter count middle.scope.items q middle.limit) (sym er)
    (subst (λ o. IsTest counter count middle.scope.items first.register o) (sym el) test1) in
    let test3 = z.test count test2 in
    let can = gains.can (y.can (x.can (can-unmentioned counter scope none))) in
    let enters = enters-then counter scope first.scope.items last.scope.items (10 + 2 * n) (n + 6) (begin_words wanted) c0 c1 c3 (omega arith) x.enters
    (enters-then counter first.scope.items middle.scope.items last.scope.items n 6 (n + 6) c1 c2 c3 (omega arith) y.enters gains.enters) in
    let test4 = subst (λ o. IsTest counter count last.scope.items begun.register o) (sym eo)
    (subst (λ q. IsTest counter count last.scope.items q last.limit) (sym eg) test3) in
    let test5 = subst (λ k. IsTest counter count k begun.register begun.limit) (sym ei) test4 in
    let test6 = subst (λ n'. IsTest counter n' begun.inner.items begun.register begun.limit) (sym en) test5 in
    record {
      enters = subst (λ k. Enters c0 c3 (begin_words wanted) counter scope k) (sym ei) enters;
      ends = record {
        can = subst (λ v. can_advance v begun.inner.items ≡ true) (sym ec) (subst (λ k. can_advance counter k ≡ true) (sym ei) can);
        test = subst (λ v. IsTest v begun.count begun.inner.items begun.register begun.limit) (sym ec) test6;
        some = subst (λ n'. 1 ≤ n') (sym en) some;
      };
      counter_is = ec;
      count_is = en;
      left = subst (λ k. reserved ≤ left_count k) (sym ei) (gains.left (y.left x.left));
    }

-- of no forms
pub plain-begun : (counter : Counter) (reserved : ℕ) (scope : List Held) (first middle last : Tested) (c0 c1 : List ℕ)
    → middle.scope.items ≡ first.scope.items → Betters c0 c1 6 counter reserved middle last → HoldsPlainly counter scope first.scope.items
    → HoldsPlainly counter scope last.scope.items
plain-begun counter reserved scope first middle last c0 c1 same z plain = z.plain scope (subst (HoldsPlainly counter scope) (sym same) plain)

-- The values of split loops in registers.
use Rattle.std.proofs.Common.{◌≡◌, ℕ, suc, ◌+◌, ◌*◌, ◌-◌, ◌%◌, ◌^◌, ◌<◌, ◌≤◌, List, [], ◌∷◌, ◌++◌, length, Bool, true, false, refl, ap, ◌∙◌, sym, subst}
use Rattle.std.proofs.Common.{arith, inl, inr}
use Rattle.std.specs.Prelude.{◌≢◌, ◌⊎◌, ◌==◌, if◌then◌else◌, min, nat_lt, IfSome, Option, Some, None}
use Rattle.std.proofs.lemmas.Bool.{true≢false}
use Rattle.std.proofs.lemmas.Bool.Decides.{nat_tests}
use Rattle.std.proofs.lemmas.Nat.{mul-mod_first}
use Rattle.rv_insn.specs.declared.instructions.Insn.TheVariants.{Alu}
use Rattle.rv_insn.specs.declared.operations.AluOp.TheVariants as alus
use Rattle.halide_pipeline.specs.Words as word
use Rattle.loop_ir.specs.declared.expressions.Counter.{Counter}
use Rattle.loop_ir.specs.declared.statements.Whole.{Whole}
use Rattle.loop_ir.specs.Counters.{Values, with, same_counter}
use Rattle.loop_ir.specs.Running.{at_most, whole_value}
use Rattle.multi_hart_laws.specs.Paths.{update}
use Rattle.multi_hart_laws.proofs.Paths.{update-same, update-other, line-then, stay}
use Rattle.task_code_scalar.specs.Words.{Emits}
use Rattle.task_code_scalar.proofs.Binding.{whole-small}
use Rattle.task_code_scalar.proofs.Spelling.{emits_then, emits-none}
use Rattle.task_code_scalar.proofs.Values.{alu-sets}
use Rattle.task_code_registers.specs.declared.scopes.AffineForm.{AffineForm}
use Rattle.task_code_registers.specs.declared.scopes.Held.{Held}
use Rattle.task_code_registers.specs.Emitting.{HoldsVariable, Makes}
use Rattle.task_code_registers.specs.Registers.{IsPlace, IsSource, address_register, hart_count, hart_number, may_hold, scratch, zero_register}
use Rattle.task_code_registers.specs.Scopes.{AreHolders, IsFree, IsKept, IsLeft, Knows, has_variable, left_count}
use Rattle.task_code_registers.proofs.Counting.{still-left}
use Rattle.task_code_registers.proofs.Knowing.{kept-apart, knows-still, knows-zero, may-hold, fails-at}
use Rattle.task_code_registers.proofs.Making.{short-then}
use Rattle.task_code_loops.specs.Beginning.{variable}
use Rattle.task_code_loops.proofs.Knowledge.{knows-with, variable-value}
use Rattle.task_code_values.specs.Making.{Blends}
use Rattle.task_code_values.proofs.Standing.{kept-below}
use Rattle.task_code_variables.specs.Renaming.{HoldsAround, numbered, standing, value_in}
use Rattle.task_code_variables.specs.Splits.{Bounds, EntersSplit, HoldsStanding, MakesWhole}

-- ---- the register of a loop variable

none-stands : (around : List Counter) (counter : Counter) (numbers : Values) → standing around counter ≡ None → value_in around numbers counter ≡ 0
none-stands [] counter numbers is = refl
none-stands (own ∷ outer) counter numbers is = by-test (same_counter counter own) is (λ h. none-stands outer counter numbers h)
  where
    by-test : (t : Bool) → (if t then Some (numbered (length outer)) else standing outer counter) ≡ None
        → (standing outer counter ≡ None → value_in outer numbers counter ≡ 0)
        → (if t then numbers (numbered (length outer)) else value_in outer numbers counter) ≡ 0
    by-test true h go = absurd cc
    by-test false h go = go h

some-stands : (around : List Counter) (counter loop_counter : Counter) (numbers : Values)
    → standing around counter ≡ Some loop_counter
    → value_in around numbers counter ≡ numbers loop_counter
some-stands [] counter loop_counter numbers is = absurd cc
some-stands (first ∷ outer) counter loop_counter numbers is = by-test (same_counter counter first) is (λ h. some-stands outer counter loop_counter numbers h)
  where
    by-test : (t : Bool) → (if t then Some (numbered (length outer)) else standing outer counter) ≡ Some loop_counter
        → (standing outer counter ≡ Some loop_counter → value_in outer numbers counter ≡ numbers loop_counter)
        → (if t then numbers (numbered (length outer)) else value_in outer numbers counter) ≡ numbers loop_counter
    by-test true h go = let e : numbered (length outer) ≡ loop_counter = cc in ap numbers e
    by-test false h go = go h

pub stands-held : (around : List Counter) (scope : List Held) (counter loop_counter : Counter) → standing around counter ≡ Some loop_counter
    → ((depth : ℕ) → depth < length around → has_variable scope (numbered depth) ≡ true)
    → has_variable scope loop_counter ≡ true
stands-held [] scope counter loop_counter is have = absurd cc
stands-held (first ∷ outer) scope counter loop_counter is have =
    by-test (same_counter counter first) is (λ h. stands-held outer scope counter loop_counter h (λ depth less. have depth (omega (arith, less))))
  where
    by-test : (t : Bool) → (if t then Some (numbered (length outer)) else standing outer counter) ≡ Some loop_counter
        → (standing outer counter ≡ Some loop_counter → has_variable scope loop_counter ≡ true)
        → has_variable scope loop_counter ≡ true
    by-test true h go = let e : numbered (length outer) ≡ loop_counter = cc in sym (ap (has_variable scope) e) ∙ have (length outer) (omega arith)
    by-test false h go = go h

zero-source : IsSource zero_register
zero-source = (omega arith, ((λ e. omega (arith, e)), (λ e. omega (arith, e))))

pub zero-standing : (scope : List Held) (around : List Counter) (counter : Counter) (r : ℕ) → standing around counter ≡ None → r ≡ zero_register
    → HoldsStanding scope around counter r
zero-standing scope around counter r none is = subst (HoldsStanding scope around counter) (sym is) (record {
  source = zero-source;
  apart = λ e. omega (arith, e);
  kept = λ q hart numbers f left knows e. fails-at q zero_register left.0 refl (sym e);
  value = λ hart values numbers f stand knows.
      let z : values counter ≡ 0 = stand counter ∙ none-stands around counter numbers none in
      let g : 0 % 2 ^ 32 ≡ 0 = omega arith in
      knows-zero hart scope numbers f knows ∙ sym (ap (λ n. n % 2 ^ 32) z ∙ g);
})

-- a register that holds a variable isn't one that is left, whose number may be any
variable-kept : (scope : List Held) (counter : Counter) (r q hart : ℕ) (numbers : Values) (f : ℕ → ℕ) → HoldsVariable scope counter r → IsLeft scope q
    → Knows hart scope numbers f → r ≢ q
variable-kept scope counter r q hart numbers f holds left knows e =
    let g = update f q (suc (f q)) in
    let known = knows-still hart scope numbers f g (λ k kept. update-other f q (suc (f q)) k (left.1 k kept)) knows in
    let one = holds.value hart numbers f knows in
    let two = holds.value hart numbers g known in
    let changed : g r ≡ suc (f q) = ap g e ∙ update-same f q (suc (f q)) in
    let same : f r ≡ f q = ap f e in
    omega (arith, one, two, changed, same)

-- so it is one of the scope's
kept-or-free : (scope : List Held) (r : ℕ) → may_hold r ≡ true → IsKept scope r ⊎ IsFree scope r
kept-or-free [] r may = inr (λ q kept e. elim kept [
  | inl z ↦ fails-at r zero_register may refl (sym e ∙ z)
  | inr o ↦ elim o [ inl n ↦ fails-at r hart_number may refl (sym e ∙ n) | inr n ↦ fails-at r hart_count may refl (sym e ∙ n) ]
])
kept-or-free (own ∷ others) r may = elim (kept-or-free others r may) [
  | inl kept ↦ inl (inr kept)
  | inr free ↦ by-test (r == own.register) refl free
]
  where
    by-test : (t : Bool) → (r == own.register) ≡ t → IsFree others r → IsKept (own ∷ others) r ⊎ IsFree (own ∷ others) r
    by-test true is free = let e : r ≡ own.register = grind (arith, nat_tests, is) in inl (inl e)
    by-test false is free =
        let n : r ≢ own.register = (λ e. let f : (r == own.register) ≡ true = grind (arith, nat_tests, e) in true≢false (sym f ∙ is)) in
        inr (λ q kept e. elim kept [ inl k ↦ n (sym e ∙ k) | inr k ↦ free q k e ])

pub kept-variable : (scope : List Held) (counter : Counter) (r hart : ℕ) (numbers : Values) (f : ℕ → ℕ) → HoldsVariable scope counter r
    → Knows hart scope numbers f → IsKept scope r
kept-variable scope counter r hart numbers f holds knows = elim (kept-or-free scope r holds.may) [
  | inl kept ↦ kept
  | inr free ↦ absurd (variable-kept scope counter r r hart numbers f holds (holds.may, free) knows refl)
]

pub variable-low : (scope : List Held) (counter : Counter) (r : ℕ) → HoldsVariable scope counter r → r < 32
variable-low scope counter r holds = let m = may-hold r holds.may in let high = m.high in omega (arith, high)

pub variable-standing : (scope : List Held) (around : List Counter) (counter loop_counter : Counter) (r : ℕ) → standing around counter ≡ Some loop_counter
    → HoldsVariable scope loop_counter r → HoldsStanding scope around counter r
variable-standing scope around counter loop_counter r is holds =
    let m = may-hold r holds.may in
    let high = m.high in
    record {
      source = (omega (arith, high), (m.first, m.second));
      apart = m.third;
      kept = λ q hart numbers f left knows. variable-kept scope loop_counter r q hart numbers f holds left knows;
      value = λ hart values numbers f stand knows.
          holds.value hart numbers f knows ∙ sym (ap (λ n. n % 2 ^ 32) (stand counter ∙ some-stands around counter loop_counter numbers is));
    }

-- ---- at most so much

pub bounded-none : (last : Option ℕ) (r : ℕ) (c : List ℕ) → last ≡ None → Bounds c c last r
bounded-none last r c is = subst (λ l. Bounds c c l r) (sym is) (record {
  insns = [];
  emits = emits-none c;
  short = omega arith;
  does = λ w m f l zero small. record { after = f; line = λ at s. stay w at f m; value = refl; others = λ q a b c d. refl };
})

lesser : (a b : ℕ) → (if nat_lt b a then b else a) ≡ min a b
lesser a b = by-test (nat_lt b a) refl
  where
    by-test : (t : Bool) → nat_lt b a ≡ t → (if t then b else a) ≡ min a b
    by-test true is = let less : b < a = grind (arith, nat_tests, is) in omega (arith, less)
    by-test false is = let less : a ≤ b = grind (arith, nat_tests, is) in omega (arith, less)

pub bounded-some : (last : Option ℕ) (most r : ℕ) (c0 c1 c2 c3 : List ℕ) → last ≡ Some most → most < 2 ^ 32 → IsPlace r → r ≢ address_register
    → Makes c0 c1 2 address_register (λ f. most) → Emits c1 c2 (Alu alus.Sltu scratch address_register r ∷ []) → Blends c2 c3 r r address_register
    → Bounds c0 c3 last r
bounded-some last most r c0 c1 c2 c3 is small place other x y z = subst (λ l. Bounds c0 c3 l r) (sym is) (record {
  insns = x.insns ++ ((Alu alus.Sltu scratch address_register r ∷ []) ++ z.insns);
  emits = emits_then x.emits (emits_then y z.emits);
  short = short-then x.insns _ 2 4 6 x.short
      (short-then (Alu alus.Sltu scratch address_register r ∷ []) z.insns 1 3 4 (omega arith) z.short (omega arith)) (omega arith);
  does = λ w m f l zero word.
      let p = place in
      let i1 = x.does w m f l zero in
      let e1 : i1.after r ≡ f r = i1.others r other p.1.0 p.1.1 in
      let i2 = alu-sets w m l alus.Sltu i1.after scratch address_register r most (f r) (omega arith) (omega arith) (omega arith) p.0.1 i1.value e1 in
      let er : i2.after r ≡ f r = i2.others r p.1.0 ∙ e1 in
      let ea : i2.after address_register ≡ most = i2.others address_register (λ e. omega (arith, e)) ∙ i1.value in
      let i3 = z.does w m i2.after (nat_lt most (f r)) l i2.value (subst (λ n. n < 2 ^ 32) (sym er) word) (subst (λ n. n < 2 ^ 32) (sym ea) small) in
      let v : (if nat_lt most (f r) then i2.after address_register else i2.after r) ≡ min (f r) most =
      ap (λ n. if nat_lt most (f r) then n else i2.after r) ea ∙ ap (λ n. if nat_lt most (f r) then most else n) er ∙ lesser (f r) most in
      record {
        after = i3.after;
        line = line-then w x.insns _ f i1.after i3.after m m m i1.line
            (line-then w (Alu alus.Sltu scratch address_register r ∷ []) z.insns i1.after i2.after i3.after m m m i2.line i3.line);
        value = i3.value ∙ v;
        others = λ q a b c d. i3.others q a b c ∙ i2.others q b ∙ i1.others q d b c;
      };
})

-- ---- the value

product-is : (v k : ℕ) → ((v % 2 ^ 32) * k) % 2 ^ 32 ≡ word.multiply v k
unfolding word.multiply
product-is v k = mod-product v k
  where
    mod-product : (a b : ℕ) → ((a % 2 ^ 32) * b) % 2 ^ 32 ≡ (a * b) % 2 ^ 32
    mod-product a b = mul-mod_first a b (2 ^ 32)

sum-is : (a b : ℕ) → (a + b % 2 ^ 32) % 2 ^ 32 ≡ word.add a b
unfolding word.add
sum-is a b = omega arith

product-small : (v k : ℕ) → (v * k) % 2 ^ 32 < 2 ^ 32
product-small v k = let p = v * k in (let g : p % 2 ^ 32 < 2 ^ 32 = omega arith in g)

pub whole-made : (scope : List Held) (around : List Counter) (whole : Whole) (r outer inner : ℕ) (c0 c1 c2 c3 : List ℕ) → IsPlace r → r ≢ address_register
    → HoldsStanding scope around whole.outer outer → HoldsStanding scope around whole.inner inner
    → Makes c0 c1 3 r (λ f. (f outer * whole.factor) % 2 ^ 32) → Bounds c1 c2 whole.last r → Emits c2 c3 (Alu alus.Add r r inner ∷ [])
    → MakesWhole c0 c3 scope around whole r
whole-made scope around whole r outer inner c0 c1 c2 c3 place other first second x y z = record {
  insns = x.insns ++ (y.insns ++ (Alu alus.Add r r inner ∷ []));
  emits = emits_then x.emits (emits_then y.emits z);
  short = short-then x.insns _ 3 7 10 x.short (short-then y.insns (Alu alus.Add r r inner ∷ []) 6 1 7 y.short (omega arith) (omega arith)) (omega arith);
  does = λ w m hart values numbers f l left stand knows.
      let zero-is = knows-zero hart scope numbers f knows in
      let low = place.0.0 in
      let z-r : zero_register ≢ r = (λ e. omega (arith, low, e)) in
      let i1 = x.does w m f l zero-is in
      let e1 : i1.after r ≡ word.multiply (values whole.outer) whole.factor =
      i1.value ∙ ap (λ n. (n * whole.factor) % 2 ^ 32) (first.value hart values numbers f stand knows) ∙ product-is (values whole.outer) whole.factor in
      let small : i1.after r < 2 ^ 32 = subst (λ n. n < 2 ^ 32) (sym i1.value) (product-small (f outer) whole.factor) in
      let none1 : i1.after zero_register ≡ 0 = i1.others zero_register z-r (λ e. omega (arith, e)) (λ e. omega (arith, e)) ∙ zero-is in
      let i2 = y.does w m i1.after l none1 small in
      let inner-r = second.kept r hart numbers f left knows in
      let n1 : i1.after inner ≡ f inner = i1.others inner inner-r second.source.1.0 second.source.1.1 in
      let n2 : i2.after inner ≡ values whole.inner % 2 ^ 32 =
      i2.others inner inner-r second.source.1.0 second.source.1.1 second.apart ∙ n1 ∙ second.value hart values numbers f stand knows in
      let e2 : i2.after r ≡ at_most whole.last (word.multiply (values whole.outer) whole.factor) = i2.value ∙ ap (at_most whole.last) e1 in
      let i3 = alu-sets w m l alus.Add i2.after r r inner _ _ place.0.0 place.0.1 place.0.1 second.source.0 e2 n2 in
      record {
        after = i3.after;
        line = line-then w x.insns _ f i1.after i3.after m m m i1.line
            (line-then w y.insns (Alu alus.Add r r inner ∷ []) i1.after i2.after i3.after m m m i2.line i3.line);
        value = i3.value ∙ sum-is (at_most whole.last (word.multiply (values whole.outer) whole.factor)) (values whole.inner);
        others = λ q a b c d. i3.others q a ∙ i2.others q a b c d ∙ i1.others q a b c;
      };
}

-- ---- in a register that is left

pub split-entered : (scope inner : List Held) (around : List Counter) (whole : Whole) (r : ℕ) (form : AffineForm) (c0 c1 : List ℕ)
    → HoldsAround around scope → IsLeft scope r × (0 < left_count scope) → MakesWhole c0 c1 scope around whole r
    → form ≡ variable (numbered (length around)) → inner ≡ record { register = r; form = form } ∷ scope
    → EntersSplit c0 c1 scope inner around whole
split-entered scope inner around whole r form c0 c1 holds left x ef ei =
    let own : Held = record { register = r; form = variable (numbered (length around)) } in
    let is : inner ≡ own ∷ scope = ei ∙ ap (λ (f : AffineForm). record { register = r; form = f } ∷ scope) ef in
    record {
      insns = x.insns;
      emits = x.emits;
      short = x.short;
      register = r;
      is = is;
      left = left.0;
      fewer =
          let some = left.1 in
          let k : left_count scope - 1 ≤ left_count (own ∷ scope) = still-left scope own (left_count scope - 1) (omega (arith, some)) in
          let e = ap left_count is in
          omega (arith, some, k, e);
      holders = λ holders. subst AreHolders (sym is) (inl left.0.0, (left.0.1, holders));
      does = λ w m hart values numbers f l holders stand knows.
          let number = numbered (length around) in
          let v = whole_value whole values in
          let a = x.does w m hart values numbers f l left.0 stand knows in
          let same : (q : ℕ) → IsKept scope q → a.after q ≡ f q = (λ q kept.
          let s = kept-apart scope q holders kept in
          let b = kept-below scope q 20 (omega arith) holders kept in
          let third : q ≢ address_register = (λ e. let k = b.0 in omega (arith, k, e)) in
          a.others q (left.0.1 q kept) s.0 s.1 third) in
          let none = holds.lack (length around) (omega arith) in
          record {
            after = a.after;
            line = a.line;
            keeps = λ q h. elim h [
              | inl kept ↦ same q kept
              | inr high ↦
                  let m = may-hold r left.0.0 in
                  let low = m.high in
                  a.others q (λ e. omega (arith, high, low, e)) (λ e. omega (arith, high, e)) (λ e. omega (arith, high, e)) (λ e. omega (arith, high, e))
            ];
            mark = subst (λ i. Knows hart i (with number v numbers) a.after) (sym is) (
              a.value ∙ sym (variable-value number hart v numbers (whole-small whole values)),
              knows-with number v hart scope numbers a.after none (knows-still hart scope numbers f a.after same knows),
            );
          };
    }

-- ---- as the emitters call them

pub left-place : (scope : List Held) (r : ℕ) → IsLeft scope r → IsPlace r
left-place scope r left =
    let m = may-hold r left.0 in
    let low = m.low in
    let high = m.high in
    ((low, omega (arith, high)), (m.first, m.second))

pub left-apart : (scope : List Held) (r : ℕ) → IsLeft scope r → r ≢ address_register
left-apart scope r left = (may-hold r left.0).third

pub taken-left : (scope : List Held) (found : Option ℕ) (r : ℕ) → found ≡ Some r
    → IfSome found (λ k. IsLeft scope k × (0 < left_count scope)) → IsLeft scope r × (0 < left_count scope)
taken-left scope found r is left = subst (λ o. IfSome o (λ k. IsLeft scope k × (0 < left_count scope))) is left

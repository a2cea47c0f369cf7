-- Forms that go along with a loop's iterations.
use Rattle.std.proofs.Common.{◌≡◌, ℕ, suc, ◌+◌, ◌-◌, ◌*◌, ◌%◌, ◌^◌, ◌<◌, ◌≤◌, List, [], ◌∷◌, ◌++◌, length, get_or, take, drop, Bool, true, false}
use Rattle.std.proofs.Common.{refl, ap, ◌∙◌, sym, subst, arith, inl, inr}
use Rattle.std.specs.Prelude.{◌≢◌, ◌||◌, not, if◌then◌else◌}
use Rattle.std.proofs.lemmas.Bool.{and_parts, true≢false}
use Rattle.loop_ir.specs.declared.expressions.Counter.{Counter}
use Rattle.loop_ir.specs.declared.expressions.Term.{Term}
use Rattle.loop_ir.specs.Counters.{with}
use Rattle.multi_hart_laws.proofs.Paths.{line-then, stay}
use Rattle.task_code_scalar.proofs.Spelling.{emits_then, emits-none}
use Rattle.task_code_registers.specs.declared.scopes.Held.{Held}
use Rattle.task_code_registers.specs.Registers.{scratch, second_scratch, may_hold, IsTarget, IsSource}
use Rattle.task_code_registers.specs.Emitting.{MakesOf}
use Rattle.task_code_registers.specs.Scopes.{IsFree, IsKept, AreHolders, form_value}
use Rattle.task_code_registers.specs.Strides.{strides, has_counter}
use Rattle.task_code_registers.specs.Holding.{Advances, IsLoopInvariant, mentions, varying, can_advance, ScopesStay}
use Rattle.task_code_registers.proofs.Knowing.{may-hold, knows-zero, knows-still, kept-apart, holder-apart, form-small, others-are}
use Rattle.task_code_registers.proofs.Making.{short-then}
use Rattle.task_code_registers.proofs.Striding.{form-next, strides-none}

if-parts : (a b : Bool) → (if a then true else b) ≡ false → (a ≡ false) × (b ≡ false)
if-parts true b e = absurd (true≢false e)
if-parts false b e = (refl, e)

-- ---- registers that stay

loop_invariant-apart : (counter : Counter) (inner : List Held) (q : ℕ) → IsLoopInvariant counter inner q → (q ≢ scratch) × (q ≢ second_scratch)
loop_invariant-apart counter [] q s = s
loop_invariant-apart counter (own ∷ others) q s = loop_invariant-apart counter others q s.1

free-loop_invariant : (counter : Counter) (inner : List Held) (r : ℕ) → r ≢ scratch → r ≢ second_scratch → IsFree inner r → IsLoopInvariant counter inner r
free-loop_invariant counter [] r a b free = (a, b)
free-loop_invariant counter (own ∷ others) r a b free = ((λ has e. free own.register (inl refl) (sym e)), free-loop_invariant counter others r a b (λ q h. free q (inr h)))

-- a scope whose forms have no term of the variable, and what is added to it
pub kept-more : (added scope : List Held) (q : ℕ) → IsKept scope q → IsKept (added ++ scope) q
kept-more [] scope q h = h
kept-more (own ∷ others) scope q h = inr (kept-more others scope q h)

unmentioned-loop_invariant : (counter : Counter) (scope : List Held) (q : ℕ) → mentions counter scope ≡ false → q ≢ scratch → q ≢ second_scratch
    → IsLoopInvariant counter scope q
unmentioned-loop_invariant counter [] q none a b = (a, b)
unmentioned-loop_invariant counter (own ∷ others) q none a b =
    let t = has_counter counter own.form.sum.terms in
    let e = if-parts t (mentions counter others) none in
    ((λ has. absurd (true≢false (sym has ∙ e.0))), unmentioned-loop_invariant counter others q e.1 a b)

added-loop_invariant : (counter : Counter) (added scope : List Held) → mentions counter scope ≡ false → AreHolders (added ++ scope) → (q : ℕ) → IsKept scope q
    → IsLoopInvariant counter (added ++ scope) q
added-loop_invariant counter [] scope none holders q h = let t = kept-apart scope q holders h in unmentioned-loop_invariant counter scope q none t.0 t.1
added-loop_invariant counter (own ∷ others) scope none holders q h = (
  (λ has. holders.1.0 q (kept-more others scope q h)),
  added-loop_invariant counter others scope none holders.1.1 q
      h,
)

pub scopes-stay : ScopesStay
scopes-stay counter scope inner extends none holders q h =
    let e = extends.is in
    let added = extends.added in (
      subst (λ s. IsKept s q) (sym e) (kept-more added scope q h),
      subst (λ s. IsLoopInvariant counter s q) (sym e) (added-loop_invariant counter added scope none (subst AreHolders e holders) q h),
    )

-- ---- an iteration further

pub advances-none : (counter : Counter) (inner : List Held) (most : ℕ) (c : List ℕ) → length inner < 1 → Advances c c most counter inner
advances-none counter [] most c none = record {
  insns = [];
  emits = emits-none c;
  short = let z : 0 ≤ most = omega arith in z;
  does = λ w m hart values i f l holders knows. record { after = f; line = λ at s. stay w at f m; keeps = λ q k. refl; mark = knows };
}
advances-none counter (own ∷ others) most c none = absurd (omega (arith, none))

varying-more : (counter : Counter) (own : Held) (others : List Held) → varying counter others ≤ varying counter (own ∷ others)
varying-more counter own others = by-test (has_counter counter own.form.sum.terms)
  where
    by-test : (t : Bool) → varying counter others ≤ (if t then suc (varying counter others) else varying counter others)
    by-test true = omega arith
    by-test false = omega arith

-- the first form stays
advances-still : (counter : Counter) (others : List Held) (held : Held) (stride : ℕ) (c0 c1 : List ℕ) → stride ≡ strides counter held.form.sum.terms % 2 ^ 32
    → stride ≡ 0
    → Advances c0 c1 (3 * varying counter others) counter others → Advances c0 c1 (3 * varying counter (held ∷ others)) counter (held ∷ others)
advances-still counter others held stride c0 c1 es z x = record {
  insns = x.insns;
  emits = x.emits;
  short = let k = x.short in let n = varying-more counter held others in omega (arith, k, n);
  does = λ w m hart values i f l holders knows.
      let a = x.does w m hart values i f l holders.1.1 knows.1 in
      let s = holder-apart held.register holders.0 in
      let u = free-loop_invariant counter others held.register s.0 s.1 holders.1.0 in
      let v = form_value hart (with counter i values) held.form in
      let small : v < 2 ^ 32 = form-small hart (with counter i values) held.form in
      let g : (v + 0) % 2 ^ 32 ≡ v = omega (arith, small) in
      let n = sym g ∙ ap (λ k. (v + k) % 2 ^ 32) (sym z) ∙ form-next counter i stride hart values held.form es in
      record {
        after = a.after;
        line = a.line;
        keeps = λ q k. a.keeps q k.1;
        mark = (a.keeps held.register u ∙ knows.0 ∙ n, a.mark);
      };
}

-- or goes on by its stride
advances-more : (counter : Counter) (others : List Held) (held : Held) (stride : ℕ) (c0 c1 c2 : List ℕ) → has_counter counter held.form.sum.terms ≡ true
    → stride ≡ strides counter held.form.sum.terms % 2 ^ 32
    → Advances c0 c1 (3 * varying counter others) counter others → MakesOf c1 c2 3 held.register held.register (λ v. (v + stride) % 2 ^ 32)
    → Advances c0 c2 (3 * varying counter (held ∷ others)) counter (held ∷ others)
advances-more counter others held stride c0 c1 c2 has es x y = record {
  insns = x.insns ++ y.insns;
  emits = emits_then x.emits y.emits;
  short =
      let n : varying counter (held ∷ others) ≡ suc (varying counter others) = ap (λ t. if t then suc (varying counter others) else varying counter others) has in
      short-then x.insns y.insns (3 * varying counter others) 3 (3 * varying counter (held ∷ others)) x.short y.short (omega (arith, n));
  does = λ w m hart values i f l holders knows.
      let a = x.does w m hart values i f l holders.1.1 knows.1 in
      let s = holder-apart held.register holders.0 in
      let u = free-loop_invariant counter others held.register s.0 s.1 holders.1.0 in
      let e = a.keeps held.register u ∙ knows.0 in
      let v = form_value hart (with counter i values) held.form in
      let b = y.does w m a.after l (knows-zero hart others (with counter (suc i) values) a.after a.mark)
      (subst (λ k. k < 2 ^ 32) (sym e) (form-small hart (with counter i values) held.form)) in
      let n = ap (λ k. (k + stride) % 2 ^ 32) e ∙ form-next counter i stride hart values held.form es in
      record {
        after = b.after;
        line = line-then w x.insns y.insns f a.after b.after m m m a.line b.line;
        keeps = λ q k. let t = loop_invariant-apart counter others q k.1 in b.others q (k.0 has) t.0 t.1 ∙ a.keeps q
            k.1;
        mark = (
          b.value ∙ n,
          knows-still hart others (with counter (suc i) values) a.after b.after (λ q h. let t = kept-apart others q holders.1.1 h in
              b.others q (holders.1.0 q h) t.0 t.1) a.mark,
        );
      };
}

-- ---- as the emitter calls them

or-second : (a b : Bool) → a ≡ true → (not a || b) ≡ true → b ≡ true
or-second true b e h = h
or-second false b e h = absurd (true≢false (sym e))

module _ (counter : Counter) (inner : List Held) (item other : Held) (stride : ℕ) (terms : List Term) (some : 1 ≤ length inner)
    (is : item ≡ get_or inner 0 other)
    (es : stride ≡ strides counter terms % 2 ^ 32) (et : terms ≡ item.form.sum.terms) where
  abbrev rest : List Held
  rest = take (length inner - 1) (drop 1 inner)

  split : inner ≡ item ∷ rest
  split = others-are inner other some ∙ ap (λ h. h ∷ rest) (sym is)

  stride-is : stride ≡ strides counter item.form.sum.terms % 2 ^ 32
  stride-is = es ∙ ap (λ ts. strides counter ts % 2 ^ 32) et

  -- a stride that isn't 0 is that of a term
  has-term : stride ≢ 0 → has_counter counter item.form.sum.terms ≡ true
  has-term some_stride = by-test (has_counter counter item.form.sum.terms) refl
    where
      by-test : (t : Bool) → has_counter counter item.form.sum.terms ≡ t → t ≡ true
      by-test true e = refl
      by-test false e = absurd (some_stride (stride-is ∙ ap (λ n. n % 2 ^ 32) (strides-none counter item.form.sum.terms e)))

  parts : can_advance counter inner ≡ true
      → ((not (has_counter counter item.form.sum.terms) || may_hold item.register) ≡ true) × (can_advance counter rest ≡ true)
  parts can = and_parts (not (has_counter counter item.form.sum.terms) || may_hold item.register) (can_advance counter rest)
      (sym (ap (can_advance counter) split) ∙ can)

  pub advance-may : stride ≢ 0 → can_advance counter inner ≡ true → IsTarget item.register × IsSource item.register
  advance-may some_stride can =
      let m = may-hold item.register (or-second (has_counter counter item.form.sum.terms) (may_hold item.register) (has-term some_stride) (parts can).0) in
      let low = m.low in
      let high = m.high in
      ((low, omega (arith, high)), (omega (arith, high), (m.first, m.second)))

  pub advanced-still : (c0 c1 : List ℕ) → stride ≡ 0 → Advances c0 c1 (3 * varying counter rest) counter rest
      → Advances c0 c1 (3 * varying counter inner) counter inner
  advanced-still c0 c1 z x = subst (λ s. Advances c0 c1 (3 * varying counter s) counter s) (sym split)
      (advances-still counter rest item stride c0 c1 stride-is z x)

  pub advanced-more : (c0 c1 c2 : List ℕ) → stride ≢ 0 → Advances c0 c1 (3 * varying counter rest) counter rest
      → MakesOf c1 c2 3 item.register item.register (λ v. (v + stride) % 2 ^ 32)
      → Advances c0 c2 (3 * varying counter inner) counter inner
  advanced-more c0 c1 c2 some_stride x y =
      subst (λ s. Advances c0 c2 (3 * varying counter s) counter s) (sym split)
      (advances-more counter rest item stride c0 c1 c2 (has-term some_stride) stride-is x y)

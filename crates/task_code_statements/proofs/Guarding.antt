-- Tests that a vectorized loop's store is after.
use Rattle.std.proofs.Common.{◌≡◌, ℕ, ◌+◌, ◌<◌, ◌≤◌, ◌%◌, ◌^◌, List, [], ◌∷◌, ◌++◌, ◌-◌, length, get_or, take, drop, Bool, true, false, refl, ap, ◌∙◌, sym}
use Rattle.std.proofs.Common.{subst, arith, cond}
use Rattle.std.specs.Prelude.{if◌then◌else◌, nat_lt}
use Rattle.std.proofs.lemmas.Bool.{true≢false}
use Rattle.halide_pipeline.specs.Pixel.{Planes}
use Rattle.halide_pipeline.specs.Words as word
use Rattle.loop_ir.specs.declared.expressions.Counter.{Counter}
use Rattle.loop_ir.specs.declared.expressions.Linear.{Linear}
use Rattle.loop_ir.specs.Buffers.{Points}
use Rattle.loop_ir.specs.Counters.{Values, with}
use Rattle.loop_ir.specs.Expressions.{linear_value}
use Rattle.task_code_scalar.proofs.Spelling.{emits-apart}
use Rattle.task_code_registers.specs.declared.scopes.AffineForm.{AffineForm}
use Rattle.task_code_registers.specs.declared.scopes.Held.{Held}
use Rattle.task_code_registers.specs.Holding.{IsAt}
use Rattle.task_code_registers.specs.Scopes.{form_value}
use Rattle.task_code_registers.specs.Strides.{has_counter, strides}
use Rattle.task_code_registers.proofs.Striding.{linear-loop_invariant}
use Rattle.task_code_loops.specs.declared.bounds.Bound.{Bound}
use Rattle.task_code_loops.specs.Bounds.{IsBelow}
use Rattle.task_code_loops.specs.Guarding.{GuardsWords, stored_if}
use Rattle.task_code_vector_loops.proofs.Fronts.{cons-of}
use Rattle.task_code_statements.specs.declared.guards.Guard.{Guard}
use Rattle.task_code_statements.specs.declared.guards.Parted.{Parted}
use Rattle.task_code_statements.specs.Vectorizing.{GuardsLack, IsLeft, IsParted, OneMore, StandsBehind, TestFirst, TestToo, WordsBehind, is_passed}
use Rattle.task_code_statements.specs.Vectorizing.{passes}
use Rattle.task_code_statements.proofs.Following.{did-is}
use Rattle.task_code_statements.proofs.Same.{form-sum, first-form}
use Rattle.task_code_statements.proofs.Splitting.{is-below}

-- ---- both of two tests

swapped : (a b c : Bool) → cond a (cond b c false) false ≡ cond b (cond a c false) false
swapped true true c = refl
swapped true false c = refl
swapped false true c = refl
swapped false false c = refl

regrouped : (a b c : Bool) → cond a (cond b c false) false ≡ cond (cond a b false) c false
regrouped true b c = refl
regrouped false b c = refl

gathered : (a b c : Bool) → cond (cond a b false) c false ≡ cond b (cond a c false) false
gathered true b c = refl
gathered false true c = refl
gathered false false c = refl

-- ---- lists of tests

passes-last : (guards : List Guard) (guard : Guard) (values : Values)
    → passes (guards ++ (guard ∷ [])) values ≡ cond (is_passed guard values) (passes guards values) false
passes-last [] guard values = refl
passes-last (first ∷ others) guard values =
    ap (λ t. cond (is_passed first values) t false) (passes-last others guard values)
    ∙ swapped (is_passed first values) (is_passed guard values) (passes others values)

pub one-more : (guards made : List Guard) (guard : Guard) → made ≡ guards ++ (guard ∷ []) → OneMore guards guard made
one-more guards made guard is values = ap (λ l. passes l values) is ∙ passes-last guards guard values

-- a test that always passes is one more too
pub passes-so : (bounds : List Bound) (guards made : List Guard) (form : AffineForm) (extent : ℕ) → made ≡ guards → IsBelow bounds form extent
    → TestToo bounds guards (record { sum = form.sum; extent = extent }) made
passes-so bounds guards made form extent is below values are =
    let passed : nat_lt (linear_value values form.sum) extent ≡ true =
    is-below (linear_value values form.sum) extent (subst (λ n. n < extent) (first-form values form) (below 0 values are)) in
    ap (λ l. passes l values) is ∙ sym (ap (λ t. cond t (passes guards values) false) passed)

pub tested-so : (bounds : List Bound) (guards made : List Guard) (guard : Guard) → made ≡ guards ++ (guard ∷ []) → TestToo bounds guards guard made
tested-so bounds guards made guard is values are = one-more guards made guard is values

passed-with : (counter : Counter) (guard : Guard) (values : Values) (v : ℕ)
    → has_counter counter guard.sum.terms ≡ false
    → is_passed guard (with counter v values) ≡ is_passed guard values
passed-with counter guard values v none = ap (λ n. nat_lt n guard.extent)
    (linear-loop_invariant counter v values guard.sum none)

pub none-lack : (counter : Counter) (guards : List Guard) → guards ≡ [] → GuardsLack counter guards
none-lack counter guards is = subst (GuardsLack counter) (sym is) (λ values v. refl)

pub first-lacks : (counter : Counter) (guards others : List Guard) (first : Guard) → guards ≡ first ∷ others
    → has_counter counter first.sum.terms ≡ false → GuardsLack counter others → GuardsLack counter guards
first-lacks counter guards others first is none rest = subst (GuardsLack counter) (sym is) (λ values v.
    ap (λ t. cond t (passes others (with counter v values)) false) (passed-with counter first values v none)
    ∙ ap (λ t. cond (is_passed first values) t false) (rest values v))

-- ---- by lanes

module _ (counter : Counter) (guards others : List Guard) (first guard : Guard) (rest new_parted : Parted) (is : guards ≡ first ∷ others) (eo : guard ≡ first)
    (parted : IsParted counter others rest) where
  first-and : (values : Values)
      → passes guards values ≡ cond (is_passed guard values) (cond (passes rest.fixed.items values) (passes rest.hanging.items values) false) false
  first-and values =
      ap (λ l. passes l values) is ∙ ap (λ t. cond (is_passed first values) t false) (parted.passes_is values)
      ∙ ap (λ g. cond (is_passed g values) (cond (passes rest.fixed.items values) (passes rest.hanging.items values) false) false) (sym eo)

  -- or not
  pub fixed-parted : has_counter counter first.sum.terms ≡ false → OneMore rest.fixed.items guard new_parted.fixed.items
      → new_parted.hanging.items ≡ rest.hanging.items → IsParted counter guards new_parted
  fixed-parted none more hanging = record {
    passes_is = λ values.
        let a = is_passed guard values in
        let b = passes rest.fixed.items values in
        first-and values ∙ regrouped a b (passes rest.hanging.items values)
        ∙ sym (ap (λ t. cond t (passes new_parted.hanging.items values) false) (more values)
        ∙ ap (λ l. cond (cond a b false) (passes l values) false) hanging);
    lack = λ values v.
        more (with counter v values)
        ∙ ap (λ t. cond t (passes rest.fixed.items (with counter v values)) false)
        (passed-with counter guard values v (ap (λ (g : Guard). has_counter counter g.sum.terms) eo ∙ none))
        ∙ ap (λ t. cond (is_passed guard values) t false) (parted.lack values v) ∙ sym (more values);
  }

-- ---- how many iterations are left

pub left-is-of : (bounds : List Bound) (counter : Counter) (guard : Guard) (sum extent : Linear) (start : AffineForm) (stride : ℕ)
    → ((values : Values) → linear_value values extent ≡ guard.extent + (stride - 1))
    → ((values : Values) → linear_value values sum ≡ word.subtract (linear_value values extent) (linear_value values guard.sum))
    → stride ≡ strides counter guard.sum.terms % 2 ^ 32 → (stride ≡ 0 → ⊥) → stride ≤ 134217728 → guard.extent ≤ 2147483647
    → IsAt counter 0 (record { sum = guard.sum; per_hart = 0 }) start → IsBelow bounds start 2147483647
    → IsLeft bounds counter guard (record { sum = sum; stride = stride })
left-is-of bounds counter guard sum extent start stride ex is est some few small law below = record {
  value_is = λ values. is values ∙ ap (λ n. word.subtract n (linear_value values guard.sum)) (ex values);
  stride = sym est;
  some = omega (arith, some);
  few = omega (arith, few);
  small = omega (arith, small);
  begins = λ values are.
      subst (λ n. n < 2 ^ 31)
      (law.value 0 0 values ∙ form-sum 0 (with counter 0 values) guard.sum)
      (let less = below 0 (with counter 0 values) are in omega (arith, less));
}

-- ---- the first iteration

pub first-more : (bounds : List Bound) (counter : Counter) (fixed made new hanging others : List Guard) (first : Guard) (start : AffineForm)
    → hanging ≡ first ∷ others → IsAt counter 0 (record { sum = first.sum; per_hart = 0 }) start
    → TestToo bounds fixed (record { sum = start.sum; extent = first.extent }) made → TestFirst bounds counter made others new
    → TestFirst bounds counter fixed hanging new
first-more bounds counter fixed made new hanging others first start is law one rest values are =
    let at = with counter 0 values in
    let same : linear_value at start.sum ≡ linear_value at first.sum =
    sym (first-form at start) ∙ law.value 0 0 values ∙ form-sum 0 at first.sum in
    rest values are
    ∙ ap (λ t. cond t (passes others at) false) (one at are ∙ ap (λ n. cond (nat_lt n first.extent) (passes fixed at) false) same)
    ∙ gathered (is_passed first at) (passes fixed at) (passes others at)
    ∙ sym (ap (λ l. cond (passes fixed at) (passes l at) false) is)

-- ---- code after tests

pub behind-none : (c0 c1 : List ℕ) (scope : List Held) (guards : List Guard) (words : List ℕ) → guards ≡ [] → c1 ≡ c0 ++ words
    → WordsBehind c0 c1 scope guards words
behind-none c0 c1 scope guards words is appended body emits = subst (λ g. StandsBehind c0 c1 scope g body) (sym is) (record {
  insns = body;
  emits = emits-apart c0 c1 words body emits appended;
  turns = λ t values. t;
  does = λ own values t left stored f memory funcs holders holds knows go. go refl f knows;
})

both-left : (a b : Bool) (left funcs : Planes) → (if b then (if a then left else funcs) else funcs) ≡ (if cond a b false then left else funcs)
both-left true true left funcs = refl
both-left true false left funcs = refl
both-left false true left funcs = refl
both-left false false left funcs = refl

both-stored : (a b : Bool) (stored : Points) (func x y : ℕ) → stored_if (cond a b false) stored func x y ≡ true
    → stored_if b (stored_if a stored) func x y ≡ true
both-stored true true stored func x y h = h
both-stored true false stored func x y h = absurd (true≢false (sym h))
both-stored false true stored func x y h = absurd (true≢false (sym h))
both-stored false false stored func x y h = absurd (true≢false (sym h))

pub behind-one : (c0 c1 : List ℕ) (scope : List Held) (guards others : List Guard) (first : Guard) (sum : Linear) (words inner : List ℕ)
    → guards ≡ first ∷ others → sum ≡ first.sum → GuardsWords [] inner scope (record { sum = sum; per_hart = 0 }) first.extent words
    → WordsBehind c0 c1 scope others inner → WordsBehind c0 c1 scope guards words
behind-one c0 c1 scope guards others first sum words inner is es tests rest body emits =
    let g = tests body emits in
    let r = rest g.insns g.emits in
    subst (λ l. StandsBehind c0 c1 scope l body) (sym is) (record {
      insns = r.insns;
      emits = r.emits;
      turns = λ t values. r.turns (if is_passed first values then g.before + t else g.past) values;
      does = λ own values t left stored f memory funcs holders holds knows go.
          let hart = own.world.hart in
          let a = is_passed first values in
          let b = passes others values in
          let same : form_value hart values (record { sum = sum; per_hart = 0 }) ≡ linear_value values first.sum =
          form-sum hart values sum ∙ ap (linear_value values) es in
          did-is refl (both-left a b left funcs) (both-stored a b stored)
          (r.does own values (if a then g.before + t else g.past) (if a then left else funcs) (stored_if a stored) f memory funcs holders holds knows
          (λ passed h known.
          did-is (ap (λ n. if nat_lt n first.extent then g.before + t else g.past) same)
          (ap (λ n. if nat_lt n first.extent then left else funcs) same)
          (λ func x y hit. ap (λ n. stored_if (nat_lt n first.extent) stored func x y) same ∙ hit)
          (g.does own hart values t left stored h memory funcs holders holds known
          (λ less k knows_so.
          go (ap (λ c. cond c b false) (is-below (linear_value values first.sum) first.extent (subst (λ n. n < first.extent) same less))
          ∙ passed) k knows_so))));
    })

-- as the emitter calls it
pub behind-more : (c0 c1 : List ℕ) (scope : List Held) (guards : List Guard) (first : Guard) (sum : Linear) (none inner seen words : List ℕ)
    → 1 ≤ length guards → first ≡ get_or guards 0 first → none ≡ [] → sum ≡ first.sum
    → GuardsWords none inner scope (record { sum = sum; per_hart = 0 }) first.extent words → seen ≡ inner
    → WordsBehind c0 c1 scope (take (length guards - 1) (drop 1 guards)) seen → WordsBehind c0 c1 scope guards words
behind-more c0 c1 scope guards first sum none inner seen words some is en es tests ei rest =
    behind-one c0 c1 scope guards (take (length guards - 1) (drop 1 guards)) first sum words inner (cons-of guards first some is) es
    (subst (λ l. GuardsWords l inner scope (record { sum = sum; per_hart = 0 }) first.extent words) en tests)
    (subst (λ l. WordsBehind c0 c1 scope (take (length guards - 1) (drop 1 guards)) l) ei rest)

-- Sums of counters times strides, modulo 2^32.
use Rattle.std.proofs.Common.{◌≡◌, refl, sym, ℕ, zero, suc, ◌+◌, ◌-◌, ◌*◌, ◌%◌, ◌^◌, ◌<◌, ◌≤◌, List, [], ◌∷◌, ◌++◌, length, get_or, take, drop, ap, ◌∙◌, arith}
use Rattle.std.specs.Prelude.{slice_get, slice_set, Option, Some, None}
use Rattle.std.proofs.lemmas.Nat.{mul-mod_second}
use Rattle.std.proofs.Math.Nat.{mod-add-mod, add-mod-mod, mul-add, mod-eq_of_lt}
use Rattle.std.proofs.Math.Seq.{take-length}
use Rattle.halide_pipeline.specs.Words as word
use Rattle.loop_ir.specs.declared.expressions.Counter.{Counter}
use Rattle.loop_ir.specs.declared.expressions.Term.{Term}
use Rattle.loop_ir.specs.Counters.{Values}
use Rattle.loop_ir.specs.Expressions.{sum_of}

-- one more summand
pub sum_more : (a b : ℕ) → word.add (a % 2 ^ 32) (b % 2 ^ 32) ≡ (a + b) % 2 ^ 32
unfolding word.add
sum_more a b = mod-add-mod a (2 ^ 32) (b % 2 ^ 32) ∙ add-mod-mod a b (2 ^ 32)

pub number_more : (a b : ℕ) → word.add a (b % 2 ^ 32) ≡ (a + b) % 2 ^ 32
unfolding word.add
number_more a b = add-mod-mod a b (2 ^ 32)

pub first_more : (values : Values) (terms : List Term) (other : Term) (counted product rest sum : ℕ) → 1 ≤ length terms
    → counted ≡ values (get_or terms 0 other).counter → product ≡ word.multiply counted (get_or terms 0 other).stride
    → rest ≡ sum_of values (take (length terms - 1) (drop 1 terms)) % 2 ^ 32 → sum ≡ word.add product rest → sum ≡ sum_of values terms % 2 ^ 32
unfolding word.multiply
first_more values [] other counted product rest sum some c p r s = absurd (omega (arith, some))
first_more values (first ∷ terms) other counted product rest sum some c p r s =
    let n : suc (length terms) - 1 ≡ length terms = omega arith in
    let left : take (suc (length terms) - 1) terms ≡ terms = ap (λ (k : ℕ). take k terms) n ∙ take-length terms in
    let own : product ≡ (values first.counter * first.stride) % 2 ^ 32 = p ∙ ap (λ (k : ℕ). (k * first.stride) % 2 ^ 32) c in
    let others : rest ≡ sum_of values terms % 2 ^ 32 = r ∙ ap (λ (ts : List Term). sum_of values ts % 2 ^ 32) left in
    s ∙ ap (λ (k : ℕ). word.add k rest) own ∙ ap (λ (k : ℕ). word.add ((values first.counter * first.stride) % 2 ^ 32) k) others
    ∙ sum_more (values first.counter * first.stride) (sum_of values terms)

-- ---- one term more

-- both summands modulo 2^32
both : (a b : ℕ) → (a % 2 ^ 32 + b % 2 ^ 32) % 2 ^ 32 ≡ (a + b) % 2 ^ 32
both a b = mod-add-mod a (2 ^ 32) (b % 2 ^ 32) ∙ add-mod-mod a b (2 ^ 32)

-- equal numbers may stand for one another in a sum
in_sum : (a b c : ℕ) → a % 2 ^ 32 ≡ b % 2 ^ 32 → (a + c) % 2 ^ 32 ≡ (b + c) % 2 ^ 32
in_sum a b c e = sym (mod-add-mod a (2 ^ 32) c) ∙ ap (λ (n : ℕ). (n + c) % 2 ^ 32) e ∙ mod-add-mod b (2 ^ 32) c

merged : (v s n rest : ℕ) → (v * word.add s n + rest) % 2 ^ 32 ≡ ((v * s + rest) + v * n) % 2 ^ 32
unfolding word.add
merged v s n rest =
    let parts : v * (s + n) ≡ v * s + v * n = mul-add v s n in
    let same : v * (s + n) + rest ≡ (v * s + rest) + v * n = omega (arith, parts) in
    in_sum (v * ((s + n) % 2 ^ 32)) (v * (s + n)) rest (mul-mod_second v (s + n) (2 ^ 32)) ∙ ap (λ (k : ℕ). k % 2 ^ 32) same

get_none : (buffer_index : ℕ) → slice_get {X = Term} [] buffer_index ≡ None
get_none zero = refl
get_none (suc buffer_index) = refl

pub sum_set : (values : Values) (terms : List Term) (buffer_index s n : ℕ) (counter : Counter)
    → slice_get terms buffer_index ≡ Some (record { counter = counter; stride = s })
    → sum_of values (slice_set terms buffer_index (record { counter = counter; stride = word.add s n })) % 2 ^ 32 ≡ (sum_of values terms + values counter * n) % 2 ^ 32
sum_set values [] buffer_index s n counter is = let none = get_none buffer_index in absurd (no_some none is)
  where
    no_some : {x : Option Term} {t : Term} → x ≡ None → x ≡ Some t → ⊥
    no_some e f = cc
sum_set values (first ∷ terms) zero s n counter is =
    let e : first ≡ record { counter = counter; stride = s } = cc in
    merged (values counter) s n (sum_of values terms)
    ∙ ap (λ (t : Term). ((values t.counter * t.stride + sum_of values terms) + values counter * n) % 2 ^ 32) (sym e)
sum_set values (first ∷ terms) (suc buffer_index) s n counter is =
    let own = values first.counter * first.stride in
    let rest = sum_of values (slice_set terms buffer_index (record { counter = counter; stride = word.add s n })) in
    let more = sum_of values terms + values counter * n in
    let swap : own + rest ≡ rest + own = omega arith in
    let back : more + own ≡ (own + sum_of values terms) + values counter * n = omega arith in
    ap (λ (k : ℕ). k % 2 ^ 32) swap ∙ in_sum rest more own (sum_set values terms buffer_index s n counter is) ∙ ap (λ (k : ℕ). k % 2 ^ 32) back

pub sum_push : (values : Values) (terms : List Term) (term : Term) → sum_of values (terms ++ term ∷ []) ≡ sum_of values terms + values term.counter
    * term.stride
sum_push values [] term = let z : values term.counter * term.stride + 0 ≡ 0 + values term.counter * term.stride = omega arith in z
sum_push values (first ∷ terms) term =
    let rest = sum_push values terms term in
    let e : values first.counter * first.stride + (sum_of values terms + values term.counter * term.stride)
    ≡ (values first.counter * first.stride + sum_of values terms) + values term.counter * term.stride = omega arith in
    ap (λ (k : ℕ). values first.counter * first.stride + k) rest ∙ e

-- ---- terms less

opposite : (s : ℕ) → s < 2 ^ 32 → (word.subtract 0 s + s) % 2 ^ 32 ≡ 0
unfolding word.subtract
opposite s l = omega (arith, l)

cancelled : (v s : ℕ) → s < 2 ^ 32 → (v * word.subtract 0 s + v * s) % 2 ^ 32 ≡ 0
cancelled v s l =
    let parts : v * word.subtract 0 s + v * s ≡ v * (word.subtract 0 s + s) = sym (mul-add v (word.subtract 0 s) s) in
    let none : v * 0 ≡ 0 = omega arith in
    ap (λ (k : ℕ). k % 2 ^ 32) parts ∙ sym (mul-mod_second v (word.subtract 0 s + s) (2 ^ 32)) ∙ ap (λ (k : ℕ). (v * k) % 2 ^ 32) (opposite s l)
    ∙ ap (λ (k : ℕ). k % 2 ^ 32) none

taken : (v s old middle new rest : ℕ) → s < 2 ^ 32 → middle % 2 ^ 32 ≡ (old + v * word.subtract 0 s) % 2 ^ 32 → (new + rest) % 2 ^ 32 ≡ middle % 2 ^ 32
    → (new + (v * s + rest)) % 2 ^ 32 ≡ old % 2 ^ 32
taken v s old middle new rest l one others =
    let p = v * s in
    let o = v * word.subtract 0 s in
    let a : new + (p + rest) ≡ (new + rest) + p = omega arith in
    let b : (old + o) + p ≡ (o + p) + old = omega arith in
    let zero_more : 0 + old ≡ old = omega arith in
    ap (λ (k : ℕ). k % 2 ^ 32) a ∙ in_sum (new + rest) (old + o) p (others ∙ one) ∙ ap (λ (k : ℕ). k % 2 ^ 32) b
    ∙ in_sum (o + p) 0 old (cancelled v s l) ∙ ap (λ (k : ℕ). k % 2 ^ 32) zero_more

pub first_taken : (values : Values) (others : List Term) (other : Term) (negated : ℕ) (old middle new : List Term) → 1 ≤ length others
    → (get_or others 0 other).stride < 2 ^ 32
    → negated ≡ word.subtract 0 (get_or others 0 other).stride
    → sum_of values middle % 2 ^ 32 ≡ (sum_of values old + values (get_or others 0 other).counter * negated) % 2 ^ 32
    → (sum_of values new + sum_of values (take (length others - 1) (drop 1 others))) % 2 ^ 32 ≡ sum_of values middle % 2 ^ 32
    → (sum_of values new + sum_of values others) % 2 ^ 32 ≡ sum_of values old % 2 ^ 32
first_taken values [] other negated old middle new some l is_negated one rest = absurd (omega (arith, some))
first_taken values (first ∷ others) other negated old middle new some l is_negated one rest =
    let n : suc (length others) - 1 ≡ length others = omega arith in
    let left : take (suc (length others) - 1) others ≡ others = ap (λ (k : ℕ). take k others) n ∙ take-length others in
    taken (values first.counter) first.stride (sum_of values old) (sum_of values middle) (sum_of values new) (sum_of values others) l
    (one ∙ ap (λ (k : ℕ). (sum_of values old + values first.counter * k) % 2 ^ 32) is_negated)
    (ap (λ (ts : List Term). (sum_of values new + sum_of values ts) % 2 ^ 32) (sym left) ∙ rest)

-- ---- words

-- what remains is what gives the whole
remains : (x a b : ℕ) → x < 2 ^ 32 → a < 2 ^ 32 → b < 2 ^ 32 → (x + b) % 2 ^ 32 ≡ a → x ≡ word.subtract a b
unfolding word.subtract
remains x a b lx la lb e = omega (arith, lx, la, lb, e)

difference : (a b : ℕ) → a < 2 ^ 32 → b < 2 ^ 32 → (word.subtract a b + b) % 2 ^ 32 ≡ a
unfolding word.subtract
difference a b la lb = omega (arith, la, lb)

pub number_added : (buffer_index sum n : ℕ) → (word.add buffer_index n + sum) % 2 ^ 32 ≡ word.add
    ((buffer_index + sum) % 2 ^ 32) n
unfolding word.add
number_added buffer_index sum n =
    let e : (buffer_index + n) + sum ≡ (buffer_index + sum) + n = omega arith in
    mod-add-mod (buffer_index + n) (2 ^ 32) sum ∙ ap (λ (k : ℕ). k % 2 ^ 32) e ∙ sym
    (mod-add-mod (buffer_index + sum) (2 ^ 32) n)

pub sums_apart : (buffer_index other old others new : ℕ) → buffer_index < 2 ^ 32 → other < 2 ^ 32
    → (new + others) % 2 ^ 32 ≡ old % 2 ^ 32
    → (word.subtract buffer_index other + new) % 2 ^ 32 ≡ word.subtract ((buffer_index + old) % 2 ^ 32)
    ((other + others) % 2 ^ 32)
sums_apart buffer_index other old others new lo lt e =
    let d = word.subtract buffer_index other in
    let same : (d + new) + (other + others) ≡ (d + other) + (new + others) = omega arith in
    let swapped : buffer_index + (new + others) ≡ (new + others) + buffer_index = omega arith in
    let back : old + buffer_index ≡ buffer_index + old = omega arith in
    let own_is : buffer_index % 2 ^ 32 ≡ buffer_index = mod-eq_of_lt {n = buffer_index} {m = 2 ^ 32} lo in
    let whole : ((d + new) % 2 ^ 32 + (other + others) % 2 ^ 32) % 2 ^ 32 ≡ (buffer_index + old) % 2 ^ 32 =
    both (d + new) (other + others) ∙ ap (λ (k : ℕ). k % 2 ^ 32) same
    ∙ in_sum (d + other) buffer_index (new + others) (difference buffer_index other lo lt ∙ sym own_is)
    ∙ ap (λ (k : ℕ). k % 2 ^ 32) swapped ∙ in_sum (new + others) old buffer_index e ∙ ap (λ (k : ℕ). k % 2 ^ 32) back in
    remains ((d + new) % 2 ^ 32) ((buffer_index + old) % 2 ^ 32) ((other + others) % 2 ^ 32) (omega arith) (omega arith) (omega arith) whole

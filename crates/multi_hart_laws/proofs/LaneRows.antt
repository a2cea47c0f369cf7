-- What a vector row that writes lanes of 32 bits, unmasked, leaves of the numbers that a hart holds.
use Rattle.std.proofs.Common.{◌≡◌, ℕ, zero, suc, ◌+◌, ◌-◌, ◌*◌, ◌%◌, ◌^◌, ◌<◌, ◌≤◌, List, [], ◌∷◌, length, get_or, Bool, true, false, refl, ap, ◌∙◌, sym, subst}
use Rattle.std.proofs.Common.{arith, inl, inr}
use Rattle.std.specs.Prelude.{◌⊎◌, ◌/◌, ◌&&◌, slice_index_or, slice_set, slice_index, replicate, take, drop, map, cond, nat_lt, nat_le}
use Rattle.std.specs.List.{flat_map, range_with_len}
use Rattle.std.proofs.Math.Nat.{mod-eq_of_lt}
use Rattle.std.proofs.lemmas.Bool.{cases_eq, cases_lt}
use Rattle.std.proofs.lemmas.Bool.Decides.{nat_tests}
use Rattle.std.proofs.lemmas.List.FromFn.{length-map-range_with_len, get_or-map-range_with_len}
use Rattle.memory.specs.Access.{AreBytes}
use Rattle.memory.proofs.StaysBytes.{none-bytes, more-bytes, append-bytes}
use Rattle.lanes.specs.Words.{element, register_of, lowest_bytes, little_endian, merged, mask_bit, active, is_active}
use Rattle.hart_core.specs.HartState.{HartState, vector, vectors_of, with_vectors, advanced}
use Rattle.hart_core.specs.Scalar.{one_if}
use Rattle.vector_unit.specs.Vector.{Vectors, register, width_of, group_of, most_elements, with_registers, with_elements, element_from}
use Rattle.multi_hart_laws.specs.Paths.{lane, bit, write_lanes, LanesConfigured, At}
use Rattle.multi_hart_laws.specs.Groups.{LanesGiven}
use Rattle.multi_hart_laws.proofs.Groups.{group-holds, others-stay, size-stays, index-same, index-other}

-- ---- bytes of a register

low : (n : ℕ) → n % 256 < 256
low n = omega arith

pub lowest-bytes : (count n : ℕ) → AreBytes (lowest_bytes count n)
lowest-bytes zero n = none-bytes
lowest-bytes (suc count) n = more-bytes (n % 256) (lowest_bytes count (n / 256)) (low n) (lowest-bytes count (n / 256))

all-bytes : (ns : List ℕ) → AreBytes (flat_map (lowest_bytes 4) ns)
all-bytes [] = none-bytes
all-bytes (n ∷ ns) = append-bytes (lowest_bytes 4 n) (flat_map (lowest_bytes 4) ns) (lowest-bytes 4 n) (all-bytes ns)

four-bytes : (a b c d : ℕ) → AreBytes (register_of 32 (a ∷ b ∷ c ∷ d ∷ []))
four-bytes a b c d = all-bytes (a ∷ b ∷ c ∷ d ∷ [])

-- 16 bytes
abbrev pub Shape : List ℕ → Type 0
Shape bytes = (length bytes ≡ 16) × AreBytes bytes

group-shape : (state : Vectors) (v g : ℕ) (xs : List ℕ) (u : ℕ) → length state.registers ≡ 32 → v + g ≤ 32 → length xs ≡ 4 * g → v ≤ u → u < v + g
    → Shape (register (with_registers state 32 v g xs) u)
group-shape state v zero xs u size fits length-is lo hi = absurd (omega (arith, lo, hi))
group-shape state v (suc g) [] u size fits length-is lo hi = absurd (omega (arith, length-is))
group-shape state v (suc g) (a ∷ []) u size fits length-is lo hi = absurd (omega (arith, length-is))
group-shape state v (suc g) (a ∷ b ∷ []) u size fits length-is lo hi = absurd (omega (arith, length-is))
group-shape state v (suc g) (a ∷ b ∷ c ∷ []) u size fits length-is lo hi = absurd (omega (arith, length-is))
group-shape state v (suc g) (a ∷ b ∷ c ∷ d ∷ rest) u size fits length-is lo hi =
    let inner = with_registers state 32 (v + 1) g rest in
    let new = register_of 32 (a ∷ b ∷ c ∷ d ∷ []) in
    let there : v < length inner.registers = let q = size-stays state (v + 1) g rest in omega (arith, q, size, fits) in
    elim (cases_eq u v) [
      | inl e ↦ subst Shape (sym (ap (λ n. slice_index_or (slice_set inner.registers v new) n (replicate 16 0)) e
          ∙ index-same inner.registers v new (replicate 16 0) there)) (refl, four-bytes a b c d)
      | inr n ↦ subst Shape (sym (index-other inner.registers v u new (replicate 16 0) n)) (group-shape state (v + 1) g rest u size (omega (arith, fits))
          (omega (arith, length-is)) (omega (arith, lo, n)) (omega (arith, hi)))
    ]

pub vl-stays : (state : Vectors) (v g : ℕ) (xs : List ℕ) → (with_registers state 32 v g xs).vl ≡ state.vl
vl-stays state v zero xs = refl
vl-stays state v (suc g) xs = vl-stays state (v + 1) g (drop 4 xs)

pub vtype-stays : (state : Vectors) (v g : ℕ) (xs : List ℕ) → (with_registers state 32 v g xs).vtype ≡ state.vtype
vtype-stays state v zero xs = refl
vtype-stays state v (suc g) xs = vtype-stays state (v + 1) g (drop 4 xs)

-- an element of bytes is a word
endian-four : (xs : List ℕ) → length xs ≤ 4 → AreBytes xs → little_endian xs < 2 ^ 32
endian-four [] l b = omega arith
endian-four (x ∷ []) l b = let p = b 0 in omega (arith, p)
endian-four (x ∷ y ∷ []) l b = let p = b 0 in let q = b 1 in omega (arith, p, q)
endian-four (x ∷ y ∷ z ∷ []) l b = let p = b 0 in let q = b 1 in let r = b 2 in omega (arith, p, q, r)
endian-four (x ∷ y ∷ z ∷ w ∷ []) l b = let p = b 0 in let q = b 1 in let r = b 2 in let s = b 3 in omega (arith, p, q, r, s)
endian-four (x ∷ y ∷ z ∷ w ∷ v ∷ xs) l b = absurd (omega (arith, l))

pub drop-bytes : (k : ℕ) (xs : List ℕ) → AreBytes xs → AreBytes (drop k xs)
drop-bytes zero xs b = b
drop-bytes (suc k) [] b = b
drop-bytes (suc k) (x ∷ xs) b = drop-bytes k xs (λ i. b (suc i))

pub take-bytes : (k : ℕ) (xs : List ℕ) → AreBytes xs → AreBytes (take k xs)
take-bytes zero xs b = none-bytes
take-bytes (suc k) [] b = none-bytes
take-bytes (suc k) (x ∷ xs) b = more-bytes x (take k xs) (b 0) (take-bytes k xs (λ i. b (suc i)))

take-length : (k : ℕ) (xs : List ℕ) → length (take k xs) ≤ k
take-length zero xs = omega arith
take-length (suc k) [] = omega arith
take-length (suc k) (x ∷ xs) = let l = take-length k xs in omega (arith, l)

pub element-below : (bytes : List ℕ) (i : ℕ) → AreBytes bytes → element 32 bytes i < 2 ^ 32
element-below bytes i b = let rest = drop (i * 4) bytes in endian-four (take 4 rest) (take-length 4 rest) (take-bytes 4 rest (drop-bytes (i * 4) bytes b))

-- which of two defaults is taken beyond the end is no matter within
pub or-either : {X : Type 0} (xs : List X) (v : ℕ) (d e : X) → v < length xs → slice_index_or xs v d ≡ slice_index_or xs v e
or-either [] v d e l = absurd (omega (arith, l))
or-either (x ∷ xs) zero d e l = refl
or-either (x ∷ xs) (suc v) d e l = or-either xs v d e (omega (arith, l))

-- ---- merged lists

pub merged-length : (bs : List Bool) (xs ys : List ℕ) (n : ℕ) → length bs ≡ n → length xs ≡ n → length ys ≡ n → length (merged bs xs ys) ≡ n
merged-length [] xs ys n a b c = a
merged-length (t ∷ bs) [] ys n a b c = absurd (omega (arith, a, b))
merged-length (t ∷ bs) (x ∷ xs) [] n a b c = absurd (omega (arith, a, c))
merged-length (t ∷ bs) (x ∷ xs) (y ∷ ys) zero a b c = absurd (omega (arith, a))
merged-length (t ∷ bs) (x ∷ xs) (y ∷ ys) (suc n) a b c = ap suc (merged-length bs xs ys n (omega (arith, a)) (omega (arith, b)) (omega (arith, c)))

pub merged-get : (bs : List Bool) (xs ys : List ℕ) (n k : ℕ) → length bs ≡ n → length xs ≡ n → length ys ≡ n → k < n
    → get_or (merged bs xs ys) k 0 ≡ cond (get_or bs k false) (get_or xs k 0) (get_or ys k 0)
merged-get [] xs ys n k a b c l = absurd (omega (arith, a, l))
merged-get (t ∷ bs) [] ys n k a b c l = absurd (omega (arith, a, b))
merged-get (t ∷ bs) (x ∷ xs) [] n k a b c l = absurd (omega (arith, a, c))
merged-get (t ∷ bs) (x ∷ xs) (y ∷ ys) n zero a b c l = refl
merged-get (t ∷ bs) (x ∷ xs) (y ∷ ys) zero (suc k) a b c l = absurd (omega (arith, a))
merged-get (t ∷ bs) (x ∷ xs) (y ∷ ys) (suc n) (suc k) a b c l = merged-get bs xs ys n k (omega (arith, a)) (omega (arith, b)) (omega (arith, c))
    (omega (arith, l))

-- ---- numbers after lanes were written

pub lanes-new : (f : ℕ → ℕ) (d n : ℕ) (new : ℕ → ℕ) (q k : ℕ) → q ≡ lane d k → k < n → write_lanes f d n new q ≡ new k
unfolding write_lanes
lanes-new f d n new q k e l =
    let t : nat_le (lane d 0) q ≡ true = grind (arith, nat_tests, e) in
    let u : nat_lt q (lane d n) ≡ true = grind (arith, nat_tests, e, l) in
    let s : q - lane d 0 ≡ k = omega (arith, e) in
    rw t (rw u (ap new s))

pub lanes-below : (f : ℕ → ℕ) (d n : ℕ) (new : ℕ → ℕ) (q : ℕ) → q < lane d 0 → write_lanes f d n new q ≡ f q
unfolding write_lanes
lanes-below f d n new q l = let t : nat_le (lane d 0) q ≡ false = grind (arith, nat_tests, l) in rw t refl

pub lanes-above : (f : ℕ → ℕ) (d n : ℕ) (new : ℕ → ℕ) (q : ℕ) → lane d n ≤ q → write_lanes f d n new q ≡ f q
unfolding write_lanes
lanes-above f d n new q l =
    let u : nat_lt q (lane d n) ≡ false = grind (arith, nat_tests, l) in
    elim (cases_lt q (lane d 0)) [
      | inl b ↦ let t : nat_le (lane d 0) q ≡ false = grind (arith, nat_tests, b) in rw t refl
      | inr b ↦ let t : nat_le (lane d 0) q ≡ true = grind (arith, nat_tests, b) in rw t (rw u refl)
    ]

module _ (at d g : ℕ) (f : ℕ → ℕ) (h : HartState) (news : List ℕ) (small : at + 4 < 2 ^ 32) (a : At at f h) (c : LanesConfigured f g) (fits : d + g ≤ 32)
    (length-is : length news ≡ 4 * g) (below : (i : ℕ) → i < f 32 → slice_index news i < 2 ^ 32) where
  abbrev pub state : Vectors
  state = vectors_of h

  abbrev flags : List Bool
  flags = active 0 (4 * g) h.vl true (register state 0)

  abbrev old : List ℕ
  old = map (element_from state 32 d) (range_with_len 0 (4 * g))

  abbrev pub mixed : List ℕ
  mixed = merged flags news old

  abbrev pub to : Vectors
  to = with_registers state 32 d g mixed

  flags-length : length flags ≡ 4 * g
  unfolding active
  flags-length = length-map-range_with_len (λ i. is_active h.vl true (register state 0) (0 + i)) 0 (4 * g)

  flag : (k : ℕ) → k < 4 * g → get_or flags k false ≡ nat_lt k h.vl && true
  unfolding active
  flag k l = get_or-map-range_with_len (λ i. is_active h.vl true (register state 0) (0 + i)) 0 (4 * g) k k false l (omega arith)
      ∙ (let e : 0 + k ≡ k = omega arith in ap (is_active h.vl true (register state 0)) e)

  old-length : length old ≡ 4 * g
  old-length = length-map-range_with_len (element_from state 32 d) 0 (4 * g)

  pub mixed-get : (k : ℕ) → k < 4 * g → get_or mixed k 0 ≡ cond (nat_lt k h.vl && true) (get_or news k 0) (element_from state 32 d k)
  mixed-get k l =
      merged-get flags news old (4 * g) k flags-length length-is old-length l
      ∙ ap (λ t. cond t (get_or news k 0) (get_or old k 0)) (flag k l)
      ∙ ap (λ n. cond (nat_lt k h.vl && true) (get_or news k 0) n) (get_or-map-range_with_len (element_from state 32 d) 0 (4 * g) k k 0 l (omega arith))

  pub mixed-length : length mixed ≡ 4 * g
  mixed-length = merged-length flags news old (4 * g) flags-length length-is old-length

  pub to-size : length to.registers ≡ 32
  to-size = size-stays state d g mixed ∙ a.wide

  pub here : (u : ℕ) → u < 32 → slice_index_or to.registers u [] ≡ register to u
  here u l = or-either to.registers u [] (replicate 16 0) (let q = to-size in omega (arith, q, l))

  was : (u : ℕ) → u < 32 → register state u ≡ vector h u
  was u l = or-either h.vectors u (replicate 16 0) [] (let q = a.wide in omega (arith, q, l))

  outside : (u : ℕ) → u < 32 → (u < d) ⊎ (d + g ≤ u) → slice_index_or to.registers u [] ≡ vector h u
  outside u l o = here u l ∙ others-stay state d g mixed u o ∙ was u l

  pub shape : (u : ℕ) → u < 32 → Shape (slice_index_or to.registers u [])
  shape u l = elim (cases_lt u d) [
    | inl b ↦ subst Shape (sym (outside u l (inl b))) (a.whole u l, a.bytes u l)
    | inr b ↦ elim (cases_lt u (d + g)) [
      | inl e ↦ subst Shape (sym (here u l)) (group-shape state d g mixed u a.wide fits mixed-length b e)
      | inr e ↦ subst Shape (sym (outside u l (inr e))) (a.whole u l, a.bytes u l)
    ]
  ]

  abbrev after : ℕ → ℕ
  after = write_lanes f d (f 32) (slice_index news)

  inside : (u i : ℕ) → 1 ≤ u → d ≤ u → u < d + g → i < 4 → element 32 (slice_index_or to.registers u []) i ≡ after (lane u i)
  inside u i low lo hi few =
      let k = 4 * (u - d) + i in
      let l : k < 4 * g = omega (arith, lo, hi, few) in
      let lu : u < 32 = omega (arith, hi, fits) in
      let first = ap (λ r. element 32 r i) (here u lu) ∙ group-holds state d g mixed u i a.wide fits mixed-length lo hi few in
      elim (cases_lt k (f 32)) [
        | inl s ↦
            let t : nat_lt k h.vl ≡ true = let e = a.vl in grind (arith, nat_tests, e, s) in
            first ∙ ap (λ n. n % 2 ^ 32) (mixed-get k l ∙ ap (λ b. cond (b && true) (get_or news k 0) (element_from state 32 d k)) t)
            ∙ mod-eq_of_lt (below k s) ∙ sym (lanes-new f d (f 32) (slice_index news) (lane u i) k (omega (arith, lo)) s)
        | inr s ↦
            let t : nat_lt k h.vl ≡ false = let e = a.vl in grind (arith, nat_tests, e, s) in
            let q : d + k / 4 ≡ u = omega (arith, lo, few) in
            let r : k % 4 ≡ i = omega (arith, lo, few) in
            let w : element_from state 32 d k ≡ element 32 (vector h u) i = ap (λ x. element 32 (register state x) (k % 4)) q
            ∙ ap (element 32 (register state u)) r ∙ ap (λ x. element 32 x i) (was u lu) in
            first ∙ ap (λ n. n % 2 ^ 32) (mixed-get k l ∙ ap (λ b. cond (b && true) (get_or news k 0) (element_from state 32 d k)) t ∙ w)
            ∙ mod-eq_of_lt (element-below (vector h u) i (a.bytes u lu)) ∙ a.lanes u i low lu few
            ∙ sym (lanes-above f d (f 32) (slice_index news) (lane u i) (omega (arith, s, lo)))
      ]

  pub lanes-after : (u i : ℕ) → 1 ≤ u → u < 32 → i < 4 → element 32 (slice_index_or to.registers u []) i ≡ after (lane u i)
  lanes-after u i low l few = elim (cases_lt u d) [
    | inl b ↦ ap (λ r. element 32 r i) (outside u l (inl b)) ∙ a.lanes u i low l few
        ∙ sym (lanes-below f d (f 32) (slice_index news) (lane u i) (omega (arith, b, few)))
    | inr b ↦ elim (cases_lt u (d + g)) [
      | inl e ↦ inside u i low b e few
      | inr e ↦ ap (λ r. element 32 r i) (outside u l (inr e)) ∙ a.lanes u i low l few
          ∙ sym (lanes-above f d (f 32) (slice_index news) (lane u i) (let m = c.fits in omega (arith, e, m)))
    ]
  ]

  there : 1 ≤ d → At (at + 4) after (advanced (with_vectors h to))
  there from-one = record {
    running = a.running;
    pc = ap (λ n. (n + 4) % 2 ^ 32) a.pc ∙ mod-eq_of_lt small;
    full = a.full;
    same = λ r l. a.same r l ∙ sym (lanes-below f d (f 32) (slice_index news) r (omega (arith, l)));
    wide = to-size;
    whole = λ u l. (shape u l).0;
    bytes = λ u l. (shape u l).1;
    vl = vl-stays state d g mixed ∙ a.vl ∙ sym (lanes-below f d (f 32) (slice_index news) 32 (omega arith));
    vtype = vtype-stays state d g mixed ∙ a.vtype ∙ sym (lanes-below f d (f 32) (slice_index news) 33 (omega arith));
    lanes = lanes-after;
    bits = λ i few. ap (λ r. one_if (mask_bit r i)) (outside 0 (omega arith) (inl from-one)) ∙ a.bits i few
        ∙ sym (lanes-above f d (f 32) (slice_index news) (bit i) (let m = c.fits in omega (arith, m, fits)));
  }

  pub is-to : with_elements state d true news ≡ to
  is-to =
      let F : ℕ → ℕ → ℕ → Vectors = λ w q k. with_registers state w d q (merged (active 0 k h.vl true (register state 0)) news (map (element_from state w d)
      (range_with_len 0 k))) in
      ap (λ w. F w (group_of h.vtype) (most_elements h.vtype)) (ap width_of a.vtype ∙ c.width)
      ∙ ap (λ q. F 32 q (most_elements h.vtype)) (ap group_of a.vtype ∙ c.group) ∙ ap (λ k. F 32 g k) (ap most_elements a.vtype ∙ c.most)

pub lanes-given : LanesGiven
lanes-given at d g f h news small a c from-one fits length-is below =
    subst (λ v. At (at + 4) (write_lanes f d (f 32) (slice_index news)) (advanced (with_vectors h v))) (sym (is-to at d g f h news small a c fits length-is
    below))
    (there at d g f h news small a c fits length-is below from-one)

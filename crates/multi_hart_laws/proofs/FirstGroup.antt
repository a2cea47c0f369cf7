-- The group of vector registers that begins at v0, as lanes of 32 bits: its bits and what they spell.
use Rattle.std.proofs.Common.{◌≡◌, ℕ, zero, suc, ◌+◌, ◌-◌, ◌*◌, ◌/◌, ◌%◌, ◌^◌, ◌<◌, ◌≤◌, List, [], length, get_or, true, false, refl, ap, ◌∙◌, sym, subst}
use Rattle.std.proofs.Common.{arith, inl, inr}
use Rattle.std.specs.Prelude.{◌⊎◌, ◌==◌, ◌&&◌, cond, if◌then◌else◌, min, nat_le, nat_lt, replicate, slice_index, slice_index_or}
use Rattle.std.specs.Int.{bit_at}
use Rattle.std.proofs.Math.Nat.{mod-eq_of_lt}
use Rattle.std.proofs.lemmas.Bool.{cases_lt}
use Rattle.std.proofs.lemmas.Bool.Decides.{nat_tests}
use Rattle.std.proofs.lemmas.Nat.{mod-pow-add}
use Rattle.std.proofs.lemmas.Nat.Bits.{bit_at-suc, bit_at-lt, bit_at_lowest, bit_at_cat_low, bit_at_cat_high}
use Rattle.memory.specs.Access.{AreBytes}
use Rattle.lanes.specs.Words.{element, mask_bit}
use Rattle.hart_core.specs.Scalar.{one_if}
use Rattle.hart_core.specs.HartState.{HartState, vector, vectors_of, with_vectors, advanced}
use Rattle.vector_unit.specs.Vector.{Vectors, register as group_register, element_from}
use Rattle.multi_hart_laws.specs.Paths.{lane, bit, write_lanes, of_bytes, LanesConfigured, At}
use Rattle.multi_hart_laws.specs.FirstGroup.{spelled, first_lane, held, write_first, write_group, AnyLanesGiven, GroupsHold}
use Rattle.multi_hart_laws.proofs.Groups.{group-holds}
use Rattle.multi_hart_laws.proofs.LaneRows as rows
use Rattle.multi_hart_laws.proofs.LaneRows.{lanes-new, lanes-below, lanes-above, lanes-given, element-below, or-either}
use Rattle.multi_hart_laws.proofs.ByteLoads.{lane-of}
use Rattle.multi_hart_laws.proofs.VectorRows.{lanes-same, at-same}
use Rattle.multi_hart_laws.proofs.MaskRows.{few-registers}

-- ---- numbers and their bits

pub spelled-alike : (n : ℕ) (b c : ℕ → ℕ) → ((k : ℕ) → k < n → b k ≡ c k) → spelled n b ≡ spelled n c
spelled-alike zero b c e = refl
spelled-alike (suc n) b c e =
    ap (λ z. z + 2 * spelled n (λ k. b (suc k))) (e 0 (omega arith))
    ∙ ap (λ z. c 0 + 2 * z) (spelled-alike n (λ k. b (suc k)) (λ k. c (suc k)) (λ k l. e (suc k) (omega (arith, l))))

-- bits of a number spell what is left of it
pub spelled-back : (n x : ℕ) → spelled n (bit_at x) ≡ x % 2 ^ n
spelled-back zero x = omega arith
spelled-back (suc n) x =
    let later : spelled n (λ k. bit_at x (suc k)) ≡ x / 2 % 2 ^ n = spelled-alike n (λ k. bit_at x (suc k)) (bit_at (x / 2)) (λ k l. bit_at-suc x k)
    ∙ spelled-back n (x / 2) in
    let whole : x % 2 ^ (n + 1) ≡ (x / 2 % 2 ^ n) * 2 + x % 2 = mod-pow-add x n 1 in
    let more : n + 1 ≡ suc n = omega arith in
    let lowest = bit_at_lowest x in
    ap (λ z. z + 2 * spelled n (λ k. bit_at x (suc k))) lowest ∙ ap (λ z. x % 2 + 2 * z) later
    ∙ (let p : x % 2 + 2 * (x / 2 % 2 ^ n) ≡ (x / 2 % 2 ^ n) * 2 + x % 2 = omega arith in p) ∙ sym whole ∙ ap (λ z. x % 2 ^ z) more

-- ---- bits of a word are those of its bytes

low-bit : (b x k : ℕ) → k < 8 → bit_at (b + 256 * x) k ≡ bit_at b k
low-bit b x k l = let e : b + 256 * x ≡ x * 2 ^ 8 + b = omega arith in ap (λ z. bit_at z k) e ∙ bit_at_cat_low x 8 b k l

high-bit : (b x k : ℕ) → b < 256 → 8 ≤ k → bit_at (b + 256 * x) k ≡ bit_at x (k - 8)
high-bit b x k s l = let e : b + 256 * x ≡ x * 2 ^ 8 + b = omega arith in ap (λ z. bit_at z k) e ∙ bit_at_cat_high x 8 b k s l

word-bit : (b : ℕ → ℕ) (k : ℕ) → ((i : ℕ) → i < 4 → b i < 256) → k < 32 → bit_at (of_bytes b) k ≡ bit_at (b (k / 8)) (k % 8)
word-bit b k small l = elim (cases_lt k 8) [
  | inl s ↦
      let q : 0 ≡ k / 8 = omega (arith, s) in
      let r : k ≡ k % 8 = omega (arith, s) in
      low-bit (b 0) (b 1 + 256 * (b 2 + 256 * b 3)) k s ∙ ap (λ z. bit_at (b z) k) q ∙ ap (bit_at (b (k / 8))) r
  | inr s ↦
      high-bit (b 0) (b 1 + 256 * (b 2 + 256 * b 3)) k (small 0 (omega arith)) s
      ∙ elim (cases_lt k 16) [
        | inl t ↦
            let q : 1 ≡ k / 8 = omega (arith, s, t) in
            let r : k - 8 ≡ k % 8 = omega (arith, s, t) in
            low-bit (b 1) (b 2 + 256 * b 3) (k - 8) (omega (arith, s, t)) ∙ ap (λ z. bit_at (b z) (k - 8)) q ∙ ap (bit_at (b (k / 8))) r
        | inr t ↦
            high-bit (b 1) (b 2 + 256 * b 3) (k - 8) (small 1 (omega arith)) (omega (arith, t))
            ∙ elim (cases_lt k 24) [
              | inl u ↦
                  let q : 2 ≡ k / 8 = omega (arith, t, u) in
                  let r : k - 8 - 8 ≡ k % 8 = omega (arith, t, u) in
                  low-bit (b 2) (b 3) (k - 8 - 8) (omega (arith, t, u)) ∙ ap (λ z. bit_at (b z) (k - 8 - 8)) q ∙ ap (bit_at (b (k / 8))) r
              | inr u ↦
                  let q : 3 ≡ k / 8 = omega (arith, u, l) in
                  let r : k - 8 - 8 - 8 ≡ k % 8 = omega (arith, u, l) in
                  high-bit (b 2) (b 3) (k - 8 - 8) (small 2 (omega arith)) (omega (arith, u)) ∙ ap (λ z. bit_at (b z) (k - 8 - 8 - 8)) q
                  ∙ ap (bit_at (b (k / 8))) r
            ]
      ]
]

one-if-is : (x : ℕ) → x < 2 → one_if (x == 1) ≡ x
one-if-is zero l = refl
one-if-is (suc zero) l = refl
one-if-is (suc (suc x)) l = absurd (omega (arith, l))

-- a bit of a register is one of its lanes
pub register-bit : (r : List ℕ) (j : ℕ) → length r ≡ 16 → AreBytes r → j < 128 → one_if (mask_bit r j) ≡ bit_at (element 32 r (j / 32)) (j % 32)
register-bit r j long small l =
    let lane-low : j / 32 < 4 = omega (arith, l) in
    let place : 4 * (j / 32) + j % 32 / 8 ≡ j / 8 = omega arith in
    let within : j % 32 % 8 ≡ j % 8 = omega arith in
    one-if-is (bit_at (slice_index r (j / 8)) (j % 8)) (bit_at-lt (slice_index r (j / 8)) (j % 8))
    ∙ sym (ap (λ z. bit_at z (j % 32)) (lane-of r (j / 32) long lane-low)
    ∙ word-bit (λ k. get_or r (4 * (j / 32) + k) 0) (j % 32) (λ i s. small (4 * (j / 32) + i)) (omega arith)
    ∙ ap (λ z. bit_at (get_or r z 0) (j % 32 % 8)) place ∙ ap (bit_at (get_or r (j / 8) 0)) within)

-- ---- what a hart holds in v0

pub first-lane-is : (at : ℕ) (f : ℕ → ℕ) (h : HartState) (i : ℕ) → At at f h → i < 4 → element 32 (vector h 0) i ≡ first_lane f i
first-lane-is at f h i a l =
    let x = element 32 (vector h 0) i in
    let whole = a.whole 0 (omega arith) in
    let bytes = a.bytes 0 (omega arith) in
    let small : x < 2 ^ 32 = element-below (vector h 0) i bytes in
    sym (spelled-alike 32 (λ k. f (bit (32 * i + k))) (bit_at x)
    (λ k s.
    let q : (32 * i + k) / 32 ≡ i = omega (arith, s) in
    let r : (32 * i + k) % 32 ≡ k = omega (arith, s) in
    sym (a.bits (32 * i + k) (omega (arith, l, s))) ∙ register-bit (vector h 0) (32 * i + k) whole bytes (omega (arith, l, s))
    ∙ ap (λ z. bit_at (element 32 (vector h 0) z) ((32 * i + k) % 32)) q ∙ ap (bit_at x) r)
    ∙ spelled-back 32 x ∙ mod-eq_of_lt small)

-- ---- numbers after the lanes of the first group were written

module _ (f : ℕ → ℕ) (n : ℕ) (new : ℕ → ℕ) where
  abbrev later : ℕ → ℕ
  later = write_lanes f 1 (n - 4) (λ k. new (4 + k))

  abbrev bits : ℕ → ℕ
  bits j = bit_at (new (j / 32)) (j % 32)

  min-low : (i : ℕ) → i < 4 → i < n → i < min n 4
  min-low i l s = omega (arith, l, s)

  pub first-bits : (j : ℕ) → j / 32 < 4 → j / 32 < n → write_first f n new (bit j) ≡ bits j
  first-bits j l s = lanes-new later 32 (32 * min n 4) bits (bit j) j (let e : bit j ≡ lane 32 j = omega arith in e) (let p = min-low (j / 32) l s in
      omega (arith, p))

  pub first-bits-stay : (j : ℕ) → n ≤ 16 → n ≤ j / 32 → write_first f n new (bit j) ≡ f (bit j)
  first-bits-stay j few s =
      lanes-above later 32 (32 * min n 4) bits (bit j) (omega (arith, s)) ∙ lanes-above f 1 (n - 4) (λ k. new (4 + k)) (bit j) (omega (arith, few))

  pub first-lanes : (q k : ℕ) → n ≤ 16 → 4 ≤ k → k < n → q ≡ lane 0 k → write_first f n new q ≡ new k
  first-lanes q k few lo hi e =
      let i : 4 + (k - 4) ≡ k = omega (arith, lo) in
      lanes-below later 32 (32 * min n 4) bits q (omega (arith, e, hi, few))
      ∙ lanes-new f 1 (n - 4) (λ j. new (4 + j)) q (k - 4) (omega (arith, e, lo)) (omega (arith, lo, hi)) ∙ ap new i

  pub first-lanes-stay : (q : ℕ) → n ≤ 16 → (q < lane 1 0) ⊎ ((lane 0 n ≤ q) × (lane 1 0 ≤ q)) → q < bit 0 → write_first f n new q ≡ f q
  first-lanes-stay q few o l =
      lanes-below later 32 (32 * min n 4) bits q l
      ∙ elim o [
        | inl b ↦ lanes-below f 1 (n - 4) (λ k. new (4 + k)) q b
        | inr b ↦ lanes-above f 1 (n - 4) (λ k. new (4 + k)) q (let p = b.0 in let r = b.1 in omega (arith, p, r))
      ]

  -- what is written is held
  pub first-holds : (i : ℕ) → n ≤ 16 → i < n → new i < 2 ^ 32 → held (write_first f n new) 0 i ≡ new i
  first-holds i few l small = elim (cases_lt i 4) [
    | inl s ↦
        let t : nat_lt (4 * 0 + i) 4 ≡ true = grind (arith, nat_tests, s) in
        ap (λ b. if b then first_lane (write_first f n new) i else write_first f n new (lane 0 i)) t
        ∙ spelled-alike 32 (λ k. write_first f n new (bit (32 * i + k))) (bit_at (new i))
        (λ k m.
        let q : (32 * i + k) / 32 ≡ i = omega (arith, m) in
        let r : (32 * i + k) % 32 ≡ k = omega (arith, m) in
        first-bits (32 * i + k) (omega (arith, q, s)) (omega (arith, q, l)) ∙ ap (λ z. bit_at (new z) ((32 * i + k) % 32)) q ∙ ap (bit_at (new i)) r)
        ∙ spelled-back 32 (new i) ∙ mod-eq_of_lt small
    | inr s ↦
        let t : nat_lt (4 * 0 + i) 4 ≡ false = grind (arith, nat_tests, s) in
        ap (λ b. if b then first_lane (write_first f n new) i else write_first f n new (lane 0 i)) t
        ∙ first-lanes (lane 0 i) i few s l refl
  ]

base-same : (f g : ℕ → ℕ) (d n : ℕ) (new : ℕ → ℕ) (q : ℕ) → ((z : ℕ) → f z ≡ g z) → write_lanes f d n new q ≡ write_lanes g d n new q
unfolding write_lanes
base-same f g d n new q e = ap (λ z. if nat_le (lane d 0) q && nat_lt q (lane d n) then new (q - lane d 0) else z) (e q)

-- a lane stays where its number does, and the bits that spell it
pub held-same : (f f' : ℕ → ℕ) (v i : ℕ) → ((k : ℕ) → k < 32 → i < 4 → f' (bit (32 * i + k)) ≡ f (bit (32 * i + k))) → f' (lane v i) ≡ f (lane v i)
    → held f' v i ≡ held f v i
held-same f f' v i bits-same lane-same = elim (cases_lt (4 * v + i) 4) [
  | inl s ↦
      let t : nat_lt (4 * v + i) 4 ≡ true = grind (arith, nat_tests, s) in
      ap (λ b. if b then first_lane f' i else f' (lane v i)) t
      ∙ spelled-alike 32 (λ k. f' (bit (32 * i + k))) (λ k. f (bit (32 * i + k))) (λ k l. bits-same k l (omega (arith, s)))
      ∙ sym (ap (λ b. if b then first_lane f i else f (lane v i)) t)
  | inr s ↦
      let t : nat_lt (4 * v + i) 4 ≡ false = grind (arith, nat_tests, s) in
      ap (λ b. if b then first_lane f' i else f' (lane v i)) t ∙ lane-same ∙ sym (ap (λ b. if b then first_lane f i else f (lane v i)) t)
]

pub held-above : (f : ℕ → ℕ) (d i : ℕ) → 1 ≤ d → held f d i ≡ f (lane d i)
held-above f d i l =
    let t : nat_lt (4 * d + i) 4 ≡ false = grind (arith, nat_tests, l) in
    ap (λ b. if b then first_lane f i else f (lane d i)) t

pub written-above : (f : ℕ → ℕ) (d n : ℕ) (new : ℕ → ℕ) (q : ℕ) → 1 ≤ d → write_group f d n new q ≡ write_lanes f d n new q
written-above f d n new q l =
    let t : (d == 0) ≡ false = grind (arith, nat_tests, l) in
    ap (λ b. (if b then write_first f n new else write_lanes f d n new) q) t

-- what is written says where
pub group-same : (f : ℕ → ℕ) (d n : ℕ) (new other : ℕ → ℕ) → ((k : ℕ) → k < n → new k ≡ other k) → (q : ℕ) → write_group f d n new q ≡ write_group f d n other q
group-same f zero n new other e q =
    let low : (z : ℕ) → write_lanes f 1 (n - 4) (λ k. new (4 + k)) z ≡ write_lanes f 1 (n - 4) (λ k. other (4 + k)) z =
    lanes-same f 1 (n - 4) (λ k. new (4 + k)) (λ k. other (4 + k)) (λ k l. e (4 + k) (omega (arith, l))) in
    lanes-same (later f n new) 32 (32 * min n 4) (bits f n new) (bits f n other) (λ j l. ap (λ z. bit_at z (j % 32)) (e (j / 32) (omega (arith, l)))) q
    ∙ base-same (later f n new) (later f n other) 32 (32 * min n 4) (bits f n other) q low
group-same f (suc d) n new other e q = written-above f (suc d) n new q (omega arith) ∙ lanes-same f (suc d) n new other e q
    ∙ sym (written-above f (suc d) n other q (omega arith))

pub groups-hold : GroupsHold
groups-hold f zero n new i few l small = first-holds f n new i few l small
groups-hold f (suc d) n new i few l small =
    held-above (write_group f (suc d) n new) (suc d) i (omega arith) ∙ written-above f (suc d) n new (lane (suc d) i) (omega arith)
    ∙ lanes-new f (suc d) n new (lane (suc d) i) i refl l

-- ---- a hart of which the lanes of the first group were written

module _ (at g : ℕ) (f : ℕ → ℕ) (h : HartState) (news : List ℕ) (small : at + 4 < 2 ^ 32) (a : At at f h) (c : LanesConfigured f g) (some : 1 ≤ g)
    (fits : 0 + g ≤ 32) (length-is : length news ≡ 4 * g) (below : (i : ℕ) → i < f 32 → slice_index news i < 2 ^ 32) where
  abbrev to : Vectors
  to = rows.to at 0 g f h news small a c fits length-is below

  abbrev now : List ℕ
  now = slice_index_or to.registers 0 []

  abbrev after : ℕ → ℕ
  after = write_first f (f 32) (slice_index news)

  count-few : f 32 ≤ 16
  count-few = let p = few-registers f g c in let q = c.fits in omega (arith, p, q)

  lane-now : (i : ℕ) → i < 4 → element 32 now i ≡ cond (nat_lt i h.vl && true) (get_or news i 0) (element 32 (vector h 0) i) % 2 ^ 32
  lane-now i l =
      let mixed = rows.mixed at 0 g f h news small a c fits length-is below in
      let q : 0 + i / 4 ≡ 0 = omega (arith, l) in
      let r : i % 4 ≡ i = omega (arith, l) in
      let s : 4 * (0 - 0) + i ≡ i = omega arith in
      let w : element_from (vectors_of h) 32 0 i ≡ element 32 (vector h 0) i =
      ap (λ x. element 32 (group_register (vectors_of h) x) (i % 4)) q ∙ ap (element 32 (group_register (vectors_of h) 0)) r
      ∙ ap (λ x. element 32 x i) (or-either h.vectors 0 (replicate 16 0) [] (let e = a.wide in omega (arith, e))) in
      ap (λ x. element 32 x i) (rows.here at 0 g f h news small a c fits length-is below 0 (omega arith))
      ∙ group-holds (vectors_of h) 0 g mixed 0 i a.wide fits (rows.mixed-length at 0 g f h news small a c fits length-is below) (omega arith)
      (omega (arith, some)) l
      ∙ ap (λ k. slice_index mixed k % 2 ^ 32) s
      ∙ ap (λ n. n % 2 ^ 32) (rows.mixed-get at 0 g f h news small a c fits length-is below i (omega (arith, l, some))
      ∙ ap (cond (nat_lt i h.vl && true) (get_or news i 0)) w)

  lane-new : (i : ℕ) → i < 4 → i < f 32 → element 32 now i ≡ slice_index news i
  lane-new i l s =
      let t : nat_lt i h.vl ≡ true = let e = a.vl in grind (arith, nat_tests, e, s) in
      lane-now i l ∙ ap (λ b. cond (b && true) (get_or news i 0) (element 32 (vector h 0) i) % 2 ^ 32) t ∙ mod-eq_of_lt (below i s)

  lane-old : (i : ℕ) → i < 4 → f 32 ≤ i → element 32 now i ≡ element 32 (vector h 0) i
  lane-old i l s =
      let t : nat_lt i h.vl ≡ false = let e = a.vl in grind (arith, nat_tests, e, s) in
      lane-now i l ∙ ap (λ b. cond (b && true) (get_or news i 0) (element 32 (vector h 0) i) % 2 ^ 32) t
      ∙ mod-eq_of_lt (element-below (vector h 0) i (a.bytes 0 (omega arith)))

  bits-now : (j : ℕ) → j < 128 → one_if (mask_bit now j) ≡ after (bit j)
  bits-now j l =
      let sh = rows.shape at 0 g f h news small a c fits length-is below 0 (omega arith) in
      let here : one_if (mask_bit now j) ≡ bit_at (element 32 now (j / 32)) (j % 32) = register-bit now j sh.0 sh.1 l in
      let i = j / 32 in
      let li : i < 4 = omega (arith, l) in
      elim (cases_lt i (f 32)) [
        | inl s ↦ here ∙ ap (λ z. bit_at z (j % 32)) (lane-new i li s) ∙ sym (first-bits f (f 32) (slice_index news) j li s)
        | inr s ↦
            here ∙ ap (λ z. bit_at z (j % 32)) (lane-old i li s) ∙ sym (register-bit (vector h 0) j (a.whole 0 (omega arith)) (a.bytes 0 (omega arith)) l)
            ∙ a.bits j l
            ∙ sym (first-bits-stay f (f 32) (slice_index news) j count-few s)
      ]

  low-stays : (q : ℕ) → q < 34 → f q ≡ after q
  low-stays q l = sym (first-lanes-stay f (f 32) (slice_index news) q count-few (inl (omega (arith, l))) (omega (arith, l)))

  lanes-now : (u i : ℕ) → 1 ≤ u → u < 32 → i < 4 → write_lanes f 0 (f 32) (slice_index news) (lane u i) ≡ after (lane u i)
  lanes-now u i low l few =
      let k = 4 * u + i in
      elim (cases_lt k (f 32)) [
        | inl s ↦ lanes-new f 0 (f 32) (slice_index news) (lane u i) k (let e : lane u i ≡ lane 0 k = omega arith in e) s
            ∙ sym (first-lanes f (f 32) (slice_index news) (lane u i) k count-few (omega (arith, low)) s (let e : lane u i ≡ lane 0 k = omega arith in e))
        | inr s ↦
            lanes-above f 0 (f 32) (slice_index news) (lane u i) (omega (arith, s))
            ∙ sym (first-lanes-stay f (f 32) (slice_index news) (lane u i) count-few (inr (omega (arith, s), omega (arith, low))) (omega (arith, l, few)))
      ]

  pub first-there : At (at + 4) after (advanced (with_vectors h to))
  first-there = record {
    running = a.running;
    pc = ap (λ n. (n + 4) % 2 ^ 32) a.pc ∙ mod-eq_of_lt small;
    full = a.full;
    same = λ r l. a.same r l ∙ low-stays r (omega (arith, l));
    wide = rows.to-size at 0 g f h news small a c fits length-is below;
    whole = λ u l. (rows.shape at 0 g f h news small a c fits length-is below u l).0;
    bytes = λ u l. (rows.shape at 0 g f h news small a c fits length-is below u l).1;
    vl = rows.vl-stays (vectors_of h) 0 g (rows.mixed at 0 g f h news small a c fits length-is below) ∙ a.vl ∙ low-stays 32 (omega arith);
    vtype = rows.vtype-stays (vectors_of h) 0 g (rows.mixed at 0 g f h news small a c fits length-is below) ∙ a.vtype ∙ low-stays 33 (omega arith);
    lanes = λ u i low l few. rows.lanes-after at 0 g f h news small a c fits length-is below u i low l few ∙ lanes-now u i low l few;
    bits = bits-now;
  }

pub any-lanes-given : AnyLanesGiven
any-lanes-given at zero g f h news small a c some fits length-is below =
    subst (λ v. At (at + 4) (write_first f (f 32) (slice_index news)) (advanced (with_vectors h v))) (sym (rows.is-to at 0 g f h news small a c fits length-is
    below))
    (first-there at g f h news small a c some fits length-is below)
any-lanes-given at (suc d) g f h news small a c some fits length-is below =
    at-same (at + 4) (write_lanes f (suc d) (f 32) (slice_index news)) (write_group f (suc d) (f 32) (slice_index news))
    _ (λ q. sym (written-above f (suc d) (f 32) (slice_index news) q (omega arith)))
    (lanes-given at (suc d) g f h news small a c (omega arith) fits length-is below)

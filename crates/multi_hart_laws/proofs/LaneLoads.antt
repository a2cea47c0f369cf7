-- Vector rows that load lanes of 32 bits.
use Rattle.std.proofs.Common.{◌≡◌, ℕ, zero, suc, ◌+◌, ◌*◌, ◌%◌, ◌^◌, ◌<◌, ◌≤◌, List, [], ◌∷◌, length, get_or, None, Some, Bool, true, false, refl, ap, ◌∙◌, sym}
use Rattle.std.proofs.Common.{subst, arith, inl, inr, length-set}
use Rattle.std.specs.Prelude.{◌⊎◌, ◌≢◌, ◌/◌, ◌-◌, cond, map, replicate}
use Rattle.std.proofs.Math.Nat.{mod-eq_of_lt}
use Rattle.std.proofs.lemmas.Bool.{cases_eq, cases_lt}
use Rattle.lanes.specs.Words as word
use Rattle.lanes.specs.Words.{element, with_element, mask_bit}
use Rattle.rv_insn.specs.declared.outcomes.Trap.TheVariants.{IllegalInstruction}
use Rattle.rv_insn.specs.declared.instructions.Insn.TheVariants.{Vector}
use Rattle.rv_insn.specs.declared.vector_instructions.VectorInsn.TheVariants as v
use Rattle.rv_insn.specs.declared.vector_instructions.Addressing.{Addressing}
use Rattle.rv_insn.specs.declared.vector_instructions.Addressing.TheVariants as addressings
use Rattle.rv_insn.specs.declared.vector_operations.ElementWidth.TheVariants as widths
use Rattle.memory.specs.Access.{AreBytes, Size, Word, Reads, access_at, number_at, number_in, first_fault, or_else, touched}
use Rattle.memory.proofs.StaysBytes.{append-bytes}
use Rattle.multi_hart.specs.Run.{Within}
use Rattle.hart_core.specs.Scalar.{one_if}
use Rattle.hart_core.specs.HartState.{HartState, register, vector, vectors_of, with_vectors, advanced, at_pc}
use Rattle.vector_unit.specs.Vector.{Vectors, register as group_register, active_in, is_refused}
use Rattle.vector_unit.specs.Accesses.{spacing_of, addresses_by, with_element_from, filled_from}
use Rattle.multi_hart_laws.specs.Uses.{MayRead}
use Rattle.multi_hart_laws.specs.Alone.{World}
use Rattle.multi_hart_laws.specs.Paths.{lane, bit, vl_number, update, write_lanes, LanesConfigured, IsGroup, At, Comes, Line}
use Rattle.multi_hart_laws.specs.LaneMemory.{firsts, AllReadable, offset_at, OffsetsFit}
use Rattle.multi_hart_laws.proofs.Rules.{in-front}
use Rattle.multi_hart_laws.proofs.Paths.{spot, at-to, update-same, update-other}
use Rattle.multi_hart_laws.proofs.Rows.{keeps-none}
use Rattle.multi_hart_laws.proofs.Jumps.{load-free}
use Rattle.multi_hart_laws.proofs.Groups.{index-same, index-other}
use Rattle.multi_hart_laws.proofs.LaneRows.{lanes-new, lanes-below, lanes-above, or-either, lowest-bytes, take-bytes, drop-bytes}
use Rattle.multi_hart_laws.proofs.VectorRows.{at-same, allowed}
use Rattle.multi_hart_laws.proofs.Flags.{flags-length, flag-on, flag-off}
use Rattle.multi_hart_laws.proofs.LaneStores.{all-free, all-within, addresses-are, fits-group, same-width}

-- ---- one element of a register

module _ (b0 b1 b2 b3 b4 b5 b6 b7 b8 b9 b10 b11 b12 b13 b14 b15 : ℕ) where
  abbrev bytes : List ℕ
  bytes = b0 ∷ b1 ∷ b2 ∷ b3 ∷ b4 ∷ b5 ∷ b6 ∷ b7 ∷ b8 ∷ b9 ∷ b10 ∷ b11 ∷ b12 ∷ b13 ∷ b14 ∷ b15 ∷ []

  sixteen-length : (j n : ℕ) → j < 4 → length (with_element 32 bytes j n) ≡ 16
  sixteen-length zero n l = refl
  sixteen-length (suc zero) n l = refl
  sixteen-length (suc (suc zero)) n l = refl
  sixteen-length (suc (suc (suc zero))) n l = refl
  sixteen-length (suc (suc (suc (suc j)))) n l = absurd (omega (arith, l))

  sixteen-new : (j n : ℕ) → j < 4 → element 32 (with_element 32 bytes j n) j ≡ n % 2 ^ 32
  sixteen-new zero n l = omega arith
  sixteen-new (suc zero) n l = omega arith
  sixteen-new (suc (suc zero)) n l = omega arith
  sixteen-new (suc (suc (suc zero))) n l = omega arith
  sixteen-new (suc (suc (suc (suc j)))) n l = absurd (omega (arith, l))

  sixteen-old : (j k n : ℕ) → j < 4 → k < 4 → k ≢ j → element 32 (with_element 32 bytes j n) k ≡ element 32 bytes k
  sixteen-old zero zero n l q e = absurd (e refl)
  sixteen-old zero (suc zero) n l q e = refl
  sixteen-old zero (suc (suc zero)) n l q e = refl
  sixteen-old zero (suc (suc (suc zero))) n l q e = refl
  sixteen-old zero (suc (suc (suc (suc k)))) n l q e = absurd (omega (arith, q))
  sixteen-old (suc zero) zero n l q e = refl
  sixteen-old (suc zero) (suc zero) n l q e = absurd (e refl)
  sixteen-old (suc zero) (suc (suc zero)) n l q e = refl
  sixteen-old (suc zero) (suc (suc (suc zero))) n l q e = refl
  sixteen-old (suc zero) (suc (suc (suc (suc k)))) n l q e = absurd (omega (arith, q))
  sixteen-old (suc (suc zero)) zero n l q e = refl
  sixteen-old (suc (suc zero)) (suc zero) n l q e = refl
  sixteen-old (suc (suc zero)) (suc (suc zero)) n l q e = absurd (e refl)
  sixteen-old (suc (suc zero)) (suc (suc (suc zero))) n l q e = refl
  sixteen-old (suc (suc zero)) (suc (suc (suc (suc k)))) n l q e = absurd (omega (arith, q))
  sixteen-old (suc (suc (suc zero))) zero n l q e = refl
  sixteen-old (suc (suc (suc zero))) (suc zero) n l q e = refl
  sixteen-old (suc (suc (suc zero))) (suc (suc zero)) n l q e = refl
  sixteen-old (suc (suc (suc zero))) (suc (suc (suc zero))) n l q e = absurd (e refl)
  sixteen-old (suc (suc (suc zero))) (suc (suc (suc (suc k)))) n l q e = absurd (omega (arith, q))
  sixteen-old (suc (suc (suc (suc j)))) k n l q e = absurd (omega (arith, l))

empty : (xs : List ℕ) → length xs ≡ 0 → xs ≡ []
empty [] e = refl
empty (x ∷ xs) e = absurd (omega (arith, e))

-- what holds of four numbers and any this many others holds of a list that is four longer
peeled : (P : List ℕ → Type 0) (n : ℕ) (xs : List ℕ) → length xs ≡ n + 4 → ((p q r s : ℕ) (rest : List ℕ) → length rest ≡ n → P (p ∷ q ∷ r ∷ s ∷ rest)) → P xs
peeled P n [] e all = absurd (omega (arith, e))
peeled P n (a ∷ []) e all = absurd (omega (arith, e))
peeled P n (a ∷ b ∷ []) e all = absurd (omega (arith, e))
peeled P n (a ∷ b ∷ c ∷ []) e all = absurd (omega (arith, e))
peeled P n (a ∷ b ∷ c ∷ d ∷ xs) e all = all a b c d xs (omega (arith, e))

-- what holds of any 16 bytes holds of a list of 16
pub sixteen : (P : List ℕ → Type 0) (xs : List ℕ) → length xs ≡ 16 → ((b0 b1 b2 b3 b4 b5 b6 b7 b8 b9 b10 b11 b12 b13 b14 b15 : ℕ)
    → P (b0 ∷ b1 ∷ b2 ∷ b3 ∷ b4 ∷ b5 ∷ b6 ∷ b7 ∷ b8 ∷ b9 ∷ b10 ∷ b11 ∷ b12 ∷ b13 ∷ b14 ∷ b15 ∷ [])) → P xs
sixteen P xs e all =
    peeled P 12 xs e (λ b0 b1 b2 b3 ys l.
    peeled (λ z. P (b0 ∷ b1 ∷ b2 ∷ b3 ∷ z)) 8 ys l (λ b4 b5 b6 b7 ys' l'.
    peeled (λ z. P (b0 ∷ b1 ∷ b2 ∷ b3 ∷ b4 ∷ b5 ∷ b6 ∷ b7 ∷ z)) 4 ys' l' (λ b8 b9 b10 b11 ys'' l''.
    peeled (λ z. P (b0 ∷ b1 ∷ b2 ∷ b3 ∷ b4 ∷ b5 ∷ b6 ∷ b7 ∷ b8 ∷ b9 ∷ b10 ∷ b11 ∷ z)) 0 ys'' l'' (λ b12 b13 b14 b15 none l3.
    subst (λ z. P (b0 ∷ b1 ∷ b2 ∷ b3 ∷ b4 ∷ b5 ∷ b6 ∷ b7 ∷ b8 ∷ b9 ∷ b10 ∷ b11 ∷ b12 ∷ b13 ∷ b14 ∷ b15 ∷ z)) (sym (empty none l3)) (all b0 b1 b2 b3 b4 b5 b6 b7
    b8 b9 b10 b11 b12 b13 b14 b15)))))

written-length : (xs : List ℕ) (j n : ℕ) → length xs ≡ 16 → j < 4 → length (with_element 32 xs j n) ≡ 16
written-length xs j n e l = sixteen (λ z. length (with_element 32 z j n) ≡ 16) xs e (λ b0 b1 b2 b3 b4 b5 b6 b7 b8 b9 b10 b11 b12 b13 b14 b15. sixteen-length b0
    b1 b2 b3 b4 b5 b6 b7 b8 b9 b10 b11 b12 b13 b14 b15 j n l)

written-new : (xs : List ℕ) (j n : ℕ) → length xs ≡ 16 → j < 4 → element 32 (with_element 32 xs j n) j ≡ n % 2 ^ 32
written-new xs j n e l = sixteen (λ z. element 32 (with_element 32 z j n) j ≡ n % 2 ^ 32) xs e (λ b0 b1 b2 b3 b4 b5 b6 b7 b8 b9 b10 b11 b12 b13 b14 b15.
    sixteen-new b0 b1 b2 b3 b4 b5 b6 b7 b8 b9 b10 b11 b12 b13 b14 b15 j n l)

written-old : (xs : List ℕ) (j k n : ℕ) → length xs ≡ 16 → j < 4 → k < 4 → k ≢ j → element 32 (with_element 32 xs j n) k ≡ element 32 xs k
written-old xs j k n e l q ne = sixteen (λ z. element 32 (with_element 32 z j n) k ≡ element 32 z k) xs e (λ b0 b1 b2 b3 b4 b5 b6 b7 b8 b9 b10 b11 b12 b13 b14
    b15. sixteen-old b0 b1 b2 b3 b4 b5 b6 b7 b8 b9 b10 b11 b12 b13 b14 b15 j k n l q ne)

written-bytes : (xs : List ℕ) (j n : ℕ) → AreBytes xs → AreBytes (with_element 32 xs j n)
written-bytes xs j n b = append-bytes _ _ (append-bytes _ _ (take-bytes (j * 4) xs b) (lowest-bytes 4 n)) (drop-bytes (j * 4 + 4) xs b)

-- ---- a hart of which one lane was written

module _ (at : ℕ) (f : ℕ → ℕ) (h : HartState) (d i n : ℕ) (a : At at f h) (low : 1 ≤ d) (high : d + i / 4 < 32) where
  abbrev u : ℕ
  u = d + i / 4

  abbrev old : List ℕ
  old = group_register (vectors_of h) u

  abbrev new : List ℕ
  new = with_element 32 old (i % 4) (n % 2 ^ 32)

  abbrev to : HartState
  to = with_vectors h (with_element_from (vectors_of h) 32 d i n)

  old-is : old ≡ vector h u
  old-is = or-either h.vectors u (replicate 16 0) [] (let q = a.wide in omega (arith, q, high))

  old-length : length old ≡ 16
  old-length = ap length old-is ∙ a.whole u high

  in-register : i % 4 < 4
  in-register = omega arith

  here : vector to u ≡ new
  here = index-same h.vectors u new [] (let q = a.wide in omega (arith, q, high))

  others : (x : ℕ) → x ≢ u → vector to x ≡ vector h x
  others x e = index-other h.vectors u x new [] e

  shape : (x : ℕ) → x < 32 → (length (vector to x) ≡ 16) × AreBytes (vector to x)
  shape x l = elim (cases_eq x u) [
    | inl e ↦ subst (λ r. (length r ≡ 16) × AreBytes r) (sym (ap (vector to) e ∙ here))
        (written-length old (i % 4) (n % 2 ^ 32) old-length in-register, written-bytes old (i % 4) (n % 2 ^ 32) (subst AreBytes (sym old-is) (a.bytes u high)))
    | inr e ↦ subst (λ r. (length r ≡ 16) × AreBytes r) (sym (others x e)) (a.whole x l, a.bytes x l)
  ]

  abbrev value : ℕ
  value = n % 2 ^ 32

  kept : (q : ℕ) → q ≢ lane d i → f q ≡ update f (lane d i) value q
  kept q e = sym (update-other f (lane d i) value q e)

  lanes-after : (x k : ℕ) → 1 ≤ x → x < 32 → k < 4 → element 32 (vector to x) k ≡ update f (lane d i) value (lane x k)
  lanes-after x k lo hi few = elim (cases_eq x u) [
    | inl e ↦ elim (cases_eq k (i % 4)) [
      | inl z ↦
          let p : lane d i ≡ lane x k = omega (arith, e, z) in
          let small : n % 2 ^ 32 % 2 ^ 32 ≡ n % 2 ^ 32 = omega arith in
          ap (λ y. element 32 (vector to y) k) e ∙ ap (λ r. element 32 r k) here ∙ ap (element 32 new) z
          ∙ written-new old (i % 4) (n % 2 ^ 32) old-length in-register ∙ small ∙ sym (update-same f (lane d i) value) ∙ ap (update f (lane d i) value) p
      | inr z ↦
          ap (λ y. element 32 (vector to y) k) e ∙ ap (λ r. element 32 r k) here
          ∙ written-old old (i % 4) k (n % 2 ^ 32) old-length in-register few z ∙ ap (λ r. element 32 r k) old-is ∙ ap (λ y. element 32 (vector h y) k) (sym e)
          ∙ a.lanes x k lo hi few ∙ kept (lane x k) (λ p. omega (arith, p, e, z, few))
    ]
    | inr e ↦ ap (λ r. element 32 r k) (others x e) ∙ a.lanes x k lo hi few ∙ kept (lane x k) (λ p. omega (arith, p, e, few))
  ]

  pub lane-written : At at (update f (lane d i) value) to
  lane-written = record {
    running = a.running;
    pc = a.pc;
    full = a.full;
    same = λ r l. a.same r l ∙ kept r (λ p. omega (arith, p, l));
    wide = length-set h.vectors u new ∙ a.wide;
    whole = λ x l. (shape x l).0;
    bytes = λ x l. (shape x l).1;
    vl = a.vl ∙ kept 32 (λ p. omega (arith, p));
    vtype = a.vtype ∙ kept 33 (λ p. omega (arith, p));
    lanes = lanes-after;
    bits = λ k few. ap (λ r. one_if (mask_bit r k)) (others 0 (λ p. omega (arith, p, low))) ∙ a.bits k few ∙ kept (bit k) (λ p. omega (arith, p, high));
  }

-- ---- the first lanes, one after the other

fill : (ℕ → ℕ) → ℕ → ℕ → ℕ → (ℕ → ℕ) → ℕ → ℕ
fill f d i zero x = f
fill f d i (suc k) x = fill (update f (lane d i) (x i % 2 ^ 32)) d (suc i) k x

fill-other : (f : ℕ → ℕ) (d i k : ℕ) (x : ℕ → ℕ) (q : ℕ) → (q < lane d i) ⊎ (lane d (i + k) ≤ q) → fill f d i k x q ≡ f q
unfolding fill
fill-other f d i zero x q o = refl
fill-other f d i (suc k) x q o =
    let ne : q ≢ lane d i = λ e. elim o [ inl l ↦ omega (arith, e, l) | inr l ↦ omega (arith, e, l) ] in
    fill-other (update f (lane d i) (x i % 2 ^ 32)) d (suc i) k x q (elim o [ inl l ↦ inl (omega (arith, l)) | inr l ↦ inr (omega (arith, l)) ])
    ∙ update-other f (lane d i) (x i % 2 ^ 32) q ne

fill-new : (f : ℕ → ℕ) (d i k : ℕ) (x : ℕ → ℕ) (j : ℕ) → i ≤ j → j < i + k → fill f d i k x (lane d j) ≡ x j % 2 ^ 32
unfolding fill
fill-new f d i zero x j lo hi = absurd (omega (arith, lo, hi))
fill-new f d i (suc k) x j lo hi = elim (cases_eq j i) [
  | inl e ↦
      fill-other (update f (lane d i) (x i % 2 ^ 32)) d (suc i) k x (lane d j) (inl (omega (arith, e)))
      ∙ ap (λ y. update f (lane d i) (x i % 2 ^ 32) (lane d y)) e ∙ update-same f (lane d i) (x i % 2 ^ 32) ∙ ap (λ y. x y % 2 ^ 32) (sym e)
  | inr e ↦ fill-new (update f (lane d i) (x i % 2 ^ 32)) d (suc i) k x j (omega (arith, lo, e)) (omega (arith, hi))
]

fill-is : (f : ℕ → ℕ) (d n : ℕ) (x : ℕ → ℕ) (q : ℕ) → fill f d 0 n x q ≡ write_lanes f d n (λ k. x k % 2 ^ 32) q
fill-is f d n x q = elim (cases_lt q (lane d 0)) [
  | inl l ↦ fill-other f d 0 n x q (inl l) ∙ sym (lanes-below f d n (λ k. x k % 2 ^ 32) q l)
  | inr l ↦ elim (cases_lt q (lane d n)) [
    | inl z ↦
        let j = q - lane d 0 in
        let s : j < n = omega (arith, l, z) in
        let p : q ≡ lane d j = omega (arith, l) in
        ap (fill f d 0 n x) p ∙ fill-new f d 0 n x j (omega arith) (omega (arith, s)) ∙ sym (lanes-new f d n (λ k. x k % 2 ^ 32) q j p s)
    | inr z ↦ fill-other f d 0 n x q (inr (omega (arith, z))) ∙ sym (lanes-above f d n (λ k. x k % 2 ^ 32) q z)
  ]
]

pub none-filled : (i w d : ℕ) (state : Vectors) (flags : List Bool) → ((j : ℕ) → get_or flags j false ≡ false) → filled_from i state w d flags [] ≡ state
none-filled i w d state [] off = refl
none-filled i w d state (true ∷ flags) off = absurd (let e : true ≡ false = off 0 in cc e)
none-filled i w d state (false ∷ flags) off = none-filled (i + 1) w d state flags (λ j. off (suc j))

filled-at : (at d i k : ℕ) (f : ℕ → ℕ) (h : HartState) (flags : List Bool) (x : ℕ → ℕ) → At at f h → 1 ≤ d → 4 * d + (i + k) ≤ 128 → k ≤ length flags
    → ((j : ℕ) → j < k → get_or flags j false ≡ true) → ((j : ℕ) → k ≤ j → get_or flags j false ≡ false)
    → At at (fill f d i k x) (with_vectors h (filled_from i (vectors_of h) 32 d flags (firsts i k x)))
unfolding fill
filled-at at d i zero f h flags x a low fits long on off = subst (λ s. At at f (with_vectors h s))
    (sym (none-filled i 32 d (vectors_of h) flags (λ j. off j (omega arith)))) a
filled-at at d i (suc k) f h [] x a low fits long on off = absurd (omega (arith, long))
filled-at at d i (suc k) f h (false ∷ flags) x a low fits long on off = absurd (let t : false ≡ true = on 0 (omega arith) in cc t)
filled-at at d i (suc k) f h (true ∷ flags) x a low fits long on off =
    let next = with_vectors h (with_element_from (vectors_of h) 32 d i (x i)) in
    let e : suc i ≡ i + 1 = omega arith in
    subst (λ y. At at (fill (update f (lane d i) (x i % 2 ^ 32)) d (suc i) k x) (with_vectors h (filled_from y (with_element_from (vectors_of h) 32 d i (x i))
    32 d flags (firsts (suc i) k x)))) e
    (filled-at at d (suc i) k (update f (lane d i) (x i % 2 ^ 32)) next flags x (lane-written at f h d i (x i) a low (omega (arith, fits))) low
    (omega (arith, fits)) (omega (arith, long))
    (λ j l. on (suc j) (omega (arith, l))) (λ j l. off (suc j) (omega (arith, l))))

-- ---- rows

pub numbers-read : (text m : List ℕ) (size : Size) (i n : ℕ) (a : ℕ → ℕ) → map (number_at text m) (map (access_at size) (firsts i n a))
    ≡ firsts i n (λ k. number_in text m size (a k))
numbers-read text m size i zero a = refl
numbers-read text m size i (suc n) a = ap (λ z. number_in text m size (a i) ∷ z) (numbers-read text m size (suc i) n a)

load-legal : (at g : ℕ) (f : ℕ → ℕ) (h : HartState) → At at f h → LanesConfigured f g → (addressing : Addressing) (d b : ℕ) → IsGroup g d
    → OffsetsFit g addressing → is_refused (v.LoadElements widths.Bits32 d b addressing true) (vectors_of h) ≡ false
load-legal at g f h s c addressings.UnitStride d b id fit = allowed at g f h s c (v.LoadElements widths.Bits32 d b addressings.UnitStride true) refl refl tt
    (fits-group at g f h s c d id)
load-legal at g f h s c (addressings.Strided r) d b id fit = allowed at g f h s c (v.LoadElements widths.Bits32 d b (addressings.Strided r) true) refl refl tt
    (fits-group at g f h s c d id)
load-legal at g f h s c (addressings.Indexed o) d b id fit = allowed at g f h s c (v.LoadElements widths.Bits32 d b (addressings.Indexed o) true) refl
    (same-width at g f h s c) (id, (fit, tt)) refl

pub loads : (w : World) (f : ℕ → ℕ) (m : List ℕ) → length m ≡ w.size → (g : ℕ) → LanesConfigured f g → (addressing : Addressing) (d b : ℕ) (a : ℕ → ℕ)
    → IsGroup g d → b < 32 → OffsetsFit g addressing → ((k : ℕ) → k < f vl_number → word.add 32 (f b) (offset_at f addressing k) ≡ a k)
    → AllReadable w Word (f vl_number) a
    → Line w (Vector (v.LoadElements widths.Bits32 d b addressing true) ∷ []) f m (write_lanes f d (f vl_number) (λ k. number_in w.text m Word (a k) % 2 ^ 32))
    m
loads w f m l g c addressing d b a id lb fit e can at s h st =
    let n = f vl_number in
    let x : ℕ → ℕ = λ k. number_in w.text m Word (a k) in
    let g' : ℕ → ℕ = write_lanes f d n (λ k. x k % 2 ^ 32) in
    let places = addresses_by (vectors_of h) (spacing_of widths.Bits32 addressing (register h)) true (register h b) in
    let there : places ≡ firsts 0 n a = addresses-are at g f h st c addressing b a lb fit e in
    let flags = active_in (vectors_of h) true in
    let left : HartState = with_vectors h (filled_from 0 (vectors_of h) 32 d flags (firsts 0 n x)) in
    let ep : (h.pc + 4) % 2 ^ 32 ≡ at + 4 = ap (λ p. (p + 4) % 2 ^ 32) st.pc ∙ mod-eq_of_lt (spot w.text (at + 4) [] s.1).low in
    let long = flags-length at g f h st c in
    let most = c.fits in
    let seat = id.fits in
    let here : At at g' left = at-same at (fill f d 0 n x) g' left (fill-is f d n x)
    (filled-at at d 0 n f h flags x st id.above_mask (omega (arith, most, seat)) (omega (arith, long, most)) (flag-on at g f h st c) (flag-off at g f h st c))
    in
    let el : (left.pc + 4) % 2 ^ 32 ≡ at + 4 = ap (λ p. (p + 4) % 2 ^ 32) here.pc ∙ mod-eq_of_lt (spot w.text (at + 4) [] s.1).low in
    let gone : At (at + 4) g' (advanced left) = subst (λ p. At (at + 4) g' (at_pc left p)) (sym el) (at-to at (at + 4) g' left here) in
    let read : map (number_at w.text m) (map (access_at Word) places) ≡ firsts 0 n x = ap (λ q. map (number_at w.text m) (map (access_at Word) q)) there
    ∙ numbers-read w.text m Word 0 n a in
    in-front w (Comes (at + 4) g' m) 0 at (Vector (v.LoadElements widths.Bits32 d b addressing true)) h m l st.running st.pc s.0
    (ap (λ t. or_else (cond t (Some IllegalInstruction) None) (or_else (first_fault (length w.text) w.size Reads (map (access_at Word) places)) None))
    (load-legal at g f h st c addressing d b id fit)
    ∙ ap (λ q. or_else (first_fault (length w.text) w.size Reads (map (access_at Word) q)) None) there
    ∙ ap (λ t. or_else t None) (all-free (length w.text) w.size Reads Word 0 n a (λ k lo hi. let lk : k < n = omega (arith, hi) in
    load-free Word (length w.text) w.size (a k) (can.aligned k lk) (can.above k lk) (can.below k lk))))
    (subst (λ q. Within (λ y. MayRead w.job w.hart (w.uses y)) (touched (map (access_at Word) q))) (sym there)
    (all-within (λ y. MayRead w.job w.hart (w.uses y)) Word 0 n a (λ k lo hi. can.may k (omega (arith, hi)))))
    tt (keeps-none w)
    (subst (λ r. At (at + 4) g' (advanced (with_vectors h (filled_from 0 (vectors_of h) 32 d flags r)))) (sym read) gone, refl)

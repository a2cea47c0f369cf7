-- A vector row that loads bytes, one after the other, into one register.
use Rattle.std.proofs.Common.{◌≡◌, ℕ, zero, suc, ◌+◌, ◌*◌, ◌%◌, ◌^◌, ◌<◌, ◌≤◌, List, [], ◌∷◌, ◌++◌, length, get_or, None, Some, Bool, true, false, refl, ap}
use Rattle.std.proofs.Common.{◌∙◌, sym, subst, arith, inl, inr, length-set, get_or-set_same, get_or-set_other}
use Rattle.std.specs.Prelude.{◌⊎◌, ◌≢◌, ◌/◌, ◌==◌, ◌||◌, ◌&&◌, not, cond, map, replicate, take, drop, slice_index_or, slice_set, if◌then◌else◌, nat_lt}
use Rattle.std.proofs.Math.Nat.{mod-eq_of_lt}
use Rattle.std.proofs.lemmas.Bool.{cases_eq, cases_lt}
use Rattle.std.proofs.lemmas.Bool.Decides.{nat_tests}
use Rattle.lanes.specs.Words as word
use Rattle.lanes.specs.Words.{element, with_element, mask_bit}
use Rattle.rv_insn.specs.declared.outcomes.Trap.TheVariants.{IllegalInstruction}
use Rattle.rv_insn.specs.declared.instructions.Insn.TheVariants.{Vector}
use Rattle.rv_insn.specs.declared.vector_instructions.VectorInsn.TheVariants as v
use Rattle.rv_insn.specs.declared.vector_instructions.Addressing.TheVariants as addressings
use Rattle.rv_insn.specs.declared.vector_operations.ElementWidth.TheVariants as widths
use Rattle.memory.specs.Access.{AreBytes, Byte, Reads, access_at, number_at, number_in, first_fault, or_else, touched}
use Rattle.multi_hart.specs.Run.{Within}
use Rattle.hart_core.specs.Scalar.{one_if}
use Rattle.hart_core.specs.HartState.{HartState, register, vector, vectors_of, with_vectors, advanced, at_pc}
use Rattle.vector_unit.specs.Vector.{Vectors, register as group_register, with_register, group_of, width, active_in, group_at, is_unfit, is_refused}
use Rattle.vector_unit.specs.Accesses.{spacing_of, offset, addresses_by, with_element_from, filled_from}
use Rattle.multi_hart_laws.specs.Uses.{MayRead}
use Rattle.multi_hart_laws.specs.Alone.{World}
use Rattle.multi_hart_laws.specs.Paths.{lane, bit, vl_number, of_bytes, byte_of, write_bytes, LanesConfigured, At, Comes, Line}
use Rattle.multi_hart_laws.specs.LaneMemory.{firsts, AllReadable}
use Rattle.multi_hart_laws.proofs.Rules.{in-front}
use Rattle.multi_hart_laws.proofs.Paths.{spot, at-to}
use Rattle.multi_hart_laws.proofs.Rows.{keeps-none}
use Rattle.multi_hart_laws.proofs.Jumps.{load-free}
use Rattle.multi_hart_laws.proofs.Groups.{index-same, index-other}
use Rattle.multi_hart_laws.proofs.LaneRows.{lanes-new, lanes-below, lanes-above, or-either}
use Rattle.multi_hart_laws.proofs.VectorRows.{width-is, allowed}
use Rattle.multi_hart_laws.proofs.Flags.{flags-length, flag-on, flag-off, firsts-same, map-firsts}
use Rattle.multi_hart_laws.proofs.MaskRows.{few-registers}
use Rattle.multi_hart_laws.proofs.LaneStores.{all-free, all-within, first-active}
use Rattle.multi_hart_laws.proofs.LaneLoads.{sixteen, none-filled, numbers-read}
use Rattle.multi_hart_laws.proofs.ByteRows.{byte-of}

-- ---- one byte of a register

set-byte : (xs : List ℕ) (i y : ℕ) → i < length xs → (take i xs ++ (y ∷ [])) ++ drop (suc i) xs ≡ slice_set xs i y
set-byte [] i y l = absurd (omega (arith, l))
set-byte (x ∷ xs) zero y l = refl
set-byte (x ∷ xs) (suc i) y l = ap (λ z. x ∷ z) (set-byte xs i y (omega (arith, l)))

byte-put : (xs : List ℕ) (i n : ℕ) → i < length xs → with_element 8 xs i n ≡ slice_set xs i (n % 256)
byte-put xs i n l =
    let e : i * 1 ≡ i = omega arith in
    let o : i * 1 + 1 ≡ suc i = omega arith in
    ap (λ j. (take j xs ++ (n % 256 ∷ [])) ++ drop (i * 1 + 1) xs) e ∙ ap (λ j. (take i xs ++ (n % 256 ∷ [])) ++ drop j xs) o ∙ set-byte xs i (n % 256) l

abbrev bytes_in : Vectors → ℕ → List ℕ
bytes_in state d = slice_index_or state.registers d []

one-put : (state : Vectors) (d i n : ℕ) → d < length state.registers → length (bytes_in state d) ≡ 16 → i < 16
    → with_element_from state 8 d i n ≡ with_register state d (slice_set (bytes_in state d) i (n % 256))
one-put state d i n there long l =
    let e : d + i / 16 ≡ d = omega (arith, l) in
    let o : i % 16 ≡ i = omega (arith, l) in
    let s : n % 256 % 256 ≡ n % 256 = omega arith in
    ap (λ u. with_register state u (with_element 8 (group_register state u) (i % 16) (n % 256))) e
    ∙ ap (λ j. with_register state d (with_element 8 (group_register state d) j (n % 256))) o
    ∙ ap (λ r. with_register state d (with_element 8 r i (n % 256))) (or-either state.registers d (replicate 16 0) [] there)
    ∙ ap (with_register state d) (byte-put (bytes_in state d) i (n % 256) (omega (arith, long, l)))
    ∙ ap (λ y. with_register state d (slice_set (bytes_in state d) i y)) s

-- ---- some bytes, one after the other

record Filled (state to : Vectors) (d i k : ℕ) (x : ℕ → ℕ) : Type 0 where
  size : length to.registers ≡ length state.registers
  vl : to.vl ≡ state.vl
  vtype : to.vtype ≡ state.vtype
  others : (u : ℕ) → u ≢ d → bytes_in to u ≡ bytes_in state u
  long : length (bytes_in to d) ≡ 16
  new : (q : ℕ) → i ≤ q → q < i + k → get_or (bytes_in to d) q 0 ≡ x q % 256
  old : (q : ℕ) → (q < i) ⊎ (i + k ≤ q) → get_or (bytes_in to d) q 0 ≡ get_or (bytes_in state d) q 0

filled-more : (state to : Vectors) (d i k : ℕ) (x : ℕ → ℕ) → d < length state.registers → length (bytes_in state d) ≡ 16 → i < 16
    → Filled (with_register state d (slice_set (bytes_in state d) i (x i % 256))) to d (suc i) k x → Filled state to d i (suc k) x
filled-more state to d i k x there long l r =
    let put = slice_set (bytes_in state d) i (x i % 256) in
    let here : bytes_in (with_register state d put) d ≡ put = index-same state.registers d put [] there in
    record {
      size = r.size ∙ length-set state.registers d put;
      vl = r.vl;
      vtype = r.vtype;
      others = λ u n. r.others u n ∙ index-other state.registers d u put [] n;
      long = r.long;
      new = λ q lo hi. elim (cases_eq q i) [
        | inl e ↦
            r.old q (inl (omega (arith, e))) ∙ ap (λ z. get_or z q 0) here ∙ ap (λ j. get_or put j 0) e
            ∙ get_or-set_same (bytes_in state d) i (x i % 256) 0 (omega (arith, long, l))
            ∙ ap (λ j. x j % 256) (sym e)
        | inr n ↦ r.new q (omega (arith, lo, n)) (omega (arith, hi))
      ];
      old = λ q o.
          let n : q ≢ i = λ e. elim o [ inl a ↦ omega (arith, e, a) | inr a ↦ omega (arith, e, a) ] in
          r.old q (elim o [ inl a ↦ inl (omega (arith, a)) | inr a ↦ inr (omega (arith, a)) ]) ∙ ap (λ z. get_or z q 0) here
          ∙ get_or-set_other (bytes_in state d) i q (x i % 256) 0 n;
    }

filled : (d i k : ℕ) (state : Vectors) (flags : List Bool) (x : ℕ → ℕ) → d < length state.registers → length (bytes_in state d) ≡ 16 → i + k ≤ 16
    → k ≤ length flags
    → ((j : ℕ) → j < k → get_or flags j false ≡ true) → ((j : ℕ) → k ≤ j → get_or flags j false ≡ false)
    → Filled state (filled_from i state 8 d flags (firsts i k x)) d i k x
filled d i zero state flags x there long fits enough on off =
    subst (λ s. Filled state s d i 0 x) (sym (none-filled i 8 d state flags (λ j. off j (omega arith))))
    (record { size = refl; vl = refl; vtype = refl; others = λ u n. refl; long = long; new = λ q lo hi. absurd (omega (arith, lo, hi)); old = λ q o. refl })
filled d i (suc k) state [] x there long fits enough on off = absurd (omega (arith, enough))
filled d i (suc k) state (false ∷ flags) x there long fits enough on off = absurd (let t : false ≡ true = on 0 (omega arith) in cc t)
filled d i (suc k) state (true ∷ flags) x there long fits enough on off =
    let l : i < 16 = omega (arith, fits) in
    let put = slice_set (bytes_in state d) i (x i % 256) in
    let next = with_register state d put in
    let e : suc i ≡ i + 1 = omega arith in
    subst (λ s. Filled state (filled_from (i + 1) s 8 d flags (firsts (suc i) k x)) d i (suc k) x) (sym (one-put state d i (x i) there long l))
    (subst (λ j. Filled state (filled_from j next 8 d flags (firsts (suc i) k x)) d i (suc k) x) e
    (filled-more state (filled_from (suc i) next 8 d flags (firsts (suc i) k x)) d i k x there long l
    (filled d (suc i) k next flags x (let q = length-set state.registers d put in omega (arith, q, there))
    (ap length (index-same state.registers d put [] there) ∙ length-set (bytes_in state d) i (x i % 256) ∙ long)
    (omega (arith, fits)) (omega (arith, enough)) (λ j a. on (suc j) (omega (arith, a))) (λ j a. off (suc j) (omega (arith, a))))))

-- ---- bytes and lanes

module _ (b0 b1 b2 b3 b4 b5 b6 b7 b8 b9 b10 b11 b12 b13 b14 b15 : ℕ) where
  abbrev bytes : List ℕ
  bytes = b0 ∷ b1 ∷ b2 ∷ b3 ∷ b4 ∷ b5 ∷ b6 ∷ b7 ∷ b8 ∷ b9 ∷ b10 ∷ b11 ∷ b12 ∷ b13 ∷ b14 ∷ b15 ∷ []

  sixteen-lane : (j : ℕ) → j < 4 → element 32 bytes j ≡ of_bytes (λ k. get_or bytes (4 * j + k) 0)
  sixteen-lane zero l = omega arith
  sixteen-lane (suc zero) l = omega arith
  sixteen-lane (suc (suc zero)) l = omega arith
  sixteen-lane (suc (suc (suc zero))) l = omega arith
  sixteen-lane (suc (suc (suc (suc j)))) l = absurd (omega (arith, l))

pub lane-of : (xs : List ℕ) (j : ℕ) → length xs ≡ 16 → j < 4 → element 32 xs j ≡ of_bytes (λ k. get_or xs (4 * j + k) 0)
lane-of xs j e l = sixteen (λ z. element 32 z j ≡ of_bytes (λ k. get_or z (4 * j + k) 0)) xs e (λ b0 b1 b2 b3 b4 b5 b6 b7 b8 b9 b10 b11 b12 b13 b14 b15.
    sixteen-lane b0 b1 b2 b3 b4 b5 b6 b7 b8 b9 b10 b11 b12 b13 b14 b15 j l)

spelled-same : (p q : ℕ → ℕ) → ((k : ℕ) → k < 4 → p k ≡ q k) → of_bytes p ≡ of_bytes q
spelled-same p q e =
    let a = e 0 (omega arith) in
    let b = e 1 (omega arith) in
    let c = e 2 (omega arith) in
    let d = e 3 (omega arith) in
    omega (arith, a, b, c, d)

byte-spelled : (b : ℕ → ℕ) → ((k : ℕ) → k < 4 → b k < 256) → (k : ℕ) → k < 4 → byte_of (of_bytes b) k ≡ b k
byte-spelled b small zero l = let p = small 0 l in omega (arith, p)
byte-spelled b small (suc zero) l = let o = small 0 (omega arith) in let p = small 1 l in omega (arith, o, p)
byte-spelled b small (suc (suc zero)) l = let n = small 0 (omega arith) in let o = small 1 (omega arith) in let p = small 2 l in omega (arith, n, o, p)
byte-spelled b small (suc (suc (suc zero))) l = let m = small 0 (omega arith) in let n = small 1 (omega arith) in let o = small 2 (omega arith) in let p =
    small 3 l in omega (arith, m, n, o, p)
byte-spelled b small (suc (suc (suc (suc k)))) l = absurd (omega (arith, l))

if-below : (k n a b : ℕ) → k < n → (if nat_lt k n then a else b) ≡ a
if-below k n a b l = let t : nat_lt k n ≡ true = grind (arith, nat_tests, l) in ap (λ z. if z then a else b) t

if-above : (k n a b : ℕ) → n ≤ k → (if nat_lt k n then a else b) ≡ b
if-above k n a b l = let t : nat_lt k n ≡ false = grind (arith, nat_tests, l) in ap (λ z. if z then a else b) t

byte-low : (n : ℕ) → n % 256 < 256
byte-low n = omega arith

-- ---- a hart of which some bytes were written

module _ (at : ℕ) (f : ℕ → ℕ) (h : HartState) (d n : ℕ) (x : ℕ → ℕ) (a : At at f h) (low : 1 ≤ d) (high : d < 32) (to : Vectors) (t : Filled (vectors_of h) to d
    0 n x) where
  abbrev new : ℕ → ℕ
  new k = x k % 256

  abbrev g : ℕ → ℕ
  g = write_bytes f d n new

  byte-at : (q : ℕ) → q < 16 → get_or (bytes_in to d) q 0 ≡ (if nat_lt q n then new q else byte_of (f (lane d (q / 4))) (q % 4))
  byte-at q l = elim (cases_lt q n) [
    | inl s ↦ t.new q (omega arith) (omega (arith, s)) ∙ sym (if-below q n (new q) (byte_of (f (lane d (q / 4))) (q % 4)) s)
    | inr s ↦
        t.old q (inr (omega (arith, s))) ∙ byte-of (vector h d) q (a.whole d high) (a.bytes d high) l
        ∙ ap (λ z. byte_of z (q % 4)) (a.lanes d (q / 4) low high (omega (arith, l)))
        ∙ sym (if-above q n (new q) (byte_of (f (lane d (q / 4))) (q % 4)) s)
  ]

  are-bytes : AreBytes (bytes_in to d)
  are-bytes i = elim (cases_lt i n) [
    | inl s ↦ subst (λ z. z < 256) (sym (t.new i (omega arith) (omega (arith, s)))) (byte-low (x i))
    | inr s ↦ subst (λ z. z < 256) (sym (t.old i (inr (omega (arith, s))))) (a.bytes d high i)
  ]

  lane-at : (j : ℕ) → j < 4 → element 32 (bytes_in to d) j ≡ g (lane d j)
  lane-at j l =
      lane-of (bytes_in to d) j t.long l
      ∙ spelled-same (λ k. get_or (bytes_in to d) (4 * j + k) 0) (λ k. if nat_lt (4 * j + k) n then new (4 * j + k) else byte_of (f (lane d j)) k)
      (λ k s.
      let e : (4 * j + k) / 4 ≡ j = omega (arith, s) in
      let o : (4 * j + k) % 4 ≡ k = omega (arith, s) in
      byte-at (4 * j + k) (omega (arith, l, s)) ∙ ap (λ z. if nat_lt (4 * j + k) n then new (4 * j + k) else byte_of (f (lane d z)) ((4 * j + k) % 4)) e
      ∙ ap (λ z. if nat_lt (4 * j + k) n then new (4 * j + k) else byte_of (f (lane d j)) z) o)
      ∙ sym (lanes-new f d 4 (λ j. of_bytes (λ k. if nat_lt (4 * j + k) n then new (4 * j + k) else byte_of (f (lane d j)) k)) (lane d j) j refl l)

  below : (q : ℕ) → q < lane d 0 → f q ≡ g q
  below q l = sym (lanes-below f d 4 (λ j. of_bytes (λ k. if nat_lt (4 * j + k) n then new (4 * j + k) else byte_of (f (lane d j)) k)) q l)

  above : (q : ℕ) → lane d 4 ≤ q → f q ≡ g q
  above q l = sym (lanes-above f d 4 (λ j. of_bytes (λ k. if nat_lt (4 * j + k) n then new (4 * j + k) else byte_of (f (lane d j)) k)) q l)

  outside : (u i : ℕ) → u ≢ d → i < 4 → f (lane u i) ≡ g (lane u i)
  outside u i n few = elim (cases_lt u d) [
    | inl l ↦ below (lane u i) (omega (arith, l, few))
    | inr l ↦ above (lane u i) (omega (arith, l, n))
  ]

  shape : (u : ℕ) → u < 32 → (length (bytes_in to u) ≡ 16) × AreBytes (bytes_in to u)
  shape u l = elim (cases_eq u d) [
    | inl e ↦ subst (λ z. (length (bytes_in to z) ≡ 16) × AreBytes (bytes_in to z)) (sym e) (t.long, are-bytes)
    | inr n ↦ subst (λ r. (length r ≡ 16) × AreBytes r) (sym (t.others u n)) (a.whole u l, a.bytes u l)
  ]

  bytes-written : At at g (with_vectors h to)
  bytes-written = record {
    running = a.running;
    pc = a.pc;
    full = a.full;
    same = λ r l. a.same r l ∙ below r (omega (arith, l));
    wide = t.size ∙ a.wide;
    whole = λ u l. (shape u l).0;
    bytes = λ u l. (shape u l).1;
    vl = t.vl ∙ a.vl ∙ below 32 (omega arith);
    vtype = t.vtype ∙ a.vtype ∙ below 33 (omega arith);
    lanes = λ u i lo hi few. elim (cases_eq u d) [
      | inl e ↦ ap (λ z. element 32 (bytes_in to z) i) e ∙ lane-at i few ∙ ap (λ z. g (lane z i)) (sym e)
      | inr n ↦ ap (λ r. element 32 r i) (t.others u n) ∙ a.lanes u i lo hi few ∙ outside u i n few
    ];
    bits = λ i few. ap (λ r. one_if (mask_bit r i)) (t.others 0 (λ e. omega (arith, e, low))) ∙ a.bits i few ∙ above (bit i) (omega (arith, high));
  }

-- ---- what was written

pub byte-written : (f : ℕ → ℕ) (d n : ℕ) (new : ℕ → ℕ) (k : ℕ) → k < n → n ≤ 16 → ((i : ℕ) → i < n → new i < 256)
    → byte_of (write_bytes f d n new (lane d (k / 4))) (k % 4) ≡ new k
byte-written f d n new k l most small =
    let F : ℕ → ℕ → ℕ = λ j p. if nat_lt (4 * j + p) n then new (4 * j + p) else byte_of (f (lane d j)) p in
    let e : 4 * (k / 4) + k % 4 ≡ k = omega arith in
    ap (λ z. byte_of z (k % 4)) (lanes-new f d 4 (λ j. of_bytes (F j)) (lane d (k / 4)) (k / 4) refl (omega (arith, l, most)))
    ∙ byte-spelled (F (k / 4))
    (λ p few. elim (cases_lt (4 * (k / 4) + p) n) [
      | inl s ↦ subst (λ z. z < 256) (sym (if-below (4 * (k / 4) + p) n (new (4 * (k / 4) + p)) (byte_of (f (lane d (k / 4))) p) s)) (small (4 * (k / 4) + p) s)
      | inr s ↦ subst (λ z. z < 256) (sym (if-above (4 * (k / 4) + p) n (new (4 * (k / 4) + p)) (byte_of (f (lane d (k / 4))) p) s))
          (byte-low (f (lane d (k / 4)) / 256 ^ p))
    ])
    (k % 4) (omega arith)
    ∙ if-below (4 * (k / 4) + k % 4) n (new (4 * (k / 4) + k % 4)) (byte_of (f (lane d (k / 4))) (k % 4)) (omega (arith, e, l)) ∙ ap new e

pub bytes-apart : (f : ℕ → ℕ) (d n : ℕ) (new : ℕ → ℕ) (q : ℕ) → (q < lane d 0) ⊎ (lane d 4 ≤ q) → write_bytes f d n new q ≡ f q
bytes-apart f d n new q o =
    let F : ℕ → ℕ = λ j. of_bytes (λ p. if nat_lt (4 * j + p) n then new (4 * j + p) else byte_of (f (lane d j)) p) in
    elim o [ inl l ↦ lanes-below f d 4 F q l | inr l ↦ lanes-above f d 4 F q l ]

-- ---- the row

not-many : (q u : ℕ) → q ≤ 1 → (nat_lt 4 q || (nat_lt 1 q && not (u % q == 0))) ≡ false
not-many zero u l = refl
not-many (suc zero) u l = refl
not-many (suc (suc q)) u l = absurd (omega (arith, l))

module _ (at g : ℕ) (f : ℕ → ℕ) (h : HartState) (s : At at f h) (c : LanesConfigured f g) where
  fits : (d : ℕ) → is_unfit (vectors_of h) (Some (widths.Bits8, d)) ≡ false
  fits d =
      let few = few-registers f g c in
      let e : group_at (vectors_of h) widths.Bits8 ≡ 8 * g / 32 = ap (λ q. 8 * q / width (vectors_of h)) (ap group_of s.vtype ∙ c.group)
      ∙ ap (λ x. 8 * g / x) (width-is at g f h s c) in
      ap (λ q. nat_lt 4 q || (nat_lt 1 q && not (d % q == 0))) e ∙ not-many (8 * g / 32) d (omega (arith, few))

  legal : (d b : ℕ) → is_refused (v.LoadElements widths.Bits8 d b addressings.UnitStride true) (vectors_of h) ≡ false
  legal d b = allowed at g f h s c (v.LoadElements widths.Bits8 d b addressings.UnitStride true) refl refl tt (fits d)

  bytes-lie : (b : ℕ) (a : ℕ → ℕ) → b < 32 → ((k : ℕ) → k < f vl_number → word.add 32 (f b) k ≡ a k)
      → addresses_by (vectors_of h) (spacing_of widths.Bits8 addressings.UnitStride (register h)) true (register h b) ≡ firsts 0 (f vl_number) a
  unfolding addresses_by
  bytes-lie b a lb e =
      let F = offset (vectors_of h) (spacing_of widths.Bits8 addressings.UnitStride (register h)) in
      ap (map (word.add 32 (register h b))) (first-active at g f h s c F) ∙ map-firsts 0 (f vl_number) F (word.add 32 (register h b))
      ∙ firsts-same 0 (f vl_number) (λ k. word.add 32 (register h b) (F k)) a
      (λ k lo hi. let o : k * 1 ≡ k = omega arith in ap (λ z. word.add 32 z (k * 1)) (s.same b lb) ∙ ap (word.add 32 (f b)) o ∙ e k (omega (arith, hi)))

pub loads-bytes : (w : World) (f : ℕ → ℕ) (m : List ℕ) → length m ≡ w.size → (g : ℕ) → LanesConfigured f g → (d b : ℕ) (a : ℕ → ℕ) → 1 ≤ d → d < 32 → b < 32
    → ((k : ℕ) → k < f vl_number → word.add 32 (f b) k ≡ a k) → AllReadable w Byte (f vl_number) a
    → Line w (Vector (v.LoadElements widths.Bits8 d b addressings.UnitStride true) ∷ []) f m (write_bytes f d (f vl_number) (λ k. number_in w.text m Byte (a k)
    % 256)) m
loads-bytes w f m l g c d b a low high lb e can at s h st =
    let n = f vl_number in
    let x : ℕ → ℕ = λ k. number_in w.text m Byte (a k) in
    let g' : ℕ → ℕ = write_bytes f d n (λ k. x k % 256) in
    let places = addresses_by (vectors_of h) (spacing_of widths.Bits8 addressings.UnitStride (register h)) true (register h b) in
    let there : places ≡ firsts 0 n a = bytes-lie at g f h st c b a lb e in
    let flags = active_in (vectors_of h) true in
    let after = filled_from 0 (vectors_of h) 8 d flags (firsts 0 n x) in
    let left : HartState = with_vectors h after in
    let long = flags-length at g f h st c in
    let most = c.fits in
    let few = few-registers f g c in
    let wide = st.wide in
    let t = filled d 0 n (vectors_of h) flags x (omega (arith, wide, high)) (st.whole d high) (omega (arith, most, few)) (omega (arith, long, most))
    (flag-on at g f h st c) (flag-off at g f h st c) in
    let here : At at g' left = bytes-written at f h d n x st low high after t in
    let el : (left.pc + 4) % 2 ^ 32 ≡ at + 4 = ap (λ p. (p + 4) % 2 ^ 32) here.pc ∙ mod-eq_of_lt (spot w.text (at + 4) [] s.1).low in
    let gone : At (at + 4) g' (advanced left) = subst (λ p. At (at + 4) g' (at_pc left p)) (sym el) (at-to at (at + 4) g' left here) in
    let read : map (number_at w.text m) (map (access_at Byte) places) ≡ firsts 0 n x = ap (λ q. map (number_at w.text m) (map (access_at Byte) q)) there
    ∙ numbers-read w.text m Byte 0 n a in
    in-front w (Comes (at + 4) g' m) 0 at (Vector (v.LoadElements widths.Bits8 d b addressings.UnitStride true)) h m l st.running st.pc s.0
    (ap (λ z. or_else (cond z (Some IllegalInstruction) None) (or_else (first_fault (length w.text) w.size Reads (map (access_at Byte) places)) None))
    (legal at g f h st c d b)
    ∙ ap (λ q. or_else (first_fault (length w.text) w.size Reads (map (access_at Byte) q)) None) there
    ∙ ap (λ z. or_else z None) (all-free (length w.text) w.size Reads Byte 0 n a (λ k lo hi. let lk : k < n = omega (arith, hi) in
    load-free Byte (length w.text) w.size (a k) (can.aligned k lk) (can.above k lk) (can.below k lk))))
    (subst (λ q. Within (λ y. MayRead w.job w.hart (w.uses y)) (touched (map (access_at Byte) q))) (sym there)
    (all-within (λ y. MayRead w.job w.hart (w.uses y)) Byte 0 n a (λ k lo hi. can.may k (omega (arith, hi)))))
    tt (keeps-none w)
    (subst (λ r. At (at + 4) g' (advanced (with_vectors h (filled_from 0 (vectors_of h) 8 d flags r)))) (sym read) gone, refl)

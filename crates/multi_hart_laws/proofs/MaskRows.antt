-- Vector rows that write mask bits of v0, and those that choose lanes by them.
use Rattle.std.proofs.Common.{◌≡◌, ℕ, zero, suc, ◌+◌, ◌-◌, ◌*◌, ◌/◌, ◌%◌, ◌^◌, ◌<◌, ◌≤◌, List, [], ◌∷◌, length, get_or, None, Some, Bool, true, false, refl, ap}
use Rattle.std.proofs.Common.{◌∙◌, sym, subst, arith, inl, inr, length-set}
use Rattle.std.specs.Prelude.{◌==◌, ◌&&◌, if◌then◌else◌, cond, replicate, slice_set, nat_lt, nat_le, ℤ}
use Rattle.std.proofs.Math.Nat.{mod-eq_of_lt}
use Rattle.std.proofs.lemmas.Bool.{cases_lt, cases_eq}
use Rattle.std.proofs.lemmas.Bool.Decides.{nat_tests}
use Rattle.std.proofs.lemmas.Nat.{pow_below, or_of_8, and_le_l}
use Rattle.std.proofs.lemmas.List.FromFn.{length-map-range_with_len, get_or-map-range_with_len}
use Rattle.memory.specs.Access.{AreBytes, NoAccess, or_else}
use Rattle.memory.proofs.StaysBytes.{more-bytes}
use Rattle.lanes.specs.Words as word
use Rattle.lanes.specs.Words.{element, zip_with, mask_bit, mask_bits, active, with_bit, with_mask_bit, with_mask_bits_from}
use Rattle.lanes.proofs.MaskReadings.{mask_bits_back}
use Rattle.rv_insn.specs.declared.outcomes.Trap.TheVariants.{IllegalInstruction}
use Rattle.rv_insn.specs.declared.instructions.Insn.TheVariants.{Vector}
use Rattle.rv_insn.specs.declared.vector_instructions.VectorInsn.{VectorInsn}
use Rattle.rv_insn.specs.declared.vector_instructions.VectorInsn.TheVariants as v
use Rattle.rv_insn.specs.declared.vector_operations.CompareVvOp.{CompareVvOp}
use Rattle.rv_insn.specs.declared.vector_operations.CompareVxOp.{CompareVxOp}
use Rattle.rv_insn.specs.declared.vector_operations.CompareViOp.{CompareViOp}
use Rattle.multi_hart.specs.Run.{Within}
use Rattle.hart_core.specs.Scalar.{one_if, kind_of, after}
use Rattle.hart_core.specs.HartState.{HartState, register, vector, vectors_of, with_vectors, advanced}
use Rattle.hart_core.specs.Turn.{fault}
use Rattle.vector_unit.specs.Vector.{register as group_register, vlmul_of, vsew_of, of_group, of_scalar, of_immediate, width, count, with_bits, merged_by_mask}
use Rattle.vector_unit.specs.Vector.{is_refused, overwrites_mask, fixed_width, is_other_width, groups_in, moved_in, is_unfit}
use Rattle.vector_unit.specs.Operations as op
use Rattle.multi_hart_laws.specs.Alone.{World}
use Rattle.multi_hart_laws.specs.Paths.{lane, bit, vl_number, vtype_number, write_lanes, write_bits, LanesConfigured, IsGroup, At, Line}
use Rattle.multi_hart_laws.proofs.Groups.{index-same, index-other}
use Rattle.multi_hart_laws.proofs.LaneRows.{lanes-new, lanes-below, lanes-above, or-either, merged-length, merged-get}
use Rattle.multi_hart_laws.proofs.LaneWords.{rest-below, wrapped-below, one-of}
use Rattle.multi_hart_laws.proofs.Flags.{flags-length, flag-on, flag-off}
use Rattle.multi_hart_laws.proofs.VectorRows.{Lists, zipped-length, zipped-get, width-is, count-is, of-group, of-scalar, of-immediate, lane-below, allowed}
use Rattle.multi_hart_laws.proofs.VectorRows.{untrapped, leaves, sets}

-- ---- the bytes of a mask

set-bytes : (xs : List ℕ) (i y : ℕ) → AreBytes xs → y < 256 → AreBytes (slice_set xs i y)
set-bytes [] i y b l = b
set-bytes (x ∷ xs) zero y b l = more-bytes y xs l (λ j. b (suc j))
set-bytes (x ∷ xs) (suc i) y b l = more-bytes x (slice_set xs i y) (b 0) (set-bytes xs i y (λ j. b (suc j)) l)

bit-below : (byte k : ℕ) (t : Bool) → byte < 256 → k < 8 → with_bit byte k t < 256
bit-below byte k true b l = or_of_8 byte (2 ^ k) b (pow_below k 8 l)
bit-below byte k false b l = let q = and_le_l byte (255 - 2 ^ k) in omega (arith, q, b)

mask-byte : (bytes : List ℕ) (i : ℕ) (t : Bool) → AreBytes bytes → AreBytes (with_mask_bit bytes i t)
mask-byte bytes i t b = let l : i % 8 < 8 = omega arith in set-bytes bytes (i / 8) _ b (bit-below _ (i % 8) t (b (i / 8)) l)

mask-bytes : (i : ℕ) (flags bits : List Bool) (bytes : List ℕ) → AreBytes bytes → AreBytes (with_mask_bits_from i flags bits bytes)
mask-bytes i [] bits bytes b = b
mask-bytes i (t ∷ flags) [] bytes b = b
mask-bytes i (true ∷ flags) (s ∷ bits) bytes b = mask-bytes (i + 1) flags bits (with_mask_bit bytes i s) (mask-byte bytes i s b)
mask-bytes i (false ∷ flags) (s ∷ bits) bytes b = mask-bytes (i + 1) flags bits bytes b

mask-length : (i : ℕ) (flags bits : List Bool) (bytes : List ℕ) → length (with_mask_bits_from i flags bits bytes) ≡ length bytes
mask-length i [] bits bytes = refl
mask-length i (t ∷ flags) [] bytes = refl
mask-length i (true ∷ flags) (s ∷ bits) bytes = mask-length (i + 1) flags bits (with_mask_bit bytes i s) ∙ length-set bytes (i / 8) _
mask-length i (false ∷ flags) (s ∷ bits) bytes = mask-length (i + 1) flags bits bytes

-- ---- a hart whose mask bits were written

module _ (at g : ℕ) (f : ℕ → ℕ) (h : HartState) (tests : List Bool) (T : ℕ → Bool) (small : at + 4 < 2 ^ 32) (a : At at f h) (c : LanesConfigured f g)
    (fits : 4 * g ≤ 128) (size : length tests ≡ 4 * g) (get : (k : ℕ) → k < 4 * g → get_or tests k false ≡ T k) where
  abbrev old : List ℕ
  old = group_register (vectors_of h) 0

  abbrev flags : List Bool
  flags = active 0 (count (vectors_of h)) h.vl true old

  abbrev mask : List ℕ
  mask = with_mask_bits_from 0 flags tests old

  abbrev after-bits : ℕ → ℕ
  after-bits = write_bits f (f 32) (λ k. one_if (T k))

  old-is : old ≡ vector h 0
  old-is = or-either h.vectors 0 (replicate 16 0) [] (let q = a.wide in omega (arith, q))

  old-length : length old ≡ 16
  old-length = ap length old-is ∙ a.whole 0 (omega arith)

  bits-after : (i : ℕ) → i < 128 → one_if (mask_bit mask i) ≡ after-bits (bit i)
  bits-after i few =
      let back = mask_bits_back flags tests old i old-length (flags-length at g f h a c ∙ sym size) (omega (arith, size, fits)) in
      elim (cases_lt i (f 32)) [
        | inl s ↦
            let l : i < 4 * g = (let q = c.fits in omega (arith, s, q)) in
            ap one_if (back ∙ ap (λ b. if b then get_or tests i false else mask_bit old i) (flag-on at g f h a c i s) ∙ get i l)
            ∙ sym (lanes-new f 32 (f 32) (λ k. one_if (T k)) (bit i) i (omega arith) s)
        | inr s ↦
            ap one_if (back ∙ ap (λ b. if b then get_or tests i false else mask_bit old i) (flag-off at g f h a c i s) ∙ ap (λ r. mask_bit r i) old-is)
            ∙ a.bits i few ∙ sym (lanes-above f 32 (f 32) (λ k. one_if (T k)) (bit i) (omega (arith, s)))
      ]

  abbrev to : HartState
  to = advanced (with_vectors h (with_bits (vectors_of h) 0 true tests))

  first : vector to 0 ≡ mask
  first = index-same h.vectors 0 mask [] (let q = a.wide in omega (arith, q))

  others : (u : ℕ) → 1 ≤ u → vector to u ≡ vector h u
  others u l = index-other h.vectors 0 u mask [] (λ e. omega (arith, e, l))

  below : (q : ℕ) → q < bit 0 → after-bits q ≡ f q
  below q l = lanes-below f 32 (f 32) (λ k. one_if (T k)) q (omega (arith, l))

  shape : (u : ℕ) → u < 32 → (length (vector to u) ≡ 16) × AreBytes (vector to u)
  shape u l = elim (cases_eq u 0) [
    | inl e ↦ subst (λ r. (length r ≡ 16) × AreBytes r) (sym (ap (vector to) e ∙ first))
        (mask-length 0 flags tests old ∙ old-length, mask-bytes 0 flags tests old (subst AreBytes (sym old-is) (a.bytes 0 (omega arith))))
    | inr n ↦ subst (λ r. (length r ≡ 16) × AreBytes r) (sym (others u (omega (arith, n)))) (a.whole u l, a.bytes u l)
  ]

  pub bits-given : At (at + 4) after-bits to
  bits-given = record {
    running = a.running;
    pc = ap (λ n. (n + 4) % 2 ^ 32) a.pc ∙ mod-eq_of_lt small;
    full = a.full;
    same = λ r l. a.same r l ∙ sym (below r (omega (arith, l)));
    wide = length-set h.vectors 0 mask ∙ a.wide;
    whole = λ u l. (shape u l).0;
    bytes = λ u l. (shape u l).1;
    vl = a.vl ∙ sym (below 32 (omega arith));
    vtype = a.vtype ∙ sym (below 33 (omega arith));
    lanes = λ u i lo hi few. ap (λ r. element 32 r i) (others u lo) ∙ a.lanes u i lo hi few ∙ sym (below (lane u i) (omega (arith, hi, few)));
    bits = λ i few. ap (λ r. one_if (mask_bit r i)) first ∙ bits-after i few;
  }

-- ---- how many lanes there are at most

second-of : (p q r : Bool) → (p && q && r) ≡ true → q ≡ true
second-of true true r e = refl
second-of true false r e = absurd (cc e)
second-of false q r e = absurd (cc e)

power-few : (x : ℕ) → nat_le x 2 ≡ true → 2 ^ x ≤ 4
power-few zero e = omega arith
power-few (suc zero) e = omega arith
power-few (suc (suc zero)) e = omega arith
power-few (suc (suc (suc x))) e = let t : nat_le (suc (suc (suc x))) 2 ≡ false = grind (arith, nat_tests) in absurd (cc (e, t))

pub few-registers : (f : ℕ → ℕ) (g : ℕ) → LanesConfigured f g → g ≤ 4
few-registers f g c =
    let t = f vtype_number in
    subst (λ n. n ≤ 4) c.group (power-few (vlmul_of t) (second-of (nat_lt t 256) (nat_le (vlmul_of t) 2) (nat_le (vsew_of t) 2) c.supported))

bit-choice : (t : Bool) (n x y : ℕ) → one_if t ≡ n → (if t then x else y) ≡ (if n == 0 then y else x)
bit-choice true n x y e = ap (λ z. if z == 0 then y else x) e
bit-choice false n x y e = ap (λ z. if z == 0 then y else x) e

-- ---- rows

module _ (w : World) (f : ℕ → ℕ) (m : List ℕ) (l : length m ≡ w.size) (g : ℕ) (c : LanesConfigured f g) where
  sets-bits : (i : VectorInsn) (tests : HartState → List Bool) (T : ℕ → Bool)
      → kind_of (Vector i) ≡ NoAccess
      → overwrites_mask i ≡ false
      → ((h : HartState) → is_other_width (vectors_of h) (fixed_width i) ≡ false)
      → Within (IsGroup g) (groups_in i)
      → moved_in i ≡ None
      → ((h : HartState) → fault (length w.text) w.size (Vector i) h ≡ or_else (cond (is_refused i (vectors_of h)) (Some IllegalInstruction) None) None)
      → ((h : HartState) (read : List ℕ) → after (Vector i) h read ≡ advanced (with_vectors h (with_bits (vectors_of h) 0 true (tests h))))
      → ((at : ℕ) (h : HartState) → At at f h → length (tests h) ≡ 4 * g)
      → ((at : ℕ) (h : HartState) → At at f h → (k : ℕ) → k < 4 * g → get_or (tests h) k false ≡ T k)
      → Line w (Vector i ∷ []) f m (write_bits f (f vl_number) (λ k. one_if (T k))) m
  sets-bits i tests T none keeps same placed moved is-fault is-after size get =
      leaves w f m l i (write_bits f (f vl_number) (λ k. one_if (T k))) (λ h. advanced (with_vectors h (with_bits (vectors_of h) 0 true (tests h)))) none
      (λ at h a. untrapped at g f h a c (length w.text) w.size i (is-fault h) (allowed at g f h a c i keeps (same h) placed (ap (is_unfit (vectors_of h))
      moved)))
      is-after
      (λ at h low a. bits-given at g f h (tests h) T low a c (let q = few-registers f g c in omega (arith, q)) (size at h a) (get at h a))

  -- tests of two lists of lanes
  compares : (i : VectorInsn) (o : ℕ → ℕ → ℕ → Bool) (xs ys : HartState → List ℕ) (F G : ℕ → ℕ)
      → kind_of (Vector i) ≡ NoAccess
      → overwrites_mask i ≡ false
      → ((h : HartState) → is_other_width (vectors_of h) (fixed_width i) ≡ false)
      → Within (IsGroup g) (groups_in i)
      → moved_in i ≡ None
      → ((h : HartState) → fault (length w.text) w.size (Vector i) h ≡ or_else (cond (is_refused i (vectors_of h)) (Some IllegalInstruction) None) None)
      → ((h : HartState) (read : List ℕ)
      → after (Vector i) h read ≡ advanced (with_vectors h (with_bits (vectors_of h) 0 true (zip_with (o (width (vectors_of h))) (xs h) (ys h)))))
      → ((at : ℕ) (h : HartState) → At at f h → Lists (4 * g) (xs h) F)
      → ((at : ℕ) (h : HartState) → At at f h → Lists (4 * g) (ys h) G)
      → Line w (Vector i ∷ []) f m (write_bits f (f vl_number) (λ k. one_if (o 32 (F k) (G k)))) m
  compares i o xs ys F G none keeps same placed moved is-fault is-after first second =
      sets-bits i (λ h. zip_with (o (width (vectors_of h))) (xs h) (ys h)) (λ k. o 32 (F k) (G k)) none keeps same placed moved is-fault is-after
      (λ at h s. zipped-length (o (width (vectors_of h))) (xs h) (ys h) (4 * g) (first at h s).size (second at h s).size)
      (λ at h s k lk.
      let p = first at h s in
      let q = second at h s in
      zipped-get (o (width (vectors_of h))) false (xs h) (ys h) (4 * g) k p.size q.size lk
      ∙ ap (λ n. o n (get_or (xs h) k 0) (get_or (ys h) k 0)) (width-is at g f h s c) ∙ ap (λ n. o 32 n (get_or (ys h) k 0)) (p.get k lk)
      ∙ ap (o 32 (F k)) (q.get k lk))

  pub compare-vv : (o : CompareVvOp) (a b : ℕ) → IsGroup g a → IsGroup g b
      → Line w (Vector (v.CompareVv o 0 a b true) ∷ []) f m (write_bits f (f vl_number) (λ k. one_if (op.compare_vv o 32 (f (lane a k)) (f (lane b k))))) m
  compare-vv o a b ia ib =
      compares (v.CompareVv o 0 a b true) (op.compare_vv o) (λ h. of_group (vectors_of h) a) (λ h. of_group (vectors_of h) b) (λ k. f (lane a k))
      (λ k. f (lane b k))
      refl refl (λ h. refl) (ia, (ib, tt)) refl (λ h. refl) (λ h read. refl) (λ at h s. of-group at g f h s c a ia) (λ at h s. of-group at g f h s c b ib)

  pub compare-vx : (o : CompareVxOp) (a r : ℕ) → IsGroup g a → r < 32
      → Line w (Vector (v.CompareVx o 0 a r true) ∷ []) f m (write_bits f (f vl_number) (λ k. one_if (op.compare_vx o 32 (f (lane a k)) (f r % 2 ^ 32)))) m
  compare-vx o a r ia lr =
      compares (v.CompareVx o 0 a r true) (op.compare_vx o) (λ h. of_group (vectors_of h) a) (λ h. of_scalar (vectors_of h) (register h r)) (λ k. f (lane a k))
      (λ k. f r % 2 ^ 32)
      refl refl (λ h. refl) (ia, tt) refl (λ h. refl) (λ h read. refl) (λ at h s. of-group at g f h s c a ia) (λ at h s. of-scalar at g f h s c r lr)

  pub compare-vi : (o : CompareViOp) (a : ℕ) (z : ℤ) → IsGroup g a
      → Line w (Vector (v.CompareVi o 0 a z true) ∷ []) f m (write_bits f (f vl_number) (λ k. one_if (op.compare_vi o 32 (f (lane a k)) (word.wrapped 32 z)))) m
  compare-vi o a z ia =
      compares (v.CompareVi o 0 a z true) (op.compare_vi o) (λ h. of_group (vectors_of h) a) (λ h. of_immediate (vectors_of h) z) (λ k. f (lane a k))
      (λ k. word.wrapped 32 z)
      refl refl (λ h. refl) (ia, tt) refl (λ h. refl) (λ h read. refl) (λ at h s. of-group at g f h s c a ia) (λ at h s. of-immediate at g f h s c z)

  -- ---- lanes chosen by the mask

  off-mask : (d : ℕ) → IsGroup g d → (d == 0) ≡ false
  off-mask d i = let p = i.above_mask in grind (arith, nat_tests, p)

  chosen : (at : ℕ) (h : HartState) (xs ys : List ℕ) (F G : ℕ → ℕ) → At at f h → Lists (4 * g) xs F → Lists (4 * g) ys G
      → Lists (4 * g) (merged_by_mask (vectors_of h) xs ys) (λ k. if f (bit k) == 0 then G k else F k)
  unfolding mask_bits
  chosen at h xs ys F G s p q =
      let old = group_register (vectors_of h) 0 in
      let old-is : old ≡ vector h 0 = or-either h.vectors 0 (replicate 16 0) [] (let e = s.wide in omega (arith, e)) in
      let e = count-is at g f h s c in
      let size : length (mask_bits 0 (count (vectors_of h)) old) ≡ 4 * g = length-map-range_with_len (λ i. mask_bit old (0 + i)) 0 (count (vectors_of h)) ∙ e in
      record {
        size = merged-length (mask_bits 0 (count (vectors_of h)) old) xs ys (4 * g) size p.size q.size;
        get = λ k lk.
            let within : k < count (vectors_of h) = omega (arith, e, lk) in
            let few : k < 128 = let n = few-registers f g c in omega (arith, n, lk) in
            let here : get_or (mask_bits 0 (count (vectors_of h)) old) k false ≡ mask_bit (vector h 0) k =
            get_or-map-range_with_len (λ i. mask_bit old (0 + i)) 0 (count (vectors_of h)) k k false within (omega arith)
            ∙ (let z : 0 + k ≡ k = omega arith in ap (mask_bit old) z) ∙ ap (λ r. mask_bit r k) old-is in
            merged-get (mask_bits 0 (count (vectors_of h)) old) xs ys (4 * g) k size p.size q.size lk
            ∙ ap (λ t. cond t (get_or xs k 0) (get_or ys k 0)) here
            ∙ bit-choice (mask_bit (vector h 0) k) (f (bit k)) (get_or xs k 0) (get_or ys k 0) (s.bits k few)
            ∙ ap (λ n. if f (bit k) == 0 then n else get_or xs k 0) (q.get k lk) ∙ ap (λ n. if f (bit k) == 0 then G k else n) (p.get k lk);
      }

  pub merge-vv : (d a b : ℕ) → IsGroup g d → IsGroup g a → IsGroup g b
      → Line w (Vector (v.MergeVv d a b) ∷ []) f m (write_lanes f d (f vl_number) (λ k. if f (bit k) == 0 then f (lane a k) else f (lane b k))) m
  merge-vv d a b id ia ib =
      sets w f m l g c (v.MergeVv d a b) d (λ h. merged_by_mask (vectors_of h) (of_group (vectors_of h) b) (of_group (vectors_of h) a))
      (λ k. if f (bit k) == 0 then f (lane a k) else f (lane b k)) id
      refl (off-mask d id) (λ at h s. refl) (id, (ia, (ib, tt))) refl (λ h. refl) (λ h read. refl)
      (λ at h s. chosen at h _ _ _ _ s (of-group at g f h s c b ib) (of-group at g f h s c a ia))
      (λ at h s k lk. one-of _ _ _ (lane-below at g f h s c a k ia lk) (lane-below at g f h s c b k ib lk))

  pub merge-vx : (d a r : ℕ) → IsGroup g d → IsGroup g a → r < 32
      → Line w (Vector (v.MergeVx d a r) ∷ []) f m (write_lanes f d (f vl_number) (λ k. if f (bit k) == 0 then f (lane a k) else f r % 2 ^ 32)) m
  merge-vx d a r id ia lr =
      sets w f m l g c (v.MergeVx d a r) d (λ h. merged_by_mask (vectors_of h) (of_scalar (vectors_of h) (register h r)) (of_group (vectors_of h) a))
      (λ k. if f (bit k) == 0 then f (lane a k) else f r % 2 ^ 32) id
      refl (off-mask d id) (λ at h s. refl) (id, (ia, tt)) refl (λ h. refl) (λ h read. refl)
      (λ at h s. chosen at h _ _ _ _ s (of-scalar at g f h s c r lr) (of-group at g f h s c a ia))
      (λ at h s k lk. one-of _ _ _ (lane-below at g f h s c a k ia lk) (rest-below (f r)))

  pub merge-vi : (d a : ℕ) (z : ℤ) → IsGroup g d → IsGroup g a
      → Line w (Vector (v.MergeVi d a z) ∷ []) f m (write_lanes f d (f vl_number) (λ k. if f (bit k) == 0 then f (lane a k) else word.wrapped 32 z)) m
  merge-vi d a z id ia =
      sets w f m l g c (v.MergeVi d a z) d (λ h. merged_by_mask (vectors_of h) (of_immediate (vectors_of h) z) (of_group (vectors_of h) a))
      (λ k. if f (bit k) == 0 then f (lane a k) else word.wrapped 32 z) id
      refl (off-mask d id) (λ at h s. refl) (id, (ia, tt)) refl (λ h. refl) (λ h read. refl)
      (λ at h s. chosen at h _ _ _ _ s (of-immediate at g f h s c z) (of-group at g f h s c a ia))
      (λ at h s k lk. one-of _ _ _ (lane-below at g f h s c a k ia lk) (wrapped-below z))

-- Each kind of vector row that writes lanes of 32 bits, unmasked, or mask bits of v0.
use Rattle.std.proofs.Common.{◌≡◌, ℕ, zero, suc, ◌+◌, ◌-◌, ◌*◌, ◌%◌, ◌^◌, ◌<◌, ◌≤◌, List, [], ◌∷◌, length, get_or, None, Some, true, false, refl, ap, ◌∙◌, sym}
use Rattle.std.proofs.Common.{subst, arith, inl, inr}
use Rattle.std.specs.Prelude.{◌/◌, ◌==◌, ◌||◌, not, cond, map, replicate, slice_index, ℤ}
use Rattle.std.specs.List.{range_with_len}
use Rattle.std.proofs.lemmas.Bool.{cases_lt}
use Rattle.std.proofs.lemmas.List.{length-replicate, get_or-replicate}
use Rattle.std.proofs.lemmas.List.FromFn.{length-range_with_len, get_or-range_with_len, length-map-range_with_len, get_or-map-range_with_len}
use Rattle.lanes.specs.Words as word
use Rattle.lanes.specs.Words.{element, zip_with}
use Rattle.rv_insn.specs.declared.outcomes.Trap.TheVariants.{IllegalInstruction}
use Rattle.rv_insn.specs.declared.instructions.Insn.TheVariants.{Vector}
use Rattle.rv_insn.specs.declared.vector_instructions.VectorInsn.{VectorInsn}
use Rattle.rv_insn.specs.declared.vector_instructions.VectorInsn.TheVariants as v
use Rattle.rv_insn.specs.declared.vector_operations.ArithmeticVvOp.{ArithmeticVvOp}
use Rattle.rv_insn.specs.declared.vector_operations.ArithmeticVxOp.{ArithmeticVxOp}
use Rattle.rv_insn.specs.declared.vector_operations.ArithmeticViOp.{ArithmeticViOp}
use Rattle.rv_insn.specs.declared.vector_operations.ShiftViOp.{ShiftViOp}
use Rattle.rv_insn.specs.declared.vector_operations.MultiplyOp.{MultiplyOp}
use Rattle.memory.specs.Access.{put, NoAccess, or_else, touched, spread, read_by, written_by}
use Rattle.multi_hart.specs.Run.{Within}
use Rattle.hart_core.specs.HartState.{HartState, register, vector, vectors_of, with_vectors, advanced}
use Rattle.hart_core.specs.Scalar.{kind_of, accesses, after, stored}
use Rattle.hart_core.specs.Turn.{fault, numbers_read}
use Rattle.vector_unit.specs.Vector.{Vectors, register as group_register, width_of, group_of, most_elements, is_supported, has_vill, element_from, of_group}
use Rattle.vector_unit.specs.Vector.{of_scalar, of_immediate, width, count, group, with_elements, is_refused, overwrites_mask, fixed_width, is_other_width}
use Rattle.vector_unit.specs.Vector.{groups_in, is_misplaced, moved_in, is_unfit}
use Rattle.vector_unit.specs.Operations as op
use Rattle.multi_hart_laws.specs.Uses.{MayRead, MayWrite}
use Rattle.multi_hart_laws.specs.Alone.{World, Keeps}
use Rattle.multi_hart_laws.specs.Paths.{lane, bit, vl_number, vtype_number, write_lanes, LanesConfigured, IsGroup, At, Comes, Line}
use Rattle.multi_hart_laws.proofs.Rules.{in-front}
use Rattle.multi_hart_laws.proofs.Paths.{spot}
use Rattle.multi_hart_laws.proofs.Rows.{keeps-none}
use Rattle.multi_hart_laws.proofs.LaneRows.{lanes-given, lanes-new, lanes-below, lanes-above, element-below, or-either}
use Rattle.multi_hart_laws.proofs.LaneWords.{rest-below, wrapped-below, vv-below, vx-below, vi-below, shift-below, multiply-below}

-- ---- lists told by functions

pub record Lists (n : ℕ) (xs : List ℕ) (F : ℕ → ℕ) : Type 0 where
  pub size : length xs ≡ n
  pub get : (k : ℕ) → k < n → get_or xs k 0 ≡ F k

pub zipped-length : {C : Type 0} (o : ℕ → ℕ → C) (xs ys : List ℕ) (n : ℕ) → length xs ≡ n → length ys ≡ n → length (zip_with o xs ys) ≡ n
zipped-length o [] ys n a b = a
zipped-length o (x ∷ xs) [] n a b = absurd (omega (arith, a, b))
zipped-length o (x ∷ xs) (y ∷ ys) zero a b = absurd (omega (arith, a))
zipped-length o (x ∷ xs) (y ∷ ys) (suc n) a b = ap suc (zipped-length o xs ys n (omega (arith, a)) (omega (arith, b)))

pub zipped-get : {C : Type 0} (o : ℕ → ℕ → C) (d : C) (xs ys : List ℕ) (n k : ℕ) → length xs ≡ n → length ys ≡ n → k < n
    → get_or (zip_with o xs ys) k d ≡ o (get_or xs k 0) (get_or ys k 0)
zipped-get o d [] ys n k a b l = absurd (omega (arith, a, l))
zipped-get o d (x ∷ xs) [] n k a b l = absurd (omega (arith, a, b, l))
zipped-get o d (x ∷ xs) (y ∷ ys) n zero a b l = refl
zipped-get o d (x ∷ xs) (y ∷ ys) zero (suc k) a b l = absurd (omega (arith, l))
zipped-get o d (x ∷ xs) (y ∷ ys) (suc n) (suc k) a b l = zipped-get o d xs ys n k (omega (arith, a)) (omega (arith, b)) (omega (arith, l))

pub zipped : (o : ℕ → ℕ → ℕ) (n : ℕ) (xs ys : List ℕ) (F G : ℕ → ℕ) → Lists n xs F → Lists n ys G → Lists n (zip_with o xs ys) (λ k. o (F k) (G k))
zipped o n xs ys F G p q = record {
  size = zipped-length o xs ys n p.size q.size;
  get = λ k l. zipped-get o 0 xs ys n k p.size q.size l ∙ ap (λ x. o x (get_or ys k 0)) (p.get k l) ∙ ap (o (F k)) (q.get k l);
}

pub alike : (n m y : ℕ) → m ≡ n → Lists n (replicate m y) (λ k. y)
alike n m y e = record {
  size = length-replicate m y ∙ e;
  get = λ k l. get_or-replicate m k y 0 (omega (arith, e, l));
}

-- ---- numbers

pub lanes-same : (f : ℕ → ℕ) (d n : ℕ) (new other : ℕ → ℕ) → ((k : ℕ) → k < n → new k ≡ other k) → (q : ℕ) → write_lanes f d n new q ≡ write_lanes f d n other q
lanes-same f d n new other e q = elim (cases_lt q (lane d 0)) [
  | inl l ↦ lanes-below f d n new q l ∙ sym (lanes-below f d n other q l)
  | inr l ↦ elim (cases_lt q (lane d n)) [
    | inl k ↦
        let i = q - lane d 0 in
        let s : i < n = omega (arith, l, k) in
        let p : q ≡ lane d i = omega (arith, l) in
        lanes-new f d n new q i p s ∙ e i s ∙ sym (lanes-new f d n other q i p s)
    | inr k ↦ lanes-above f d n new q k ∙ sym (lanes-above f d n other q k)
  ]
]

pub at-same : (at : ℕ) (f g : ℕ → ℕ) (h : HartState) → ((q : ℕ) → f q ≡ g q) → At at f h → At at g h
at-same at f g h e a = record {
  running = a.running;
  pc = a.pc;
  full = a.full;
  same = λ r l. a.same r l ∙ e r;
  wide = a.wide;
  whole = a.whole;
  bytes = a.bytes;
  vl = a.vl ∙ e vl_number;
  vtype = a.vtype ∙ e vtype_number;
  lanes = λ u i lo hi few. a.lanes u i lo hi few ∙ e (lane u i);
  bits = λ i few. a.bits i few ∙ e (bit i);
}

-- ---- operands of a hart that is somewhere

module _ (at g : ℕ) (f : ℕ → ℕ) (h : HartState) (a : At at f h) (c : LanesConfigured f g) where
  abbrev state : Vectors
  state = vectors_of h

  pub width-is : width state ≡ 32
  width-is = ap width_of a.vtype ∙ c.width

  pub count-is : count state ≡ 4 * g
  count-is = ap most_elements a.vtype ∙ c.most

  pub lane-is : (u k : ℕ) → IsGroup g u → k < 4 * g → element_from state 32 u k ≡ f (lane u k)
  lane-is u k i l =
      let here = u + k / 4 in
      let lo : 1 ≤ here = let p = i.above_mask in omega (arith, p) in
      let hi : here < 32 = let p = i.fits in omega (arith, p, l) in
      let few : k % 4 < 4 = omega arith in
      let e : lane here (k % 4) ≡ lane u k = omega arith in
      let was : group_register state here ≡ vector h here = or-either h.vectors here (replicate 16 0) [] (let q = a.wide in omega (arith, q, hi)) in
      ap (λ r. element 32 r (k % 4)) was ∙ a.lanes here (k % 4) lo hi few ∙ ap f e

  pub lane-below : (u k : ℕ) → IsGroup g u → k < 4 * g → f (lane u k) < 2 ^ 32
  lane-below u k i l =
      let here = u + k / 4 in
      let lo : 1 ≤ here = let p = i.above_mask in omega (arith, p) in
      let hi : here < 32 = let p = i.fits in omega (arith, p, l) in
      let few : k % 4 < 4 = omega arith in
      let e : lane here (k % 4) ≡ lane u k = omega arith in
      subst (λ n. n < 2 ^ 32) (a.lanes here (k % 4) lo hi few ∙ ap f e) (element-below (vector h here) (k % 4) (a.bytes here hi))

  pub of-group : (u : ℕ) → IsGroup g u → Lists (4 * g) (of_group state u) (λ k. f (lane u k))
  of-group u i =
      let e : of_group state u ≡ map (element_from state 32 u) (range_with_len 0 (4 * g)) =
      ap (λ w. map (element_from state w u) (range_with_len 0 (count state))) width-is ∙ ap (λ n. map (element_from state 32 u) (range_with_len 0 n))
      count-is in
      subst (λ xs. Lists (4 * g) xs (λ k. f (lane u k))) (sym e) (record {
        size = length-map-range_with_len (element_from state 32 u) 0 (4 * g);
        get = λ k l. get_or-map-range_with_len (element_from state 32 u) 0 (4 * g) k k 0 l (omega arith) ∙ lane-is u k i l;
      })

  pub of-scalar : (r : ℕ) → r < 32 → Lists (4 * g) (of_scalar state (register h r)) (λ k. f r % 2 ^ 32)
  of-scalar r l =
      let e : register h r % 2 ^ width state ≡ f r % 2 ^ 32 = ap (λ n. n % 2 ^ width state) (a.same r l) ∙ ap (λ w. f r % 2 ^ w) width-is in
      subst (λ y. Lists (4 * g) (replicate (count state) y) (λ k. f r % 2 ^ 32)) (sym e) (alike (4 * g) (count state) (f r % 2 ^ 32) count-is)

  pub of-immediate : (z : ℤ) → Lists (4 * g) (of_immediate state z) (λ k. word.wrapped 32 z)
  of-immediate z = subst (λ w. Lists (4 * g) (replicate (count state) (word.wrapped w z)) (λ k. word.wrapped 32 z)) (sym width-is) (alike (4 * g) (count state)
      (word.wrapped 32 z) count-is)

  -- ---- no trap

  group-placed : (u : ℕ) → IsGroup g u → not (u % group state == 0) ≡ false
  group-placed u i =
      let e : group state ≡ g = ap group_of a.vtype ∙ c.group in
      ap (λ n. not (u % n == 0)) e ∙ ap (λ n. not (n == 0)) i.placed

  pub all-placed : (us : List ℕ) → Within (IsGroup g) us → is_misplaced state us ≡ false
  all-placed [] p = refl
  all-placed (u ∷ us) p = ap (λ b. b || is_misplaced state us) (group-placed u p.0) ∙ all-placed us p.1

  pub no-vill : has_vill state ≡ false
  no-vill = ap (λ t. not (is_supported t)) a.vtype ∙ ap not c.supported

  pub allowed : (i : VectorInsn) → overwrites_mask i ≡ false → is_other_width state (fixed_width i) ≡ false → Within (IsGroup g) (groups_in i)
      → is_unfit state (moved_in i) ≡ false → is_refused i state ≡ false
  allowed i keeps same placed fit = rw (no-vill, keeps, same, all-placed (groups_in i) placed, fit) refl

  pub untrapped : (words size : ℕ) (i : VectorInsn) → fault words size (Vector i) h ≡ or_else (cond (is_refused i state) (Some IllegalInstruction) None) None
      → is_refused i state ≡ false → fault words size (Vector i) h ≡ None
  untrapped words size i e free = e ∙ ap (λ b. or_else (cond b (Some IllegalInstruction) None) None) free

-- ---- rows

module _ (w : World) (f : ℕ → ℕ) (m : List ℕ) (l : length m ≡ w.size) where
  -- a row that touches no memory, and leaves a hart with these numbers
  pub leaves : (i : VectorInsn) (g : ℕ → ℕ) (to : HartState → HartState)
      → kind_of (Vector i) ≡ NoAccess
      → ((at : ℕ) (h : HartState) → At at f h → fault (length w.text) w.size (Vector i) h ≡ None)
      → ((h : HartState) (read : List ℕ) → after (Vector i) h read ≡ to h)
      → ((at : ℕ) (h : HartState) → at + 4 < 2 ^ 32 → At at f h → At (at + 4) g (to h))
      → Line w (Vector i ∷ []) f m g m
  leaves i g to none ok is gives at s h a =
      let read = numbers_read w.text m h (Vector i) in
      let em : put m (touched (written_by (kind_of (Vector i)) (accesses (Vector i) h))) (spread (written_by (kind_of (Vector i)) (accesses (Vector i) h))
      (stored (Vector i) h read)) ≡ m =
      ap (λ k. put m (touched (written_by k (accesses (Vector i) h))) (spread (written_by k (accesses (Vector i) h)) (stored (Vector i) h read))) none in
      in-front w (Comes (at + 4) g m) 0 at (Vector i) h m l a.running a.pc s.0 (ok at h a)
      (subst (λ k. Within (λ b. MayRead w.job w.hart (w.uses b)) (touched (read_by k (accesses (Vector i) h)))) (sym none) tt)
      (subst (λ k. Within (λ b. MayWrite w.job w.hart (w.uses b)) (touched (written_by k (accesses (Vector i) h)))) (sym none) tt)
      (subst (λ k. Keeps w (touched (written_by k (accesses (Vector i) h)))) (sym none) (keeps-none w))
      (subst (At (at + 4) g) (sym (is h read)) (gives at h (spot w.text (at + 4) [] s.1).low a), em)

  module _ (g : ℕ) (c : LanesConfigured f g) where
    pub sets : (i : VectorInsn) (d : ℕ) (news : HartState → List ℕ) (new : ℕ → ℕ) → IsGroup g d
        → kind_of (Vector i) ≡ NoAccess
        → overwrites_mask i ≡ false
        → ((at : ℕ) (h : HartState) → At at f h → is_other_width (vectors_of h) (fixed_width i) ≡ false)
        → Within (IsGroup g) (groups_in i)
        → moved_in i ≡ None
        → ((h : HartState) → fault (length w.text) w.size (Vector i) h ≡ or_else (cond (is_refused i (vectors_of h)) (Some IllegalInstruction) None) None)
        → ((h : HartState) (read : List ℕ) → after (Vector i) h read ≡ advanced (with_vectors h (with_elements (vectors_of h) d true (news h))))
        → ((at : ℕ) (h : HartState) → At at f h → Lists (4 * g) (news h) new)
        → ((at : ℕ) (h : HartState) → At at f h → (k : ℕ) → k < 4 * g → new k < 2 ^ 32)
        → Line w (Vector i ∷ []) f m (write_lanes f d (f vl_number) new) m
    sets i d news new seat none keeps same placed moved is-fault is-after lists small =
        leaves i (write_lanes f d (f vl_number) new) (λ h. advanced (with_vectors h (with_elements (vectors_of h) d true (news h)))) none
        (λ at h a. untrapped at g f h a c (length w.text) w.size i (is-fault h) (allowed at g f h a c i keeps (same at h a) placed (ap (is_unfit (vectors_of h))
        moved)))
        is-after
        (λ at h low a.
        let p = lists at h a in
        let within : (k : ℕ) → k < f vl_number → k < 4 * g = λ k lk. (let q = c.fits in omega (arith, lk, q)) in
        let e : (k : ℕ) → k < f vl_number → slice_index (news h) k ≡ new k = λ k lk. p.get k (within k lk) in
        at-same (at + 4) (write_lanes f d (f vl_number) (slice_index (news h))) (write_lanes f d (f vl_number) new) _ (lanes-same f d (f vl_number)
        (slice_index (news h)) new e)
        (lanes-given at d g f h (news h) low a c seat.above_mask seat.fits p.size (λ k lk. subst (λ n. n < 2 ^ 32) (sym (e k lk))
        (small at h a k (within k lk)))))

    -- ---- operations on two lanes, on a lane and a number, on a lane and an immediate

    pub arithmetic-vv : (o : ArithmeticVvOp) (d a b : ℕ) → IsGroup g d → IsGroup g a → IsGroup g b
        → Line w (Vector (v.ArithmeticVv o d a b true) ∷ []) f m (write_lanes f d (f vl_number) (λ k. op.arithmetic_vv o 32 (f (lane a k)) (f (lane b k)))) m
    arithmetic-vv o d a b id ia ib =
        sets (v.ArithmeticVv o d a b true) d (λ h. zip_with (op.arithmetic_vv o (width (vectors_of h))) (of_group (vectors_of h) a) (of_group (vectors_of h) b))
        (λ k. op.arithmetic_vv o 32 (f (lane a k)) (f (lane b k))) id
        refl refl (λ at h s. refl) (id, (ia, (ib, tt))) refl (λ h. refl) (λ h read. refl)
        (λ at h s. subst (λ x. Lists (4 * g) (zip_with (op.arithmetic_vv o x) (of_group (vectors_of h) a) (of_group (vectors_of h) b)) (λ k. op.arithmetic_vv o
        32 (f (lane a k)) (f (lane b k)))) (sym (width-is at g f h s c))
        (zipped (op.arithmetic_vv o 32) (4 * g) _ _ _ _ (of-group at g f h s c a ia) (of-group at g f h s c b ib)))
        (λ at h s k lk. vv-below o _ _ (lane-below at g f h s c a k ia lk) (lane-below at g f h s c b k ib lk))

    pub multiply-vv : (o : MultiplyOp) (d a b : ℕ) → IsGroup g d → IsGroup g a → IsGroup g b
        → Line w (Vector (v.MultiplyVv o d a b true) ∷ []) f m (write_lanes f d (f vl_number) (λ k. op.multiply o 32 (f (lane a k)) (f (lane b k)))) m
    multiply-vv o d a b id ia ib =
        sets (v.MultiplyVv o d a b true) d (λ h. zip_with (op.multiply o (width (vectors_of h))) (of_group (vectors_of h) a) (of_group (vectors_of h) b))
        (λ k. op.multiply o 32 (f (lane a k)) (f (lane b k))) id
        refl refl (λ at h s. refl) (id, (ia, (ib, tt))) refl (λ h. refl) (λ h read. refl)
        (λ at h s. subst (λ x. Lists (4 * g) (zip_with (op.multiply o x) (of_group (vectors_of h) a) (of_group (vectors_of h) b))
        (λ k. op.multiply o 32 (f (lane a k)) (f (lane b k)))) (sym (width-is at g f h s c))
        (zipped (op.multiply o 32) (4 * g) _ _ _ _ (of-group at g f h s c a ia) (of-group at g f h s c b ib)))
        (λ at h s k lk. multiply-below o _ _ (lane-below at g f h s c a k ia lk) (lane-below at g f h s c b k ib lk))

    pub arithmetic-vx : (o : ArithmeticVxOp) (d a r : ℕ) → IsGroup g d → IsGroup g a → r < 32
        → Line w (Vector (v.ArithmeticVx o d a r true) ∷ []) f m (write_lanes f d (f vl_number) (λ k. op.arithmetic_vx o 32 (f (lane a k)) (f r % 2 ^ 32))) m
    arithmetic-vx o d a r id ia lr =
        sets (v.ArithmeticVx o d a r true) d (λ h. zip_with (op.arithmetic_vx o (width (vectors_of h))) (of_group (vectors_of h) a) (of_scalar (vectors_of h)
        (register h r))) (λ k. op.arithmetic_vx o 32 (f (lane a k)) (f r % 2 ^ 32)) id
        refl refl (λ at h s. refl) (id, (ia, tt)) refl (λ h. refl) (λ h read. refl)
        (λ at h s. subst (λ x. Lists (4 * g) (zip_with (op.arithmetic_vx o x) (of_group (vectors_of h) a) (of_scalar (vectors_of h) (register h r)))
        (λ k. op.arithmetic_vx o 32 (f (lane a k)) (f r % 2 ^ 32))) (sym (width-is at g f h s c))
        (zipped (op.arithmetic_vx o 32) (4 * g) _ _ _ _ (of-group at g f h s c a ia) (of-scalar at g f h s c r lr)))
        (λ at h s k lk. vx-below o _ _ (lane-below at g f h s c a k ia lk) (rest-below (f r)))

    pub multiply-vx : (o : MultiplyOp) (d a r : ℕ) → IsGroup g d → IsGroup g a → r < 32
        → Line w (Vector (v.MultiplyVx o d a r true) ∷ []) f m (write_lanes f d (f vl_number) (λ k. op.multiply o 32 (f (lane a k)) (f r % 2 ^ 32))) m
    multiply-vx o d a r id ia lr =
        sets (v.MultiplyVx o d a r true) d (λ h. zip_with (op.multiply o (width (vectors_of h))) (of_group (vectors_of h) a) (of_scalar (vectors_of h)
        (register h r))) (λ k. op.multiply o 32 (f (lane a k)) (f r % 2 ^ 32)) id
        refl refl (λ at h s. refl) (id, (ia, tt)) refl (λ h. refl) (λ h read. refl)
        (λ at h s. subst (λ x. Lists (4 * g) (zip_with (op.multiply o x) (of_group (vectors_of h) a) (of_scalar (vectors_of h) (register h r)))
        (λ k. op.multiply o 32 (f (lane a k)) (f r % 2 ^ 32))) (sym (width-is at g f h s c))
        (zipped (op.multiply o 32) (4 * g) _ _ _ _ (of-group at g f h s c a ia) (of-scalar at g f h s c r lr)))
        (λ at h s k lk. multiply-below o _ _ (lane-below at g f h s c a k ia lk) (rest-below (f r)))

    pub arithmetic-vi : (o : ArithmeticViOp) (d a : ℕ) (z : ℤ) → IsGroup g d → IsGroup g a
        → Line w (Vector (v.ArithmeticVi o d a z true) ∷ []) f m (write_lanes f d (f vl_number) (λ k. op.arithmetic_vi o 32 (f (lane a k)) (word.wrapped 32 z)))
        m
    arithmetic-vi o d a z id ia =
        sets (v.ArithmeticVi o d a z true) d (λ h. zip_with (op.arithmetic_vi o (width (vectors_of h))) (of_group (vectors_of h) a) (of_immediate (vectors_of h)
        z)) (λ k. op.arithmetic_vi o 32 (f (lane a k)) (word.wrapped 32 z)) id
        refl refl (λ at h s. refl) (id, (ia, tt)) refl (λ h. refl) (λ h read. refl)
        (λ at h s. subst (λ x. Lists (4 * g) (zip_with (op.arithmetic_vi o x) (of_group (vectors_of h) a) (of_immediate (vectors_of h) z))
        (λ k. op.arithmetic_vi o 32 (f (lane a k)) (word.wrapped 32 z))) (sym (width-is at g f h s c))
        (zipped (op.arithmetic_vi o 32) (4 * g) _ _ _ _ (of-group at g f h s c a ia) (of-immediate at g f h s c z)))
        (λ at h s k lk. vi-below o _ _ (lane-below at g f h s c a k ia lk) (wrapped-below z))

    pub shift-vi : (o : ShiftViOp) (d a n : ℕ) → IsGroup g d → IsGroup g a
        → Line w (Vector (v.ShiftVi o d a n true) ∷ []) f m (write_lanes f d (f vl_number) (λ k. op.shift_vi o 32 (f (lane a k)) n)) m
    shift-vi o d a n id ia =
        sets (v.ShiftVi o d a n true) d (λ h. zip_with (op.shift_vi o (width (vectors_of h))) (of_group (vectors_of h) a) (replicate (count (vectors_of h)) n))
        (λ k. op.shift_vi o 32 (f (lane a k)) n) id
        refl refl (λ at h s. refl) (id, (ia, tt)) refl (λ h. refl) (λ h read. refl)
        (λ at h s. subst (λ x. Lists (4 * g) (zip_with (op.shift_vi o x) (of_group (vectors_of h) a) (replicate (count (vectors_of h)) n))
        (λ k. op.shift_vi o 32 (f (lane a k)) n)) (sym (width-is at g f h s c))
        (zipped (op.shift_vi o 32) (4 * g) _ _ _ _ (of-group at g f h s c a ia) (alike (4 * g) (count (vectors_of h)) n (count-is at g f h s c))))
        (λ at h s k lk. shift-below o _ _ (lane-below at g f h s c a k ia lk))

    -- ---- copies, and lanes' numbers

    pub move-vv : (d a : ℕ) → IsGroup g d → IsGroup g a → Line w (Vector (v.MoveVv d a) ∷ []) f m (write_lanes f d (f vl_number) (λ k. f (lane a k))) m
    move-vv d a id ia =
        sets (v.MoveVv d a) d (λ h. of_group (vectors_of h) a) (λ k. f (lane a k)) id
        refl refl (λ at h s. refl) (id, (ia, tt)) refl (λ h. refl) (λ h read. refl)
        (λ at h s. of-group at g f h s c a ia) (λ at h s k lk. lane-below at g f h s c a k ia lk)

    pub move-vx : (d r : ℕ) → IsGroup g d → r < 32 → Line w (Vector (v.MoveVx d r) ∷ []) f m (write_lanes f d (f vl_number) (λ k. f r % 2 ^ 32)) m
    move-vx d r id lr =
        sets (v.MoveVx d r) d (λ h. of_scalar (vectors_of h) (register h r)) (λ k. f r % 2 ^ 32) id
        refl refl (λ at h s. refl) (id, tt) refl (λ h. refl) (λ h read. refl)
        (λ at h s. of-scalar at g f h s c r lr) (λ at h s k lk. rest-below (f r))

    pub move-vi : (d : ℕ) (z : ℤ) → IsGroup g d → Line w (Vector (v.MoveVi d z) ∷ []) f m (write_lanes f d (f vl_number) (λ k. word.wrapped 32 z)) m
    move-vi d z id =
        sets (v.MoveVi d z) d (λ h. of_immediate (vectors_of h) z) (λ k. word.wrapped 32 z) id
        refl refl (λ at h s. refl) (id, tt) refl (λ h. refl) (λ h read. refl)
        (λ at h s. of-immediate at g f h s c z) (λ at h s k lk. wrapped-below z)

    pub lane-numbers : (d : ℕ) → IsGroup g d → Line w (Vector (v.ElementNumbers d true) ∷ []) f m (write_lanes f d (f vl_number) (λ k. k)) m
    lane-numbers d id =
        sets (v.ElementNumbers d true) d (λ h. range_with_len 0 (count (vectors_of h))) (λ k. k) id
        refl refl (λ at h s. refl) (id, tt) refl (λ h. refl) (λ h read. refl)
        (λ at h s. subst (λ n. Lists (4 * g) (range_with_len 0 n) (λ k. k)) (sym (count-is at g f h s c)) (record {
          size = length-range_with_len 0 (4 * g);
          get = λ k lk. get_or-range_with_len 0 (4 * g) k 0 lk ∙ (let e : 0 + k ≡ k = omega arith in e);
        }))
        (λ at h s k lk. let p = id.fits in omega (arith, lk, p))

-- Vector rows that write lanes of 32 bits, unmasked, to a group that may begin at v0, or read them from one.
use Rattle.std.proofs.Common.{◌≡◌, ℕ, ◌+◌, ◌*◌, ◌%◌, ◌^◌, ◌<◌, ◌≤◌, List, [], ◌∷◌, length, None, Some, true, false, refl, ap, ◌∙◌, sym, subst, arith, inl, inr}
use Rattle.std.specs.Prelude.{◌/◌, ◌==◌, ◌||◌, not, cond, if◌then◌else◌, map, replicate, slice_index, nat_lt}
use Rattle.std.specs.List.{range_with_len}
use Rattle.std.proofs.lemmas.Bool.{cases_lt}
use Rattle.std.proofs.lemmas.Bool.Decides.{nat_tests}
use Rattle.std.proofs.lemmas.List.FromFn.{length-range_with_len, get_or-range_with_len, length-map-range_with_len, get_or-map-range_with_len}
use Rattle.lanes.specs.Words.{element, zip_with}
use Rattle.rv_insn.specs.declared.outcomes.Trap.TheVariants.{IllegalInstruction}
use Rattle.rv_insn.specs.declared.instructions.Insn.TheVariants.{Vector}
use Rattle.rv_insn.specs.declared.vector_instructions.VectorInsn.{VectorInsn}
use Rattle.rv_insn.specs.declared.vector_instructions.VectorInsn.TheVariants as v
use Rattle.rv_insn.specs.declared.vector_operations.ArithmeticVvOp.{ArithmeticVvOp}
use Rattle.rv_insn.specs.declared.vector_operations.ArithmeticVxOp.{ArithmeticVxOp}
use Rattle.rv_insn.specs.declared.vector_operations.ShiftViOp.{ShiftViOp}
use Rattle.rv_insn.specs.declared.vector_operations.MultiplyOp.{MultiplyOp}
use Rattle.memory.specs.Access.{NoAccess, or_else}
use Rattle.multi_hart.specs.Run.{Within}
use Rattle.hart_core.specs.HartState.{HartState, register, vector, vectors_of, with_vectors, advanced}
use Rattle.hart_core.specs.Scalar.{kind_of, after}
use Rattle.hart_core.specs.Turn.{fault}
use Rattle.vector_unit.specs.Vector.{Vectors, register as group_register, group_of, element_from, of_group, of_scalar, width, count, group, with_elements}
use Rattle.vector_unit.specs.Vector.{is_refused, overwrites_mask, fixed_width, is_other_width, groups_in, is_misplaced, moved_in, is_unfit}
use Rattle.vector_unit.specs.Operations as op
use Rattle.multi_hart_laws.specs.Alone.{World}
use Rattle.multi_hart_laws.specs.Paths.{lane, vl_number, LanesConfigured, At, Line}
use Rattle.multi_hart_laws.specs.FirstGroup.{held, first_lane, write_group, IsAnyGroup}
use Rattle.multi_hart_laws.proofs.LaneRows.{element-below, or-either}
use Rattle.multi_hart_laws.proofs.LaneWords.{rest-below, vv-below, vx-below, shift-below, multiply-below}
use Rattle.multi_hart_laws.proofs.VectorRows.{Lists, zipped, alike, at-same, width-is, count-is, no-vill, of-scalar, untrapped, leaves}
use Rattle.multi_hart_laws.proofs.FirstGroup.{first-lane-is, any-lanes-given, group-same}

module _ (at g : ℕ) (f : ℕ → ℕ) (h : HartState) (a : At at f h) (c : LanesConfigured f g) where
  abbrev state : Vectors
  state = vectors_of h

  here-is : (u : ℕ) → u < 32 → group_register state u ≡ vector h u
  here-is u l = or-either h.vectors u (replicate 16 0) [] (let q = a.wide in omega (arith, q, l))

  lane-is : (u k : ℕ) → IsAnyGroup g u → k < 4 * g → element 32 (vector h (u + k / 4)) (k % 4) ≡ held f u k
  lane-is u k i l = elim (cases_lt (4 * u + k) 4) [
    | inl s ↦
        let t : nat_lt (4 * u + k) 4 ≡ true = grind (arith, nat_tests, s) in
        let q : u + k / 4 ≡ 0 = omega (arith, s) in
        let r : k % 4 ≡ k = omega (arith, s) in
        ap (λ z. element 32 (vector h z) (k % 4)) q ∙ ap (element 32 (vector h 0)) r ∙ first-lane-is at f h k a (omega (arith, s))
        ∙ sym (ap (λ b. if b then first_lane f k else f (lane u k)) t)
    | inr s ↦
        let t : nat_lt (4 * u + k) 4 ≡ false = grind (arith, nat_tests, s) in
        let e : lane (u + k / 4) (k % 4) ≡ lane u k = omega arith in
        let lo : 1 ≤ u + k / 4 = omega (arith, s) in
        let hi : u + k / 4 < 32 = let p = i.fits in omega (arith, p, l) in
        a.lanes (u + k / 4) (k % 4) lo hi (omega arith) ∙ ap f e ∙ sym (ap (λ b. if b then first_lane f k else f (lane u k)) t)
  ]

  pub held-below : (u k : ℕ) → IsAnyGroup g u → k < 4 * g → held f u k < 2 ^ 32
  held-below u k i l =
      let hi : u + k / 4 < 32 = let p = i.fits in omega (arith, p, l) in
      subst (λ n. n < 2 ^ 32) (lane-is u k i l) (element-below (vector h (u + k / 4)) (k % 4) (a.bytes (u + k / 4) hi))

  pub of-any-group : (u : ℕ) → IsAnyGroup g u → Lists (4 * g) (of_group state u) (held f u)
  of-any-group u i =
      let e : of_group state u ≡ map (element_from state 32 u) (range_with_len 0 (4 * g)) =
      ap (λ w. map (element_from state w u) (range_with_len 0 (count state))) (width-is at g f h a c)
      ∙ ap (λ n. map (element_from state 32 u) (range_with_len 0 n)) (count-is at g f h a c) in
      subst (λ xs. Lists (4 * g) xs (held f u)) (sym e) (record {
        size = length-map-range_with_len (element_from state 32 u) 0 (4 * g);
        get = λ k l.
            let hi : u + k / 4 < 32 = let p = i.fits in omega (arith, p, l) in
            get_or-map-range_with_len (element_from state 32 u) 0 (4 * g) k k 0 l (omega arith) ∙ ap (λ r. element 32 r (k % 4)) (here-is (u + k / 4) hi)
            ∙ lane-is u k i l;
      })

  -- ---- no trap

  group-placed : (u : ℕ) → IsAnyGroup g u → not (u % group state == 0) ≡ false
  group-placed u i =
      let e : group state ≡ g = ap group_of a.vtype ∙ c.group in
      ap (λ n. not (u % n == 0)) e ∙ ap (λ n. not (n == 0)) i.placed

  all-placed : (us : List ℕ) → Within (IsAnyGroup g) us → is_misplaced state us ≡ false
  all-placed [] p = refl
  all-placed (u ∷ us) p = ap (λ b. b || is_misplaced state us) (group-placed u p.0) ∙ all-placed us p.1

  pub allowed : (i : VectorInsn) → overwrites_mask i ≡ false → is_other_width state (fixed_width i) ≡ false → Within (IsAnyGroup g) (groups_in i)
      → is_unfit state (moved_in i) ≡ false → is_refused i state ≡ false
  allowed i keeps same placed fit = rw (no-vill at g f h a c, keeps, same, all-placed (groups_in i) placed, fit) refl

-- ---- rows

module _ (w : World) (f : ℕ → ℕ) (m : List ℕ) (l : length m ≡ w.size) (g : ℕ) (c : LanesConfigured f g) where
  sets : (i : VectorInsn) (d : ℕ) (news : HartState → List ℕ) (new : ℕ → ℕ) → IsAnyGroup g d
      → kind_of (Vector i) ≡ NoAccess
      → overwrites_mask i ≡ false
      → ((h : HartState) → is_other_width (vectors_of h) (fixed_width i) ≡ false)
      → Within (IsAnyGroup g) (groups_in i)
      → moved_in i ≡ None
      → ((h : HartState) → fault (length w.text) w.size (Vector i) h ≡ or_else (cond (is_refused i (vectors_of h)) (Some IllegalInstruction) None) None)
      → ((h : HartState) (read : List ℕ) → after (Vector i) h read ≡ advanced (with_vectors h (with_elements (vectors_of h) d true (news h))))
      → ((at : ℕ) (h : HartState) → At at f h → Lists (4 * g) (news h) new)
      → ((at : ℕ) (h : HartState) → At at f h → (k : ℕ) → k < 4 * g → new k < 2 ^ 32)
      → Line w (Vector i ∷ []) f m (write_group f d (f vl_number) new) m
  sets i d news new seat none keeps same placed moved is-fault is-after lists small =
      leaves w f m l i (write_group f d (f vl_number) new) (λ h. advanced (with_vectors h (with_elements (vectors_of h) d true (news h)))) none
      (λ at h a. untrapped at g f h a c (length w.text) w.size i (is-fault h) (allowed at g f h a c i keeps (same h) placed (ap (is_unfit (vectors_of h))
      moved)))
      is-after
      (λ at h low a.
      let p = lists at h a in
      let within : (k : ℕ) → k < f vl_number → k < 4 * g = λ k lk. (let q = c.fits in omega (arith, lk, q)) in
      let e : (k : ℕ) → k < f vl_number → slice_index (news h) k ≡ new k = λ k lk. p.get k (within k lk) in
      at-same (at + 4) (write_group f d (f vl_number) (slice_index (news h))) (write_group f d (f vl_number) new) _ (group-same f d (f vl_number)
      (slice_index (news h)) new e)
      (any-lanes-given at d g f h (news h) low a c seat.some seat.fits p.size (λ k lk. subst (λ n. n < 2 ^ 32) (sym (e k lk)) (small at h a k (within k lk)))))

  pub arithmetic-vv : (o : ArithmeticVvOp) (d a b : ℕ) → IsAnyGroup g d → IsAnyGroup g a → IsAnyGroup g b
      → Line w (Vector (v.ArithmeticVv o d a b true) ∷ []) f m (write_group f d (f vl_number) (λ k. op.arithmetic_vv o 32 (held f a k) (held f b k))) m
  arithmetic-vv o d a b id ia ib =
      sets (v.ArithmeticVv o d a b true) d (λ h. zip_with (op.arithmetic_vv o (width (vectors_of h))) (of_group (vectors_of h) a) (of_group (vectors_of h) b))
      (λ k. op.arithmetic_vv o 32 (held f a k) (held f b k)) id
      refl refl (λ h. refl) (id, (ia, (ib, tt))) refl (λ h. refl) (λ h read. refl)
      (λ at h s. subst (λ x. Lists (4 * g) (zip_with (op.arithmetic_vv o x) (of_group (vectors_of h) a) (of_group (vectors_of h) b)) (λ k. op.arithmetic_vv o 32
      (held f a k) (held f b k))) (sym (width-is at g f h s c))
      (zipped (op.arithmetic_vv o 32) (4 * g) _ _ _ _ (of-any-group at g f h s c a ia) (of-any-group at g f h s c b ib)))
      (λ at h s k lk. vv-below o _ _ (held-below at g f h s c a k ia lk) (held-below at g f h s c b k ib lk))

  pub arithmetic-vx : (o : ArithmeticVxOp) (d a r : ℕ) → IsAnyGroup g d → IsAnyGroup g a → r < 32
      → Line w (Vector (v.ArithmeticVx o d a r true) ∷ []) f m (write_group f d (f vl_number) (λ k. op.arithmetic_vx o 32 (held f a k) (f r % 2 ^ 32))) m
  arithmetic-vx o d a r id ia lr =
      sets (v.ArithmeticVx o d a r true) d (λ h. zip_with (op.arithmetic_vx o (width (vectors_of h))) (of_group (vectors_of h) a) (of_scalar (vectors_of h)
      (register h r))) (λ k. op.arithmetic_vx o 32 (held f a k) (f r % 2 ^ 32)) id
      refl refl (λ h. refl) (id, (ia, tt)) refl (λ h. refl) (λ h read. refl)
      (λ at h s. subst (λ x. Lists (4 * g) (zip_with (op.arithmetic_vx o x) (of_group (vectors_of h) a) (of_scalar (vectors_of h) (register h r)))
      (λ k. op.arithmetic_vx o 32 (held f a k) (f r % 2 ^ 32))) (sym (width-is at g f h s c))
      (zipped (op.arithmetic_vx o 32) (4 * g) _ _ _ _ (of-any-group at g f h s c a ia) (of-scalar at g f h s c r lr)))
      (λ at h s k lk. vx-below o _ _ (held-below at g f h s c a k ia lk) (rest-below (f r)))

  pub multiply-vx : (o : MultiplyOp) (d a r : ℕ) → IsAnyGroup g d → IsAnyGroup g a → r < 32
      → Line w (Vector (v.MultiplyVx o d a r true) ∷ []) f m (write_group f d (f vl_number) (λ k. op.multiply o 32 (held f a k) (f r % 2 ^ 32))) m
  multiply-vx o d a r id ia lr =
      sets (v.MultiplyVx o d a r true) d (λ h. zip_with (op.multiply o (width (vectors_of h))) (of_group (vectors_of h) a) (of_scalar (vectors_of h)
      (register h r))) (λ k. op.multiply o 32 (held f a k) (f r % 2 ^ 32)) id
      refl refl (λ h. refl) (id, (ia, tt)) refl (λ h. refl) (λ h read. refl)
      (λ at h s. subst (λ x. Lists (4 * g) (zip_with (op.multiply o x) (of_group (vectors_of h) a) (of_scalar (vectors_of h) (register h r)))
      (λ k. op.multiply o 32 (held f a k) (f r % 2 ^ 32))) (sym (width-is at g f h s c))
      (zipped (op.multiply o 32) (4 * g) _ _ _ _ (of-any-group at g f h s c a ia) (of-scalar at g f h s c r lr)))
      (λ at h s k lk. multiply-below o _ _ (held-below at g f h s c a k ia lk) (rest-below (f r)))

  pub shift-vi : (o : ShiftViOp) (d a n : ℕ) → IsAnyGroup g d → IsAnyGroup g a
      → Line w (Vector (v.ShiftVi o d a n true) ∷ []) f m (write_group f d (f vl_number) (λ k. op.shift_vi o 32 (held f a k) n)) m
  shift-vi o d a n id ia =
      sets (v.ShiftVi o d a n true) d (λ h. zip_with (op.shift_vi o (width (vectors_of h))) (of_group (vectors_of h) a) (replicate (count (vectors_of h)) n))
      (λ k. op.shift_vi o 32 (held f a k) n) id
      refl refl (λ h. refl) (id, (ia, tt)) refl (λ h. refl) (λ h read. refl)
      (λ at h s. subst (λ x. Lists (4 * g) (zip_with (op.shift_vi o x) (of_group (vectors_of h) a) (replicate (count (vectors_of h)) n))
      (λ k. op.shift_vi o 32 (held f a k) n)) (sym (width-is at g f h s c))
      (zipped (op.shift_vi o 32) (4 * g) _ _ _ _ (of-any-group at g f h s c a ia) (alike (4 * g) (count (vectors_of h)) n (count-is at g f h s c))))
      (λ at h s k lk. shift-below o _ _ (held-below at g f h s c a k ia lk))

  pub lane-numbers : (d : ℕ) → IsAnyGroup g d → Line w (Vector (v.ElementNumbers d true) ∷ []) f m (write_group f d (f vl_number) (λ k. k)) m
  lane-numbers d id =
      sets (v.ElementNumbers d true) d (λ h. range_with_len 0 (count (vectors_of h))) (λ k. k) id
      refl refl (λ h. refl) (id, tt) refl (λ h. refl) (λ h read. refl)
      (λ at h s. subst (λ n. Lists (4 * g) (range_with_len 0 n) (λ k. k)) (sym (count-is at g f h s c)) (record {
        size = length-range_with_len 0 (4 * g);
        get = λ k lk. get_or-range_with_len 0 (4 * g) k 0 lk ∙ (let e : 0 + k ≡ k = omega arith in e);
      }))
      (λ at h s k lk. let p = id.fits in omega (arith, lk, p))

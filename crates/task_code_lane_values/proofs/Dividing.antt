-- Quotients of lanes.
use Rattle.std.proofs.Common.{◌≡◌, ℕ, ◌-◌, ◌*◌, ◌/◌, ◌%◌, ◌^◌, ◌<◌, ◌≤◌, List, [], ◌∷◌, ◌++◌, length, Bool, true, refl, ap, ◌∙◌, subst, arith, inl, inr}
use Rattle.std.specs.Prelude.{◌⊎◌, if◌then◌else◌, nat_lt, bit_and, bit_xor}
use Rattle.std.proofs.Math.Nat.{mod-lt}
use Rattle.rv_insn.specs.declared.instructions.Insn.{Insn}
use Rattle.rv_insn.specs.declared.instructions.Insn.TheVariants.{Vector}
use Rattle.rv_insn.specs.declared.vector_instructions.VectorInsn.TheVariants as v
use Rattle.rv_insn.specs.declared.vector_operations.ArithmeticVvOp.TheVariants as vvs
use Rattle.rv_insn.specs.declared.vector_operations.ArithmeticVxOp.TheVariants as vxs
use Rattle.rv_insn.specs.declared.vector_operations.ShiftViOp.TheVariants as shifts
use Rattle.rv_insn.specs.declared.vector_operations.MultiplyOp.TheVariants as multiplies
use Rattle.lanes.specs.Words as lanes
use Rattle.vector_unit.specs.Operations.{multiply}
use Rattle.halide_pipeline.specs.Words as word
use Rattle.multi_hart_laws.specs.Alone.{World}
use Rattle.multi_hart_laws.specs.Paths.{Line, lane, bit, vl_number, vtype_number}
use Rattle.multi_hart_laws.specs.FirstGroup.{held, IsAnyGroup}
use Rattle.multi_hart_laws.proofs.Paths.{line-then}
use Rattle.multi_hart_laws.proofs.VectorRows as vector
use Rattle.multi_hart_laws.proofs.FirstRows as firsts
use Rattle.task_code_scalar.specs.Words.{Emits}
use Rattle.task_code_scalar.proofs.Spelling.{emits_then}
use Rattle.task_code_lanes.specs.declared.groups.LaneGroup.{LaneGroup}
use Rattle.task_code_lanes.specs.Groups.{registers, slots, slot, spare}
use Rattle.task_code_lanes.specs.Lanes.{lanes_sign, lanes_swapped}
use Rattle.task_code_lanes.specs.Leaving.{HasLanes}
use Rattle.task_code_lanes.proofs.Slots.{SlotLies, slot-lies, spare-is, any-group}
use Rattle.task_code_lanes.proofs.Rows as rows
use Rattle.task_code_lane_values.specs.Leaving.{IsUnder, LeavesLanes}
use Rattle.task_code_lane_values.specs.inner.Parts.{ComputesBy}
use Rattle.task_code_lane_values.proofs.Sparing.{Spared, spared, under-sorts}
use Rattle.task_code_lane_values.proofs.Signs.{sign_word, sign-is, sign-below, swapped, swapped-is, swapped-below, not-zero, quotient-is, part-below}
use Rattle.task_code_lane_values.proofs.Signs.{lacking, lacking-is, lacking-below, filled-is, remainder-is}
use Rattle.task_code_values.proofs.Dividing.{remainder-below}

module _ (w : World) (m : List ℕ) (l : length m ≡ w.size) (group : LaneGroup) (n k : ℕ) (lies : SlotLies group k) where
  abbrev g : ℕ
  g = registers group

  abbrev r : ℕ
  r = slot group k

  abbrev u : ℕ
  u = spare group

  slot-is : IsAnyGroup g r
  slot-is = any-group g r lies.few lies.is_group

  signs-spared : (f x : ℕ → ℕ) → HasLanes group n f → n ≤ 4 * g → ((i : ℕ) → i < n → f (lane r i) ≡ x i) → ((i : ℕ) → i < n → x i < 2 ^ 32)
      → Spared w m l group n k lies (lanes_sign r u) f (λ i. sign_word (nat_lt (x i) (2 ^ 31)))
  signs-spared f x has few hx lx =
      spared w m l group n k lies (λ i. sign_word (nat_lt (x i) (2 ^ 31))) (λ i. lanes.shift_right_arithmetic 32 (held f r i) 31) has few
      (firsts.shift-vi w f m l g has.configured shifts.Vsra u r 31 (spare-is group) slot-is)
      (λ i b. ap (λ z. lanes.shift_right_arithmetic 32 z 31) (rows.slot-held w m l group n k lies f i ∙ hx i b) ∙ sign-is (x i) (lx i b))
      (λ i b. sign-below (nat_lt (x i) (2 ^ 31)))

  -- lanes become their complements where signs say so
  swapped-writes : (f x : ℕ → ℕ) (t : ℕ → Bool) → HasLanes group n f → ((i : ℕ) → i < n → f (lane r i) ≡ x i) → ((i : ℕ) → i < n → held f u i ≡ sign_word (t i))
      → ((i : ℕ) → i < n → x i < 2 ^ 32) → rows.Writes w m l group n (lanes_swapped r u) f r (λ i. swapped (t i) (x i))
  swapped-writes f x t has hx hu lx =
      rows.slot-writes w m l group n k lies (λ i. swapped (t i) (x i)) (λ i. bit_xor (held f r i) (held f u i)) has
      (firsts.arithmetic-vv w f m l g has.configured vvs.Vxor r r u slot-is slot-is (spare-is group))
      (λ i b. ap (λ z. bit_xor z (held f u i)) (rows.slot-held w m l group n k lies f i ∙ hx i b) ∙ ap (bit_xor (x i)) (hu i b) ∙ swapped-is (t i) (x i)
      (lx i b))

  abbrev quotient_code : ℕ → List Insn
  quotient_code s = lanes_sign r u ++ (lanes_swapped r u ++ ((Vector (v.MultiplyVx multiplies.Vdivu r r s true) ∷ []) ++ lanes_swapped r u))

  quotient-left : (s c : ℕ) (f x : ℕ → ℕ) → s < 32 → HasLanes group n f → ((i : ℕ) → i < n → f (lane r i) ≡ x i) → ((i : ℕ) → i < n → x i < 2 ^ 32)
      → f s ≡ c → 0 < c → c < 2 ^ 32
      → LeavesLanes w m (quotient_code s) f group k n (λ i. word.divide (x i) c)
  quotient-left s c f x ls has hx lx es lc hc =
      let few = rows.few-lanes w m l group n f has in
      let low = lies.low in
      let high = lies.high in
      let aside : rows.Aside w m l group n k lies u = inr refl in
      let t : ℕ → Bool = (λ i. nat_lt (x i) (2 ^ 31)) in
      let a = signs-spared f x has few hx lx in
      let has1 = rows.lanes-kept w m l group n f a.after (a.keeps vl_number (inl (omega arith))) (a.keeps vtype_number (inl (omega arith))) has in
      let hx1 : (i : ℕ) → i < n → a.after (lane r i) ≡ x i = (λ i b. a.keeps (lane r i) (inr (omega (arith, low), omega (arith, high, few, b))) ∙ hx i b) in
      let b2 = swapped-writes a.after x t has1 hx1 a.value lx in
      let has2 = rows.writes-lanes w m l group n b2 has1 in
      let hu2 = rows.aside-stays w m l group n k lies b2 aside few a.value in
      let es2 : b2.after s ≡ c = b2.below s (omega (arith, ls)) ∙ a.keeps s (inl (omega (arith, ls))) ∙ es in
      let ec : b2.after s % 2 ^ 32 ≡ c = omega (arith, es2, hc) in
      let y : ℕ → ℕ = (λ i. swapped (t i) (x i)) in
      let e3 : rows.Writes w m l group n (Vector (v.MultiplyVx multiplies.Vdivu r r s true) ∷ []) b2.after r (λ i. y i / c) =
      rows.writes w m l group n (λ i. y i / c) (λ i. multiply multiplies.Vdivu 32 (b2.after (lane r i)) (b2.after s % 2 ^ 32)) has2
      (vector.multiply-vx w b2.after m l g has2.configured multiplies.Vdivu r r s lies.is_group lies.is_group ls)
      (λ i b. ap (λ z. multiply multiplies.Vdivu 32 z (b2.after s % 2 ^ 32)) (b2.value i b) ∙ ap (multiply multiplies.Vdivu 32 (y i)) ec
      ∙ ap (λ z. if z then 2 ^ 32 - 1 else y i / c) (not-zero c lc)) in
      let has3 = rows.writes-lanes w m l group n e3 has2 in
      let hu3 = rows.aside-stays w m l group n k lies e3 aside few hu2 in
      let small : (i : ℕ) → i < n → y i / c < 2 ^ 32 = (λ i b. part-below (y i) c (swapped-below (t i) (x i) (lx i b))) in
      let d = swapped-writes e3.after (λ i. y i / c) t has3 e3.value hu3 small in
      let n1 = lanes_sign r u in
      let n2 = lanes_swapped r u in
      let n3 = Vector (v.MultiplyVx multiplies.Vdivu r r s true) ∷ [] in
      record {
        after = d.after;
        line = line-then w n1 (n2 ++ (n3 ++ n2)) f a.after d.after m m m a.line (line-then w n2 (n3 ++ n2) a.after b2.after d.after m m m b2.line
            (line-then w n3 n2 b2.after e3.after d.after m m m e3.line d.line));
        value = λ i b. d.value i b ∙ quotient-is (x i) c lc;
        small = λ i b. subst (λ z. z < 2 ^ 32) (quotient-is (x i) c lc) (swapped-below (t i) (y i / c) (small i b));
        keeps = λ q h.
            let below : q < lane r 0 = elim (under-sorts group k q h) [ inl o ↦ omega (arith, o) | inr o ↦ o.1 ] in
            d.below q below ∙ e3.below q below ∙ b2.below q below ∙ a.keeps q (elim (under-sorts group k q h) [
              | inl o ↦ inl o
              | inr o ↦ inr (
                o.0,
                (let z = o.1 in omega (arith, z, high)),
              )
            ]);
      }

  abbrev remainder_code : ℕ → List Insn
  remainder_code s =
      (lanes_sign r u ++ (lanes_swapped r u ++ ((Vector (v.MultiplyVx multiplies.Vremu r r s true) ∷ []) ++ lanes_swapped r u)))
      ++ ((Vector (v.ArithmeticVx vxs.Vand u u s true) ∷ []) ++ (Vector (v.ArithmeticVv vvs.Vadd r r u true) ∷ []))

  -- what is before the divisor is added where a lane is negative
  record Rests (is : List Insn) (s c : ℕ) (t : ℕ → Bool) (f v : ℕ → ℕ) : Type 0 where
    after : ℕ → ℕ
    line : Line w is f m after m
    value : (i : ℕ) → i < n → after (lane r i) ≡ v i
    signed : (i : ℕ) → i < n → held after u i ≡ sign_word (t i)
    divisor : after s ≡ c
    has : HasLanes group n after
    keeps : (q : ℕ) → IsUnder group k q → after q ≡ f q

  beside-spare : (q : ℕ) → IsUnder group k q → (q < 34) ⊎ ((lane (slot group 0) 0 ≤ q) × (q < bit 0))
  beside-spare q h = let high = lies.high in elim (under-sorts group k q h) [ inl o ↦ inl o | inr o ↦ inr (o.0, (let z = o.1 in omega (arith, z, high))) ]

  below-slot : (q : ℕ) → IsUnder group k q → q < lane r 0
  below-slot q h = elim (under-sorts group k q h) [ inl o ↦ omega (arith, o) | inr o ↦ o.1 ]

  rests-left : (s c : ℕ) (f x : ℕ → ℕ) → s < 32 → HasLanes group n f → ((i : ℕ) → i < n → f (lane r i) ≡ x i) → ((i : ℕ) → i < n → x i < 2 ^ 32)
      → f s ≡ c → 0 < c → c < 2 ^ 32
      → Rests (lanes_sign r u ++ (lanes_swapped r u ++ ((Vector (v.MultiplyVx multiplies.Vremu r r s true) ∷ []) ++ lanes_swapped r u))) s c (λ i. nat_lt
      (x i) (2 ^ 31)) f
      (λ i. swapped (nat_lt (x i) (2 ^ 31)) (swapped (nat_lt (x i) (2 ^ 31)) (x i) % c))
  rests-left s c f x ls has hx lx es lc hc =
      let few = rows.few-lanes w m l group n f has in
      let low = lies.low in
      let high = lies.high in
      let aside : rows.Aside w m l group n k lies u = inr refl in
      let t : ℕ → Bool = (λ i. nat_lt (x i) (2 ^ 31)) in
      let a = signs-spared f x has few hx lx in
      let has1 = rows.lanes-kept w m l group n f a.after (a.keeps vl_number (inl (omega arith))) (a.keeps vtype_number (inl (omega arith))) has in
      let hx1 : (i : ℕ) → i < n → a.after (lane r i) ≡ x i = (λ i b. a.keeps (lane r i) (inr (omega (arith, low), omega (arith, high, few, b))) ∙ hx i b) in
      let b2 = swapped-writes a.after x t has1 hx1 a.value lx in
      let has2 = rows.writes-lanes w m l group n b2 has1 in
      let hu2 = rows.aside-stays w m l group n k lies b2 aside few a.value in
      let es2 : b2.after s ≡ c = b2.below s (omega (arith, ls)) ∙ a.keeps s (inl (omega (arith, ls))) ∙ es in
      let ec : b2.after s % 2 ^ 32 ≡ c = omega (arith, es2, hc) in
      let y : ℕ → ℕ = (λ i. swapped (t i) (x i)) in
      let e3 : rows.Writes w m l group n (Vector (v.MultiplyVx multiplies.Vremu r r s true) ∷ []) b2.after r (λ i. y i % c) =
      rows.writes w m l group n (λ i. y i % c) (λ i. multiply multiplies.Vremu 32 (b2.after (lane r i)) (b2.after s % 2 ^ 32)) has2
      (vector.multiply-vx w b2.after m l g has2.configured multiplies.Vremu r r s lies.is_group lies.is_group ls)
      (λ i b. ap (λ z. multiply multiplies.Vremu 32 z (b2.after s % 2 ^ 32)) (b2.value i b) ∙ ap (multiply multiplies.Vremu 32 (y i)) ec
      ∙ ap (λ z. if z then y i else y i % c) (not-zero c lc)) in
      let has3 = rows.writes-lanes w m l group n e3 has2 in
      let hu3 = rows.aside-stays w m l group n k lies e3 aside few hu2 in
      let small : (i : ℕ) → i < n → y i % c < 2 ^ 32 = (λ i b. let p = mod-lt (y i) lc in omega (arith, p, hc)) in
      let d = swapped-writes e3.after (λ i. y i % c) t has3 e3.value hu3 small in
      let n1 = lanes_sign r u in
      let n2 = lanes_swapped r u in
      let n3 = Vector (v.MultiplyVx multiplies.Vremu r r s true) ∷ [] in
      record {
        after = d.after;
        line = line-then w n1 (n2 ++ (n3 ++ n2)) f a.after d.after m m m a.line (line-then w n2 (n3 ++ n2) a.after b2.after d.after m m m b2.line
            (line-then w n3 n2 b2.after e3.after d.after m m m e3.line d.line));
        value = d.value;
        signed = rows.aside-stays w m l group n k lies d aside few hu3;
        divisor = d.below s (omega (arith, ls)) ∙ e3.below s (omega (arith, ls)) ∙ es2;
        has = rows.writes-lanes w m l group n d has3;
        keeps = λ q h. d.below q (below-slot q h) ∙ e3.below q (below-slot q h) ∙ b2.below q (below-slot q h) ∙ a.keeps q (beside-spare q h);
      }

  remainder-left : (s c : ℕ) (f x : ℕ → ℕ) → s < 32 → HasLanes group n f → ((i : ℕ) → i < n → f (lane r i) ≡ x i) → ((i : ℕ) → i < n → x i < 2 ^ 32)
      → f s ≡ c → 0 < c → c < 2 ^ 32
      → LeavesLanes w m (remainder_code s) f group k n (λ i. word.remainder (x i) c)
  remainder-left s c f x ls has hx lx es lc hc =
      let few = rows.few-lanes w m l group n f has in
      let low = lies.low in
      let high = lies.high in
      let t : ℕ → Bool = (λ i. nat_lt (x i) (2 ^ 31)) in
      let rest : ℕ → ℕ = (λ i. swapped (t i) (x i) % c) in
      let d = rests-left s c f x ls has hx lx es lc hc in
      let ed : d.after s % 2 ^ 32 ≡ c = let p = d.divisor in omega (arith, p, hc) in
      let a : Spared w m l group n k lies (Vector (v.ArithmeticVx vxs.Vand u u s true) ∷ []) d.after (λ i. lacking (t i) c) =
      spared w m l group n k lies (λ i. lacking (t i) c) (λ i. bit_and (held d.after u i) (d.after s % 2 ^ 32)) d.has few
      (firsts.arithmetic-vx w d.after m l g d.has.configured vxs.Vand u u s (spare-is group) (spare-is group) ls)
      (λ i b. ap (λ z. bit_and z (d.after s % 2 ^ 32)) (d.signed i b) ∙ ap (bit_and (sign_word (t i))) ed ∙ lacking-is (t i) c hc) (λ i b. lacking-below
      (t i) c hc) in
      let has6 = rows.lanes-kept w m l group n d.after a.after (a.keeps vl_number (inl (omega arith))) (a.keeps vtype_number (inl (omega arith))) d.has in
      let hx6 : (i : ℕ) → i < n → a.after (lane r i) ≡ swapped (t i) (rest i) = (λ i b. a.keeps (lane r i) (inr (
        omega (arith, low),
        omega
            (arith, high, few, b),
      )) ∙ d.value i b) in
      let z : rows.Writes w m l group n (Vector (v.ArithmeticVv vvs.Vadd r r u true) ∷ []) a.after r (λ i. word.remainder (x i) c) =
      rows.slot-writes w m l group n k lies (λ i. word.remainder (x i) c) (λ i. lanes.add 32 (held a.after r i) (held a.after u i)) has6
      (firsts.arithmetic-vv w a.after m l g has6.configured vvs.Vadd r r u slot-is slot-is (spare-is group))
      (λ i b. ap (λ q. lanes.add 32 q (held a.after u i)) (rows.slot-held w m l group n k lies a.after i ∙ hx6 i b) ∙ ap (lanes.add 32 (swapped (t i)
      (rest i))) (a.value i b)
      ∙ filled-is (t i) (rest i) c (mod-lt (swapped (t i) (x i)) lc) hc ∙ remainder-is (x i) c lc) in
      let n1 = lanes_sign r u ++ (lanes_swapped r u ++ ((Vector (v.MultiplyVx multiplies.Vremu r r s true) ∷ []) ++ lanes_swapped r u)) in
      let n2 = Vector (v.ArithmeticVx vxs.Vand u u s true) ∷ [] in
      let n3 = Vector (v.ArithmeticVv vvs.Vadd r r u true) ∷ [] in
      record {
        after = z.after;
        line = line-then w n1 (n2 ++ n3) f d.after z.after m m m d.line (line-then w n2 n3 d.after a.after z.after m m m a.line z.line);
        value = z.value;
        small = λ i b. remainder-below (x i) c lc hc;
        keeps = λ q h. z.below q (below-slot q h) ∙ a.keeps q (beside-spare q h) ∙ d.keeps q h;
      }

pub quotient-made : (group : LaneGroup) (k : ℕ) → k < slots group → (s divisor : ℕ) (c0 c1 c2 c3 c4 : List ℕ) → s < 32 → 0 < divisor → Emits c0 c1 (lanes_sign
    (slot group k) (spare group))
    → Emits c1 c2 (lanes_swapped (slot group k) (spare group)) → Emits c2 c3 (Vector (v.MultiplyVx multiplies.Vdivu (slot group k) (slot group k) s true) ∷ [])
    → Emits c3 c4 (lanes_swapped (slot group k) (spare group)) → ComputesBy c0 c4 group k s (λ c. c ≡ divisor) (λ x c. word.divide x divisor)
quotient-made group k in-stack s divisor c0 c1 c2 c3 c4 ls some p q t z = record {
  insns = lanes_sign (slot group k) (spare group) ++ (lanes_swapped (slot group k) (spare group) ++ ((Vector (v.MultiplyVx multiplies.Vdivu (slot group k)
      (slot group k) s true) ∷ []) ++ lanes_swapped (slot group k) (spare group)));
  emits = emits_then p (emits_then q (emits_then t z));
  does = λ w m n f x c l has hx lx es lc is.
      quotient-left w m l group n k (slot-lies group k in-stack) s divisor f x ls has hx lx (es ∙ is) some (subst (λ y. y < 2 ^ 32) is lc);
}

pub quotient-as : (group : LaneGroup) (k : ℕ) → k < slots group → (s divisor a u : ℕ) → a ≡ slot group k → u ≡ spare group → (c0 c1 c2 c3 c4 : List ℕ)
    → s < 32 → 0 < divisor
    → Emits c0 c1 (Vector (v.ShiftVi shifts.Vsra u a 31 true) ∷ []) → Emits c1 c2 (Vector (v.ArithmeticVv vvs.Vxor a a u true) ∷ [])
    → Emits c2 c3 (Vector (v.MultiplyVx multiplies.Vdivu a a s true) ∷ []) → Emits c3 c4 (Vector (v.ArithmeticVv vvs.Vxor a a u true) ∷ [])
    → ComputesBy c0 c4 group k s (λ c. c ≡ divisor) (λ x c. word.divide x divisor)
quotient-as group k in-stack s divisor a u ea eu c0 c1 c2 c3 c4 ls some p q t z =
    quotient-made group k in-stack s divisor c0 c1 c2 c3 c4 ls some
    (subst (λ y. Emits c0 c1 (lanes_sign (slot group k) y)) eu (subst (λ y. Emits c0 c1 (lanes_sign y u)) ea p))
    (subst (λ y. Emits c1 c2 (lanes_swapped (slot group k) y)) eu (subst (λ y. Emits c1 c2 (lanes_swapped y u)) ea q))
    (subst (λ y. Emits c2 c3 (Vector (v.MultiplyVx multiplies.Vdivu y y s true) ∷ [])) ea t)
    (subst (λ y. Emits c3 c4 (lanes_swapped (slot group k) y)) eu (subst (λ y. Emits c3 c4 (lanes_swapped y u)) ea z))

pub remainder-as : (group : LaneGroup) (k : ℕ) → k < slots group → (s divisor a u : ℕ) → a ≡ slot group k → u ≡ spare group → (c0 c1 c2 c3 c4 c5 c6 : List ℕ)
    → s < 32 → 0 < divisor
    → Emits c0 c1 (Vector (v.ShiftVi shifts.Vsra u a 31 true) ∷ []) → Emits c1 c2 (Vector (v.ArithmeticVv vvs.Vxor a a u true) ∷ [])
    → Emits c2 c3 (Vector (v.MultiplyVx multiplies.Vremu a a s true) ∷ []) → Emits c3 c4 (Vector (v.ArithmeticVv vvs.Vxor a a u true) ∷ [])
    → Emits c4 c5 (Vector (v.ArithmeticVx vxs.Vand u u s true) ∷ []) → Emits c5 c6 (Vector (v.ArithmeticVv vvs.Vadd a a u true) ∷ [])
    → ComputesBy c0 c6 group k s (λ c. c ≡ divisor) (λ x c. word.remainder x divisor)
remainder-as group k in-stack s divisor a u ea eu c0 c1 c2 c3 c4 c5 c6 ls some z1 z2 z3 z4 z5 z6 =
    let r = slot group k in
    let n = spare group in
    record {
      insns = (lanes_sign r n ++ (lanes_swapped r n ++ ((Vector (v.MultiplyVx multiplies.Vremu r r s true) ∷ []) ++ lanes_swapped r n)))
          ++ ((Vector (v.ArithmeticVx vxs.Vand n n s true) ∷ []) ++ (Vector (v.ArithmeticVv vvs.Vadd r r n true) ∷ []));
      emits =
          emits_then
          (emits_then (subst (λ y. Emits c0 c1 (lanes_sign r y)) eu (subst (λ y. Emits c0 c1 (lanes_sign y u)) ea z1))
          (emits_then (subst (λ y. Emits c1 c2 (lanes_swapped r y)) eu (subst (λ y. Emits c1 c2 (lanes_swapped y u)) ea z2))
          (emits_then (subst (λ y. Emits c2 c3 (Vector (v.MultiplyVx multiplies.Vremu y y s true) ∷ [])) ea z3)
          (subst (λ y. Emits c3 c4 (lanes_swapped r y)) eu (subst (λ y. Emits c3 c4 (lanes_swapped y u)) ea z4)))))
          (emits_then (subst (λ y. Emits c4 c5 (Vector (v.ArithmeticVx vxs.Vand y y s true) ∷ [])) eu z5)
          (subst (λ y. Emits c5 c6 (Vector (v.ArithmeticVv vvs.Vadd r r y true) ∷ [])) eu (subst (λ y. Emits c5 c6 (Vector
          (v.ArithmeticVv vvs.Vadd y y u true) ∷ [])) ea z6)));
      does = λ w m n f x c l has hx lx es lc is.
          remainder-left w m l group n k (slot-lies group k in-stack) s divisor f x ls has hx lx (es ∙ is) some (subst (λ y. y < 2 ^ 32) is lc);
    }

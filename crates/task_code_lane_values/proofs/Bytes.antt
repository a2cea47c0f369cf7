-- Bytes that lie one after the other, or at distances, from a register on: of the word that holds one, the bytes before and after it are cut off.
use Rattle.std.proofs.Common.{◌≡◌, ℕ, zero, suc, ◌+◌, ◌*◌, ◌/◌, ◌%◌, ◌^◌, ◌<◌, ◌≤◌, List}
use Rattle.std.proofs.Common.{[], ◌∷◌, ◌++◌, length, true, ap, ◌∙◌, refl, sym, subst, arith, inl, inr}
use Rattle.std.specs.Prelude.{◌≢◌, ◌⊎◌, bit_and, negsuc}
use Rattle.std.proofs.lemmas.Nat.{and_mask}
use Rattle.std.proofs.lemmas.Nat.Bits.{and_high_mask}
use Rattle.rv_insn.specs.declared.instructions.Insn.{Insn}
use Rattle.rv_insn.specs.declared.instructions.Insn.TheVariants.{Vector}
use Rattle.rv_insn.specs.declared.vector_instructions.VectorInsn.TheVariants as v
use Rattle.rv_insn.specs.declared.vector_instructions.Addressing.TheVariants as addressings
use Rattle.rv_insn.specs.declared.vector_operations.ElementWidth.TheVariants.{Bits8, Bits32}
use Rattle.rv_insn.specs.declared.vector_operations.ArithmeticVvOp.TheVariants as vvs
use Rattle.rv_insn.specs.declared.vector_operations.ArithmeticVxOp.TheVariants as vxs
use Rattle.rv_insn.specs.declared.vector_operations.ArithmeticViOp.TheVariants as vis
use Rattle.rv_insn.specs.declared.vector_operations.ShiftViOp.TheVariants as shifts
use Rattle.memory.specs.Access.{Byte, Word, number_in, byte_at, AreBytes}
use Rattle.hart_core.specs.Scalar.{load_size}
use Rattle.lanes.specs.Words as lanes
use Rattle.multi_hart_laws.specs.Alone.{World}
use Rattle.multi_hart_laws.specs.Paths.{Line, lane, bit, vl_number, vtype_number, byte_of, write_bytes, Readable}
use Rattle.multi_hart_laws.specs.LaneMemory.{AllReadable}
use Rattle.multi_hart_laws.specs.FirstGroup.{held}
use Rattle.multi_hart_laws.proofs.Paths.{line-then}
use Rattle.multi_hart_laws.proofs.ByteLoads.{loads-bytes, byte-written, bytes-apart}
use Rattle.multi_hart_laws.proofs.ByteRows.{extends}
use Rattle.multi_hart_laws.proofs.VectorRows as vector
use Rattle.multi_hart_laws.proofs.FirstRows as firsts
use Rattle.multi_hart_laws.proofs.LaneLoads as memory
use Rattle.task_code_scalar.specs.declared.layouts.Pixels.TheVariants as pixels
use Rattle.task_code_scalar.specs.declared.layouts.BufferLayout.{BufferLayout}
use Rattle.task_code_scalar.specs.Code.{address}
use Rattle.task_code_scalar.specs.Evaluation.{LoadsAt, load_op, word_start}
use Rattle.task_code_scalar.specs.Words.{Emits}
use Rattle.task_code_scalar.proofs.Spelling.{emits_then}
use Rattle.task_code_registers.specs.Emitting.{Makes}
use Rattle.task_code_lanes.specs.declared.groups.LaneGroup.{LaneGroup}
use Rattle.task_code_lanes.specs.Groups.{registers, slots, slot, spare}
use Rattle.task_code_lanes.specs.Leaving.{HasLanes}
use Rattle.task_code_lanes.proofs.Slots.{SlotLies, slot-lies, stack-low, any-group, spare-is}
use Rattle.task_code_lanes.proofs.Rows as rows
use Rattle.task_code_lanes.proofs.ByteRows.{byte-small}
use Rattle.task_code_lane_values.specs.Leaving.{IsUnder, LeavesLanes}
use Rattle.task_code_lane_values.specs.inner.Parts.{LoadsAlong, LoadsFrom}
use Rattle.task_code_lane_values.proofs.Sparing.{Spared, spared, under-apart, under-sorts}

rest-small : (n : ℕ) → n % 256 < 256
rest-small n = omega arith

shift-count : (n : ℕ) → n * 8 % 2 ^ 32 % 32 ≡ 8 * (n % 4)
shift-count n = omega arith

same-rest : (n : ℕ) → n / 4 * 4 + n % 4 ≡ n
same-rest n = omega arith

-- a byte of a word in memory
byte-in : (text m : List ℕ) (c q : ℕ) → AreBytes m → q < 4 → number_in text m Word c % 2 ^ 32 / 2 ^ (8 * q) % 256 ≡ number_in text m Byte (c + q)
byte-in text m c zero are l =
    let b0 = byte-small text m c are in
    let b1 = byte-small text m (c + 1) are in
    let b2 = byte-small text m (c + 2) are in
    let b3 = byte-small text m (c + 3) are in
    let e : c + 0 ≡ c = omega arith in
    (let g : number_in text m Word c % 2 ^ 32 / 2 ^ (8 * 0) % 256 ≡ byte_at text m c = omega (arith, b0, b1, b2, b3) in g) ∙ ap (byte_at text m) (sym e)
byte-in text m c (suc zero) are l =
    let b0 = byte-small text m c are in let b1 = byte-small text m (c + 1) are in let b2 = byte-small text m (c + 2) are in let b3 = byte-small text m
    (c + 3) are in omega (arith, b0, b1, b2, b3)
byte-in text m c (suc (suc zero)) are l =
    let b0 = byte-small text m c are in let b1 = byte-small text m (c + 1) are in let b2 = byte-small text m (c + 2) are in let b3 = byte-small text m
    (c + 3) are in omega (arith, b0, b1, b2, b3)
byte-in text m c (suc (suc (suc zero))) are l =
    let b0 = byte-small text m c are in let b1 = byte-small text m (c + 1) are in let b2 = byte-small text m (c + 2) are in let b3 = byte-small text m
    (c + 3) are in omega (arith, b0, b1, b2, b3)
byte-in text m c (suc (suc (suc (suc q)))) are l = absurd (omega (arith, l))

module _ (w : World) (m : List ℕ) (l : length m ≡ w.size) (group : LaneGroup) (n k : ℕ) (lies : SlotLies group k) (layout : BufferLayout)
    (bytes : layout.pixels ≡ pixels.Bytes) (x y pixel : ℕ → ℕ)
    (can : (i : ℕ) → i < n → LoadsAt w layout m (x i) (y i) (pixel i)) where
  abbrev g : ℕ
  g = registers group

  abbrev r : ℕ
  r = slot group k

  abbrev u : ℕ
  u = spare group

  abbrev spot : ℕ → ℕ
  spot i = address layout w.hart (x i) (y i)

  holds : (i : ℕ) → i < n → number_in w.text m Byte (spot i) ≡ pixel i
  holds i b = subst (λ p. number_in w.text m (load_size (load_op p)) (spot i) ≡ pixel i) bytes (can i b).holds

  -- ---- one after the other

  readable : (i : ℕ) → i < n → Readable w Byte (spot i)
  readable i b = subst (λ p. Readable w (load_size (load_op p)) (spot i)) bytes (can i b).may

  all-readable : (f : ℕ → ℕ) → HasLanes group n f → AllReadable w Byte (f vl_number) spot
  all-readable f has =
      let e = has.count in
      record {
        aligned = λ i b. (readable i (omega (arith, b, e))).aligned;
        above = λ i b. (readable i (omega (arith, b, e))).above;
        below = λ i b. (readable i (omega (arith, b, e))).below;
        may = λ i b. (readable i (omega (arith, b, e))).may;
      }

  byte-is : (i : ℕ) → i < n → number_in w.text m Byte (spot i) % 256 ≡ pixel i
  byte-is i b =
      let c = can i b in
      let small : number_in w.text m Byte (spot i) < 256 = byte-small w.text m (spot i) c.are_bytes in
      let e = holds i b in
      omega (arith, e, small)

  bytes-loaded : (f : ℕ → ℕ) (b : ℕ) → HasLanes group n f → b < 32 → ((i : ℕ) → i < n → lanes.add 32 (f b) i ≡ spot i)
      → LeavesLanes w m (Vector (v.LoadElements Bits8 1 b addressings.UnitStride true) ∷ Vector (v.ExtendBytes r 1 true) ∷ []) f group k n pixel
  bytes-loaded f b has lb far =
      let count = has.count in
      let few = rows.few-lanes w m l group n f has in
      let most = lies.most in
      let found : ℕ → ℕ = (λ i. number_in w.text m Byte (spot i) % 256) in
      let f1 = write_bytes f 1 (f vl_number) found in
      let line = loads-bytes w f m l g has.configured 1 b spot (omega arith) (omega arith) lb (λ i c. far i (omega (arith, c, count))) (all-readable f has) in
      let stays : (q : ℕ) → (q < lane 1 0) ⊎ (lane 1 4 ≤ q) → f1 q ≡ f q = bytes-apart f 1 (f vl_number) found in
      let has1 = rows.lanes-kept w m l group n f f1 (stays vl_number (inl (omega arith))) (stays 33 (inl (omega arith))) has in
      let wr : rows.Writes w m l group n (Vector (v.ExtendBytes r 1 true) ∷ []) f1 r pixel = rows.writes w m l group n pixel (λ i. byte_of (f1 (lane 1
      (i / 4))) (i % 4)) has1 (extends w f1 m l g has1.configured r 1 lies.is_group (omega arith) (omega arith))
      (λ i c. byte-written f 1 (f vl_number) found i (omega (arith, c, count)) (omega (arith, few, most, count)) (λ j d. rest-small _) ∙ byte-is i c) in
      let low = stack-low group in
      record {
        after = wr.after;
        line = line-then w (Vector (v.LoadElements Bits8 1 b addressings.UnitStride true) ∷ []) (Vector
            (v.ExtendBytes r 1 true) ∷ []) f f1 wr.after m m m line wr.line;
        value = wr.value;
        small = λ i c. (can i c).is_word;
        keeps = λ q h.
            let below : q < lane r 0 = elim (under-sorts group k q h) [ inl o ↦ omega (arith, o) | inr o ↦ o.1 ] in
            wr.below q below ∙ stays q (elim (under-sorts group k q h) [ inl o ↦ inl (omega (arith, o)) | inr o ↦ inr (let z = o.0 in omega (arith, z, low)) ]);
      }

  -- ---- at distances

  abbrev a : ℕ → ℕ
  a i = word_start (spot i)

  all-whole : (f : ℕ → ℕ) → HasLanes group n f → AllReadable w Word (f vl_number) a
  all-whole f has =
      let e = has.count in
      record {
        aligned = λ i b. let p = (can i (omega (arith, b, e))).whole in p.aligned;
        above = λ i b. let p = (can i (omega (arith, b, e))).whole in p.above;
        below = λ i b. let p = (can i (omega (arith, b, e))).whole in p.below;
        may = λ i b. let p = (can i (omega (arith, b, e))).whole in p.may;
      }

  abbrev word_at : ℕ → ℕ
  word_at i = number_in w.text m Word (a i) % 2 ^ 32

  cut-is : (i : ℕ) → i < n → word_at i / 2 ^ (spot i * 8 % 2 ^ 32 % 32) % 256 ≡ pixel i
  cut-is i b =
      let c = can i b in
      let q : spot i % 4 < 4 = omega arith in
      ap (λ z. word_at i / 2 ^ z % 256) (shift-count (spot i)) ∙ byte-in w.text m (a i) (spot i % 4) c.are_bytes q ∙ ap (number_in w.text m Byte)
      (same-rest (spot i)) ∙ holds i b

  -- what is in the midst of it: numbers in the slot, how many bits lie before each byte in the scratch group
  record Halfway (is : List Insn) (f v : ℕ → ℕ) : Type 0 where
    after : ℕ → ℕ
    line : Line w is f m after m
    value : (i : ℕ) → i < n → after (lane r i) ≡ v i
    bits : (i : ℕ) → i < n → held after u i ≡ spot i * 8 % 2 ^ 32
    none : after 0 ≡ 0
    has : HasLanes group n after
    keeps : (q : ℕ) → IsUnder group k q → after q ≡ f q

  below-slot : (q : ℕ) → IsUnder group k q → q < lane r 0
  below-slot q h = elim (under-sorts group k q h) [ inl o ↦ omega (arith, o) | inr o ↦ o.1 ]

  beside-spare : (q : ℕ) → IsUnder group k q → (q < 34) ⊎ ((lane (slot group 0) 0 ≤ q) × (q < bit 0))
  beside-spare q h = let high = lies.high in elim (under-sorts group k q h) [ inl o ↦ inl o | inr o ↦ inr (o.0, (let z = o.1 in omega (arith, z, high))) ]

  abbrev to_bits : ℕ → List Insn
  to_bits b = (Vector (v.ArithmeticVx vxs.Vadd r r b true) ∷ []) ++ (Vector (v.ShiftVi shifts.Vsll u r 3 true) ∷ [])

  -- to addresses
  addressed : (f offset : ℕ → ℕ) (b : ℕ) → HasLanes group n f → b < 32 → f 0 ≡ 0 → ((i : ℕ) → i < n → f (lane r i) ≡ offset i)
      → ((i : ℕ) → i < n → (f b + offset i) % 2 ^ 32 ≡ spot i) → Halfway (to_bits b) f spot
  addressed f offset b has lb none hx reach =
      let few = rows.few-lanes w m l group n f has in
      let low = lies.low in
      let high = lies.high in
      let i1 : rows.Writes w m l group n (Vector (v.ArithmeticVx vxs.Vadd r r b true) ∷ []) f r spot =
      rows.writes w m l group n spot (λ i. lanes.add 32 (f (lane r i)) (f b % 2 ^ 32)) has (vector.arithmetic-vx w f m l g has.configured vxs.Vadd r r b
      lies.is_group lies.is_group lb)
      (λ i lt. let o = offset i in let c = f b in let g2 : (o + c % 2 ^ 32) % 2 ^ 32 ≡ (c + o) % 2 ^ 32 = omega arith in ap (λ z. lanes.add 32 z
      (f b % 2 ^ 32)) (hx i lt) ∙ g2 ∙ reach i lt) in
      let has1 = rows.writes-lanes w m l group n i1 has in
      let i2 : Spared w m l group n k lies (Vector (v.ShiftVi shifts.Vsll u r 3 true) ∷ []) i1.after (λ i. spot i * 8 % 2 ^ 32) =
      spared w m l group n k lies (λ i. spot i * 8 % 2 ^ 32) (λ i. lanes.shift_left 32 (held i1.after r i) 3) has1 few
      (firsts.shift-vi w i1.after m l g has1.configured shifts.Vsll u r 3 (spare-is group) (any-group g r lies.few lies.is_group))
      (λ i lt. ap (λ z. lanes.shift_left 32 z 3) (rows.slot-held w m l group n k lies i1.after i ∙ i1.value i lt)) (λ i lt. omega arith) in
      record {
        after = i2.after;
        line = line-then w (Vector (v.ArithmeticVx vxs.Vadd r r b true) ∷ []) (Vector (v.ShiftVi shifts.Vsll u r 3 true) ∷ []) f i1.after i2.after m m m
            i1.line i2.line;
        value = λ i lt. i2.keeps (lane r i) (inr (omega (arith, low), omega (arith, high, few, lt))) ∙ i1.value i lt;
        bits = i2.value;
        none = i2.keeps 0 (inl (omega arith)) ∙ i1.below 0 (omega arith) ∙ none;
        has = rows.lanes-kept w m l group n i1.after i2.after (i2.keeps vl_number (inl (omega arith))) (i2.keeps vtype_number (inl (omega arith))) has1;
        keeps = λ q h. i2.keeps q (beside-spare q h) ∙ i1.below q (below-slot q h);
      }

  abbrev to_words : List Insn
  to_words = (Vector (v.ArithmeticVi vis.Vand r r (negsuc 3) true) ∷ []) ++ (Vector (v.LoadElements Bits32 r 0 (addressings.Indexed r) true) ∷ [])

  -- to the words there
  fetched : (f : ℕ → ℕ) → HasLanes group n f → f 0 ≡ 0 → ((i : ℕ) → i < n → f (lane r i) ≡ spot i) → ((i : ℕ) → i < n → held f u i ≡ spot i * 8 % 2 ^ 32)
      → Halfway to_words f word_at
  fetched f has none hx hu =
      let few = rows.few-lanes w m l group n f has in
      let aside : rows.Aside w m l group n k lies u = inr refl in
      let i3 : rows.Writes w m l group n (Vector (v.ArithmeticVi vis.Vand r r (negsuc 3) true) ∷ []) f r a =
      rows.writes w m l group n a (λ i. bit_and (f (lane r i)) (lanes.wrapped 32 (negsuc 3))) has (vector.arithmetic-vi w f m l g has.configured vis.Vand r
      r (negsuc 3) lies.is_group lies.is_group)
      (λ i lt. ap (λ z. bit_and z (lanes.wrapped 32 (negsuc 3))) (hx i lt) ∙ and_high_mask 32 2 (omega arith) (spot i) (can i lt).low) in
      let has3 = rows.writes-lanes w m l group n i3 has in
      let count = has3.count in
      let z3 : i3.after 0 ≡ 0 = i3.below 0 (omega arith) ∙ none in
      let i4 : rows.Writes w m l group n (Vector (v.LoadElements Bits32 r 0 (addressings.Indexed r) true) ∷ []) i3.after r word_at =
      rows.writes w m l group n word_at word_at has3
      (memory.loads w i3.after m l g has3.configured (addressings.Indexed r) r 0 a lies.is_group (omega arith) lies.is_group
      (λ i lt.
      let less : i < n = omega (arith, lt, count) in
      let s = (can i less).low in
      let g4 : (0 + spot i / 4 * 4) % 2 ^ 32 ≡ spot i / 4 * 4 = omega (arith, s) in
      ap (λ q. lanes.add 32 q (i3.after (lane r i))) z3 ∙ ap (lanes.add 32 0) (i3.value i less) ∙ g4) (all-whole i3.after has3))
      (λ i lt. refl) in
      record {
        after = i4.after;
        line = line-then w (Vector (v.ArithmeticVi vis.Vand r r (negsuc 3) true) ∷ []) (Vector (v.LoadElements Bits32 r 0
            (addressings.Indexed r) true) ∷ []) f i3.after i4.after m m m i3.line i4.line;
        value = i4.value;
        bits = rows.aside-stays w m l group n k lies i4 aside few (rows.aside-stays w m l group n k lies i3 aside few hu);
        none = i4.below 0 (omega arith) ∙ z3;
        has = rows.writes-lanes w m l group n i4 has3;
        keeps = λ q h. i4.below q (below-slot q h) ∙ i3.below q (below-slot q h);
      }

  abbrev to_bytes : List Insn → List Insn
  to_bytes literal = (Vector (v.ArithmeticVv vvs.Vsrl r r u true) ∷ []) ++ (literal ++ (Vector (v.ArithmeticVx vxs.Vand r r 13 true) ∷ []))

  -- to the bytes
  cut : (f : ℕ → ℕ) (c0 c1 : List ℕ) → (lit : Makes c0 c1 2 13 (λ f. 255)) → HasLanes group n f → f 0 ≡ 0 → ((i : ℕ) → i < n → f (lane r i) ≡ word_at i)
      → ((i : ℕ) → i < n → held f u i ≡ spot i * 8 % 2 ^ 32) → LeavesLanes w m (to_bytes lit.insns) f group k n pixel
  cut f c0 c1 lit has none hx hu =
      let ir = any-group g r lies.few lies.is_group in
      let shifted : ℕ → ℕ = (λ i. word_at i / 2 ^ (spot i * 8 % 2 ^ 32 % 32)) in
      let i5 : rows.Writes w m l group n (Vector (v.ArithmeticVv vvs.Vsrl r r u true) ∷ []) f r shifted =
      rows.slot-writes w m l group n k lies shifted (λ i. held f r i / 2 ^ (held f u i % 32)) has (firsts.arithmetic-vv w f m l g has.configured vvs.Vsrl r
      r u ir ir (spare-is group))
      (λ i lt. ap (λ q. q / 2 ^ (held f u i % 32)) (rows.slot-held w m l group n k lies f i ∙ hx i lt) ∙ ap (λ q. word_at i / 2 ^ (q % 32)) (hu i lt)) in
      let has5 = rows.writes-lanes w m l group n i5 has in
      let i6 = lit.does w m i5.after l (i5.below 0 (omega arith) ∙ none) in
      let same6 : (q : ℕ) → q ≢ 13 → q ≢ 14 → i6.after q ≡ i5.after q = (λ q p s. i6.others q p p s) in
      let has6 = rows.lanes-kept w m l group n i5.after i6.after (same6 vl_number (λ e. omega (arith, e)) (λ e. omega (arith, e))) (same6 vtype_number
      (λ e. omega (arith, e)) (λ e. omega (arith, e))) has5 in
      let i7 : rows.Writes w m l group n (Vector (v.ArithmeticVx vxs.Vand r r 13 true) ∷ []) i6.after r pixel =
      rows.writes w m l group n pixel (λ i. bit_and (i6.after (lane r i)) (i6.after 13 % 2 ^ 32)) has6
      (vector.arithmetic-vx w i6.after m l g has6.configured vxs.Vand r r 13 lies.is_group lies.is_group (omega arith))
      (λ i lt.
      ap (λ q. bit_and q (i6.after 13 % 2 ^ 32)) (same6 (lane r i) (λ e. omega (arith, e)) (λ e. omega (arith, e)) ∙ i5.value i lt)
      ∙ ap (λ q. bit_and (shifted i) (q % 2 ^ 32)) i6.value ∙ and_mask (shifted i) 8 ∙ cut-is i lt) in
      let n5 = Vector (v.ArithmeticVv vvs.Vsrl r r u true) ∷ [] in
      let n7 = Vector (v.ArithmeticVx vxs.Vand r r 13 true) ∷ [] in
      record {
        after = i7.after;
        line = line-then w n5 (lit.insns ++ n7) f i5.after i7.after m m m i5.line (line-then w lit.insns n7 i5.after i6.after i7.after m m m i6.line i7.line);
        value = i7.value;
        small = λ i lt. (can i lt).is_word;
        keeps = λ q h. let d = under-apart group k q h in i7.below q (below-slot q h) ∙ same6 q d.0 d.1 ∙ i5.below q (below-slot q h);
      }

  bytes-cut : (f offset : ℕ → ℕ) (b : ℕ) (c0 c1 : List ℕ) → (lit : Makes c0 c1 2 13 (λ f. 255)) → HasLanes group n f → b < 32 → f 0 ≡ 0 → ((i : ℕ)
      → i < n → f (lane r i) ≡ offset i)
      → ((i : ℕ) → i < n → (f b + offset i) % 2 ^ 32 ≡ spot i) → LeavesLanes w m (to_bits b ++ (to_words ++ to_bytes lit.insns)) f group k n pixel
  bytes-cut f offset b c0 c1 lit has lb none hx reach =
      let x1 = addressed f offset b has lb none hx reach in
      let x2 = fetched x1.after x1.has x1.none x1.value x1.bits in
      let x3 = cut x2.after c0 c1 lit x2.has x2.none x2.value x2.bits in
      record {
        after = x3.after;
        line = line-then w (to_bits b) (to_words ++ to_bytes lit.insns) f x1.after x3.after m m m x1.line (line-then w to_words
            (to_bytes lit.insns) x1.after x2.after x3.after m m m x2.line x3.line);
        value = x3.value;
        small = x3.small;
        keeps = λ q h. x3.keeps q h ∙ x2.keeps q h ∙ x1.keeps q h;
      }

-- ---- as the emitters call it

pub bytes-along : (group : LaneGroup) (k b a : ℕ) (c0 c1 : List ℕ) → k < slots group → b < 32 → a ≡ slot group k
    → Emits c0 c1 (Vector (v.LoadElements Bits8 1 b addressings.UnitStride true) ∷ Vector (v.ExtendBytes a 1 true) ∷ [])
    → LoadsAlong c0 c1 group k b pixels.Bytes
bytes-along group k b a c0 c1 in-stack lb ea z = record {
  insns = Vector (v.LoadElements Bits8 1 b addressings.UnitStride true) ∷ Vector (v.ExtendBytes (slot group k) 1 true) ∷ [];
  emits = subst (λ q. Emits c0 c1 (Vector (v.LoadElements Bits8 1 b addressings.UnitStride true) ∷ Vector (v.ExtendBytes q 1 true) ∷ [])) ea z;
  does = λ w m n f x y pixel place l has bytes can reach.
      bytes-loaded w m l group n k (slot-lies group k in-stack) place bytes x y pixel can f b has lb
      (λ i lt. let one : i * 1 ≡ i = omega arith in ap (λ q. (f b + q) % 2 ^ 32) (sym one) ∙ reach i lt);
}

pub bytes-from : (group : LaneGroup) (k b a u : ℕ) (c0 c1 c2 c3 c4 c5 c6 c7 : List ℕ) → k < slots group → b < 32 → a ≡ slot group k → u ≡ spare group
    → Emits c0 c1 (Vector (v.ArithmeticVx vxs.Vadd a a b true) ∷ []) → Emits c1 c2 (Vector (v.ShiftVi shifts.Vsll u a 3 true) ∷ [])
    → Emits c2 c3 (Vector (v.ArithmeticVi vis.Vand a a (negsuc 3) true) ∷ []) → Emits c3 c4 (Vector (v.LoadElements Bits32 a 0
    (addressings.Indexed a) true) ∷ [])
    → Emits c4 c5 (Vector (v.ArithmeticVv vvs.Vsrl a a u true) ∷ []) → Makes c5 c6 2 13 (λ f. 255) → Emits c6 c7 (Vector
    (v.ArithmeticVx vxs.Vand a a 13 true) ∷ [])
    → LoadsFrom c0 c7 group k b pixels.Bytes
bytes-from group k b a u c0 c1 c2 c3 c4 c5 c6 c7 in-stack lb ea eu z1 z2 z3 z4 z5 lit z7 =
    let r = slot group k in
    let s = spare group in
    record {
      insns = ((Vector (v.ArithmeticVx vxs.Vadd r r b true) ∷ []) ++ (Vector (v.ShiftVi shifts.Vsll s r 3 true) ∷ []))
          ++ (((Vector (v.ArithmeticVi vis.Vand r r (negsuc 3) true) ∷ []) ++ (Vector (v.LoadElements Bits32 r 0 (addressings.Indexed r) true) ∷ []))
          ++ ((Vector (v.ArithmeticVv vvs.Vsrl r r s true) ∷ []) ++ (lit.insns ++ (Vector (v.ArithmeticVx vxs.Vand r r 13 true) ∷ []))));
      emits =
          emits_then
          (emits_then (subst (λ q. Emits c0 c1 (Vector (v.ArithmeticVx vxs.Vadd q q b true) ∷ [])) ea z1)
          (subst (λ q. Emits c1 c2 (Vector (v.ShiftVi shifts.Vsll q r 3 true) ∷ [])) eu (subst (λ q. Emits c1 c2 (Vector
          (v.ShiftVi shifts.Vsll u q 3 true) ∷ [])) ea z2)))
          (emits_then
          (emits_then (subst (λ q. Emits c2 c3 (Vector (v.ArithmeticVi vis.Vand q q (negsuc 3) true) ∷ [])) ea z3)
          (subst (λ q. Emits c3 c4 (Vector (v.LoadElements Bits32 q 0 (addressings.Indexed q) true) ∷ [])) ea z4))
          (emits_then (subst (λ q. Emits c4 c5 (Vector (v.ArithmeticVv vvs.Vsrl r r q true) ∷ [])) eu (subst (λ q. Emits c4 c5 (Vector
          (v.ArithmeticVv vvs.Vsrl q q u true) ∷ [])) ea z5))
          (emits_then lit.emits (subst (λ q. Emits c6 c7 (Vector (v.ArithmeticVx vxs.Vand q q 13 true) ∷ [])) ea z7))));
      does = λ w m n f x y pixel offset place l has none bytes can holds reach.
          bytes-cut w m l group n k (slot-lies group k in-stack) place bytes x y pixel can f offset b c5 c6 lit has lb none holds reach;
    }

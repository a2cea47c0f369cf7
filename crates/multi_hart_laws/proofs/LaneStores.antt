-- Vector rows that store lanes of 32 bits, and where lanes lie in memory.
use Rattle.std.proofs.Common.{◌≡◌, ℕ, zero, suc, ◌+◌, ◌*◌, ◌%◌, ◌^◌, ◌<◌, ◌≤◌, List, [], ◌∷◌, length, None, Some, Bool, true, false, refl, ap, ◌∙◌, sym, subst}
use Rattle.std.proofs.Common.{arith, inl}
use Rattle.std.specs.Prelude.{Option, ◌/◌, ◌==◌, ◌&&◌, ◌||◌, not, cond, map, nat_lt}
use Rattle.std.specs.List.{range_with_len}
use Rattle.std.proofs.Math.Nat.{mod-eq_of_lt}
use Rattle.std.proofs.lemmas.Bool.Decides.{nat_tests}
use Rattle.std.proofs.lemmas.List.FromFn.{length-map-range_with_len, get_or-map-range_with_len}
use Rattle.lanes.specs.Words as word
use Rattle.lanes.specs.Words.{chosen_of}
use Rattle.rv_insn.specs.declared.outcomes.Trap.{Trap}
use Rattle.rv_insn.specs.declared.outcomes.Trap.TheVariants.{IllegalInstruction}
use Rattle.rv_insn.specs.declared.instructions.Insn.TheVariants.{Vector}
use Rattle.rv_insn.specs.declared.vector_instructions.VectorInsn.TheVariants as v
use Rattle.rv_insn.specs.declared.vector_instructions.Addressing.{Addressing}
use Rattle.rv_insn.specs.declared.vector_instructions.Addressing.TheVariants as addressings
use Rattle.rv_insn.specs.declared.vector_operations.ElementWidth.TheVariants as widths
use Rattle.memory.specs.Access.{put, Size, Byte, Half, Word, Writes as WritesKind, Kind, access_at, first_fault, or_else, touched, spread}
use Rattle.multi_hart.specs.Run.{Within, is_in, writes}
use Rattle.hart_core.specs.HartState.{HartState, register, vectors_of, advanced, at_pc}
use Rattle.hart_core.specs.Scalar.{one_access}
use Rattle.hart_core.specs.Turn.{fault}
use Rattle.vector_unit.specs.Vector.{group_of, element_from, width, count, active_in, group_at, is_unfit, is_refused, is_other_width}
use Rattle.vector_unit.specs.Accesses.{spacing_of, offset, addresses_by, active_numbers}
use Rattle.multi_hart_laws.specs.Uses.{MayWrite}
use Rattle.multi_hart_laws.specs.Alone.{World, Says, Keeps}
use Rattle.multi_hart_laws.specs.Paths.{lane, vl_number, LanesConfigured, IsGroup, At, Comes, Line, Writes, stored_at}
use Rattle.multi_hart_laws.specs.LaneMemory.{firsts, accesses_to, AllWritable, stored_lanes, offset_at, OffsetsFit}
use Rattle.multi_hart_laws.proofs.Rules.{next-by, in-front}
use Rattle.multi_hart_laws.proofs.Paths.{spot, at-to}
use Rattle.multi_hart_laws.proofs.Jumps.{store-free}
use Rattle.multi_hart_laws.proofs.VectorRows.{width-is, count-is, lane-is, allowed}
use Rattle.multi_hart_laws.proofs.Flags.{flags-length, flag-on, flag-off, first-chosen, firsts-same, map-firsts}
use Rattle.multi_hart_laws.proofs.MaskRows.{few-registers}

-- ---- lists of accesses

none-first : (t rest : Option Trap) → or_else (or_else t None) None ≡ None → rest ≡ None → or_else t rest ≡ None
none-first None rest e r = r
none-first (Some t) rest e r = absurd (cc e)

pub all-free : (words bytes : ℕ) (kind : Kind) (size : Size) (i n : ℕ) (a : ℕ → ℕ) → ((k : ℕ) → i ≤ k → k < i + n
    → or_else (first_fault words bytes kind (one_access size (a k))) None ≡ None)
    → first_fault words bytes kind (map (access_at size) (firsts i n a)) ≡ None
all-free words bytes kind size i zero a free = refl
all-free words bytes kind size i (suc n) a free =
    none-first _ _ (free i (omega arith) (omega arith)) (all-free words bytes kind size (suc i) n a (λ k lo hi. free k (omega (arith, lo)) (omega (arith, hi))))

pub all-within : (rule : ℕ → Type 0) (size : Size) (i n : ℕ) (a : ℕ → ℕ) → ((k : ℕ) → i ≤ k → k < i + n → Within rule (touched (one_access size (a k))))
    → Within rule (touched (map (access_at size) (firsts i n a)))
all-within rule Byte i zero a may = tt
all-within rule Half i zero a may = tt
all-within rule Word i zero a may = tt
all-within rule Byte i (suc n) a may =
    let m = may i (omega arith) (omega arith) in (m.0, all-within rule Byte (suc i) n a (λ k lo hi. may k (omega (arith, lo)) (omega (arith, hi))))
all-within rule Half i (suc n) a may =
    let m = may i (omega arith) (omega arith) in (m.0, (m.1.0, all-within rule Half (suc i) n a (λ k lo hi. may k (omega (arith, lo)) (omega (arith, hi)))))
all-within rule Word i (suc n) a may =
    let m = may i (omega arith) (omega arith) in
    (m.0, (m.1.0, (m.1.1.0, (m.1.1.1.0, all-within rule Word (suc i) n a (λ k lo hi. may k (omega (arith, lo)) (omega (arith, hi)))))))

-- ---- words stored one after the other

put_from : List ℕ → ℕ → ℕ → (ℕ → ℕ) → (ℕ → ℕ) → List ℕ
put_from m i zero a x = m
put_from m i (suc n) a x = put_from (stored_at m Word (a i) (x i)) (suc i) n a x

put-all : (m : List ℕ) (i n : ℕ) (a x : ℕ → ℕ) → put m (touched (map (access_at Word) (firsts i n a))) (spread (map (access_at Word) (firsts i n a))
    (firsts i n x)) ≡ put_from m i n a x
unfolding put_from
put-all m i zero a x = refl
put-all m i (suc n) a x = put-all (stored_at m Word (a i) (x i)) (suc i) n a x

put-last : (m : List ℕ) (i n : ℕ) (a x : ℕ → ℕ) → put_from m i (suc n) a x ≡ stored_at (put_from m i n a x) Word (a (i + n)) (x (i + n))
unfolding put_from
put-last m i zero a x = let e : i ≡ i + 0 = omega arith in ap (λ k. stored_at m Word (a k) (x k)) e
put-last m i (suc n) a x =
    let e : suc i + n ≡ i + suc n = omega arith in
    put-last (stored_at m Word (a i) (x i)) (suc i) n a x ∙ ap (λ k. stored_at (put_from (stored_at m Word (a i) (x i)) (suc i) n a x) Word (a k) (x k)) e

put-is : (m : List ℕ) (n : ℕ) (a x : ℕ → ℕ) → put_from m 0 n a x ≡ stored_lanes m Word n a x
unfolding put_from
put-is m zero a x = refl
put-is m (suc n) a x =
    let e : 0 + n ≡ n = omega arith in
    put-last m 0 n a x ∙ ap (λ z. stored_at z Word (a (0 + n)) (x (0 + n))) (put-is m n a x) ∙ ap (λ k. stored_at (stored_lanes m Word n a x) Word (a k) (x k))
    e

never : (b : Bool) → (b && false) ≡ false
never true = refl
never false = refl

-- ---- where lanes lie, and which rows are legal

module _ (at g : ℕ) (f : ℕ → ℕ) (h : HartState) (s : At at f h) (c : LanesConfigured f g) where
  pub lies : (addressing : Addressing) (b : ℕ) (a : ℕ → ℕ) → b < 32 → OffsetsFit g addressing → ((k : ℕ) → k < f vl_number
      → word.add 32 (f b) (offset_at f addressing k) ≡ a k)
      → (k : ℕ) → k < f vl_number → word.add 32 (register h b) (offset (vectors_of h) (spacing_of widths.Bits32 addressing (register h)) k) ≡ a k
  lies addressings.UnitStride b a lb fit e k lk = ap (λ n. word.add 32 n (k * 4)) (s.same b lb) ∙ e k lk
  lies (addressings.Strided r) b a lb fit e k lk =
      ap (λ n. word.add 32 n (word.multiply 32 k (register h r))) (s.same b lb) ∙ ap (λ n. word.add 32 (f b) (word.multiply 32 k n)) (s.same r fit) ∙ e k lk
  lies (addressings.Indexed u) b a lb fit e k lk =
      ap (λ n. word.add 32 n (element_from (vectors_of h) (width (vectors_of h)) u k)) (s.same b lb)
      ∙ ap (λ n. word.add 32 (f b) (element_from (vectors_of h) n u k)) (width-is at g f h s c)
      ∙ ap (word.add 32 (f b)) (lane-is at g f h s c u k fit (let q = c.fits in omega (arith, lk, q))) ∙ e k lk

  -- elements of a row that are active, of any values
  pub first-active : (F : ℕ → ℕ) → chosen_of (active_in (vectors_of h) true) (map F (range_with_len 0 (count (vectors_of h)))) ≡ firsts 0 (f vl_number) F
  first-active F =
      let q = c.fits in
      let n = count-is at g f h s c in
      let size = flags-length at g f h s c in
      let long = length-map-range_with_len F 0 (count (vectors_of h)) in
      first-chosen 0 (f vl_number) (active_in (vectors_of h) true) (map F (range_with_len 0 (count (vectors_of h)))) F (omega (arith, size, q))
      (omega (arith, long, n, q)) (flag-on at g f h s c) (flag-off at g f h s c)
      (λ j lj. get_or-map-range_with_len F 0 (count (vectors_of h)) j (0 + j) 0 (omega (arith, lj, q, n)) refl)

  pub addresses-are : (addressing : Addressing) (b : ℕ) (a : ℕ → ℕ) → b < 32 → OffsetsFit g addressing → ((k : ℕ) → k < f vl_number
      → word.add 32 (f b) (offset_at f addressing k) ≡ a k)
      → addresses_by (vectors_of h) (spacing_of widths.Bits32 addressing (register h)) true (register h b) ≡ firsts 0 (f vl_number) a
  unfolding addresses_by
  addresses-are addressing b a lb fit e =
      let F = offset (vectors_of h) (spacing_of widths.Bits32 addressing (register h)) in
      ap (map (word.add 32 (register h b))) (first-active F) ∙ map-firsts 0 (f vl_number) F (word.add 32 (register h b))
      ∙ firsts-same 0 (f vl_number) (λ k. word.add 32 (register h b) (F k)) a (λ k lo hi. lies addressing b a lb fit e k (omega (arith, hi)))

  pub numbers-are : (u : ℕ) → IsGroup g u → active_numbers (vectors_of h) widths.Bits32 u true ≡ firsts 0 (f vl_number) (λ k. f (lane u k))
  numbers-are u iu =
      first-active (element_from (vectors_of h) 32 u)
      ∙ firsts-same 0 (f vl_number) (element_from (vectors_of h) 32 u) (λ k. f (lane u k)) (λ k lo hi. lane-is at g f h s c u k iu (let q = c.fits in
      omega (arith, hi, q)))

  pub fits-group : (u : ℕ) → IsGroup g u → is_unfit (vectors_of h) (Some (widths.Bits32, u)) ≡ false
  fits-group u iu =
      let few = few-registers f g c in
      let e : group_at (vectors_of h) widths.Bits32 ≡ g = ap (λ q. 32 * q / width (vectors_of h)) (ap group_of s.vtype ∙ c.group)
      ∙ ap (λ x. 32 * g / x) (width-is at g f h s c) ∙ (let z : 32 * g / 32 ≡ g = omega arith in z) in
      let t : nat_lt 4 g ≡ false = grind (arith, nat_tests, few) in
      ap (λ q. nat_lt 4 q || (nat_lt 1 q && not (u % q == 0))) e ∙ ap (λ b. b || (nat_lt 1 g && not (u % g == 0))) t
      ∙ ap (λ n. nat_lt 1 g && not (n == 0)) iu.placed ∙ never (nat_lt 1 g)

  pub same-width : is_other_width (vectors_of h) (Some widths.Bits32) ≡ false
  same-width = ap (λ n. not (32 == n)) (width-is at g f h s c)

  pub store-legal : (addressing : Addressing) (u b : ℕ) → IsGroup g u → OffsetsFit g addressing
      → is_refused (v.StoreElements widths.Bits32 u b addressing true) (vectors_of h) ≡ false
  store-legal addressings.UnitStride u b iu fit = allowed at g f h s c (v.StoreElements widths.Bits32 u b addressings.UnitStride true) refl refl tt
      (fits-group u iu)
  store-legal (addressings.Strided r) u b iu fit = allowed at g f h s c (v.StoreElements widths.Bits32 u b (addressings.Strided r) true) refl refl tt
      (fits-group u iu)
  store-legal (addressings.Indexed o) u b iu fit = allowed at g f h s c (v.StoreElements widths.Bits32 u b (addressings.Indexed o) true) refl same-width
      (iu, (fit, tt)) refl

-- ---- rows

module _ (w : World) (f : ℕ → ℕ) (m : List ℕ) (l : length m ≡ w.size) (g : ℕ) (c : LanesConfigured f g) (addressing : Addressing) (u b : ℕ) (a : ℕ
    → ℕ) (iu : IsGroup g u) (lb : b < 32) (fit : OffsetsFit g addressing) (e : (k : ℕ) → k < f vl_number → word.add 32 (f b) (offset_at f addressing k) ≡ a k)
    (can : AllWritable w Word (f vl_number) a) where
  no-trap : (at : ℕ) (h : HartState) → At at f h → fault (length w.text) w.size (Vector (v.StoreElements widths.Bits32 u b addressing true)) h ≡ None
  no-trap at h s =
      let places = addresses_by (vectors_of h) (spacing_of widths.Bits32 addressing (register h)) true (register h b) in
      ap (λ t. or_else (cond t (Some IllegalInstruction) None) (or_else (first_fault (length w.text) w.size WritesKind (map (access_at Word) places)) None))
      (store-legal at g f h s c addressing u b iu fit)
      ∙ ap (λ q. or_else (first_fault (length w.text) w.size WritesKind (map (access_at Word) q)) None) (addresses-are at g f h s c addressing b a lb fit e)
      ∙ ap (λ t. or_else t None) (all-free (length w.text) w.size WritesKind Word 0 (f vl_number) a (λ k lo hi. let lk : k < f vl_number = omega (arith, hi) in
      store-free Word (length w.text) w.size (a k) (can.aligned k lk) (can.above k lk) (can.below k lk)))

  pub stores : Line w (Vector (v.StoreElements widths.Bits32 u b addressing true) ∷ []) f m f (stored_lanes m Word (f vl_number) a (λ k. f (lane u k)))
  stores at s h st =
      let n = f vl_number in
      let x : ℕ → ℕ = λ k. f (lane u k) in
      let places = addresses-are at g f h st c addressing b a lb fit e in
      let ep : (h.pc + 4) % 2 ^ 32 ≡ at + 4 = ap (λ p. (p + 4) % 2 ^ 32) st.pc ∙ mod-eq_of_lt (spot w.text (at + 4) [] s.1).low in
      let here : At (at + 4) f (advanced h) = subst (λ p. At (at + 4) f (at_pc h p)) (sym ep) (at-to at (at + 4) f h st) in
      let left : put m (touched (map (access_at Word) (addresses_by (vectors_of h) (spacing_of widths.Bits32 addressing (register h)) true (register h b))))
      (spread (map (access_at Word) (addresses_by (vectors_of h) (spacing_of widths.Bits32 addressing (register h)) true (register h b)))
      (active_numbers (vectors_of h) widths.Bits32 u true)) ≡ stored_lanes m Word n a x =
      ap (λ q. put m (touched (map (access_at Word) q)) (spread (map (access_at Word) q) (active_numbers (vectors_of h) widths.Bits32 u true))) places
      ∙ ap (λ ns. put m (touched (map (access_at Word) (firsts 0 n a))) (spread (map (access_at Word) (firsts 0 n a)) ns)) (numbers-are at g f h st c u iu)
      ∙ put-all m 0 n a x ∙ put-is m n a x in
      in-front w (Comes (at + 4) f (stored_lanes m Word n a x)) 0 at (Vector (v.StoreElements widths.Bits32 u b addressing true)) h m l st.running st.pc s.0
      (no-trap at h st)
      tt
      (subst (λ q. Within (λ y. MayWrite w.job w.hart (w.uses y)) (touched (map (access_at Word) q))) (sym places)
      (all-within (λ y. MayWrite w.job w.hart (w.uses y)) Word 0 n a (λ k lo hi. can.may k (omega (arith, hi)))))
      (subst (λ q. Keeps w (touched (map (access_at Word) q))) (sym places) can.keeps)
      (here, left)

  -- and it writes all their bytes
  pub stores-write : (at y : ℕ) → Says w.text at (Vector (v.StoreElements widths.Bits32 u b addressing true))
      → is_in y (touched (accesses_to Word (f vl_number) a)) ≡ true → Writes w at 1 f m y
  stores-write at y s i h st =
      let d = next-by w.text w.size h at (Vector (v.StoreElements widths.Bits32 u b addressing true)) st.running st.pc s (no-trap at h st) in
      inl (ap (λ z. is_in y (writes z h)) d ∙ ap (λ q. is_in y (touched (map (access_at Word) q))) (addresses-are at g f h st c addressing b a lb fit e) ∙ i)

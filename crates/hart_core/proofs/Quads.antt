-- Elements that are moved four by four, one after the other in data: that each lies there, and what four leave.
use Rattle.std.proofs.Common.{◌≡◌, ℕ, zero, suc, ◌+◌, ◌-◌, ◌*◌, ◌/◌, ◌^◌, ◌<◌, ◌≤◌, List, [], ◌∷◌, length, map, true, false, refl, sym, ◌∙◌, ap, subst, arith}
use Rattle.std.proofs.Common.{◌&&◌}
use Rattle.std.specs.Prelude.{replicate, nat_lt, nat_le}
use Rattle.std.specs.List.{range_with_len}
use Rattle.std.proofs.Math.ListN.{length-set}
use Rattle.std.proofs.lemmas.Bool.{and_parts, leb-true, not-false}
use Rattle.rv_insn.specs.declared.vector_operations.ElementWidth.{ElementWidth}
use Rattle.rv_insn.specs.declared.vector_operations.ElementWidth.TheVariants as widths
use Rattle.memory.specs.Access.{put, put_byte, Access, Size, access_at, bytes_in, bytes_of, places_of, put_number, spread, touched}
use Rattle.vector_unit.specs.Vector.{Vectors, is_supported, has_vill, vlmul_of, vsew_of, group_of, bits_of, count}
use Rattle.vector_unit.specs.Accesses.{filled_from, with_element_from}
use Rattle.hart_core.specs.VectorRows.{accesses_at, size_of}
use Rattle.hart_core.specs.HartState.{HartState, vectors_of, with_vectors}
use Rattle.hart_core.specs.inner.Pieces.{addresses_from, LiesInData}
use Rattle.hart_core.proofs.Lying.{others-lie}

four-more : (n : ℕ) → 0 < n → 4 * n ≡ suc (suc (suc (suc (4 * (n - 1)))))
four-more n p = omega (arith, p)

-- ---- where they lie

module _ (bytes : ℕ) (w : ElementWidth) (address others : ℕ) (some : 0 < others) (l : LiesInData bytes w address (4 * others)) where
  pub first : LiesInData bytes w address (suc (suc (suc (suc (4 * (others - 1))))))
  first = subst (LiesInData bytes w address) (four-more others some) l

  pub second : LiesInData bytes w (address + bytes_in (size_of w)) (suc (suc (suc (4 * (others - 1)))))
  second = others-lie bytes w address _ first

  pub third : LiesInData bytes w (address + bytes_in (size_of w) + bytes_in (size_of w)) (suc (suc (4 * (others - 1))))
  third = others-lie bytes w _ _ second

  pub fourth : LiesInData bytes w (address + bytes_in (size_of w) + bytes_in (size_of w) + bytes_in (size_of w)) (suc (4 * (others - 1)))
  fourth = others-lie bytes w _ _ third

  pub behind : LiesInData bytes w (address + bytes_in (size_of w) + bytes_in (size_of w) + bytes_in (size_of w) + bytes_in (size_of w)) (4 * (others - 1))
  behind = others-lie bytes w _ _ fourth

-- those after the first four
module _ (bytes : ℕ) (w : ElementWidth) (address others b : ℕ) (e : b ≡ bytes_in (size_of w)) (some : 0 < others) (l : LiesInData bytes w address (4 * others))
  where
    pub next-lie : LiesInData bytes w (address + 4 * b) (4 * (others - 1))
    next-lie =
        let z = bytes_in (size_of w) in
        let place : address + z + z + z + z ≡ address + 4 * b = omega (arith, e) in
        subst (λ a. LiesInData bytes w a (4 * (others - 1))) place (behind bytes w address others some l)

-- ---- what four leave

-- an element that is loaded from an address
abbrev pub at : ElementWidth → ℕ → (Access → ℕ) → Vectors → ℕ → ℕ → Vectors
at w v f state i a = with_element_from state (bits_of w) v i (f (access_at (size_of w) a))

-- the rest, from an element and an address on
abbrev pub others-filled : ElementWidth → ℕ → (Access → ℕ) → Vectors → ℕ → ℕ → ℕ → Vectors
others-filled w v f state i a n = filled_from i state (bits_of w) v (replicate n true) (map f (accesses_at w (addresses_from w a n)))

pub loaded-four : (state : Vectors) (w : ElementWidth) (v address quad others : ℕ) (f : Access → ℕ) → 0 < others
    → filled_from (4 * quad) state (bits_of w) v (replicate (4 * others) true) (map f (accesses_at w (addresses_from w address (4 * others))))
    ≡ others-filled w v f
    (at w v f (at w v f (at w v f (at w v f state (4 * quad) address) (4 * quad + 1) (address + bytes_in (size_of w))) (4 * quad + 2)
    (address + bytes_in (size_of w) + bytes_in (size_of w)))
    (4 * quad + 3) (address + bytes_in (size_of w) + bytes_in (size_of w) + bytes_in (size_of w)))
    (4 * (quad + 1)) (address + bytes_in (size_of w) + bytes_in (size_of w) + bytes_in (size_of w) + bytes_in (size_of w)) (4 * (others - 1))
loaded-four state w v address quad others f some =
    let b : ℕ = bytes_in (size_of w) in
    let all : ℕ → ℕ → ℕ → Vectors = λ i2 i3 i4. others-filled w v f
    (at w v f (at w v f (at w v f (at w v f state (4 * quad) address) (4 * quad + 1) (address + b)) i2 (address + b + b)) i3 (address + b + b + b))
    i4 (address + b + b + b + b) (4 * (others - 1)) in
    let e2 : 4 * quad + 1 + 1 ≡ 4 * quad + 2 = omega arith in
    let e3 : 4 * quad + 1 + 1 + 1 ≡ 4 * quad + 3 = omega arith in
    let e4 : 4 * quad + 1 + 1 + 1 + 1 ≡ 4 * (quad + 1) = omega arith in
    ap (others-filled w v f state (4 * quad) address) (four-more others some)
    ∙ ap (λ i. all i (4 * quad + 1 + 1 + 1) (4 * quad + 1 + 1 + 1 + 1)) e2
    ∙ ap (λ i. all (4 * quad + 2) i (4 * quad + 1 + 1 + 1 + 1)) e3
    ∙ ap (λ i. all (4 * quad + 2) (4 * quad + 3) i) e4

-- four, and then the rest
filled-next : (state : Vectors) (w : ElementWidth) (v b address quad others : ℕ) (f : Access → ℕ) → b ≡ bytes_in (size_of w) → 0 < others
    → others-filled w v f (others-filled w v f state (4 * quad) address 4) (4 * (quad + 1)) (address + 4 * b) (4 * (others - 1))
    ≡ others-filled w v f state (4 * quad) address (4 * others)
filled-next state w v b address quad others f e some =
    let z = bytes_in (size_of w) in
    let n : Vectors = at w v f (at w v f (at w v f (at w v f state (4 * quad) address) (4 * quad + 1) (address + z)) (4 * quad + 2) (address + z + z))
    (4 * quad + 3) (address + z + z + z) in
    let one : others-filled w v f state (4 * quad) address 4 ≡ n = loaded-four state w v address quad 1 f (omega arith) in
    let place : address + 4 * b ≡ address + z + z + z + z = omega (arith, e) in
    ap (λ s. others-filled w v f s (4 * (quad + 1)) (address + 4 * b) (4 * (others - 1))) one
    ∙ ap (λ a. others-filled w v f n (4 * (quad + 1)) a (4 * (others - 1))) place
    ∙ sym (loaded-four state w v address quad others f some)

put-one : (memory : List ℕ) (w : ElementWidth) (a n : ℕ) (accesses : List Access) (numbers : List ℕ)
    → put memory (touched (access_at (size_of w) a ∷ accesses)) (spread (access_at (size_of w) a ∷ accesses) (n ∷ numbers))
    ≡ put (put_number memory (size_of w) a n) (touched accesses) (spread accesses numbers)
put-one memory widths.Bits8 a n accesses numbers = refl
put-one memory widths.Bits16 a n accesses numbers = refl
put-one memory widths.Bits32 a n accesses numbers = refl

length-put_byte : (memory : List ℕ) (place byte : ℕ) → length (put_byte memory place byte) ≡ length memory
length-put_byte memory place byte = grind (arith, length-set {A = ℕ})

length-put : (memory places bytes : List ℕ) → length (put memory places bytes) ≡ length memory
length-put memory [] bytes = refl
length-put memory (place ∷ places) [] = refl
length-put memory (place ∷ places) (byte ∷ bytes) = length-put (put_byte memory place byte) places bytes ∙ length-put_byte memory place byte

pub length-stored : (memory memory' : List ℕ) (size : Size) (a n : ℕ) → memory' ≡ put_number memory size a n → length memory' ≡ length memory
length-stored memory memory' size a n e = ap length e ∙ length-put memory (places_of (access_at size a)) (bytes_of size n)

-- this many elements that are stored from an element and an address on
abbrev pub others-put : ElementWidth → (ℕ → ℕ) → List ℕ → ℕ → ℕ → ℕ → List ℕ
others-put w f memory i a n = put memory (touched (accesses_at w (addresses_from w a n))) (spread (accesses_at w (addresses_from w a n))
    (map f (range_with_len i n)))

pub put-next : (w : ElementWidth) (f : ℕ → ℕ) (memory : List ℕ) (i a n : ℕ)
    → others-put w f memory i a (suc n) ≡ others-put w f (put_number memory (size_of w) a (f i)) (i + 1) (a + bytes_in (size_of w)) n
put-next w f memory i a n = put-one memory w a (f i) (accesses_at w (addresses_from w (a + bytes_in (size_of w)) n)) (map f (range_with_len (i + 1) n))

pub stored-four : (memory : List ℕ) (w : ElementWidth) (address quad others : ℕ) (f : ℕ → ℕ) → 0 < others
    → others-put w f memory (4 * quad) address (4 * others)
    ≡ others-put w f
    (put_number (put_number (put_number (put_number memory (size_of w) address (f (4 * quad))) (size_of w) (address + bytes_in (size_of w)) (f (4 * quad + 1)))
    (size_of w) (address + bytes_in (size_of w) + bytes_in (size_of w)) (f (4 * quad + 2)))
    (size_of w) (address + bytes_in (size_of w) + bytes_in (size_of w) + bytes_in (size_of w)) (f (4 * quad + 3)))
    (4 * (quad + 1)) (address + bytes_in (size_of w) + bytes_in (size_of w) + bytes_in (size_of w) + bytes_in (size_of w)) (4 * (others - 1))
stored-four memory w address quad others f some =
    let b : ℕ = bytes_in (size_of w) in
    let q : ℕ = 4 * quad in
    let n : ℕ = 4 * (others - 1) in
    let one : List ℕ = put_number memory (size_of w) address (f q) in
    let two : List ℕ = put_number one (size_of w) (address + b) (f (q + 1)) in
    let three : ℕ → List ℕ = λ i2. put_number two (size_of w) (address + b + b) (f i2) in
    let four : ℕ → ℕ → List ℕ = λ i2 i3. put_number (three i2) (size_of w) (address + b + b + b) (f i3) in
    let all : ℕ → ℕ → ℕ → List ℕ = λ i2 i3 i4. others-put w f (four i2 i3) i4 (address + b + b + b + b) n in
    let e2 : q + 1 + 1 ≡ q + 2 = omega arith in
    let e3 : q + 1 + 1 + 1 ≡ q + 3 = omega arith in
    let e4 : q + 1 + 1 + 1 + 1 ≡ 4 * (quad + 1) = omega arith in
    ap (others-put w f memory q address) (four-more others some)
    ∙ put-next w f memory q address (suc (suc (suc n)))
    ∙ put-next w f one (q + 1) (address + b) (suc (suc n))
    ∙ put-next w f two (q + 1 + 1) (address + b + b) (suc n)
    ∙ put-next w f (three (q + 1 + 1)) (q + 1 + 1 + 1) (address + b + b + b) n
    ∙ ap (λ i. all i (q + 1 + 1 + 1) (q + 1 + 1 + 1 + 1)) e2
    ∙ ap (λ i. all (q + 2) i (q + 1 + 1 + 1 + 1)) e3
    ∙ ap (λ i. all (q + 2) (q + 3) i) e4

-- four, and then the rest
put-more : (w : ElementWidth) (f : ℕ → ℕ) (b address quad others : ℕ) (memory : List ℕ) → b ≡ bytes_in (size_of w) → 0 < others
    → others-put w f (others-put w f memory (4 * quad) address 4) (4 * (quad + 1)) (address + 4 * b) (4 * (others - 1))
    ≡ others-put w f memory (4 * quad) address (4 * others)
put-more w f b address quad others memory e some =
    let z = bytes_in (size_of w) in
    let q : ℕ = 4 * quad in
    let n : List ℕ = put_number (put_number (put_number (put_number memory (size_of w) address (f q)) (size_of w) (address + z) (f (q + 1)))
    (size_of w) (address + z + z) (f (q + 2))) (size_of w) (address + z + z + z) (f (q + 3)) in
    let one : others-put w f memory q address 4 ≡ n = stored-four memory w address quad 1 f (omega arith) in
    let place : address + 4 * b ≡ address + z + z + z + z = omega (arith, e) in
    ap (λ m. others-put w f m (4 * (quad + 1)) (address + 4 * b) (4 * (others - 1))) one
    ∙ ap (λ a. others-put w f n (4 * (quad + 1)) a (4 * (others - 1))) place
    ∙ sym (stored-four memory w address quad others f some)

-- a memory after four are stored has as many bytes as before
pub length-four : (memory memory' : List ℕ) (w : ElementWidth) (f : ℕ → ℕ) (address quad : ℕ) → memory' ≡ others-put w f memory (4 * quad) address 4
    → length memory' ≡ length memory
length-four memory memory' w f address quad e =
    ap length e ∙ length-put memory (touched (accesses_at w (addresses_from w address 4))) (spread (accesses_at w (addresses_from w address 4))
    (map f (range_with_len (4 * quad) 4)))

-- ---- the same of states that follow each other

pub loaded-next : (w : ElementWidth) (v : ℕ) (f : Access → ℕ) (b address quad others : ℕ) (h0 h1 h2 : HartState) → b ≡ bytes_in (size_of w) → 0 < others
    → h1 ≡ with_vectors h0 (others-filled w v f (vectors_of h0) (4 * quad) address 4)
    → h2 ≡ with_vectors h1 (others-filled w v f (vectors_of h1) (4 * (quad + 1)) (address + 4 * b) (4 * (others - 1)))
    → h2 ≡ with_vectors h0 (others-filled w v f (vectors_of h0) (4 * quad) address (4 * others))
loaded-next w v f b address quad others h0 h1 h2 e some e1 e2 =
    rw (e2, e1) (ap (with_vectors h0) (filled-next (vectors_of h0) w v b address quad others f e some))

pub loaded-once : (w : ElementWidth) (v : ℕ) (f : Access → ℕ) (b address quad : ℕ) (h0 h1 h2 h3 h4 : HartState) → b ≡ bytes_in (size_of w)
    → h1 ≡ with_vectors h0 (at w v f (vectors_of h0) (4 * quad) address)
    → h2 ≡ with_vectors h1 (at w v f (vectors_of h1) (4 * quad + 1) (address + b))
    → h3 ≡ with_vectors h2 (at w v f (vectors_of h2) (4 * quad + 2) (address + b + b))
    → h4 ≡ with_vectors h3 (at w v f (vectors_of h3) (4 * quad + 3) (address + b + b + b))
    → h4 ≡ with_vectors h0 (others-filled w v f (vectors_of h0) (4 * quad) address 4)
loaded-once w v f b address quad h0 h1 h2 h3 h4 e e1 e2 e3 e4 =
    rw (e4, e3, e2, e1, e) (ap (with_vectors h0) (sym (loaded-four (vectors_of h0) w v address quad 1 f (omega arith))))

pub stored-next : (w : ElementWidth) (f : ℕ → ℕ) (b address quad others : ℕ) (m0 m1 m2 : List ℕ) → b ≡ bytes_in (size_of w) → 0 < others
    → m1 ≡ others-put w f m0 (4 * quad) address 4
    → m2 ≡ others-put w f m1 (4 * (quad + 1)) (address + 4 * b) (4 * (others - 1))
    → m2 ≡ others-put w f m0 (4 * quad) address (4 * others)
stored-next w f b address quad others m0 m1 m2 e some e1 e2 = rw (e2, e1) (put-more w f b address quad others m0 e some)

pub stored-once : (w : ElementWidth) (f : ℕ → ℕ) (b address quad : ℕ) (m0 m1 m2 m3 m4 : List ℕ) → b ≡ bytes_in (size_of w)
    → m1 ≡ put_number m0 (size_of w) address (f (4 * quad))
    → m2 ≡ put_number m1 (size_of w) (address + b) (f (4 * quad + 1))
    → m3 ≡ put_number m2 (size_of w) (address + b + b) (f (4 * quad + 2))
    → m4 ≡ put_number m3 (size_of w) (address + b + b + b) (f (4 * quad + 3))
    → m4 ≡ others-put w f m0 (4 * quad) address 4
stored-once w f b address quad m0 m1 m2 m3 m4 e e1 e2 e3 e4 =
    rw (e4, e3, e2, e1, e) (sym (stored-four m0 w address quad 1 f (omega arith)))

-- ---- a group has a multiple of four elements

quads : (g k : ℕ) → k ≤ 2 → 4 * (128 * g / (8 * 2 ^ k) / 4) ≡ 128 * g / (8 * 2 ^ k)
quads g zero l = omega arith
quads g (suc zero) l = omega arith
quads g (suc (suc zero)) l = omega arith
quads g (suc (suc (suc k))) l = absurd (omega (arith, l))

pub count-quads : (state : Vectors) → has_vill state ≡ false → 4 * (count state / 4) ≡ count state
count-quads state e =
    quads (group_of state.vtype) (vsew_of state.vtype)
    (leb-true (vsew_of state.vtype) 2 (and_parts (nat_lt state.vtype 256 && nat_le (vlmul_of state.vtype) 2) (nat_le (vsew_of state.vtype) 2)
    (not-false (is_supported state.vtype) e)).1)

-- What a group of vector registers holds after numbers of 32 bits were written to it, one register after the other.
use Rattle.std.proofs.Common.{◌≡◌, ℕ, zero, suc, ◌+◌, ◌-◌, ◌*◌, ◌%◌, ◌^◌, ◌<◌, List, [], ◌∷◌, length, get_or, refl, ap, ◌∙◌, sym, arith, inl, inr, length-set}
use Rattle.std.specs.Prelude.{◌≢◌, slice_index_or, slice_set, replicate, take, drop}
use Rattle.std.proofs.lemmas.Bool.{cases_eq}
use Rattle.lanes.specs.Words.{element, register_of}
use Rattle.vector_unit.specs.Vector.{with_registers}
use Rattle.multi_hart_laws.specs.Groups.{GroupHolds, OthersStay, SizeStays}

pub index-same : {X : Type 0} (xs : List X) (v : ℕ) (y d : X) → v < length xs → slice_index_or (slice_set xs v y) v d ≡ y
index-same [] v y d l = absurd (omega (arith, l))
index-same (x ∷ xs) zero y d l = refl
index-same (x ∷ xs) (suc v) y d l = index-same xs v y d (omega (arith, l))

pub index-other : {X : Type 0} (xs : List X) (v u : ℕ) (y d : X) → u ≢ v → slice_index_or (slice_set xs v y) u d ≡ slice_index_or xs u d
index-other [] v u y d n = refl
index-other (x ∷ xs) zero zero y d n = absurd (n refl)
index-other (x ∷ xs) zero (suc u) y d n = refl
index-other (x ∷ xs) (suc v) zero y d n = refl
index-other (x ∷ xs) (suc v) (suc u) y d n = index-other xs v u y d (λ e. n (ap suc e))

four-lanes : (x0 x1 x2 x3 i : ℕ) → i < 4 → element 32 (register_of 32 (x0 ∷ x1 ∷ x2 ∷ x3 ∷ [])) i ≡ get_or (x0 ∷ x1 ∷ x2 ∷ x3 ∷ []) i 0 % 2 ^ 32
four-lanes x0 x1 x2 x3 zero l = omega arith
four-lanes x0 x1 x2 x3 (suc zero) l = omega arith
four-lanes x0 x1 x2 x3 (suc (suc zero)) l = omega arith
four-lanes x0 x1 x2 x3 (suc (suc (suc zero))) l = omega arith
four-lanes x0 x1 x2 x3 (suc (suc (suc (suc i)))) l = absurd (omega (arith, l))

four-first : (x0 x1 x2 x3 : ℕ) (rest : List ℕ) (i k : ℕ) → i < 4 → k ≡ i → get_or (x0 ∷ x1 ∷ x2 ∷ x3 ∷ []) i 0 ≡ get_or (x0 ∷ x1 ∷ x2 ∷ x3 ∷ rest) k 0
four-first x0 x1 x2 x3 rest i k l e = first i l ∙ ap (λ n. get_or (x0 ∷ x1 ∷ x2 ∷ x3 ∷ rest) n 0) (sym e)
  where
    first : (i : ℕ) → i < 4 → get_or (x0 ∷ x1 ∷ x2 ∷ x3 ∷ []) i 0 ≡ get_or (x0 ∷ x1 ∷ x2 ∷ x3 ∷ rest) i 0
    first zero l = refl
    first (suc zero) l = refl
    first (suc (suc zero)) l = refl
    first (suc (suc (suc zero))) l = refl
    first (suc (suc (suc (suc i)))) l = absurd (omega (arith, l))

later : (x0 x1 x2 x3 : ℕ) (rest : List ℕ) (j k : ℕ) → k ≡ 4 + j → get_or rest j 0 ≡ get_or (x0 ∷ x1 ∷ x2 ∷ x3 ∷ rest) k 0
later x0 x1 x2 x3 rest j k e = let q : suc (suc (suc (suc j))) ≡ k = omega (arith, e) in ap (λ n. get_or (x0 ∷ x1 ∷ x2 ∷ x3 ∷ rest) n 0) q

pub size-stays : SizeStays
size-stays state v zero xs = refl
size-stays state v (suc g) xs = length-set _ v _ ∙ size-stays state (v + 1) g _

pub others-stay : OthersStay
others-stay state v zero xs u o = refl
others-stay state v (suc g) xs u o =
    index-other (with_registers state 32 (v + 1) g (drop 4 xs)).registers v u (register_of 32 (take 4 xs)) (replicate 16 0) (λ e. omega (arith, e, o))
    ∙ others-stay state (v + 1) g (drop 4 xs) u (elim o [ inl l ↦ inl (omega (arith, l)) | inr l ↦ inr (omega (arith, l)) ])

pub group-holds : GroupHolds
group-holds state v zero xs u i size fits length-is lo hi few = absurd (omega (arith, lo, hi))
group-holds state v (suc g) [] u i size fits length-is lo hi few = absurd (omega (arith, length-is))
group-holds state v (suc g) (a ∷ []) u i size fits length-is lo hi few = absurd (omega (arith, length-is))
group-holds state v (suc g) (a ∷ b ∷ []) u i size fits length-is lo hi few = absurd (omega (arith, length-is))
group-holds state v (suc g) (a ∷ b ∷ c ∷ []) u i size fits length-is lo hi few = absurd (omega (arith, length-is))
group-holds state v (suc g) (a ∷ b ∷ c ∷ d ∷ rest) u i size fits length-is lo hi few =
    let inner = with_registers state 32 (v + 1) g rest in
    let new = register_of 32 (a ∷ b ∷ c ∷ d ∷ []) in
    let there : v < length inner.registers = let q = size-stays state (v + 1) g rest in omega (arith, q, size, fits) in
    elim (cases_eq u v) [
      | inl e ↦
          ap (λ n. element 32 (slice_index_or (slice_set inner.registers v new) n (replicate 16 0)) i) e
          ∙ ap (λ r. element 32 r i) (index-same inner.registers v new (replicate 16 0) there)
          ∙ four-lanes a b c d i few ∙ ap (λ n. n % 2 ^ 32) (four-first a b c d rest i (4 * (u - v) + i) few (omega (arith, e)))
      | inr n ↦
          ap (λ r. element 32 r i) (index-other inner.registers v u new (replicate 16 0) n)
          ∙ group-holds state (v + 1) g rest u i size (omega (arith, fits)) (omega (arith, length-is)) (omega (arith, lo, n)) (omega (arith, hi)) few
          ∙ ap (λ n. n % 2 ^ 32) (later a b c d rest (4 * (u - (v + 1)) + i) (4 * (u - v) + i) (omega (arith, lo, n)))
    ]

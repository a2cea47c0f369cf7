-- What is written is read back: bytes and numbers, registers and elements.
use Rattle.std.proofs.Common.{◌≡◌, ℕ, zero, suc, ◌+◌, ◌*◌, ◌/◌, ◌%◌, ◌^◌, ◌<◌, ◌≤◌, List, [], ◌∷◌, ◌++◌, map, take, drop, length, get_or, refl, sym, ◌∙◌, ap}
use Rattle.std.proofs.Common.{subst, arith, inl, inr, lit<, length-take, length-drop}
use Rattle.std.proofs.Math.Nat.{pow-suc, zero-mul}
use Rattle.std.proofs.Math.Seq.{drop-append_seam}
use Rattle.std.proofs.lemmas.Nat.{div_below}
use Rattle.std.proofs.lemmas.List.{take-append-drop, drop-drop, drop_all}
use Rattle.std.proofs.lemmas.List.FromFn.{fill_by_all}
use Rattle.std.specs.List.{flat_map, range_with_len, AllByRecursion}
use Rattle.lanes.specs.Words.{IsWidth, little_endian, lowest_bytes, element, elements, register_of}
use Rattle.lanes.proofs.Bytes.{count_is, length-lowest_bytes, seam}

-- ---- one number

little_endian-lowest_bytes : (s n : ℕ) → n < 256 ^ s → little_endian (lowest_bytes s n) ≡ n
little_endian-lowest_bytes zero n h = omega arith
little_endian-lowest_bytes (suc s) n h =
    let bound : n < 256 ^ s * 256 = rw pow-suc at h in
    rw (little_endian-lowest_bytes s (n / 256) (div_below n 256 (256 ^ s) (lit< tt) bound)) (omega arith)

lowest_bytes-little_endian : (bytes : List ℕ) → AllByRecursion (λ byte. byte < 256) bytes → lowest_bytes (length bytes) (little_endian bytes) ≡ bytes
lowest_bytes-little_endian [] h = refl
lowest_bytes-little_endian (x ∷ xs) h =
    let small : x < 256 = h.0 in
    let low : (x + 256 * little_endian xs) % 256 ≡ x = omega arith in
    let high : (x + 256 * little_endian xs) / 256 ≡ little_endian xs = omega arith in
    rw (low, high, lowest_bytes-little_endian xs h.1) refl

-- ---- elements of a register that was made of them

drop_front : (xs ys : List ℕ) (s m : ℕ) → length xs ≡ s → drop (s + m) (xs ++ ys) ≡ drop m ys
drop_front xs ys s m e = sym (drop-drop m s (xs ++ ys)) ∙ ap (drop m) (subst (λ k. drop k (xs ++ ys) ≡ ys) e (drop-append_seam xs ys))

piece : (f : ℕ → List ℕ) (s : ℕ) → ((n : ℕ) → length (f n) ≡ s) → (numbers : List ℕ) (k : ℕ) → k < length numbers
    → take s (drop (k * s) (flat_map f numbers)) ≡ f (get_or numbers k 0)
piece f s e [] k h = absurd (omega arith)
piece f s e (n ∷ ns) zero h = rw zero-mul (seam (f n) (flat_map f ns) s (e n))
piece f s e (n ∷ ns) (suc k) h =
    let place : suc k * s ≡ s + k * s = omega arith in
    rw (place, drop_front (f n) (flat_map f ns) s (k * s) (e n)) (piece f s e ns k (omega arith))

pow_bytes : (w : ℕ) → IsWidth w → 2 ^ w ≡ 256 ^ (w / 8)
pow_bytes w (inl e) = subst (λ v. 2 ^ v ≡ 256 ^ (v / 8)) (sym e) refl
pow_bytes w (inr (inl e)) = subst (λ v. 2 ^ v ≡ 256 ^ (v / 8)) (sym e) refl
pow_bytes w (inr (inr e)) = subst (λ v. 2 ^ v ≡ 256 ^ (v / 8)) (sym e) refl

below_at : (m : ℕ) (xs : List ℕ) (k : ℕ) → AllByRecursion (λ n. n < m) xs → k < length xs → get_or xs k 0 < m
below_at m [] k h p = absurd (omega arith)
below_at m (x ∷ xs) zero h p = h.0
below_at m (x ∷ xs) (suc k) h p = below_at m xs k h.1 (omega arith)

element_back : (w : ℕ) (numbers : List ℕ) → IsWidth w → AllByRecursion (λ n. n < 2 ^ w) numbers → (k : ℕ) → k < length numbers
    → element w (register_of w numbers) k ≡ get_or numbers k 0
element_back w numbers v all k h =
    rw (piece (lowest_bytes (w / 8)) (w / 8) (length-lowest_bytes (w / 8)) numbers k h)
    (little_endian-lowest_bytes (w / 8) (get_or numbers k 0) (rw (pow_bytes w v) at (below_at (2 ^ w) numbers k all h)))

pub elements_back : (w : ℕ) (numbers : List ℕ) → IsWidth w → length numbers * w ≡ 128 → AllByRecursion (λ n. n < 2 ^ w) numbers
    → elements w (register_of w numbers) ≡ numbers
unfolding elements
elements_back w numbers v h all =
    let count = count_is (length numbers) w v h in
    sym (fill_by_all (element w (register_of w numbers)) numbers (128 / w) 0 (sym count) (λ k p. sym (element_back w numbers v all k (rw count at p))))

-- ---- bytes of the elements of a register

all_take : (m n : ℕ) (xs : List ℕ) → AllByRecursion (λ x. x < m) xs → AllByRecursion (λ x. x < m) (take n xs)
all_take m zero xs h = tt
all_take m (suc n) [] h = tt
all_take m (suc n) (x ∷ xs) h = (h.0, all_take m n xs h.1)

all_drop : (m n : ℕ) (xs : List ℕ) → AllByRecursion (λ x. x < m) xs → AllByRecursion (λ x. x < m) (drop n xs)
all_drop m zero xs h = h
all_drop m (suc n) [] h = tt
all_drop m (suc n) (x ∷ xs) h = all_drop m n xs h.1

rest_back : (s : ℕ) (bytes : List ℕ) → AllByRecursion (λ byte. byte < 256) bytes → (a n : ℕ) → (a + n) * s ≡ length bytes
    → flat_map (lowest_bytes s) (map (λ i. little_endian (take s (drop (i * s) bytes))) (range_with_len a n)) ≡ drop (a * s) bytes
rest_back s bytes all a zero e = sym (drop_all (a * s) bytes (omega arith))
rest_back s bytes all a (suc n) e =
    let rest = drop (a * s) bytes in
    let fits : a * s + s ≤ length bytes = omega arith in
    let long : length (take s rest) ≡ s = simp (length-take, length-drop) (omega arith) in
    let here = lowest_bytes-little_endian (take s rest) (all_take 256 s rest (all_drop 256 (a * s) bytes all)) in
    let place : (a + 1) * s ≡ a * s + s = omega arith in
    let tail = rest_back s bytes all (a + 1) n (omega arith) in
    let first : lowest_bytes s (little_endian (take s rest)) ≡ take s rest = rw long at here in
    let others : drop ((a + 1) * s) bytes ≡ drop s rest = rw place (sym (drop-drop s (a * s) bytes)) in
    rw (first, tail, others) (take-append-drop s rest)

whole : (w : ℕ) → IsWidth w → (0 + 128 / w) * (w / 8) ≡ 16
whole w (inl e) = subst (λ v. (0 + 128 / v) * (v / 8) ≡ 16) (sym e) refl
whole w (inr (inl e)) = subst (λ v. (0 + 128 / v) * (v / 8) ≡ 16) (sym e) refl
whole w (inr (inr e)) = subst (λ v. (0 + 128 / v) * (v / 8) ≡ 16) (sym e) refl

pub bytes_back : (w : ℕ) (bytes : List ℕ) → IsWidth w → length bytes ≡ 16 → AllByRecursion (λ byte. byte < 256) bytes
    → register_of w (elements w bytes) ≡ bytes
unfolding elements
bytes_back w bytes v long all =
    rest_back (w / 8) bytes all 0 (128 / w) (whole w v ∙ sym long) ∙ ap (λ k. drop k bytes) (zero-mul (w / 8))

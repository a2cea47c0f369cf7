-- The bytes of a register, and its elements.
use Rattle.std.proofs.Common.{◌≡◌, ℕ, zero, suc, ◌+◌, ◌*◌, ◌/◌, ◌<◌, ◌≤◌, List, [], ◌∷◌, ◌++◌, take, drop, length, get_or, refl, sym, ◌∙◌, ap, subst, arith}
use Rattle.std.proofs.Common.{inl, inr}
use Rattle.std.proofs.Common.{append-nil, length-append, length-take}
use Rattle.std.proofs.Math.Seq.{take-append_seam}
use Rattle.std.proofs.lemmas.List.{take_more, take_all}
use Rattle.std.proofs.lemmas.Grind.{flat_map-append}
use Rattle.std.specs.List.{flat_map}
use Rattle.lanes.specs.Words.{IsWidth, lowest_bytes, with_element, register_of}

-- this many elements fill the register
pub count_is : (n w : ℕ) → IsWidth w → n * w ≡ 128 → 128 / w ≡ n
count_is n w (inl e) h = rw e (let m : n * 8 ≡ 128 = rw e at h in omega arith)
count_is n w (inr (inl e)) h = rw e (let m : n * 16 ≡ 128 = rw e at h in omega arith)
count_is n w (inr (inr e)) h = rw e (let m : n * 32 ≡ 128 = rw e at h in omega arith)

pub bytes_fill : (n w : ℕ) → IsWidth w → n * w ≡ 128 → n * (w / 8) ≡ 16
bytes_fill n w (inl e) h = rw e (let m : n * 8 ≡ 128 = rw e at h in omega arith)
bytes_fill n w (inr (inl e)) h = rw e (let m : n * 16 ≡ 128 = rw e at h in omega arith)
bytes_fill n w (inr (inr e)) h = rw e (let m : n * 32 ≡ 128 = rw e at h in omega arith)

pub few : (n w : ℕ) → IsWidth w → n * w ≡ 128 → n ≤ 16
few n w (inl e) h = let m : n * 8 ≡ 128 = rw e at h in omega arith
few n w (inr (inl e)) h = let m : n * 16 ≡ 128 = rw e at h in omega arith
few n w (inr (inr e)) h = let m : n * 32 ≡ 128 = rw e at h in omega arith

pub length-lowest_bytes : (count n : ℕ) → length (lowest_bytes count n) ≡ count
length-lowest_bytes zero n = refl
length-lowest_bytes (suc count) n = ap suc (length-lowest_bytes count (n / 256))

-- the bytes up to the end of an element that is written
length_front : (a s n : ℕ) (bytes : List ℕ) → a + s ≤ length bytes → length (take a bytes ++ lowest_bytes s n) ≡ a + s
length_front a s n bytes p = simp (length-append, length-take, length-lowest_bytes) (omega arith)

pub seam : (xs ys : List ℕ) (k : ℕ) → length xs ≡ k → take k (xs ++ ys) ≡ xs
seam xs ys k e = subst (λ n. take n (xs ++ ys) ≡ xs) e (take-append_seam xs ys)

flat_more : (f : ℕ → List ℕ) (xs : List ℕ) (i : ℕ) → i < length xs → flat_map f (take (i + 1) xs) ≡ flat_map f (take i xs) ++ f (get_or xs i 0)
flat_more f xs i h =
    ap (flat_map f) (take_more xs i 0 h) ∙ flat_map-append f (take i xs) (get_or xs i 0 ∷ [])
    ∙ ap (λ ys. flat_map f (take i xs) ++ ys) (append-nil (f (get_or xs i 0)))

-- one element more
pub written_more : (w : ℕ) (bytes bytes' : List ℕ) (i n : ℕ) (xs : List ℕ) → i * (w / 8) + w / 8 ≤ length bytes → i < length xs → n ≡ get_or xs i 0
    → bytes' ≡ with_element w bytes i n → take (i * (w / 8)) bytes ≡ register_of w (take i xs)
    → take ((i + 1) * (w / 8)) bytes' ≡ register_of w (take (i + 1) xs)
written_more w bytes bytes' i n xs p q e h so_far =
    let size : (i + 1) * (w / 8) ≡ i * (w / 8) + w / 8 = omega arith in
    let front = seam (take (i * (w / 8)) bytes ++ lowest_bytes (w / 8) n) (drop (i * (w / 8) + w / 8) bytes) (i * (w / 8) + w / 8) (length_front (i * (w / 8))
    (w / 8) n bytes p) in
    let more = flat_more (lowest_bytes (w / 8)) xs i q in
    rw (size, h, front, so_far, e) (sym more)

-- all elements
pub written_all : (w : ℕ) (bytes : List ℕ) (i : ℕ) (xs : List ℕ) → length bytes ≡ 16 → i * (w / 8) ≡ 16 → length xs ≤ i
    → take (i * (w / 8)) bytes ≡ register_of w (take i xs) → bytes ≡ register_of w xs
written_all w bytes i xs p q r so_far =
    sym (take_all (i * (w / 8)) bytes (omega arith)) ∙ so_far ∙ ap (register_of w) (take_all i xs r)

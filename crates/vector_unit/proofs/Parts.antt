-- A group's elements register by register: what is made of whole lists is made of their parts.
use Rattle.std.proofs.Common.{◌≡◌, ℕ, zero, suc, ◌+◌, ◌-◌, ◌*◌, ◌<◌, ◌≤◌, Bool, true, false, cond, List, [], ◌∷◌, map, take, drop, refl, sym, ◌∙◌, ap, arith}
use Rattle.std.proofs.Math.ListN.{replicate}
use Rattle.std.specs.List.{range_with_len}
use Rattle.lanes.specs.Words.{zip_with, merged, reduced, chosen_of, with_mask_bits_from, with_mask_bit}
use Rattle.std.proofs.lemmas.List.{take-replicate, drop-replicate}

-- this many elements, from those of a part on
abbrev pub part_of : {A : Type 0} → ℕ → ℕ → List A → List A
part_of n part xs = take n (drop (part * n) xs)

-- ---- pairs

zip-none : {A B C : Type 0} (f : A → B → C) (xs : List A) → zip_with f xs [] ≡ []
zip-none f [] = refl
zip-none f (x ∷ xs) = refl

take-zip : {A B C : Type 0} (f : A → B → C) (n : ℕ) (xs : List A) (ys : List B) → take n (zip_with f xs ys) ≡ zip_with f (take n xs) (take n ys)
take-zip f zero xs ys = refl
take-zip f (suc n) [] ys = refl
take-zip f (suc n) (x ∷ xs) [] = refl
take-zip f (suc n) (x ∷ xs) (y ∷ ys) = ap (λ zs. f x y ∷ zs) (take-zip f n xs ys)

drop-zip : {A B C : Type 0} (f : A → B → C) (n : ℕ) (xs : List A) (ys : List B) → drop n (zip_with f xs ys) ≡ zip_with f (drop n xs) (drop n ys)
drop-zip f zero xs ys = refl
drop-zip f (suc n) [] ys = refl
drop-zip f (suc n) (x ∷ xs) [] = sym (zip-none f (drop n xs))
drop-zip f (suc n) (x ∷ xs) (y ∷ ys) = drop-zip f n xs ys

pub part-zip : {A B C : Type 0} (f : A → B → C) (n part : ℕ) (xs : List A) (ys : List B)
    → part_of n part (zip_with f xs ys) ≡ zip_with f (part_of n part xs) (part_of n part ys)
part-zip f n part xs ys = ap (take n) (drop-zip f (part * n) xs ys) ∙ take-zip f n (drop (part * n) xs) (drop (part * n) ys)

-- ---- choices

merged-none : {A : Type 0} (bs : List Bool) (xs : List A) → merged bs xs [] ≡ []
merged-none [] xs = refl
merged-none (b ∷ bs) [] = refl
merged-none (b ∷ bs) (x ∷ xs) = refl

merged-nothing : {A : Type 0} (bs : List Bool) (ys : List A) → merged bs [] ys ≡ []
merged-nothing [] ys = refl
merged-nothing (b ∷ bs) ys = refl

take-merged : {A : Type 0} (n : ℕ) (bs : List Bool) (xs ys : List A) → take n (merged bs xs ys) ≡ merged (take n bs) (take n xs) (take n ys)
take-merged zero bs xs ys = refl
take-merged (suc n) [] xs ys = refl
take-merged (suc n) (b ∷ bs) [] ys = refl
take-merged (suc n) (b ∷ bs) (x ∷ xs) [] = refl
take-merged (suc n) (b ∷ bs) (x ∷ xs) (y ∷ ys) = ap (λ zs. cond b x y ∷ zs) (take-merged n bs xs ys)

drop-merged : {A : Type 0} (n : ℕ) (bs : List Bool) (xs ys : List A) → drop n (merged bs xs ys) ≡ merged (drop n bs) (drop n xs) (drop n ys)
drop-merged zero bs xs ys = refl
drop-merged (suc n) [] xs ys = refl
drop-merged (suc n) (b ∷ bs) [] ys = sym (merged-nothing (drop n bs) (drop (suc n) ys))
drop-merged (suc n) (b ∷ bs) (x ∷ xs) [] = sym (merged-none (drop n bs) (drop n xs))
drop-merged (suc n) (b ∷ bs) (x ∷ xs) (y ∷ ys) = drop-merged n bs xs ys

pub part-merged : {A : Type 0} (n part : ℕ) (bs : List Bool) (xs ys : List A)
    → part_of n part (merged bs xs ys) ≡ merged (part_of n part bs) (part_of n part xs) (part_of n part ys)
part-merged n part bs xs ys = ap (take n) (drop-merged (part * n) bs xs ys) ∙ take-merged n (drop (part * n) bs) (drop (part * n) xs) (drop (part * n) ys)

-- ---- what is said of each index

take-range : {A : Type 0} (f : ℕ → A) (n a m : ℕ) → n ≤ m → take n (map f (range_with_len a m)) ≡ map f (range_with_len a n)
take-range f zero a m le = refl
take-range f (suc n) a zero le = absurd (omega arith)
take-range f (suc n) a (suc m) le = ap (λ xs. f a ∷ xs) (take-range f n (a + 1) m (omega arith))

drop-range : {A : Type 0} (f : ℕ → A) (n a m : ℕ) → drop n (map f (range_with_len a (n + m))) ≡ map f (range_with_len (a + n) m)
drop-range f zero a m =
    let same : a + 0 ≡ a = omega arith in
    let all : 0 + m ≡ m = omega arith in
    rw (same, all) refl
drop-range f (suc n) a m =
    let one : suc n + m ≡ suc (n + m) = omega arith in
    let next : a + 1 + n ≡ a + suc n = omega arith in
    rw one (drop-range f n (a + 1) m ∙ ap (λ k. map f (range_with_len k m)) next)

-- indices from one on are those from 0 on, so much further
further : {A : Type 0} (f : ℕ → A) (first a n : ℕ) → map f (range_with_len (first + a) n) ≡ map (λ i. f (first + i)) (range_with_len a n)
further f first a zero = refl
further f first a (suc n) =
    let next : first + a + 1 ≡ first + (a + 1) = omega arith in
    ap (λ xs. f (first + a) ∷ xs) (ap (λ k. map f (range_with_len k n)) next ∙ further f first (a + 1) n)

pub part-range : {A : Type 0} (f : ℕ → A) (n part m : ℕ) → part * n + n ≤ m → part_of n part (map f (range_with_len 0 m)) ≡ map (λ i. f (part * n + i))
    (range_with_len 0 n)
part-range f n part m le =
    let first = part * n in
    let whole : m ≡ first + (m - first) = omega arith in
    let from : 0 + first ≡ first + 0 = omega arith in
    ap (λ k. take n (drop first (map f (range_with_len 0 k)))) whole
    ∙ ap (take n) (drop-range f first 0 (m - first) ∙ ap (λ k. map f (range_with_len k (m - first))) from)
    ∙ take-range f n (first + 0) (m - first) (omega arith)
    ∙ further f first 0 n

pub part-replicate : {A : Type 0} (x : A) (n part m : ℕ) → part * n + n ≤ m → part_of n part (replicate m x) ≡ replicate n x
part-replicate x n part m le = ap (take n) (drop-replicate (part * n) m x) ∙ take-replicate n (m - part * n) x (omega arith)

-- the same function on the indices
same-each : {A : Type 0} (f g : ℕ → A) (a n : ℕ) → ((i : ℕ) → i < a + n → f i ≡ g i) → map f (range_with_len a n) ≡ map g (range_with_len a n)
same-each f g a zero same = refl
same-each f g a (suc n) same =
    let here : f a ≡ g a = same a (omega arith) in
    let there : map f (range_with_len (a + 1) n) ≡ map g (range_with_len (a + 1) n) = same-each f g (a + 1) n (λ i l. same i (omega arith)) in
    rw (here, there) refl

pub same-below : {A : Type 0} (f g : ℕ → A) (n : ℕ) → ((i : ℕ) → i < n → f i ≡ g i) → map f (range_with_len 0 n) ≡ map g (range_with_len 0 n)
same-below f g n same = same-each f g 0 n (λ i l. same i (omega (arith, l)))

-- counted from 0, first is nothing
pub from-start : (f : ℕ → Bool) (n : ℕ) → map (λ i. f (0 + i)) (range_with_len 0 n) ≡ map f (range_with_len 0 n)
from-start f n = same-below (λ i. f (0 + i)) f n (λ i low. let same : 0 + i ≡ i = omega arith in rw same refl)

-- ---- what goes on from element to element goes on from part to part

pub bits-cut : (n i : ℕ) (tests bits : List Bool) (bytes : List ℕ)
    → with_mask_bits_from i tests bits bytes ≡ with_mask_bits_from (i + n) (drop n tests) (drop n bits) (with_mask_bits_from i (take n tests) (take n bits)
    bytes)
bits-cut zero i tests bits bytes = let same : i + 0 ≡ i = omega arith in rw same refl
bits-cut (suc n) i [] bits bytes = refl
bits-cut (suc n) i (a ∷ tests) [] bytes = sym (no-bits (i + suc n) (drop n tests) bytes)
  where
    no-bits : (k : ℕ) (others : List Bool) (bytes : List ℕ) → with_mask_bits_from k others [] bytes ≡ bytes
    no-bits k [] bytes = refl
    no-bits k (b ∷ others) bytes = refl
bits-cut (suc n) i (a ∷ tests) (b ∷ bits) bytes =
    let next : i + 1 + n ≡ i + suc n = omega arith in
    bits-cut n (i + 1) tests bits (cond a (with_mask_bit bytes i b) bytes)
    ∙ ap (λ k. with_mask_bits_from k (drop n tests) (drop n bits) (with_mask_bits_from (i + 1) (take n tests) (take n bits) (cond a (with_mask_bit bytes i b)
    bytes))) next

none-chosen : {A : Type 0} (tests : List Bool) → chosen_of {A = A} tests [] ≡ []
none-chosen [] = refl
none-chosen (a ∷ tests) = refl

pub reduced-cut : {A : Type 0} (f : A → A → A) (n : ℕ) (tests : List Bool) (start : A) (xs : List A)
    → reduced f tests start xs ≡ reduced f (drop n tests) (reduced f (take n tests) start (take n xs)) (drop n xs)
reduced-cut f zero tests start xs = refl
reduced-cut f (suc n) [] start xs = refl
reduced-cut {A = A} f (suc n) (a ∷ tests) start [] = rw (none-chosen {A = A} (drop n tests)) refl
reduced-cut f (suc n) (true ∷ tests) start (x ∷ xs) = reduced-cut f n tests (f start x) xs
reduced-cut f (suc n) (false ∷ tests) start (x ∷ xs) = reduced-cut f n tests start xs

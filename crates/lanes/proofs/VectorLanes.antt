-- Vectors of the processor, lane by lane.
use Rattle.std.proofs.Common.{◌≡◌, ℕ, zero, suc, ◌+◌, ◌-◌, ◌/◌, ◌%◌, ◌^◌, ◌<◌, ◌≤◌, Bool, true, false, not, cond, nat_le, nat_lt, ◌==◌, List, [], ◌∷◌}
use Rattle.std.proofs.Common.{if◌then◌else◌, map, take, length, get_or, replicate, refl, sym, ◌∙◌, ap, arith}
use Rattle.std.proofs.Math.Nat.{mod-eq_of_lt, mod-lt, div-le_self}
use Rattle.std.proofs.Math.ListN.{set}
use Rattle.std.proofs.lemmas.List.{take_all}
use Rattle.std.proofs.lemmas.Simd.{mask_l-mod}
use lib.Lanes.{zip2, sel_l, top, mask_l, Each2}
use Rattle.lanes.specs.Words.{zip_with, merged}
use Rattle.lanes.specs.Words as word

abbrev id : ℕ → ℕ
id x = x

-- ---- what contracts say of lanes, from what each pair of lanes gives

pub tests_from_lanes : (f g : ℕ → ℕ → Bool) (s : ℕ → ℕ) (most : ℕ) → ((x y : ℕ) → x < most → y < most → f (s x) (s y) ≡ g x y)
    → (xs ys : List ℕ) → ((i : ℕ) → get_or xs i 0 < most) → ((i : ℕ) → get_or ys i 0 < most) → zip2 f (map s xs) (map s ys) ≡ zip_with g (map id xs) (map id ys)
tests_from_lanes f g s most h [] ys p q = refl
tests_from_lanes f g s most h (x ∷ xs) [] p q = refl
tests_from_lanes f g s most h (x ∷ xs) (y ∷ ys) p q = let head = h x y (p 0) (q 0) in let tail = tests_from_lanes f g s most h xs ys (λ i. p (suc i))
    (λ i. q (suc i)) in cc

pub seen_tests : (f : ℕ → ℕ → Bool) (xs ys : List ℕ) → zip2 f xs ys ≡ zip_with f (map id xs) (map id ys)
seen_tests f [] ys = refl
seen_tests f (x ∷ xs) [] = refl
seen_tests f (x ∷ xs) (y ∷ ys) = ap (λ zs. f x y ∷ zs) (seen_tests f xs ys)

pub seen_words : (f : ℕ → ℕ → Bool) (xs ys : List ℕ) → zip_with f xs ys ≡ zip_with f (map id xs) (map id ys)
seen_words f [] ys = refl
seen_words f (x ∷ xs) [] = refl
seen_words f (x ∷ xs) (y ∷ ys) = ap (λ zs. f x y ∷ zs) (seen_words f xs ys)

pub tests_in_order : (f g : ℕ → ℕ → Bool) (s : ℕ → ℕ) (most : ℕ) → ((x y : ℕ) → x < most → y < most → f (s x) (s y) ≡ g x y)
    → (xs ys : List ℕ) → ((i : ℕ) → get_or xs i 0 < most) → ((i : ℕ) → get_or ys i 0 < most) → zip2 f (map s xs) (map s ys) ≡ zip_with g xs ys
tests_in_order f g s most h xs ys p q = tests_from_lanes f g s most h xs ys p q ∙ sym (seen_words g xs ys)

-- the one that a test chooses
pub firsts_chosen : (p : ℕ → Bool) (m : ℕ → ℕ → ℕ) (t : ℕ → ℕ → Bool) → ((x y : ℕ) → p (m x y) ≡ t x y)
    → ((x y : ℕ) → (if t x y then x else y) ≡ (if t y x then y else x))
    → (xs ys : List ℕ) → map id (sel_l (map p (zip2 m xs ys)) xs ys) ≡ zip_with (λ x y. if t y x then y else x) (map id xs) (map id ys)
firsts_chosen p m t h k [] ys = refl
firsts_chosen p m t h k (x ∷ xs) [] = refl
firsts_chosen p m t h k (x ∷ xs) (y ∷ ys) = let head = h x y in let other = k x y in let tail = firsts_chosen p m t h k xs ys in cc

pub lesser_is_one : (x y : ℕ) → (if nat_lt x y then x else y) ≡ (if nat_lt y x then y else x)
lesser_is_one x y = grind arith

pub seconds_chosen : (p : ℕ → Bool) (m : ℕ → ℕ → ℕ) (t : ℕ → ℕ → Bool) → ((x y : ℕ) → p (m x y) ≡ t x y)
    → (xs ys : List ℕ) → map id (sel_l (map p (zip2 m xs ys)) ys xs) ≡ zip_with (λ x y. if t x y then y else x) (map id xs) (map id ys)
seconds_chosen p m t h [] ys = refl
seconds_chosen p m t h (x ∷ xs) [] = refl
seconds_chosen p m t h (x ∷ xs) (y ∷ ys) = let head = h x y in let tail = seconds_chosen p m t h xs ys in cc

pub greater_chosen : (p : ℕ → Bool) (m : ℕ → ℕ → ℕ) (t : ℕ → ℕ → Bool) (s : ℕ → ℕ) (most : ℕ) → ((x y : ℕ) → x < most → y < most → p (m (s x) (s y)) ≡ t x y)
    → (xs ys : List ℕ) → ((i : ℕ) → get_or xs i 0 < most) → ((i : ℕ) → get_or ys i 0 < most) → map id (sel_l (map p (zip2 m (map s xs) (map s ys))) ys xs)
    ≡ zip_with (λ x y. if t x y then y else x) (map id xs) (map id ys)
greater_chosen p m t s most h [] ys a b = refl
greater_chosen p m t s most h (x ∷ xs) [] a b = refl
greater_chosen p m t s most h (x ∷ xs) (y ∷ ys) a b = let head = h x y (a 0) (b 0) in let tail = greater_chosen p m t s most h xs ys (λ i. a (suc i))
    (λ i. b (suc i)) in cc

pub lesser_chosen : (p : ℕ → Bool) (m : ℕ → ℕ → ℕ) (t : ℕ → ℕ → Bool) (s : ℕ → ℕ) (most : ℕ) → ((x y : ℕ) → x < most → y < most → p (m (s x) (s y)) ≡ t x y)
    → (xs ys : List ℕ) → ((i : ℕ) → get_or xs i 0 < most) → ((i : ℕ) → get_or ys i 0 < most) → map id (sel_l (map p (zip2 m (map s ys) (map s xs))) ys xs)
    ≡ zip_with (λ x y. if t y x then y else x) (map id xs) (map id ys)
lesser_chosen p m t s most h [] [] a b = refl
lesser_chosen p m t s most h [] (y ∷ ys) a b = refl
lesser_chosen p m t s most h (x ∷ xs) [] a b = refl
lesser_chosen p m t s most h (x ∷ xs) (y ∷ ys) a b = let head = h y x (b 0) (a 0) in let tail = lesser_chosen p m t s most h xs ys (λ i. a (suc i))
    (λ i. b (suc i)) in cc

-- ---- tests as lanes that are 1 or 0

pub ones_more : {A : Type 0} (number : A → ℕ) (i : ℕ) (bs : List Bool) (xs : List A) (b : Bool) (x : A) → i < length bs → i < length xs
    → b ≡ (number (get_or xs i x) == 1)
    → take i bs ≡ map (λ n. n == 1) (map number (take i xs)) → take (suc i) (set bs i b) ≡ map (λ n. n == 1) (map number (take (suc i) xs))
ones_more number i [] xs b x p q e h = absurd (omega arith)
ones_more number i (b' ∷ bs) [] b x p q e h = absurd (omega arith)
ones_more number zero (b' ∷ bs) (x' ∷ xs) b x p q e h = ap (λ v. v ∷ []) e
ones_more number (suc i) (b' ∷ bs) (x' ∷ xs) b x p q e h =
    let tail : take i bs ≡ map (λ n. n == 1) (map number (take i xs)) = cc in
    let head : b' ≡ (number x' == 1) = cc in
    let rest = ones_more number i bs xs b x (omega arith) (omega arith) e tail in cc

pub ones_all : {A : Type 0} (number : A → ℕ) (i : ℕ) (bs : List Bool) (xs : List A) → length bs ≤ i → length xs ≤ i
    → take i bs ≡ map (λ n. n == 1) (map number (take i xs)) → bs ≡ map (λ n. n == 1) (map number xs)
ones_all number i bs xs p q h = rw (take_all i bs p, take_all i xs q) at h

pub ones_chosen : (p : ℕ → Bool) (m : ℕ → ℕ → ℕ) (t : ℕ → ℕ → Bool) → ((x y : ℕ) → p (m x y) ≡ t x y)
    → (n : ℕ) (xs ys : List ℕ) → length xs ≡ n → length ys ≡ n
    → map (λ v. v == 1) (map id (sel_l (map p (zip2 m xs ys)) (replicate n 1) (replicate n 0))) ≡ zip2 t xs ys
ones_chosen p m t h n [] ys a b = refl
ones_chosen p m t h n (x ∷ xs) [] a b = absurd (omega (arith, a, b))
ones_chosen p m t h zero (x ∷ xs) (y ∷ ys) a b = absurd (omega (arith, a))
ones_chosen p m t h (suc n) (x ∷ xs) (y ∷ ys) a b =
    let tail = ones_chosen p m t h n xs ys (omega (arith, a)) (omega (arith, b)) in
    let head : ((cond (p (m x y)) 1 0) == 1) ≡ t x y = rw (h x y) (one (t x y)) in cc
  where
    one : (b : Bool) → ((cond b 1 0) == 1) ≡ b
    one true = refl
    one false = refl

pub not_greater : (x y : ℕ) → nat_le x y ≡ not (nat_lt y x)
not_greater x y = grind arith

-- ---- merges

pub flagged : (p : ℕ → Bool) (m : ℕ → ℕ → ℕ) (k : ℕ) (t : ℕ → Bool) → ((x : ℕ) → p (m x k) ≡ t x)
    → (n : ℕ) (fs xs ys : List ℕ) → length fs ≡ n → sel_l (map p (zip2 m fs (replicate n k))) xs ys ≡ sel_l (map t fs) xs ys
flagged p m k t h zero [] xs ys a = refl
flagged p m k t h (suc n) [] xs ys a = refl
flagged p m k t h zero (f ∷ fs) xs ys a = absurd (omega (arith, a))
flagged p m k t h (suc n) (f ∷ fs) [] ys a = refl
flagged p m k t h (suc n) (f ∷ fs) (x ∷ xs) [] a = refl
flagged p m k t h (suc n) (f ∷ fs) (x ∷ xs) (y ∷ ys) a = let head = h f in let tail = flagged p m k t h n fs xs ys (omega (arith, a)) in cc

flags_merge : {A : Type 0} (bs : List Bool) (xs ys : List A) → sel_l (map (λ n. n == 1) (map (λ b. if b then 1 else 0) bs)) xs ys ≡ merged bs xs ys
flags_merge [] xs ys = refl
flags_merge (b ∷ bs) [] ys = refl
flags_merge (b ∷ bs) (x ∷ xs) [] = refl
flags_merge (true ∷ bs) (x ∷ xs) (y ∷ ys) = ap (λ zs. x ∷ zs) (flags_merge bs xs ys)
flags_merge (false ∷ bs) (x ∷ xs) (y ∷ ys) = ap (λ zs. y ∷ zs) (flags_merge bs xs ys)

pub merged_flags : {A : Type 0} (fs : List ℕ) (bs : List Bool) (xs ys : List A) → fs ≡ map (λ b. if b then 1 else 0) bs
    → sel_l (map (λ n. n == 1) fs) xs ys ≡ merged bs xs ys
merged_flags fs bs xs ys e = rw e (flags_merge bs xs ys)

pub flags_more : {A : Type 0} (here elsewhere : A) (i : ℕ) (zs : List A) (bs : List Bool) (z : A) (b : Bool) → i < length zs → i < length bs
    → z ≡ (if get_or bs i b then here else elsewhere)
    → take i zs ≡ map (λ v. if v then here else elsewhere) (take i bs) → take (suc i) (set zs i z) ≡ map (λ v. if v then here else elsewhere) (take (suc i) bs)
flags_more here elsewhere i [] bs z b p q e h = absurd (omega arith)
flags_more here elsewhere i (z' ∷ zs) [] z b p q e h = absurd (omega arith)
flags_more here elsewhere zero (z' ∷ zs) (b' ∷ bs) z b p q e h = ap (λ v. v ∷ []) e
flags_more here elsewhere (suc i) (z' ∷ zs) (b' ∷ bs) z b p q e h =
    let tail : take i zs ≡ map (λ v. if v then here else elsewhere) (take i bs) = cc in
    let head : z' ≡ (if b' then here else elsewhere) = cc in
    let rest = flags_more here elsewhere i zs bs z b (omega arith) (omega arith) e tail in cc

pub flags_more_here : {A : Type 0} (here elsewhere : A) (i : ℕ) (zs : List A) (bs : List Bool) (z : A) (b : Bool) → i < length zs → i < length bs
    → get_or bs i b ≡ true → z ≡ here
    → take i zs ≡ map (λ v. if v then here else elsewhere) (take i bs) → take (suc i) (set zs i z) ≡ map (λ v. if v then here else elsewhere) (take (suc i) bs)
flags_more_here here elsewhere i zs bs z b p q t e h = flags_more here elsewhere i zs bs z b p q (rw t e) h

pub flags_more_elsewhere : {A : Type 0} (here elsewhere : A) (i : ℕ) (zs : List A) (bs : List Bool) (z : A) (b : Bool) → i < length zs → i < length bs
    → get_or bs i b ≡ false → z ≡ elsewhere
    → take i zs ≡ map (λ v. if v then here else elsewhere) (take i bs) → take (suc i) (set zs i z) ≡ map (λ v. if v then here else elsewhere) (take (suc i) bs)
flags_more_elsewhere here elsewhere i zs bs z b p q t e h = flags_more here elsewhere i zs bs z b p q (rw t e) h

pub flags_all : {A : Type 0} (here elsewhere : A) (i : ℕ) (zs : List A) (bs : List Bool) → length zs ≤ i → length bs ≤ i
    → take i zs ≡ map (λ v. if v then here else elsewhere) (take i bs) → zs ≡ map (λ v. if v then here else elsewhere) bs
flags_all here elsewhere i zs bs p q h = rw (take_all i zs p, take_all i bs q) at h

-- ---- shifts

pub amounts_below : (w : ℕ) → 0 < w → (xs ys : List ℕ) → Each2 (λ (x y : ℕ). y < w) xs (map (λ y. y % w) ys)
amounts_below w p [] ys = tt
amounts_below w p (x ∷ xs) [] = tt
amounts_below w p (x ∷ xs) (y ∷ ys) = (mod-lt y p, amounts_below w p xs ys)

pub shifted : (f g : ℕ → ℕ → ℕ) (s : ℕ → ℕ) → ((x y : ℕ) → f x (s y) ≡ g x y)
    → (xs ys : List ℕ) → map id (zip2 f xs (map s ys)) ≡ zip_with g (map id xs) (map id ys)
shifted f g s h [] ys = refl
shifted f g s h (x ∷ xs) [] = refl
shifted f g s h (x ∷ xs) (y ∷ ys) = let head = h x y in let tail = shifted f g s h xs ys in cc

pub flipped_shifted : (flip f g : ℕ → ℕ → ℕ) (s : ℕ → ℕ) (most : ℕ) → ((x y : ℕ) → x < most → flip x (f (flip x x) (s y)) ≡ g x y)
    → (xs ys : List ℕ) → ((i : ℕ) → get_or xs i 0 < most) → map id (zip2 flip xs (zip2 f (zip2 flip xs xs) (map s ys))) ≡ zip_with g (map id xs) (map id ys)
flipped_shifted flip f g s most h [] ys a = refl
flipped_shifted flip f g s most h (x ∷ xs) [] a = refl
flipped_shifted flip f g s most h (x ∷ xs) (y ∷ ys) a = let head = h x y (a 0) in let tail = flipped_shifted flip f g s most h xs ys (λ i. a (suc i)) in cc

pub flips : (p : ℕ → Bool) (m : ℕ → ℕ → ℕ) (k : ℕ) (t : ℕ → Bool) (s : ℕ → ℕ) → ((x : ℕ) → p (m x k) ≡ t x)
    → (n : ℕ) (xs ys : List ℕ) → length xs ≡ n → sel_l (map p (zip2 m xs (replicate n k))) ys (map s ys) ≡ zip2 (λ x y. if t x then y else s y) xs ys
flips p m k t s h zero [] ys a = refl
flips p m k t s h (suc n) [] ys a = refl
flips p m k t s h zero (x ∷ xs) ys a = absurd (omega (arith, a))
flips p m k t s h (suc n) (x ∷ xs) [] a = refl
flips p m k t s h (suc n) (x ∷ xs) (y ∷ ys) a = let head = h x in let tail = flips p m k t s h n xs ys (omega (arith, a)) in cc

-- ---- a vector and the same number in each lane

pub with_each : (f : ℕ → ℕ → ℕ) (k : ℕ) (g : ℕ → ℕ) → ((x : ℕ) → f x k ≡ g x) → (n : ℕ) (xs : List ℕ) → length xs ≡ n → zip2 f xs (replicate n k) ≡ map g xs
with_each f k g h zero [] a = refl
with_each f k g h (suc n) [] a = refl
with_each f k g h zero (x ∷ xs) a = absurd (omega (arith, a))
with_each f k g h (suc n) (x ∷ xs) a = let head = h x in let tail = with_each f k g h n xs (omega (arith, a)) in cc

-- ---- signed numbers by unsigned ones

pub top_8 : (b : Bool) → top 7 (cond b 255 0) ≡ b
top_8 true = refl
top_8 false = refl

pub top_16 : (b : Bool) → top 15 (cond b 65535 0) ≡ b
top_16 true = refl
top_16 false = refl

pub top_32 : (b : Bool) → top 31 (cond b 4294967295 0) ≡ b
top_32 true = refl
top_32 false = refl

pub in_order_8 : (x y : ℕ) → x < 256 → y < 256 → nat_lt ((x + 128) % 256) ((y + 128) % 256) ≡ word.less_signed 8 x y
in_order_8 x y p q = grind (arith, p, q)

pub in_order_16 : (x y : ℕ) → x < 65536 → y < 65536 → nat_lt ((x + 32768) % 65536) ((y + 32768) % 65536) ≡ word.less_signed 16 x y
in_order_16 x y p q = grind (arith, p, q)

pub in_order_32 : (x y : ℕ) → x < 4294967296 → y < 4294967296 → nat_lt ((x + 2147483648) % 4294967296) ((y + 2147483648) % 4294967296) ≡ word.less_signed 32 x y
in_order_32 x y p q = grind (arith, p, q)

abbrev flipped : ℕ → ℕ → ℕ → ℕ
flipped w x y = if nat_lt x (2 ^ (w - 1)) then y else 2 ^ w - 1 - y

-- a shift of the bits, flipped before and after where the number is below zero
pub arithmetic : (w x y : ℕ) → x < 2 ^ w → flipped w x (flipped w x x / 2 ^ (y % w)) ≡ word.shift_right_arithmetic w x y
arithmetic w x y p = go (nat_lt x (2 ^ (w - 1))) refl
  where
    fits : (a : ℕ) → a < 2 ^ w → a / 2 ^ (y % w) % 2 ^ w ≡ a / 2 ^ (y % w)
    fits a h = mod-eq_of_lt (omega (arith, div-le_self a (2 ^ (y % w)), h))

    go : (t : Bool) → nat_lt x (2 ^ (w - 1)) ≡ t → flipped w x (flipped w x x / 2 ^ (y % w)) ≡ word.shift_right_arithmetic w x y
    go true e = rw e (sym (fits x p))
    go false e =
        let same : 2 ^ w - 1 - x ≡ 2 ^ w - suc x = omega (arith, p) in
        rw (e, same) (omega (arith, fits (2 ^ w - suc x) (omega (arith, p))))

-- ---- tests as the bits of a number

pub test_bits : (m : ℕ → ℕ → ℕ) (t : ℕ → ℕ → Bool) → ((x y : ℕ) → top 31 (m x y) ≡ t x y)
    → (xs ys : List ℕ) → length xs ≡ 4 → mask_l (map (top 31) (zip2 m xs ys)) % 2 ^ 64 ≡ mask_l (zip2 t xs ys)
test_bits m t h xs ys a =
    ap (λ bs. mask_l bs % 2 ^ 64) (tests xs ys) ∙ mask_l-mod (zip2 t xs ys) 64 (omega (arith, shorter xs ys, a))
  where
    tests : (xs ys : List ℕ) → map (top 31) (zip2 m xs ys) ≡ zip2 t xs ys
    tests [] ys = refl
    tests (x ∷ xs) [] = refl
    tests (x ∷ xs) (y ∷ ys) = let head = h x y in let tail = tests xs ys in cc

    shorter : (xs ys : List ℕ) → length (zip2 t xs ys) ≤ length xs
    shorter [] ys = omega arith
    shorter (x ∷ xs) [] = omega arith
    shorter (x ∷ xs) (y ∷ ys) = omega (arith, shorter xs ys)

-- ---- merges by the bits of a byte

pub chosen_by : (p : ℕ → Bool) (m f : ℕ → ℕ → ℕ) (t : ℕ → Bool) (byte : ℕ) → ((x : ℕ) → p (m (f byte x) x) ≡ t x)
    → (n : ℕ) (ps xs ys : List ℕ) → length ps ≡ n → sel_l (map p (zip2 m (zip2 f (replicate n byte) ps) ps)) xs ys ≡ sel_l (map t ps) xs ys
chosen_by p m f t byte h zero [] xs ys a = refl
chosen_by p m f t byte h (suc n) [] xs ys a = absurd (omega (arith, a))
chosen_by p m f t byte h zero (q ∷ ps) xs ys a = absurd (omega (arith, a))
chosen_by p m f t byte h (suc n) (q ∷ ps) [] ys a = refl
chosen_by p m f t byte h (suc n) (q ∷ ps) (x ∷ xs) [] a = refl
chosen_by p m f t byte h (suc n) (q ∷ ps) (x ∷ xs) (y ∷ ys) a = let head = h q in let tail = chosen_by p m f t byte h n ps xs ys (omega (arith, a)) in cc

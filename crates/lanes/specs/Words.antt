-- The operations on words of w bits. A word is a number below 2^w; where an operation reads it as signed, the
-- words from 2^(w - 1) on stand for the negative numbers. At width 32 they are those of the scalar instructions.
-- RISC-V Unprivileged ISA 20191213: sections 2.4 "Integer Computational Instructions", 7.1 "Multiplication
-- Operations", 7.2 "Division Operations". Vector Extension 1.0: sections 11.1 "Vector Single-Width Integer Add and
-- Subtract", 11.5 "Vector Bitwise Logical Instructions", 11.6 "Vector Single-Width Shift Instructions", 11.8
-- "Vector Integer Compare Instructions", 11.9 "Vector Integer Min/Max Instructions", 11.10 "Vector Single-Width
-- Integer Multiply Instructions", 11.11 "Vector Integer Divide Instructions".
use Rattle.std.specs.Prelude.{◌≡◌, ◌⊎◌, ℕ, suc, ◌+◌, ◌-◌, ◌*◌, ◌/◌, ◌%◌, ◌^◌, ◌==◌, nat_lt, Bool, not, if◌then◌else◌, ℤ, pos, negsuc, ◌*ℤ◌, int_lt, int_div}
use Rattle.std.specs.Prelude.{int_rem, bit_and, bit_or, bit_xor, true, false, List, [], ◌∷◌, fold, zero, ◌++◌, map, take, drop, ◌&&◌, ◌||◌, slice_index}
use Rattle.std.specs.Prelude.{slice_set}
use Rattle.std.specs.Int.{int_shr, bit_at}
use Rattle.std.specs.List.{flat_map, range_with_len}

-- the widths of elements
abbrev pub IsWidth : ℕ → Type 0
IsWidth w = (w ≡ 8) ⊎ ((w ≡ 16) ⊎ (w ≡ 32))

-- the whole number that a word stands for
abbrev pub signed : ℕ → ℕ → ℤ
signed w n = if nat_lt n (2 ^ (w - 1)) then pos n else negsuc (2 ^ w - suc n)

-- the word that a whole number leaves in w bits: the number modulo 2^w
abbrev pub wrapped : ℕ → ℤ → ℕ
wrapped w (pos n) = n % 2 ^ w
wrapped w (negsuc n) = 2 ^ w - suc (n % 2 ^ w)

-- ---- sums

abbrev pub add : ℕ → ℕ → ℕ → ℕ
add w a b = (a + b) % 2 ^ w

-- the first minus the second
abbrev pub sub : ℕ → ℕ → ℕ → ℕ
sub w a b = (a + (2 ^ w - b)) % 2 ^ w

-- ---- order

abbrev pub less_unsigned : ℕ → ℕ → ℕ → Bool
less_unsigned w a b = nat_lt a b

abbrev pub less_signed : ℕ → ℕ → ℕ → Bool
less_signed w a b = int_lt (signed w a) (signed w b)

abbrev pub equal : ℕ → ℕ → ℕ → Bool
equal w a b = a == b

abbrev pub not_equal : ℕ → ℕ → ℕ → Bool
not_equal w a b = not (a == b)

-- the second is not less than the first
abbrev pub less_or_equal_unsigned : ℕ → ℕ → ℕ → Bool
less_or_equal_unsigned w a b = not (less_unsigned w b a)

abbrev pub less_or_equal_signed : ℕ → ℕ → ℕ → Bool
less_or_equal_signed w a b = not (less_signed w b a)

abbrev pub min_unsigned : ℕ → ℕ → ℕ → ℕ
min_unsigned w a b = if less_unsigned w b a then b else a

abbrev pub max_unsigned : ℕ → ℕ → ℕ → ℕ
max_unsigned w a b = if less_unsigned w a b then b else a

abbrev pub min_signed : ℕ → ℕ → ℕ → ℕ
min_signed w a b = if less_signed w b a then b else a

abbrev pub max_signed : ℕ → ℕ → ℕ → ℕ
max_signed w a b = if less_signed w a b then b else a

-- 1 where the first is less, else 0
abbrev pub set_less_unsigned : ℕ → ℕ → ℕ → ℕ
set_less_unsigned w a b = if less_unsigned w a b then 1 else 0

abbrev pub set_less_signed : ℕ → ℕ → ℕ → ℕ
set_less_signed w a b = if less_signed w a b then 1 else 0

-- ---- bits

abbrev pub and : ℕ → ℕ → ℕ → ℕ
and w a b = bit_and a b

abbrev pub or : ℕ → ℕ → ℕ → ℕ
or w a b = bit_or a b

abbrev pub xor : ℕ → ℕ → ℕ → ℕ
xor w a b = bit_xor a b

-- ---- shifts of the first by the second, taken modulo the width

abbrev pub shift_left : ℕ → ℕ → ℕ → ℕ
shift_left w a b = (a * 2 ^ (b % w)) % 2 ^ w

abbrev pub shift_right_logical : ℕ → ℕ → ℕ → ℕ
shift_right_logical w a b = a / 2 ^ (b % w)

-- the sign bit comes in from the left: the quotient is rounded down
abbrev pub shift_right_arithmetic : ℕ → ℕ → ℕ → ℕ
shift_right_arithmetic w a b = wrapped w (int_shr (signed w a) (b % w))

-- ---- products: their low w bits, and the w bits above them

abbrev pub multiply : ℕ → ℕ → ℕ → ℕ
multiply w a b = (a * b) % 2 ^ w

abbrev pub multiply_high_unsigned : ℕ → ℕ → ℕ → ℕ
multiply_high_unsigned w a b = a * b / 2 ^ w

abbrev pub multiply_high_signed : ℕ → ℕ → ℕ → ℕ
multiply_high_signed w a b = wrapped w (int_shr (signed w a *ℤ signed w b) w)

-- the first is signed, the second is not
abbrev pub multiply_high_signed_unsigned : ℕ → ℕ → ℕ → ℕ
multiply_high_signed_unsigned w a b = wrapped w (int_shr (signed w a *ℤ pos b) w)

-- ---- quotients toward zero, and their remainders. By zero the quotient has all bits set, and the remainder is
-- the dividend. The least number by -1 is 2^(w - 1), which in w bits is the least number again; it leaves 0.

abbrev pub divide_unsigned : ℕ → ℕ → ℕ → ℕ
divide_unsigned w a b = if b == 0 then 2 ^ w - 1 else a / b

abbrev pub remainder_unsigned : ℕ → ℕ → ℕ → ℕ
remainder_unsigned w a b = if b == 0 then a else a % b

abbrev pub divide_signed : ℕ → ℕ → ℕ → ℕ
divide_signed w a b = if b == 0 then 2 ^ w - 1 else wrapped w (int_div (signed w a) (signed w b))

abbrev pub remainder_signed : ℕ → ℕ → ℕ → ℕ
remainder_signed w a b = if b == 0 then a else wrapped w (int_rem (signed w a) (signed w b))

-- ---- What an instruction does with each element: results of pairs, merges under a mask, reductions.
-- Vector Extension 1.0: chapter 11 "Vector Integer Arithmetic Instructions", with section 11.15 "Vector Integer Merge
-- Instructions"; section 14.1 "Vector Single-Width Integer Reduction Instructions".

-- the results of an operation on each pair
abbrev pub zip_with : {A B C : Type 0} → (A → B → C) → List A → List B → List C
zip_with f [] ys = []
zip_with f (x ∷ xs) [] = []
zip_with f (x ∷ xs) (y ∷ ys) = f x y ∷ zip_with f xs ys

-- the new element where it is chosen, else the old one
abbrev pub merged : {A : Type 0} → List Bool → List A → List A → List A
merged [] xs ys = []
merged (b ∷ bs) [] ys = []
merged (b ∷ bs) (x ∷ xs) [] = []
merged (b ∷ bs) (x ∷ xs) (y ∷ ys) = (if b then x else y) ∷ merged bs xs ys

-- the elements that are chosen, in order
abbrev pub chosen_of : {A : Type 0} → List Bool → List A → List A
chosen_of [] xs = []
chosen_of (b ∷ bs) [] = []
chosen_of (true ∷ bs) (x ∷ xs) = x ∷ chosen_of bs xs
chosen_of (false ∷ bs) (x ∷ xs) = chosen_of bs xs

-- a first value folded with the active elements, in order
abbrev pub reduced : {A : Type 0} → (A → A → A) → List Bool → A → List A → A
reduced f active start xs = fold f start (chosen_of active xs)

-- ---- the same as relations, for an operation that is known by what it may answer

-- each pair is related to the result in its place
abbrev pub EachPair : {A B C : Type 0} → (A → B → C → Type 0) → List A → List B → List C → Type 0
EachPair R [] [] [] = Unit {0}
EachPair R [] [] (z ∷ zs) = ⊥
EachPair R [] (y ∷ ys) zs = ⊥
EachPair R (x ∷ xs) [] zs = ⊥
EachPair R (x ∷ xs) (y ∷ ys) [] = ⊥
EachPair R (x ∷ xs) (y ∷ ys) (z ∷ zs) = R x y z × EachPair R xs ys zs

-- each number from a first one on is related to the result in its place
abbrev pub EachFrom : {A : Type 0} → (ℕ → A → Type 0) → ℕ → List A → Type 0
EachFrom R i [] = Unit {0}
EachFrom R i (x ∷ xs) = R i x × EachFrom R (i + 1) xs

-- steps over the elements lead from the first value to the last
abbrev pub LeadsTo : {A : Type 0} → (A → A → A → Type 0) → A → List A → A → Type 0
LeadsTo R start [] end = start ≡ end
LeadsTo {A} R start (x ∷ xs) end = (next : A) × R start x next × LeadsTo R next xs end

-- ---- The 16 bytes of a vector register as a list of elements, and back.
-- Vector Extension 1.0: section 4.1 "Mapping for LMUL = 1". That a register has 16 bytes is this project's own choice.

-- the number that bytes spell, the lowest byte first
abbrev pub little_endian : List ℕ → ℕ
little_endian [] = 0
little_endian (byte ∷ bytes) = byte + 256 * little_endian bytes

-- this many of the lowest bytes of a number, the lowest first
abbrev pub lowest_bytes : ℕ → ℕ → List ℕ
lowest_bytes zero n = []
lowest_bytes (suc count) n = n % 256 ∷ lowest_bytes count (n / 256)

-- element i of width w: the number at the bytes from i * (w / 8) on
abbrev pub element : ℕ → List ℕ → ℕ → ℕ
element w bytes i = little_endian (take (w / 8) (drop (i * (w / 8)) bytes))

-- bytes after a number is written as element i
abbrev pub with_element : ℕ → List ℕ → ℕ → ℕ → List ℕ
with_element w bytes i n = take (i * (w / 8)) bytes ++ lowest_bytes (w / 8) n ++ drop (i * (w / 8) + w / 8) bytes

-- all elements of width w, element 0 first
unfoldable pub elements : ℕ → List ℕ → List ℕ
elements w bytes = map (element w bytes) (range_with_len 0 (128 / w))

-- the bytes of elements of width w, element 0 first
abbrev pub register_of : ℕ → List ℕ → List ℕ
register_of w numbers = flat_map (lowest_bytes (w / 8)) numbers

-- ---- Masks: which elements an instruction works on, and results that are written as bits.
-- Vector Extension 1.0: sections 4.5 "Mask Register Layout", 5.3 "Vector Masking", 5.4 "Prestart, Active, Inactive,
-- Body, and Tail Element Definitions". That what is not active keeps its old value is this project's own choice among
-- those that section 3.4.3 "Vector Tail Agnostic and Vector Mask Agnostic vta and vma" leaves.

-- bit i of a mask register: bit i % 8 of byte i / 8
abbrev pub mask_bit : List ℕ → ℕ → Bool
mask_bit bytes i = bit_at (slice_index bytes (i / 8)) (i % 8) == 1

-- this many bits of a mask register, from one on
unfoldable pub mask_bits : ℕ → ℕ → List ℕ → List Bool
mask_bits first count bytes = map (λ i. mask_bit bytes (first + i)) (range_with_len 0 count)

-- element i is active below vl, where the instruction is unmasked or bit i of the mask is 1
abbrev pub is_active : ℕ → Bool → List ℕ → ℕ → Bool
is_active vl unmasked mask i = nat_lt i vl && (unmasked || mask_bit mask i)

-- this many elements, from one on
unfoldable pub active : ℕ → ℕ → ℕ → Bool → List ℕ → List Bool
active first count vl unmasked mask = map (λ i. is_active vl unmasked mask (first + i)) (range_with_len 0 count)

-- a byte whose bit k becomes 1 or 0
abbrev pub with_bit : ℕ → ℕ → Bool → ℕ
with_bit byte k true = bit_or byte (2 ^ k)
with_bit byte k false = bit_and byte (255 - 2 ^ k)

-- a mask register whose bit i is written
abbrev pub with_mask_bit : List ℕ → ℕ → Bool → List ℕ
with_mask_bit bytes i bit = slice_set bytes (i / 8) (with_bit (slice_index bytes (i / 8)) (i % 8) bit)

-- a mask register whose bits from i on are written where the elements are active; every other bit is kept
abbrev pub with_mask_bits_from : ℕ → List Bool → List Bool → List ℕ → List ℕ
with_mask_bits_from i [] bits bytes = bytes
with_mask_bits_from i (a ∷ others) [] bytes = bytes
with_mask_bits_from i (a ∷ others) (b ∷ bits) bytes =
    with_mask_bits_from (i + 1) others bits (if a then with_mask_bit bytes i b else bytes)

abbrev pub with_mask_bits : List Bool → List Bool → List ℕ → List ℕ
with_mask_bits active bits bytes = with_mask_bits_from 0 active bits bytes

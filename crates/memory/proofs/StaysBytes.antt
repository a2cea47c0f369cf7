-- What is written are bytes, and data stay bytes.
use Rattle.std.proofs.Common.{ℕ, zero, suc, ◌-◌, ◌%◌, ◌^◌, ◌<◌, List, [], ◌∷◌, ◌++◌, get_or, set, Bool, true, false, arith}
use Rattle.std.specs.Prelude.{◌/◌, nat_lt, cond}
use Rattle.std.proofs.lemmas.Nat.{mod_below}
use Rattle.memory.specs.Access.{data_start, put, put_byte, AreBytes, Size, Byte, Half, Word, Access, bytes_of, spread}

set-bytes : (memory : List ℕ) (i byte j : ℕ) → byte < 256 → get_or memory j 0 < 256 → get_or (set memory i byte) j 0 < 256
set-bytes [] i byte j l h = h
set-bytes (x ∷ memory) zero byte zero l h = l
set-bytes (x ∷ memory) zero byte (suc j) l h = h
set-bytes (x ∷ memory) (suc i) byte zero l h = h
set-bytes (x ∷ memory) (suc i) byte (suc j) l h = set-bytes memory i byte j l h

cond-bytes : (t : Bool) (m n : List ℕ) (j : ℕ) → get_or m j 0 < 256 → get_or n j 0 < 256 → get_or (cond t m n) j 0 < 256
cond-bytes true m n j a b = a
cond-bytes false m n j a b = b

pub put-bytes : (memory places bytes : List ℕ) → AreBytes memory → AreBytes bytes → AreBytes (put memory places bytes)
put-bytes memory [] bytes h w = h
put-bytes memory (place ∷ places) [] h w = h
put-bytes memory (place ∷ places) (byte ∷ bytes) h w =
    put-bytes (put_byte memory place byte) places bytes
    (λ j. cond-bytes (nat_lt place data_start) memory (set memory (place - data_start) byte) j (h j) (set-bytes memory (place - data_start) byte j (w 0) (h j)))
    (λ i. w (suc i))

pub none-bytes : AreBytes []
none-bytes i = omega arith

pub more-bytes : (byte : ℕ) (bytes : List ℕ) → byte < 256 → AreBytes bytes → AreBytes (byte ∷ bytes)
more-bytes byte bytes l w zero = l
more-bytes byte bytes l w (suc i) = w i

pub append-bytes : (xs ys : List ℕ) → AreBytes xs → AreBytes ys → AreBytes (xs ++ ys)
append-bytes [] ys a b = b
append-bytes (x ∷ xs) ys a b = more-bytes x (xs ++ ys) (a 0) (append-bytes xs ys (λ i. a (suc i)) b)

low : (n : ℕ) → n % 256 < 256
low n = mod_below n 256 (omega arith)

pub number-bytes : (size : Size) (n : ℕ) → AreBytes (bytes_of size n)
number-bytes Byte n zero = low n
number-bytes Byte n (suc i) = omega arith
number-bytes Half n zero = low n
number-bytes Half n (suc zero) = low (n / 256 ^ 1)
number-bytes Half n (suc (suc i)) = omega arith
number-bytes Word n zero = low n
number-bytes Word n (suc zero) = low (n / 256 ^ 1)
number-bytes Word n (suc (suc zero)) = low (n / 256 ^ 2)
number-bytes Word n (suc (suc (suc zero))) = low (n / 256 ^ 3)
number-bytes Word n (suc (suc (suc (suc i)))) = omega arith

pub spread-bytes : (accesses : List Access) (numbers : List ℕ) → AreBytes (spread accesses numbers)
spread-bytes [] numbers = none-bytes
spread-bytes (access ∷ accesses) [] = none-bytes
spread-bytes (access ∷ accesses) (n ∷ numbers) = append-bytes (bytes_of access.size n) (spread accesses numbers) (number-bytes access.size n)
    (spread-bytes accesses numbers)

-- Bytes that are put at places: the size of the data stays, other bytes stay, and places apart may be put in either order.
use Rattle.std.proofs.Common.{◌≡◌, ℕ, ◌+◌, ◌-◌, ◌≤◌, List, [], ◌∷◌, length, get_or, set, Bool, true, false, refl, ap, ◌∙◌, arith, length-set, get_or-set_other}
use Rattle.std.specs.Prelude.{◌≢◌, nat_lt, cond}
use Rattle.std.proofs.lemmas.List.{set_comm}
use Rattle.std.proofs.lemmas.Bool.{ltb-false, cond_both}
use Rattle.memory.specs.Access.{data_start, byte_at, put, put_byte, put_number, number_in, NotIn, Size, Word, access_at, bytes_of, places_of}

pub length-put_byte : (memory : List ℕ) (place byte : ℕ) → length (put_byte memory place byte) ≡ length memory
length-put_byte memory place byte = grind (arith, length-set {A = ℕ})

pub length-put : (memory places bytes : List ℕ) → length (put memory places bytes) ≡ length memory
length-put memory [] bytes = refl
length-put memory (place ∷ places) [] = refl
length-put memory (place ∷ places) (byte ∷ bytes) = length-put (put_byte memory place byte) places bytes ∙ length-put_byte memory place byte

-- a number that is put leaves as many bytes
pub size_kept : (memory memory' : List ℕ) (size : Size) (at n : ℕ) → memory' ≡ put_number memory size at n → length memory' ≡ length memory
size_kept memory memory' size at n e = ap length e ∙ length-put memory (places_of (access_at size at)) (bytes_of size n)

-- four words that are put in data one after the other
pub four_put : (m0 m1 m2 m3 m4 : List ℕ) (at address a b c d : ℕ) → at + data_start ≡ address
    → m1 ≡ put_number m0 Word (at + data_start) a → m2 ≡ put_number m1 Word (at + 4 + data_start) b
    → m3 ≡ put_number m2 Word (at + 8 + data_start) c → m4 ≡ put_number m3 Word (at + 12 + data_start) d
    → m4 ≡ put_number (put_number (put_number (put_number m0 Word address a) Word (address + 4) b) Word (address + 8) c) Word (address + 12) d
four_put m0 m1 m2 m3 m4 at address a b c d e e1 e2 e3 e4 =
    let p2 : at + 4 + data_start ≡ address + 4 = omega (arith, e) in
    let p3 : at + 8 + data_start ≡ address + 8 = omega (arith, e) in
    let p4 : at + 12 + data_start ≡ address + 12 = omega (arith, e) in
    let q1 : m1 ≡ put_number m0 Word address a = e1 ∙ ap (λ x. put_number m0 Word x a) e in
    let q2 : m2 ≡ put_number m1 Word (address + 4) b = e2 ∙ ap (λ x. put_number m1 Word x b) p2 in
    let q3 : m3 ≡ put_number m2 Word (address + 8) c = e3 ∙ ap (λ x. put_number m2 Word x c) p3 in
    let q4 : m4 ≡ put_number m3 Word (address + 12) d = e4 ∙ ap (λ x. put_number m3 Word x d) p4 in
    q4 ∙ ap (λ m. put_number m Word (address + 12) d) (q3 ∙ ap (λ m. put_number m Word (address + 8) c) (q2
    ∙ ap (λ m. put_number m Word (address + 4) b) q1))

-- four words of data one after the other
pub four_read : (text memory : List ℕ) (a b c d at address : ℕ) → at + data_start ≡ address
    → a ≡ number_in text memory Word (at + data_start) → b ≡ number_in text memory Word (at + 4 + data_start)
    → c ≡ number_in text memory Word (at + 8 + data_start) → d ≡ number_in text memory Word (at + 12 + data_start)
    → a ∷ b ∷ c ∷ d ∷ []
    ≡ number_in text memory Word address ∷ number_in text memory Word (address + 4) ∷ number_in text memory Word (address + 8)
    ∷ number_in text memory Word (address + 12) ∷ []
four_read text memory a b c d at address e e1 e2 e3 e4 =
    let p2 : at + 4 + data_start ≡ address + 4 = omega (arith, e) in
    let p3 : at + 8 + data_start ≡ address + 8 = omega (arith, e) in
    let p4 : at + 12 + data_start ≡ address + 12 = omega (arith, e) in
    let q1 : a ≡ number_in text memory Word address = e1 ∙ ap (number_in text memory Word) e in
    let q2 : b ≡ number_in text memory Word (address + 4) = e2 ∙ ap (number_in text memory Word) p2 in
    let q3 : c ≡ number_in text memory Word (address + 8) = e3 ∙ ap (number_in text memory Word) p3 in
    let q4 : d ≡ number_in text memory Word (address + 12) = e4 ∙ ap (number_in text memory Word) p4 in
    ap (λ x. x ∷ b ∷ c ∷ d ∷ []) q1
    ∙ ap (λ x. number_in text memory Word address ∷ x ∷ c ∷ d ∷ []) q2
    ∙ ap (λ x. number_in text memory Word address ∷ number_in text memory Word (address + 4) ∷ x ∷ d ∷ []) q3
    ∙ ap (λ x. number_in text memory Word address ∷ number_in text memory Word (address + 4) ∷ number_in text memory Word (address + 8) ∷ x ∷ []) q4

same-cond : {A : Type 0} (t : Bool) (x y z : A) → (t ≡ false → y ≡ z) → cond t x y ≡ cond t x z
same-cond true x y z h = refl
same-cond false x y z h = h refl

put-other : (memory : List ℕ) (place byte x : ℕ) → data_start ≤ x → x ≢ place → get_or (put_byte memory place byte) (x - data_start) 0
    ≡ get_or memory (x - data_start) 0
put-other memory place byte x low other =
    cond_both (nat_lt place data_start) memory (set memory (place - data_start) byte) (λ m. get_or m (x - data_start) 0 ≡ get_or memory (x - data_start) 0)
    (λ _. refl)
    (λ e. let above = ltb-false place data_start e in let apart : x - data_start ≢ place - data_start = (λ q. other (omega arith)) in
    get_or-set_other memory (place - data_start) (x - data_start) byte 0 apart)

pub byte-put_byte : (text memory : List ℕ) (place byte x : ℕ) → x ≢ place → byte_at text (put_byte memory place byte) x ≡ byte_at text memory x
byte-put_byte text memory place byte x other = same-cond (nat_lt x data_start) _ _ _ (λ e. put-other memory place byte x (ltb-false x data_start e) other)

pub byte-put : (text memory places bytes : List ℕ) (x : ℕ) → NotIn x places → byte_at text (put memory places bytes) x ≡ byte_at text memory x
byte-put text memory [] bytes x h = refl
byte-put text memory (place ∷ places) [] x h = refl
byte-put text memory (place ∷ places) (byte ∷ bytes) x h = byte-put text (put_byte memory place byte) places bytes x h.1
    ∙ byte-put_byte text memory place byte x h.0

set_apart : (memory : List ℕ) (p b q c : ℕ) → data_start ≤ p → data_start ≤ q → p ≢ q → set (set memory (p - data_start) b) (q - data_start) c
    ≡ set (set memory (q - data_start) c) (p - data_start) b
set_apart memory p b q c hp hq other = let apart : p - data_start ≢ q - data_start = (λ e. other (omega arith)) in set_comm memory (p - data_start)
    (q - data_start) b c apart

put_byte-two : (s t : Bool) (memory : List ℕ) (p b q c : ℕ) → (s ≡ false → data_start ≤ p) → (t ≡ false → data_start ≤ q) → p ≢ q
    → cond t (cond s memory (set memory (p - data_start) b)) (set (cond s memory (set memory (p - data_start) b)) (q - data_start) c)
    ≡ cond s (cond t memory (set memory (q - data_start) c)) (set (cond t memory (set memory (q - data_start) c)) (p - data_start) b)
put_byte-two true true memory p b q c hp hq other = refl
put_byte-two true false memory p b q c hp hq other = refl
put_byte-two false true memory p b q c hp hq other = refl
put_byte-two false false memory p b q c hp hq other = set_apart memory p b q c (hp refl) (hq refl) other

put_byte-comm : (memory : List ℕ) (p b q c : ℕ) → p ≢ q → put_byte (put_byte memory p b) q c ≡ put_byte (put_byte memory q c) p b
put_byte-comm memory p b q c other = put_byte-two (nat_lt p data_start) (nat_lt q data_start) memory p b q c (ltb-false p data_start) (ltb-false q data_start)
    other

pub put-past : (memory : List ℕ) (p b : ℕ) (qs cs : List ℕ) → NotIn p qs → put (put_byte memory p b) qs cs ≡ put_byte (put memory qs cs) p b
put-past memory p b [] cs h = refl
put-past memory p b (q ∷ qs) [] h = refl
put-past memory p b (q ∷ qs) (c ∷ cs) h =
    ap (λ m. put m qs cs) (put_byte-comm memory p b q c h.0) ∙ put-past (put_byte memory q c) p b qs cs h.1

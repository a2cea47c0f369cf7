-- A number that is put lies at its places, and a word is read back.
use Rattle.std.proofs.Common.{◌≡◌, ℕ, ◌+◌, ◌-◌, ◌^◌, ◌<◌, ◌≤◌, List, [], ◌∷◌, length, get_or, set, Bool, true, false, ap, ◌∙◌, arith, inl, inr}
use Rattle.std.specs.Prelude.{◌⊎◌, nat_lt, cond, map}
use Rattle.std.specs.Int.{w32, from_le_bytes, to_le_bytes}
use Rattle.std.proofs.lemmas.Bool.Decides.{nat_tests}
use Rattle.std.proofs.lemmas.Nat.{from_le_bytes-to_le_bytes_4}
use Rattle.std.proofs.lemmas.List.{get_or-set_same}
use Rattle.memory.specs.Access.{data_start, byte_at, put, put_byte, NotIn, Size, Byte, Half, Word, bytes_in, bytes_of, access_at, places_of, put_number}
use Rattle.memory.specs.Access.{word_at}
use Rattle.memory.proofs.Putting.{length-put_byte, byte-put}

-- ---- one byte

set-within : (test : Bool) (x : ℕ) (memory : List ℕ) (i byte : ℕ) → test ≡ false → i < length memory
    → cond test x (get_or (cond test memory (set memory i byte)) i 0) ≡ byte
set-within true x memory i byte e within = absurd (cc e)
set-within false x memory i byte e within = get_or-set_same memory i byte 0 within

pub byte-same : (text memory : List ℕ) (place byte : ℕ) → data_start ≤ place → place < data_start + length memory
    → byte_at text (put_byte memory place byte) place ≡ byte
byte-same text memory place byte low within =
    let e : nat_lt place data_start ≡ false = grind (arith, nat_tests) in
    set-within (nat_lt place data_start) _ memory (place - data_start) byte e (omega arith)

-- ---- two and four bytes, one after the other

pub bytes-two : (text memory : List ℕ) (at x y : ℕ) → data_start ≤ at → at + 2 ≤ data_start + length memory
    → map (byte_at text (put memory (at ∷ (at + 1) ∷ []) (x ∷ y ∷ []))) (at ∷ (at + 1) ∷ []) ≡ x ∷ y ∷ []
bytes-two text memory at x y low within =
    let m1 = put_byte memory at x in
    let m2 = put_byte m1 (at + 1) y in
    let l1 : length m1 ≡ length memory = length-put_byte memory at x in
    let e0 : byte_at text m2 at ≡ x = byte-put text m1 ((at + 1) ∷ []) (y ∷ []) at ((λ e. omega (arith, e)), tt)
    ∙ byte-same text memory at x low (omega arith) in
    let e1 : byte_at text m2 (at + 1) ≡ y = byte-same text m1 (at + 1) y (omega arith) (omega (arith, l1)) in
    ap (λ q. q ∷ byte_at text m2 (at + 1) ∷ []) e0 ∙ ap (λ q. x ∷ q ∷ []) e1

pub bytes-four : (text memory : List ℕ) (at x y z w : ℕ) → data_start ≤ at → at + 4 ≤ data_start + length memory
    → map (byte_at text (put memory (at ∷ (at + 1) ∷ (at + 2) ∷ (at + 3) ∷ []) (x ∷ y ∷ z ∷ w ∷ []))) (at ∷ (at + 1) ∷ (at + 2) ∷ (at + 3) ∷ []) ≡ x ∷ y ∷ z ∷ w
    ∷ []
bytes-four text memory at x y z w low within =
    let m1 = put_byte memory at x in
    let m2 = put_byte m1 (at + 1) y in
    let m3 = put_byte m2 (at + 2) z in
    let m4 = put_byte m3 (at + 3) w in
    let l1 : length m1 ≡ length memory = length-put_byte memory at x in
    let l2 : length m2 ≡ length memory = length-put_byte m1 (at + 1) y ∙ l1 in
    let l3 : length m3 ≡ length memory = length-put_byte m2 (at + 2) z ∙ l2 in
    let e0 : byte_at text m4 at ≡ x = byte-put text m1 ((at + 1) ∷ (at + 2) ∷ (at + 3) ∷ []) (y ∷ z ∷ w ∷ []) at (
      (λ e. omega (arith, e)),
      ((λ e. omega (arith, e)), ((λ e. omega (arith, e)), tt)),
    ) ∙ byte-same text memory at x low (omega arith) in
    let e1 : byte_at text m4 (at + 1) ≡ y = byte-put text m2 ((at + 2) ∷ (at + 3) ∷ []) (z ∷ w ∷ []) (at + 1) (
      (λ e. omega (arith, e)),
      ((λ e. omega (arith, e)), tt),
    ) ∙ byte-same text m1 (at + 1) y (omega arith) (omega (arith, l1)) in
    let e2 : byte_at text m4 (at + 2) ≡ z = byte-put text m3 ((at + 3) ∷ []) (w ∷ []) (at + 2) ((λ e. omega (arith, e)), tt)
    ∙ byte-same text m2 (at + 2) z (omega arith) (omega (arith, l2)) in
    let e3 : byte_at text m4 (at + 3) ≡ w = byte-same text m3 (at + 3) w (omega arith) (omega (arith, l3)) in
    ap (λ q. q ∷ byte_at text m4 (at + 1) ∷ byte_at text m4 (at + 2) ∷ byte_at text m4 (at + 3) ∷ []) e0
    ∙ ap (λ q. x ∷ q ∷ byte_at text m4 (at + 2) ∷ byte_at text m4 (at + 3) ∷ []) e1 ∙ ap (λ q. x ∷ y ∷ q ∷ byte_at text m4 (at + 3) ∷ []) e2
    ∙ ap (λ q. x ∷ y ∷ z ∷ q ∷ []) e3

pub bytes-put : (text memory : List ℕ) (size : Size) (at n : ℕ) → data_start ≤ at → at + bytes_in size ≤ data_start + length memory
    → map (byte_at text (put_number memory size at n)) (places_of (access_at size at)) ≡ bytes_of size n
bytes-put text memory Byte at n low within = ap (λ q. q ∷ []) (byte-same text memory at _ low (omega (arith, within)))
bytes-put text memory Half at n low within = bytes-two text memory at _ _ low within
bytes-put text memory Word at n low within = bytes-four text memory at _ _ _ _ low within

-- ---- words

pub word-put : (text memory : List ℕ) (at n : ℕ) → data_start ≤ at → at + 4 ≤ data_start + length memory → n < 2 ^ 32
    → word_at text (put_number memory Word at n) at ≡ n
word-put text memory at n low within fits = ap (from_le_bytes w32) (bytes-put text memory Word at n low within) ∙ from_le_bytes-to_le_bytes_4 n fits

pub word-same : (text first second : List ℕ) (at : ℕ) → byte_at text first at ≡ byte_at text second at
    → byte_at text first (at + 1) ≡ byte_at text second (at + 1) → byte_at text first (at + 2) ≡ byte_at text second (at + 2)
    → byte_at text first (at + 3) ≡ byte_at text second (at + 3) → word_at text first at ≡ word_at text second at
word-same text first second at e f g h = ap (from_le_bytes w32) (ap (λ x. x ∷ byte_at text first (at + 1) ∷ byte_at text first (at + 2)
    ∷ byte_at text first (at + 3) ∷ []) e ∙ ap (λ x. byte_at text second at ∷ x ∷ byte_at text first (at + 2) ∷ byte_at text first (at + 3) ∷ []) f
    ∙ ap (λ x. byte_at text second at ∷ byte_at text second (at + 1) ∷ x ∷ byte_at text first (at + 3) ∷ []) g
    ∙ ap (λ x. byte_at text second at ∷ byte_at text second (at + 1) ∷ byte_at text second (at + 2) ∷ x ∷ []) h)

far : (x at : ℕ) → (x < at) ⊎ (at + 4 ≤ x) → NotIn x (at ∷ (at + 1) ∷ (at + 2) ∷ (at + 3) ∷ [])
far x at o = ((λ e. omega (arith, o, e)), ((λ e. omega (arith, o, e)), ((λ e. omega (arith, o, e)), ((λ e. omega (arith, o, e)), tt))))

pub word-other : (text memory : List ℕ) (at n other : ℕ) → (other + 4 ≤ at) ⊎ (at + 4 ≤ other) → word_at text (put_number memory Word at n) other
    ≡ word_at text memory other
word-other text memory at n other o =
    let places = at ∷ (at + 1) ∷ (at + 2) ∷ (at + 3) ∷ [] in
    let bytes = to_le_bytes w32 n in
    word-same text (put memory places bytes) memory other
    (byte-put text memory places bytes other (far other at (elim o [ inl x ↦ inl (omega (arith, x)) | inr x ↦ inr (omega (arith, x)) ])))
    (byte-put text memory places bytes (other + 1) (far (other + 1) at (elim o [ inl x ↦ inl (omega (arith, x)) | inr x ↦ inr (omega (arith, x)) ])))
    (byte-put text memory places bytes (other + 2) (far (other + 2) at (elim o [ inl x ↦ inl (omega (arith, x)) | inr x ↦ inr (omega (arith, x)) ])))
    (byte-put text memory places bytes (other + 3) (far (other + 3) at (elim o [ inl x ↦ inl (omega (arith, x)) | inr x ↦ inr (omega (arith, x)) ])))

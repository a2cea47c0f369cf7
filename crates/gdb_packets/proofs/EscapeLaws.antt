-- What escaping makes of a payload, and how it is undone.
use Rattle.std.proofs.Common.{◌≡◌, ◌≢◌, ℕ, ◌==◌, ◌||◌, cond, Bool, true, false, List, [], ◌∷◌, ◌++◌, bit_xor}
use Rattle.std.proofs.Common.{Some, refl, ap, ◌∙◌, arith, subst}
use Rattle.std.specs.List.{AllByRecursion}
use Rattle.gdb_packets.specs.Packets.{escape_of, escaped, unescaped_from, unescaped, in_front, expanded_behind, answer_in, IsBody}

-- none of `#`, `$` and `*`
abbrev IsPlain : ℕ → Type 0
IsPlain byte = (byte ≢ 35) × (byte ≢ 36) × (byte ≢ 42)

-- what escaping a byte makes is plain, and is undone
record Undone (byte : ℕ) (part : List ℕ) : Type 0 where
  plain : AllByRecursion IsPlain part
  undone : (rest : List ℕ) → unescaped_from false (part ++ rest) ≡ in_front byte (unescaped_from false rest)

special : (byte : ℕ) → IsPlain (bit_xor byte 32) → bit_xor (bit_xor byte 32) 32 ≡ byte → Undone byte (125 ∷ bit_xor byte 32 ∷ [])
unfolding unescaped_from
special byte is e = record {
  plain = (((omega arith), (omega arith), (omega arith)), (is, tt));
  undone = λ rest. ap (λ (b : ℕ). in_front b (unescaped_from false rest)) e;
}

plainly : (byte : ℕ) → byte ≢ 125 → IsPlain byte → Undone byte (byte ∷ [])
unfolding unescaped_from
plainly byte other is = record {
  plain = (is, tt);
  undone = λ rest. let e : (byte == 125) ≡ false = grind arith in rw e refl;
}

by_tests : (byte : ℕ) (a b c d : Bool) → (byte == 35) ≡ a → (byte == 36) ≡ b → (byte == 42) ≡ c → (byte == 125) ≡ d
    → Undone byte (cond (a || b || c || d) (125 ∷ bit_xor byte 32 ∷ []) (byte ∷ []))
by_tests byte true b c d ea eb ec ed =
    let e : 35 ≡ byte = grind (arith, ea) in
    subst (λ (n : ℕ). Undone n (125 ∷ bit_xor n 32 ∷ [])) e (special 35 ((omega arith), (omega arith), (omega arith)) refl)
by_tests byte false true c d ea eb ec ed =
    let e : 36 ≡ byte = grind (arith, eb) in
    subst (λ (n : ℕ). Undone n (125 ∷ bit_xor n 32 ∷ [])) e (special 36 ((omega arith), (omega arith), (omega arith)) refl)
by_tests byte false false true d ea eb ec ed =
    let e : 42 ≡ byte = grind (arith, ec) in
    subst (λ (n : ℕ). Undone n (125 ∷ bit_xor n 32 ∷ [])) e (special 42 ((omega arith), (omega arith), (omega arith)) refl)
by_tests byte false false false true ea eb ec ed =
    let e : 125 ≡ byte = grind (arith, ed) in
    subst (λ (n : ℕ). Undone n (125 ∷ bit_xor n 32 ∷ [])) e (special 125 ((omega arith), (omega arith), (omega arith)) refl)
by_tests byte false false false false ea eb ec ed =
    plainly byte (grind (arith, ed)) ((grind (arith, ea)), (grind (arith, eb)), (grind (arith, ec)))

undone : (byte : ℕ) → Undone byte (escape_of byte)
undone byte = by_tests byte (byte == 35) (byte == 36) (byte == 42) (byte == 125) refl refl refl refl

-- ---- whole payloads

plain_both : (first second : List ℕ) → AllByRecursion IsPlain first → AllByRecursion IsPlain second → AllByRecursion IsPlain (first ++ second)
plain_both [] second f s = s
plain_both (byte ∷ first) second f s = (f.0, plain_both first second f.1 s)

all_plain : (payload : List ℕ) → AllByRecursion IsPlain (escaped payload)
all_plain [] = tt
all_plain (byte ∷ payload) = plain_both (escape_of byte) (escaped payload) (undone byte).plain (all_plain payload)

body_of : (body : List ℕ) → AllByRecursion IsPlain body → IsBody body
body_of [] all = tt
body_of (byte ∷ body) all = let h : IsPlain byte = all.0 in ((h.0, h.1), body_of body all.1)

pub escaped_is_body : (payload : List ℕ) → IsBody (escaped payload)
escaped_is_body payload = body_of (escaped payload) (all_plain payload)

pub unescaped_again : (payload : List ℕ) → unescaped (escaped payload) ≡ Some payload
unfolding unescaped_from
unescaped_again [] = refl
unescaped_again (byte ∷ payload) = (undone byte).undone (escaped payload) ∙ ap (in_front byte) (unescaped_again payload)

-- no byte is `*`, so nothing is expanded
not_expanded : (last : ℕ) (body : List ℕ) → AllByRecursion IsPlain body → expanded_behind last body ≡ body
unfolding expanded_behind
not_expanded last [] all = refl
not_expanded last (byte ∷ []) all = refl
not_expanded last (byte ∷ next ∷ body) all =
    let e : (byte == 42) ≡ false = grind (arith, all.0.2) in
    rw e (ap (λ (bytes : List ℕ). byte ∷ bytes) (not_expanded byte (next ∷ body) all.1))

pub answer_again : (payload : List ℕ) → answer_in (escaped payload) ≡ Some payload
answer_again payload = ap unescaped (not_expanded 0 (escaped payload) (all_plain payload)) ∙ unescaped_again payload

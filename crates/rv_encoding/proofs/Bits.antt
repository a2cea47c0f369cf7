-- Numbers whose digits stand at positions of a word, and pairs that hold there.
use Rattle.std.proofs.Common.{◌≡◌, ℕ, zero, suc, ◌+◌, ◌*◌, ◌/◌, ◌%◌, ◌^◌, ◌<◌, List, [], ◌∷◌, ◌++◌, length, refl, sym, ◌∙◌, ap, subst, arith, lit<, pow-suc}
use Rattle.std.specs.Int.{bit_at}
use Rattle.std.proofs.lemmas.Nat.{mod-pow-add}
use Rattle.std.proofs.Math.Nat.{div-div-eq-div-mul}
use Rattle.std.proofs.Math.Numerals.{add-one}
use Rattle.rv_insn.specs.Encoding.{Holds, number_at, span, fixed, in_parts}

pub bit_at-lt : (word place : ℕ) → bit_at word place < 2
bit_at-lt word place = omega arith

pub number_at-lt : (word : ℕ) (places : List ℕ) → number_at word places < 2 ^ length places
unfolding number_at
number_at-lt word [] = lit< tt
number_at-lt word (place ∷ places) =
    let rest = number_at-lt word places in
    let doubled : 2 ^ suc (length places) ≡ 2 ^ length places * 2 = pow-suc 2 (length places) in
    omega (arith, rest, doubled, bit_at-lt word place)

-- digits that stand in a row: a quotient and a remainder, which is what the code computes
pub number_at-span : (word low count : ℕ) → number_at word (span low count) ≡ word / 2 ^ low % 2 ^ count
unfolding number_at span
number_at-span word low zero = omega arith
number_at-span word low (suc count) =
    let rest = number_at-span word (low + 1) count in
    let halves : word / 2 ^ low / 2 ≡ word / 2 ^ (low + 1) =
    div-div-eq-div-mul word (2 ^ low) 2 ∙ ap (λ m. word / m) (sym (pow-suc 2 low) ∙ ap (λ k. 2 ^ k) (sym (add-one low))) in
    let cut : word / 2 ^ low % 2 ^ suc count ≡ (word / 2 ^ low / 2 ^ 1 % 2 ^ count) * 2 ^ 1 + word / 2 ^ low % 2 ^ 1 =
    ap (λ k. word / 2 ^ low % 2 ^ k) (sym (add-one count)) ∙ mod-pow-add (word / 2 ^ low) count 1 in
    let high : word / 2 ^ low / 2 % 2 ^ count ≡ number_at word (span (low + 1) count) = ap (λ x. x % 2 ^ count) halves ∙ sym rest in
    omega (arith, cut, high)

pub number_at-append : (word : ℕ) (low high : List ℕ) → number_at word (low ++ high) ≡ number_at word low + 2 ^ length low * number_at word high
unfolding number_at
number_at-append word [] high = omega arith
number_at-append word (place ∷ low) high =
    let rest = number_at-append word low high in
    let doubled : 2 ^ suc (length low) ≡ 2 ^ length low * 2 = pow-suc 2 (length low) in
    omega (arith, rest, ap (λ m. m * number_at word high) doubled)

pub Holds-append : (word : ℕ) (first second : List (ℕ × ℕ)) → Holds word first → Holds word second → Holds word (first ++ second)
unfolding Holds
Holds-append word [] second h k = k
Holds-append word (pair ∷ first) second h k = (h.0, Holds-append word first second h.1 k)

pub Holds-parts : (word : ℕ) (first second : List (ℕ × ℕ)) → Holds word (first ++ second) → Holds word first × Holds word second
unfolding Holds
Holds-parts word [] second h = (tt, h)
Holds-parts word (pair ∷ first) second h = let rest = Holds-parts word first second h.1 in ((h.0, rest.0), rest.1)

-- fixed digits hold where their number is, and only there
pub Holds-fixed : (word : ℕ) (places : List ℕ) (value : ℕ) → number_at word places ≡ value → Holds word (fixed places value)
unfolding Holds fixed number_at
Holds-fixed word [] value e = tt
Holds-fixed word (place ∷ places) value e = (omega (arith, e), Holds-fixed word places (value / 2) (omega (arith, e)))

pub number_at-fixed : (word : ℕ) (places : List ℕ) (value : ℕ) → value < 2 ^ length places → Holds word (fixed places value) → number_at word places ≡ value
unfolding Holds fixed number_at
number_at-fixed word [] value within h = omega (arith, within)
number_at-fixed word (place ∷ places) value within h =
    let doubled : 2 ^ suc (length places) ≡ 2 ^ length places * 2 = pow-suc 2 (length places) in
    let rest = number_at-fixed word places (value / 2) (omega (arith, within, doubled)) h.1 in
    omega (arith, rest, h.0)

-- ---- numbers at spans of positions

-- the numbers stand there
abbrev pub PartsAre : ℕ → List (ℕ × ℕ × ℕ) → Type 0
PartsAre word [] = Unit {0}
PartsAre word (p ∷ parts) = (word / 2 ^ p.0 % 2 ^ p.1 ≡ p.2) × PartsAre word parts

-- and have no more digits than there are positions
abbrev pub PartsFit : List (ℕ × ℕ × ℕ) → Type 0
PartsFit [] = Unit {0}
PartsFit (p ∷ parts) = (p.2 < 2 ^ p.1) × PartsFit parts

length-span : (low count : ℕ) → length (span low count) ≡ count
unfolding span
length-span low zero = refl
length-span low (suc count) = ap suc (length-span (low + 1) count)

pub parts_made : (word : ℕ) (parts : List (ℕ × ℕ × ℕ)) → PartsAre word parts → Holds word (in_parts parts)
unfolding in_parts Holds
parts_made word [] are = tt
parts_made word (p ∷ parts) are =
    Holds-append word (fixed (span p.0 p.1) p.2) (in_parts parts) (Holds-fixed word (span p.0 p.1) p.2 (number_at-span word p.0 p.1 ∙ are.0))
    (parts_made word parts are.1)

pub parts_read : (word : ℕ) (parts : List (ℕ × ℕ × ℕ)) → PartsFit parts → Holds word (in_parts parts) → PartsAre word parts
unfolding in_parts
parts_read word [] fit h = tt
parts_read word (p ∷ parts) fit h =
    let both = Holds-parts word (fixed (span p.0 p.1) p.2) (in_parts parts) h in
    let small : p.2 < 2 ^ length (span p.0 p.1) = subst (λ n. p.2 < 2 ^ n) (sym (length-span p.0 p.1)) fit.0 in
    (sym (number_at-span word p.0 p.1) ∙ number_at-fixed word (span p.0 p.1) p.2 small both.0, parts_read word parts fit.1 both.1)

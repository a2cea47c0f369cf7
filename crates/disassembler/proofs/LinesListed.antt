-- The lines of words that are listed one after the other.
use Rattle.std.proofs.Common.{◌≡◌, ◌∙◌, ℕ, refl, sym, ap, List, [], ◌∷◌, ◌++◌, ◌-◌, ◌<◌, ◌≤◌, arith, drop, get_or, take, length, append-nil, append_assoc}
use Rattle.std.proofs.Common.{subst, OnErr, Result, Ok, Err}
use Rattle.std.proofs.Math.Seq.{take-append_seam, take-length}
use Rattle.disassembler.specs.Listing.{listed, listing}

-- the lines of some first words were appended, and the others are left
pub record IsListed (words rest old new : List ℕ) : Type 0 where
  pub done : List ℕ
  pub split : words ≡ done ++ rest
  pub lines : new ≡ old ++ listing done

listing-append : (xs ys : List ℕ) → listing (xs ++ ys) ≡ listing xs ++ listing ys
unfolding listing
listing-append [] ys = refl
listing-append (x ∷ xs) ys = ap (λ lines. listed x ++ lines) (listing-append xs ys) ∙ sym (append_assoc (listed x) (listing xs) (listing ys))

one_line : (word : ℕ) → listing (word ∷ []) ≡ listed word
unfolding listing
one_line word = append-nil (listed word)

pub none_listed : (words old : List ℕ) → IsListed words words old old
unfolding listing
none_listed words old = record { done = []; split = refl; lines = sym (append-nil old) }

-- one more line
next_listed : (words rest old now new : List ℕ) (word : ℕ) (others : List ℕ) → IsListed words rest old now → rest ≡ word ∷ others → new ≡ now ++ listed word
    → IsListed words others old new
next_listed words rest old now new word others is split more = record {
  done = is.done ++ word ∷ [];
  split = is.split ∙ ap (λ r. is.done ++ r) split ∙ sym (append_assoc is.done (word ∷ []) others);
  lines = more ∙ ap (λ n. n ++ listed word) is.lines ∙ append_assoc old (listing is.done) (listed word)
      ∙ ap (λ l. old ++ l) (ap (λ l. listing is.done ++ l) (sym (one_line word)) ∙ sym (listing-append is.done (word ∷ [])));
}

-- the first of what is left
pub first_listed : (words rest old now new : List ℕ) (d : ℕ) → 1 ≤ length rest → IsListed words rest old now → new ≡ now ++ listed (get_or rest 0 d)
    → IsListed words (take (length rest - 1) (drop 1 rest)) old new
first_listed words [] old now new d some is more = absurd (omega (arith, some))
first_listed words (word ∷ others) old now new d some is more =
    let fewer : length (word ∷ others) - 1 ≡ length others = omega arith in
    let left : take (length (word ∷ others) - 1) others ≡ others = ap (λ n. take n others) fewer ∙ take-length others in
    subst (λ (r : List ℕ). IsListed words r old new) (sym left) (next_listed words (word ∷ others) old now new word others is refl more)

none_left : (rest : List ℕ) → length rest < 1 → rest ≡ []
none_left [] few = refl
none_left (word ∷ others) few = absurd (omega (arith, few))

pub all_listed : (words rest old new : List ℕ) → IsListed words rest old new → length rest < 1 → new ≡ old ++ listing words
all_listed words rest old new is few =
    let none = none_left rest few in
    is.lines ∙ ap (λ ws. old ++ listing ws) (sym (append-nil is.done) ∙ sym (ap (λ r. is.done ++ r) none) ∙ sym is.split)

-- a call that failed left what is there
pub front_listed : {X E : Type 0} (r : Result X E) (words rest old now new : List ℕ) → IsListed words rest old now → new ≡ now
    → OnErr r ((count : ℕ) × (new ≡ old ++ listing (take count words)))
front_listed (Ok x) words rest old now new is same = tt
front_listed (Err e) words rest old now new is same =
    (length is.done, same ∙ is.lines ∙ ap (λ ws. old ++ listing ws) (sym (ap (take (length is.done)) is.split ∙ take-append_seam is.done rest)))

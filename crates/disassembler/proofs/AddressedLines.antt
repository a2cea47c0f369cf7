-- The lines of words that are listed one after the other, each with its address.
use Rattle.std.proofs.Common.{◌≡◌, ◌∙◌, ℕ, refl, sym, ap, List, [], ◌∷◌, ◌++◌, ◌+◌, ◌-◌, ◌*◌, ◌<◌, ◌≤◌, arith, drop, get_or, take, length, length-append}
use Rattle.std.proofs.Common.{append-nil, append_assoc, subst}
use Rattle.std.proofs.Math.Seq.{take-length}
use Rattle.disassembler.specs.Listing.{addressed_line, addressed_listing}

-- the lines of some first words were appended, and the others are left, of which the first is at the address
pub record IsListed (start : ℕ) (words rest : List ℕ) (address : ℕ) (old new : List ℕ) : Type 0 where
  pub done : List ℕ
  pub split : words ≡ done ++ rest
  pub lines : new ≡ old ++ addressed_listing start done
  pub place : address ≡ start + 4 * length done

listing-append : (start : ℕ) (xs ys : List ℕ) → addressed_listing start (xs ++ ys) ≡ addressed_listing start xs ++ addressed_listing (start + 4 * length xs) ys
unfolding addressed_listing
listing-append start [] ys = let same : start + 4 * 0 ≡ start = omega arith in sym (ap (λ n. addressed_listing n ys) same)
listing-append start (x ∷ xs) ys =
    let line = addressed_line start x ++ 10 ∷ [] in
    let same : (start + 4) + 4 * length xs ≡ start + 4 * length (x ∷ xs) = omega arith in
    ap (λ lines. line ++ lines) (listing-append (start + 4) xs ys)
    ∙ ap (λ n. line ++ (addressed_listing (start + 4) xs ++ addressed_listing n ys)) same
    ∙ sym (append_assoc line (addressed_listing (start + 4) xs) (addressed_listing (start + 4 * length (x ∷ xs)) ys))

one_line : (start word : ℕ) → addressed_listing start (word ∷ []) ≡ addressed_line start word ++ 10 ∷ []
unfolding addressed_listing
one_line start word = append-nil (addressed_line start word ++ 10 ∷ [])

pub none_listed : (start : ℕ) (words old : List ℕ) → IsListed start words words start old old
unfolding addressed_listing
none_listed start words old = record { done = []; split = refl; lines = sym (append-nil old); place = omega arith }

-- one more line
next_listed : (start : ℕ) (words rest : List ℕ) (address : ℕ) (old now new : List ℕ) (word : ℕ) (others : List ℕ) → IsListed start words rest address old now
    → rest ≡ word ∷ others → new ≡ now ++ (addressed_line address word ++ 10 ∷ []) → IsListed start words others (address + 4) old new
next_listed start words rest address old now new word others is split more =
    let line : addressed_listing (start + 4 * length is.done) (word ∷ []) ≡ addressed_line address word ++ 10 ∷ [] =
    one_line (start + 4 * length is.done) word ∙ ap (λ n. addressed_line n word ++ 10 ∷ []) (sym is.place) in
    record {
      done = is.done ++ word ∷ [];
      split = is.split ∙ ap (λ r. is.done ++ r) split ∙ sym (append_assoc is.done (word ∷ []) others);
      lines = more ∙ ap (λ n. n ++ (addressed_line address word ++ 10 ∷ [])) is.lines
          ∙ append_assoc old (addressed_listing start is.done) (addressed_line address word ++ 10 ∷ [])
          ∙ ap (λ l. old ++ l) (ap (λ l. addressed_listing start is.done ++ l) (sym line) ∙ sym (listing-append start is.done (word ∷ [])));
      place = omega (arith, is.place, length-append is.done (word ∷ []));
    }

-- the first of what is left
pub first_listed : (start : ℕ) (words rest : List ℕ) (address : ℕ) (old now new : List ℕ) (d : ℕ) → 1 ≤ length rest → IsListed start words rest address old now
    → new ≡ now ++ (addressed_line address (get_or rest 0 d) ++ 10 ∷ []) → IsListed start words (take (length rest - 1) (drop 1 rest)) (address + 4) old new
first_listed start words [] address old now new d some is more = absurd (omega (arith, some))
first_listed start words (word ∷ others) address old now new d some is more =
    let fewer : length (word ∷ others) - 1 ≡ length others = omega arith in
    let left : take (length (word ∷ others) - 1) others ≡ others = ap (λ n. take n others) fewer ∙ take-length others in
    subst (λ (r : List ℕ). IsListed start words r (address + 4) old new) (sym left) (next_listed start words (word ∷ others) address old now new word others is
    refl more)

none_left : (rest : List ℕ) → length rest < 1 → rest ≡ []
none_left [] few = refl
none_left (word ∷ others) few = absurd (omega (arith, few))

pub all_listed : (start : ℕ) (words rest : List ℕ) (address : ℕ) (old new : List ℕ) → IsListed start words rest address old new → length rest < 1
    → new ≡ old ++ addressed_listing start words
all_listed start words rest address old new is few =
    let none = none_left rest few in
    is.lines ∙ ap (λ ws. old ++ addressed_listing start ws) (sym (append-nil is.done) ∙ sym (ap (λ r. is.done ++ r) none) ∙ sym is.split)

-- there is room for one more address
pub is_small : (start : ℕ) (words rest : List ℕ) (address : ℕ) (old new : List ℕ) (most : ℕ) → IsListed start words rest address old new → 1 ≤ length rest
    → start + 4 * length words < most → address + 4 < most
is_small start words rest address old new most is some few =
    omega (arith, is.place, ap length is.split, length-append is.done rest)

-- Which words have a byte among places.
use Rattle.std.proofs.Common.{◌≡◌, ◌∙◌, ◌+◌, ◌*◌, ◌||◌, ◌==◌, ℕ, Bool, true, false, refl, sym, ap, arith, List, [], ◌∷◌, ◌++◌, ◌≤◌, length, ◌-◌, drop, get_or}
use Rattle.std.proofs.Common.{subst, take}
use Rattle.std.proofs.Math.Seq.{take-length}
use Rattle.std.specs.Prelude.{if◌then◌else◌, slice_index}
use Rattle.std.proofs.lemmas.Bool.Decides.{nat_tests}
use Rattle.memory.specs.Access.{access_at, places_of, touched}
use Rattle.rv_insn.specs.declared.vector_operations.ElementWidth.{ElementWidth}
use Rattle.hart_core.specs.VectorRows.{accesses_at, size_of}
use Rattle.multi_hart.specs.Run.{is_in}
use Rattle.work_sharing.specs.Turns.{is_word_in}
use Rattle.debugger_blame.specs.inner.Marked.{Marked, is_byte_of_word}
use Rattle.debugger_blame.proofs.Storing.{in_both}

-- ---- tests

or_swap : (a b c d : Bool) → (a || b) || (c || d) ≡ (a || c) || (b || d)
or_swap true b c d = refl
or_swap false true true d = refl
or_swap false true false d = refl
or_swap false false c d = refl

-- four pairs, taken apart
or_apart : (a0 b0 a1 b1 a2 b2 a3 b3 : Bool) → (((a0 || b0) || (a1 || b1)) || (a2 || b2)) || (a3 || b3) ≡ (((a0 || a1) || a2) || a3)
    || (((b0 || b1) || b2) || b3)
or_apart a0 b0 a1 b1 a2 b2 a3 b3 =
    ap (λ x. (x || (a2 || b2)) || (a3 || b3)) (or_swap a0 b0 a1 b1)
    ∙ ap (λ x. x || (a3 || b3)) (or_swap (a0 || a1) (b0 || b1) a2 b2)
    ∙ or_swap ((a0 || a1) || a2) ((b0 || b1) || b2) a3 b3

-- ---- words among places

-- a byte is one of a word's four
one_of_four : (word place : ℕ) → (((word == place) || (word + 1 == place)) || (word + 2 == place)) || (word + 3 == place) ≡ is_byte_of_word word place
one_of_four word place = grind (arith, nat_tests)

pub word_in_both : (word : ℕ) (xs ys : List ℕ) → is_word_in word (xs ++ ys) ≡ is_word_in word xs || is_word_in word ys
word_in_both word xs ys =
    ap (λ x. ((x || is_in (word + 1) (xs ++ ys)) || is_in (word + 2) (xs ++ ys)) || is_in (word + 3) (xs ++ ys)) (in_both word xs ys)
    ∙ ap (λ x. (((is_in word xs || is_in word ys) || x) || is_in (word + 2) (xs ++ ys)) || is_in (word + 3) (xs ++ ys)) (in_both (word + 1) xs ys)
    ∙ ap (λ x. (((is_in word xs || is_in word ys) || (is_in (word + 1) xs || is_in (word + 1) ys)) || x) || is_in (word + 3) (xs ++ ys))
    (in_both (word + 2) xs ys)
    ∙ ap (λ x. (((is_in word xs || is_in word ys) || (is_in (word + 1) xs || is_in (word + 1) ys)) || (is_in (word + 2) xs || is_in (word + 2) ys)) || x)
    (in_both (word + 3) xs ys)
    ∙ or_apart (is_in word xs) (is_in word ys) (is_in (word + 1) xs) (is_in (word + 1) ys) (is_in (word + 2) xs) (is_in (word + 2) ys) (is_in (word + 3) xs)
    (is_in (word + 3) ys)

one_place : (word place : ℕ) → is_word_in word (place ∷ []) ≡ is_byte_of_word word place
one_place word place =
    ap (λ x. ((x || is_in (word + 1) (place ∷ [])) || is_in (word + 2) (place ∷ [])) || is_in (word + 3) (place ∷ [])) (one word)
    ∙ ap (λ x. (((word == place) || x) || is_in (word + 2) (place ∷ [])) || is_in (word + 3) (place ∷ [])) (one (word + 1))
    ∙ ap (λ x. (((word == place) || (word + 1 == place)) || x) || is_in (word + 3) (place ∷ [])) (one (word + 2))
    ∙ ap (λ x. (((word == place) || (word + 1 == place)) || (word + 2 == place)) || x) (one (word + 3))
    ∙ one_of_four word place
  where
    or_none : (b : Bool) → (if b then true else false) ≡ b
    or_none true = refl
    or_none false = refl

    one : (other : ℕ) → is_in other (place ∷ []) ≡ (other == place)
    one other = or_none (other == place)

-- ---- words that are marked

-- marked once more, which marks those of either test
pub marked_twice : (first : ℕ) (test more both : ℕ → Bool) (mark : ℕ) (old between new : List ℕ) → length between ≡ length old
    → Marked first test mark old between → Marked first more mark between new → ((word : ℕ) → both word ≡ more word || test word)
    → Marked first both mark old new
marked_twice first test more both mark old between new as_many once again joined = record {
  each = λ k below.
      again.each k (omega (arith, as_many, below))
      ∙ ap (λ n. if more (first + 4 * k) then mark else n) (once.each k below)
      ∙ chosen (more (first + 4 * k)) (test (first + 4 * k)) (slice_index old k)
      ∙ ap (λ (b : Bool). if b then mark else slice_index old k) (sym (joined (first + 4 * k)));
}
  where
    chosen : (b c : Bool) (n : ℕ) → (if b then mark else (if c then mark else n)) ≡ (if b || c then mark else n)
    chosen true c n = refl
    chosen false c n = refl

-- the same test in other words
pub marked_so : (first : ℕ) (test other : ℕ → Bool) (mark : ℕ) (old new : List ℕ) → ((word : ℕ) → other word ≡ test word)
    → Marked first test mark old new → Marked first other mark old new
marked_so first test other mark old new same marked = record {
  each = λ k below. marked.each k below ∙ ap (λ (b : Bool). if b then mark else slice_index old k) (sym (same (first + 4 * k)));
}

-- places of two lists, one after the other
pub both_marked : (first : ℕ) (xs ys : List ℕ) (mark : ℕ) (old between new : List ℕ) → length between ≡ length old
    → Marked first (λ word. is_word_in word xs) mark old between → Marked first (λ word. is_word_in word ys) mark between new
    → Marked first (λ word. is_word_in word (xs ++ ys)) mark old new
both_marked first xs ys mark old between new as_many once again =
    marked_twice first (λ word. is_word_in word xs) (λ word. is_word_in word ys) (λ word. is_word_in word (xs ++ ys)) mark old between new as_many once again
    (λ word. word_in_both word xs ys ∙ swapped (is_word_in word xs) (is_word_in word ys))
  where
    swapped : (x y : Bool) → x || y ≡ y || x
    swapped true true = refl
    swapped true false = refl
    swapped false true = refl
    swapped false false = refl

pub none_marked : (first mark : ℕ) (words : List ℕ) → Marked first (λ word. is_word_in word []) mark words words
none_marked first mark words = record { each = λ k below. refl }

-- the first of numbers, and those after it
pub numbers_marked : (first : ℕ) (width : ElementWidth) (addresses : List ℕ) (mark : ℕ) (old between new : List ℕ) → 1 ≤ length addresses
    → length between ≡ length old
    → Marked first (λ word. is_word_in word (places_of (access_at (size_of width) (get_or addresses 0 0)))) mark old between
    → Marked first (λ word. is_word_in word (touched (accesses_at width (take (length addresses - 1) (drop 1 addresses))))) mark between new
    → Marked first (λ word. is_word_in word (touched (accesses_at width addresses))) mark old new
numbers_marked first width [] mark old between new some as_many once again = absurd (omega (arith, some))
numbers_marked first width (address ∷ others) mark old between new some as_many once again =
    let count : length (address ∷ others) - 1 ≡ length others = omega arith in
    let rest : take (length (address ∷ others) - 1) others ≡ others = ap (λ n. take n others) count ∙ take-length others in
    both_marked first (places_of (access_at (size_of width) address)) (touched (accesses_at width others)) mark old between new as_many once
    (subst (λ (xs : List ℕ). Marked first (λ word. is_word_in word (touched (accesses_at width xs))) mark between new) rest again)

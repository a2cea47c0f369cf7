-- Reads and writes in the front of a list.
use Rattle.std.proofs.Common.{◌≡◌, ℕ, zero, suc, ◌<◌, ℤ, pos, List, [], ◌∷◌, length, take, slice_index_or, slice_set, refl, sym, ◌∙◌, ap, arith}
use Rattle.std.proofs.lemmas.List.{get_or-take}

pub set_in_front : (count field : ℕ) (numbers : List ℤ) (number : ℤ) → take count (slice_set numbers field number) ≡ slice_set (take count numbers) field number
set_in_front zero field numbers number = refl
set_in_front (suc count) field [] number = refl
set_in_front (suc count) zero (n ∷ numbers) number = refl
set_in_front (suc count) (suc field) (n ∷ numbers) number = ap (λ rest. n ∷ rest) (set_in_front count field numbers number)

pub read_of_front : (count field : ℕ) (numbers : List ℤ) → field < count → slice_index_or (take count numbers) field (pos 0) ≡ slice_index_or numbers field
    (pos 0)
read_of_front count field numbers within = get_or-take count numbers field (pos 0) within

-- ---- a list of this many fields

pub no_fields : (fields : List ℤ) → length fields ≡ 0 → [] ≡ fields
no_fields [] h = refl
no_fields (a ∷ fields) h = absurd (omega arith)

pub one_more : (a : ℤ) (rest fields : List ℤ) (n : ℕ) → length fields ≡ suc n → a ≡ slice_index_or fields 0 (pos 0) → ((others : List ℤ) → length others ≡ n
    → ((k : ℕ) → slice_index_or others k (pos 0) ≡ slice_index_or fields (suc k) (pos 0)) → rest ≡ others) → a ∷ rest ≡ fields
one_more a rest [] n h e more = absurd (omega arith)
one_more a rest (b ∷ fields) n h e more = let same : rest ≡ fields = more fields (omega arith) (λ k. refl) in cc

pub two_fields : (fields : List ℤ) (a b : ℤ) → length fields ≡ 2 → a ≡ slice_index_or fields 0 (pos 0) → b ≡ slice_index_or fields 1 (pos 0)
    → a ∷ b ∷ [] ≡ fields
two_fields fields a b h p q =
    one_more a (b ∷ []) fields 1 h p (λ others m at.
    one_more b [] others 0 m (q ∙ sym (at 0)) (λ last l at'. no_fields last l))

pub three_fields : (fields : List ℤ) (a b c : ℤ) → length fields ≡ 3 → a ≡ slice_index_or fields 0 (pos 0) → b ≡ slice_index_or fields 1 (pos 0)
    → c ≡ slice_index_or fields 2 (pos 0) → a ∷ b ∷ c ∷ [] ≡ fields
three_fields fields a b c h p q r =
    one_more a (b ∷ c ∷ []) fields 2 h p (λ others m at. two_fields others b c m (q ∙ sym (at 0)) (r ∙ sym (at 1)))

pub four_fields : (fields : List ℤ) (a b c d : ℤ) → length fields ≡ 4 → a ≡ slice_index_or fields 0 (pos 0) → b ≡ slice_index_or fields 1 (pos 0)
    → c ≡ slice_index_or fields 2 (pos 0) → d ≡ slice_index_or fields 3 (pos 0) → a ∷ b ∷ c ∷ d ∷ [] ≡ fields
four_fields fields a b c d h p q r s =
    one_more a (b ∷ c ∷ d ∷ []) fields 3 h p (λ others m at. three_fields others b c d m (q ∙ sym (at 0)) (r ∙ sym (at 1)) (s ∙ sym (at 2)))

pub five_fields : (fields : List ℤ) (a b c d e : ℤ) → length fields ≡ 5 → a ≡ slice_index_or fields 0 (pos 0) → b ≡ slice_index_or fields 1 (pos 0)
    → c ≡ slice_index_or fields 2 (pos 0) → d ≡ slice_index_or fields 3 (pos 0) → e ≡ slice_index_or fields 4 (pos 0) → a ∷ b ∷ c ∷ d ∷ e ∷ [] ≡ fields
five_fields fields a b c d e h p q r s t =
    one_more a (b ∷ c ∷ d ∷ e ∷ []) fields 4 h p (λ others m at. four_fields others b c d e m (q ∙ sym (at 0)) (r ∙ sym (at 1)) (s ∙ sym (at 2)) (t
    ∙ sym (at 3)))

-- Results that stand in the place of what they are the results of.
use Rattle.std.proofs.Common.{◌≡◌, ℕ, zero, suc, ◌+◌, ◌<◌, ◌≤◌, Bool, true, false, List, [], ◌∷◌, ◌++◌, map, take, length, get_or, refl, sym, ◌∙◌, ap, arith}
use Rattle.std.proofs.Math.ListN.{set, replicate}
use Rattle.std.proofs.lemmas.List.{take_all, map-set}
use Rattle.std.proofs.lemmas.Bool.Decides.{nat_tests}
use Rattle.std.specs.List.{range_with_len, fold}
use Rattle.lanes.specs.Words.{active, is_active, zip_with, merged, chosen_of, reduced, EachPair, EachFrom, LeadsTo}

-- ---- pairs

-- one pair more
pub EachPair-more : {A B C : Type 0} (R : A → B → C → Type 0) (i : ℕ) (xs : List A) (ys : List B) (zs : List C) (x : A) (y : B) (z : C)
    → i < length xs → i < length ys → i < length zs → R (get_or xs i x) (get_or ys i y) z
    → EachPair R (take i xs) (take i ys) (take i zs) → EachPair R (take (suc i) xs) (take (suc i) ys) (take (suc i) (set zs i z))
EachPair-more R i [] ys zs x y z p q r s e = absurd (omega arith)
EachPair-more R i (x' ∷ xs) [] zs x y z p q r s e = absurd (omega arith)
EachPair-more R i (x' ∷ xs) (y' ∷ ys) [] x y z p q r s e = absurd (omega arith)
EachPair-more R zero (x' ∷ xs) (y' ∷ ys) (z' ∷ zs) x y z p q r s e = (s, tt)
EachPair-more R (suc i) (x' ∷ xs) (y' ∷ ys) (z' ∷ zs) x y z p q r s e =
    (e.0, EachPair-more R i xs ys zs x y z (omega arith) (omega arith) (omega arith) s e.1)

-- the first i pairs are all
pub EachPair-all : {A B C : Type 0} (R : A → B → C → Type 0) (i : ℕ) (xs : List A) (ys : List B) (zs : List C)
    → length xs ≤ i → length ys ≤ i → length zs ≤ i → EachPair R (take i xs) (take i ys) (take i zs) → EachPair R xs ys zs
EachPair-all R i xs ys zs p q r e = rw (take_all i xs p, take_all i ys q, take_all i zs r) at e

-- ---- indices

pub EachFrom-more : {A : Type 0} (R : ℕ → A → Type 0) (a i j : ℕ) (xs : List A) (x : A) → a + i ≡ j → i < length xs → R j x
    → EachFrom R a (take i xs) → EachFrom R a (take (suc i) (set xs i x))
EachFrom-more R a i j [] x e p s h = absurd (omega arith)
EachFrom-more R a zero j (x' ∷ xs) x e p s h = let same : a ≡ j = omega arith in (rw same s, tt)
EachFrom-more R a (suc i) j (x' ∷ xs) x e p s h = (h.0, EachFrom-more R (a + 1) i j xs x (omega arith) (omega arith) s h.1)

pub EachFrom-all : {A : Type 0} (R : ℕ → A → Type 0) (a i : ℕ) (xs : List A) → length xs ≤ i → EachFrom R a (take i xs) → EachFrom R a xs
EachFrom-all R a i xs p h = rw (take_all i xs p) at h

-- ---- reductions

-- one step more
LeadsTo-more : {A : Type 0} (R : A → A → A → Type 0) (start : A) (xs : List A) (x total next : A)
    → LeadsTo R start xs total → R total x next → LeadsTo R start (xs ++ x ∷ []) next
LeadsTo-more R start [] x total next h s = (next, rw h s, refl)
LeadsTo-more R start (x' ∷ xs) x total next h s = (h.0, h.1, LeadsTo-more R h.0 xs x total next h.2 s)

chosen_of-more_true : {A : Type 0} (i : ℕ) (bs : List Bool) (xs : List A) (b : Bool) (x : A) → i < length bs → i < length xs → get_or bs i b ≡ true
    → chosen_of (take (suc i) bs) (take (suc i) xs) ≡ chosen_of (take i bs) (take i xs) ++ get_or xs i x ∷ []
chosen_of-more_true i [] xs b x p q h = absurd (omega arith)
chosen_of-more_true i (b' ∷ bs) [] b x p q h = absurd (omega arith)
chosen_of-more_true zero (true ∷ bs) (x' ∷ xs) b x p q h = refl
chosen_of-more_true zero (false ∷ bs) (x' ∷ xs) b x p q h = cc
chosen_of-more_true (suc i) (true ∷ bs) (x' ∷ xs) b x p q h = ap (λ ys. x' ∷ ys) (chosen_of-more_true i bs xs b x (omega arith) (omega arith) h)
chosen_of-more_true (suc i) (false ∷ bs) (x' ∷ xs) b x p q h = chosen_of-more_true i bs xs b x (omega arith) (omega arith) h

chosen_of-more_false : {A : Type 0} (i : ℕ) (bs : List Bool) (xs : List A) (b : Bool) → i < length bs → i < length xs → get_or bs i b ≡ false
    → chosen_of (take (suc i) bs) (take (suc i) xs) ≡ chosen_of (take i bs) (take i xs)
chosen_of-more_false i [] xs b p q h = absurd (omega arith)
chosen_of-more_false i (b' ∷ bs) [] b p q h = absurd (omega arith)
chosen_of-more_false zero (true ∷ bs) (x' ∷ xs) b p q h = cc
chosen_of-more_false zero (false ∷ bs) (x' ∷ xs) b p q h = refl
chosen_of-more_false (suc i) (true ∷ bs) (x' ∷ xs) b p q h = ap (λ ys. x' ∷ ys) (chosen_of-more_false i bs xs b (omega arith) (omega arith) h)
chosen_of-more_false (suc i) (false ∷ bs) (x' ∷ xs) b p q h = chosen_of-more_false i bs xs b (omega arith) (omega arith) h

-- an active element more, and one that is not active
pub reduce_active : {A : Type 0} (R : A → A → A → Type 0) (start total next : A) (i : ℕ) (bs : List Bool) (xs : List A) (b : Bool) (x : A)
    → i < length bs → i < length xs → get_or bs i b ≡ true → R total (get_or xs i x) next
    → LeadsTo R start (chosen_of (take i bs) (take i xs)) total → LeadsTo R start (chosen_of (take (suc i) bs) (take (suc i) xs)) next
reduce_active R start total next i bs xs b x p q e s h =
    rw (chosen_of-more_true i bs xs b x p q e) (LeadsTo-more R start (chosen_of (take i bs) (take i xs)) (get_or xs i x) total next h s)

pub reduce_other : {A : Type 0} (R : A → A → A → Type 0) (start total : A) (i : ℕ) (bs : List Bool) (xs : List A) (b : Bool)
    → i < length bs → i < length xs → get_or bs i b ≡ false
    → LeadsTo R start (chosen_of (take i bs) (take i xs)) total → LeadsTo R start (chosen_of (take (suc i) bs) (take (suc i) xs)) total
reduce_other R start total i bs xs b p q e h = rw (chosen_of-more_false i bs xs b p q e) h

pub reduce_all : {A : Type 0} (R : A → A → A → Type 0) (start total : A) (i : ℕ) (bs : List Bool) (xs : List A)
    → length bs ≤ i → length xs ≤ i → LeadsTo R start (chosen_of (take i bs) (take i xs)) total → LeadsTo R start (chosen_of bs xs) total
reduce_all R start total i bs xs p q h = rw (take_all i bs p, take_all i xs q) at h

-- ---- what contracts say, from what the loops say

pub zip_from_pairs : {A B C D E F : Type 0} (seen : C → F) (left : A → D) (right : B → E) (f : D → E → F) (R : A → B → C → Type 0)
    → ((a : A) (b : B) (c : C) → R a b c → seen c ≡ f (left a) (right b))
    → (xs : List A) (ys : List B) (zs : List C) → EachPair R xs ys zs → map seen zs ≡ zip_with f (map left xs) (map right ys)
zip_from_pairs seen left right f R h [] [] [] e = refl
zip_from_pairs seen left right f R h [] [] (z ∷ zs) e = absurd e
zip_from_pairs seen left right f R h [] (y ∷ ys) zs e = absurd e
zip_from_pairs seen left right f R h (x ∷ xs) [] zs e = absurd e
zip_from_pairs seen left right f R h (x ∷ xs) (y ∷ ys) [] e = absurd e
zip_from_pairs seen left right f R h (x ∷ xs) (y ∷ ys) (z ∷ zs) e =
    let head = h x y z e.0 in let tail = zip_from_pairs seen left right f R h xs ys zs e.1 in cc

pub map-chosen_of : {A B : Type 0} (seen : A → B) (bs : List Bool) (xs : List A) → map seen (chosen_of bs xs) ≡ chosen_of bs (map seen xs)
map-chosen_of seen [] xs = refl
map-chosen_of seen (b ∷ bs) [] = refl
map-chosen_of seen (true ∷ bs) (x ∷ xs) = ap (λ ys. seen x ∷ ys) (map-chosen_of seen bs xs)
map-chosen_of seen (false ∷ bs) (x ∷ xs) = map-chosen_of seen bs xs

fold_from_steps : {A B : Type 0} (seen : A → B) (f : B → B → B) (R : A → A → A → Type 0) → ((a b c : A) → R a b c → seen c ≡ f (seen a) (seen b))
    → (start : A) (xs : List A) (end : A) → LeadsTo R start xs end → seen end ≡ fold f (seen start) (map seen xs)
fold_from_steps seen f R h start [] end e = ap seen (sym e)
fold_from_steps seen f R h start (x ∷ xs) end e = fold_from_steps seen f R h e.0 xs end e.2 ∙ ap (λ v. fold f v (map seen xs)) (h start x e.0 e.1)

pub reduced_from_steps : {A B : Type 0} (seen : A → B) (f : B → B → B) (R : A → A → A → Type 0) → ((a b c : A) → R a b c → seen c ≡ f (seen a) (seen b))
    → (start : A) (bs : List Bool) (xs : List A) (end : A) → LeadsTo R start (chosen_of bs xs) end → seen end ≡ reduced f bs (seen start) (map seen xs)
reduced_from_steps seen f R h start bs xs end e = fold_from_steps seen f R h start (chosen_of bs xs) end e ∙ ap (fold f (seen start)) (map-chosen_of seen bs xs)

pub map-merged : {A B : Type 0} (seen : A → B) (bs : List Bool) (xs ys : List A) → map seen (merged bs xs ys) ≡ merged bs (map seen xs) (map seen ys)
map-merged seen [] xs ys = refl
map-merged seen (b ∷ bs) [] ys = refl
map-merged seen (b ∷ bs) (x ∷ xs) [] = refl
map-merged seen (true ∷ bs) (x ∷ xs) (y ∷ ys) = ap (λ zs. seen x ∷ zs) (map-merged seen bs xs ys)
map-merged seen (false ∷ bs) (x ∷ xs) (y ∷ ys) = ap (λ zs. seen y ∷ zs) (map-merged seen bs xs ys)

-- the results of each index, from a first one on
pub map_from_indices : {A B : Type 0} (seen : A → B) (f : ℕ → B) (R : ℕ → A → Type 0) → ((i : ℕ) (a : A) → R i a → seen a ≡ f i)
    → (a n : ℕ) (xs : List A) → length xs ≡ n → EachFrom R a xs → map seen xs ≡ map f (range_with_len a n)
map_from_indices seen f R h a zero [] p e = refl
map_from_indices seen f R h a zero (x ∷ xs) p e = absurd (omega arith)
map_from_indices seen f R h a (suc n) [] p e = absurd (omega arith)
map_from_indices seen f R h a (suc n) (x ∷ xs) p e =
    let head = h a x e.0 in let tail = map_from_indices seen f R h (a + 1) n xs (omega arith) e.1 in cc

pub tests_from_indices : {A : Type 0} (f : ℕ → A) (R : ℕ → A → Type 0) → ((i : ℕ) (a : A) → R i a → a ≡ f i)
    → (a n : ℕ) (xs : List A) → length xs ≡ n → EachFrom R a xs → xs ≡ map f (range_with_len a n)
tests_from_indices f R h a zero [] p e = refl
tests_from_indices f R h a zero (x ∷ xs) p e = absurd (omega arith)
tests_from_indices f R h a (suc n) [] p e = absurd (omega arith)
tests_from_indices f R h a (suc n) (x ∷ xs) p e =
    let head = h a x e.0 in let tail = tests_from_indices f R h (a + 1) n xs (omega arith) e.1 in cc

pub map-replicate : {A B : Type 0} (seen : A → B) (n : ℕ) (x : A) → map seen (replicate n x) ≡ replicate n (seen x)
map-replicate seen zero x = refl
map-replicate seen (suc n) x = ap (λ ys. seen x ∷ ys) (map-replicate seen n x)

-- what is seen of lists that are made of others
pub ruleset seen_lists = (map-merged, map-set, map-replicate)

-- ---- all elements active

all_from : (vl first : ℕ) (mask : List ℕ) (i n : ℕ) → first + i + n ≤ vl → map (λ k. is_active vl true mask (first + k)) (range_with_len i n) ≡ replicate n true
all_from vl first mask i zero l = refl
all_from vl first mask i (suc n) l =
    let here : is_active vl true mask (first + i) ≡ true = grind (arith, nat_tests, l) in
    rw (here, all_from vl first mask (i + 1) n (omega (arith, l))) refl

merged_true : {A : Type 0} (n : ℕ) (xs ys : List A) → length xs ≡ n → length ys ≡ n → merged (replicate n true) xs ys ≡ xs
merged_true zero [] ys p q = refl
merged_true zero (x ∷ xs) ys p q = absurd (omega (arith, p))
merged_true (suc n) [] ys p q = absurd (omega (arith, p))
merged_true (suc n) (x ∷ xs) [] p q = absurd (omega (arith, q))
merged_true (suc n) (x ∷ xs) (y ∷ ys) p q = ap (λ zs. x ∷ zs) (merged_true n xs ys (omega (arith, p)) (omega (arith, q)))

-- where all elements are active, the new ones take the place of all
pub merged_active : {A : Type 0} (first n vl : ℕ) (mask : List ℕ) (xs ys : List A) → first + n ≤ vl → length xs ≡ n → length ys ≡ n
    → merged (active first n vl true mask) xs ys ≡ xs
unfolding active
merged_active first n vl mask xs ys l p q =
    ap (λ flags. merged flags xs ys) (all_from vl first mask 0 n (omega (arith, l))) ∙ merged_true n xs ys p q

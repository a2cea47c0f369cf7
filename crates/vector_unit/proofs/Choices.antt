-- Lists of what the active elements give, made index by index.
use Rattle.std.proofs.Common.{◌≡◌, ℕ, suc, ◌+◌, ◌-◌, ◌<◌, Bool, true, false, List, [], ◌∷◌, ◌++◌, map, refl, sym, ◌∙◌, ap, arith, append_assoc}
use Rattle.std.specs.List.{range_with_len}
use Rattle.lanes.specs.Words.{chosen_of}

-- what the active ones of n indices from i on give
abbrev pub picked : (ℕ → Bool) → (ℕ → ℕ) → ℕ → ℕ → List ℕ
picked active f i n = chosen_of (map active (range_with_len i n)) (map f (range_with_len i n))

-- at an active index, and at one that is not
picked_here : (active : ℕ → Bool) (f : ℕ → ℕ) (i n : ℕ) → active i ≡ true → picked active f i (suc n) ≡ f i ∷ picked active f (i + 1) n
picked_here active f i n e = rw e refl

picked_later : (active : ℕ → Bool) (f : ℕ → ℕ) (i n : ℕ) → active i ≡ false → picked active f i (suc n) ≡ picked active f (i + 1) n
picked_later active f i n e = rw e refl

-- what is made so far, with what the indices from i below the end give, is what is wanted
pub record IsLeft (active : ℕ → Bool) (f g : ℕ → ℕ) (i end : ℕ) (made wanted : List ℕ) : Type 0 where
  pub all : made ++ map g (picked active f i (end - i)) ≡ wanted

pub left_at_start : (active : ℕ → Bool) (f g : ℕ → ℕ) (end : ℕ) (wanted : List ℕ) → map g (picked active f 0 end) ≡ wanted → IsLeft active f g 0 end [] wanted
left_at_start active f g end wanted e = record { all = let same : end - 0 ≡ end = omega arith in rw same e }

pub left_after_active : (active : ℕ → Bool) (f g : ℕ → ℕ) (i end : ℕ) (made more wanted : List ℕ) → i < end → active i ≡ true → more ≡ made ++ g (f i) ∷ []
    → IsLeft active f g i end made wanted → IsLeft active f g (i + 1) end more wanted
left_after_active active f g i end made more wanted l a e h = record {
  all =
      let one : end - i ≡ suc (end - (i + 1)) = omega arith in
      let step : map g (picked active f i (end - i)) ≡ g (f i) ∷ map g (picked active f (i + 1) (end - (i + 1))) =
      rw one (ap (map g) (picked_here active f i (end - (i + 1)) a)) in
      rw e (append_assoc made (g (f i) ∷ []) (map g (picked active f (i + 1) (end - (i + 1)))) ∙ (ap (λ t. made ++ t) (sym step) ∙ h.all));
}

pub left_after_other : (active : ℕ → Bool) (f g : ℕ → ℕ) (i end : ℕ) (made wanted : List ℕ) → i < end → active i ≡ false
    → IsLeft active f g i end made wanted → IsLeft active f g (i + 1) end made wanted
left_after_other active f g i end made wanted l a h = record {
  all =
      let one : end - i ≡ suc (end - (i + 1)) = omega arith in
      let step : map g (picked active f i (end - i)) ≡ map g (picked active f (i + 1) (end - (i + 1))) =
      rw one (ap (map g) (picked_later active f i (end - (i + 1)) a)) in
      ap (λ t. made ++ t) (sym step) ∙ h.all;
}

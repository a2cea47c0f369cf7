-- A front that passes a test is the longest one where what follows does not pass.
use Rattle.std.proofs.Common.{◌≡◌, ℕ, suc, ◌+◌, Bool, true, false, cond, List, [], ◌∷◌, ◌++◌, ◌&&◌, length, arith}
use Rattle.std.specs.List.{list_all, prefix_len}

pub prefix_len-front : (class : ℕ → Bool) (front rest : List ℕ) → list_all class front ≡ true → prefix_len class rest ≡ 0
    → prefix_len class (front ++ rest) ≡ length front
prefix_len-front class [] rest all stops = stops
prefix_len-front class (byte ∷ front) rest all stops = at_byte (class byte) (length front) (list_all class front) (prefix_len class (front ++ rest)) all
    (λ e. prefix_len-front class front rest e stops)
  where
    at_byte : (passes : Bool) (n : ℕ) (others : Bool) (k : ℕ) → (passes && others) ≡ true → (others ≡ true → k ≡ n) → cond passes (1 + k) 0 ≡ suc n
    at_byte true n others k all later = omega (arith, later all)
    at_byte false n others k all later = cc

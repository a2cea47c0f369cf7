-- Payloads in front of what is left to be read.
use Rattle.std.proofs.Common.{◌≡◌, ℕ, Bool, true, false, List, [], ◌∷◌, ◌++◌, Option, None, Some, refl, ap, sym, ◌∙◌, append_assoc}
use Rattle.std.proofs.lemmas.List.{append-nil}
use Rattle.gdb_packets.specs.Packets.{in_front, in_fronts, unescaped_from, spelled, Packet, Bad}

pub one_more : (front : List ℕ) (byte : ℕ) (rest : Option (List ℕ)) → in_fronts front (in_front byte rest) ≡ in_fronts (front ++ byte ∷ []) rest
one_more front byte None = refl
one_more front byte (Some payload) = simp append_assoc

-- all bytes are taken
pub cut : (front : List ℕ) (escapes : Bool) (all : Option (List ℕ)) → escapes ≡ true → in_fronts front (unescaped_from escapes []) ≡ all
    → Bad ≡ spelled all
unfolding unescaped_from
cut front true all _ e = ap spelled e
cut front false all other e = cc

pub whole : (front : List ℕ) (escapes : Bool) (all : Option (List ℕ)) → escapes ≡ false → in_fronts front (unescaped_from escapes []) ≡ all
    → Packet front ≡ spelled all
unfolding unescaped_from
whole front true all other e = cc
whole front false all _ e = ap (λ (p : List ℕ). Packet p) (sym (append-nil front)) ∙ ap spelled e

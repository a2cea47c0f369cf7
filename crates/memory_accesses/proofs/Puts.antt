-- Numbers that are put at addresses, as far as there are both.
use Rattle.std.proofs.Common.{◌≡◌, refl, ap, ◌∙◌, ℕ, List, [], ◌∷◌}
use Rattle.memory.specs.Access.{put, Access, spread}

spread_none : (accesses : List Access) → spread accesses [] ≡ []
spread_none [] = refl
spread_none (access ∷ accesses) = refl

put_none : (memory places : List ℕ) → put memory places [] ≡ memory
put_none memory [] = refl
put_none memory (place ∷ places) = refl

-- no numbers change nothing
pub nothing_put : (memory places : List ℕ) (accesses : List Access) → put memory places (spread accesses []) ≡ memory
nothing_put memory places accesses = ap (put memory places) (spread_none accesses) ∙ put_none memory places

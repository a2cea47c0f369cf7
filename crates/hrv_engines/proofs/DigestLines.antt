-- Lines of digests that are appended one after the other.
use Rattle.std.proofs.Common.{◌≡◌, ◌∙◌, ◌++◌, ◌∷◌, ℕ, List, ap, append_assoc}
use Rattle.hrv_engines.specs.Digests.{digest_line, digest_lines}

-- the lines so far and those that are left, one line further
pub one_further : (text more all path digest : List ℕ) (paths digests : List (List ℕ)) → more ≡ text ++ digest_line path digest
    → text ++ digest_lines (path ∷ paths) (digest ∷ digests) ≡ all → more ++ digest_lines paths digests ≡ all
one_further text more all path digest paths digests pushed so_far =
    ap (λ t. t ++ digest_lines paths digests) pushed ∙ append_assoc text (digest_line path digest) (digest_lines paths digests) ∙ so_far

-- A map from names, seen as a list of pairs.
use Rattle.std.proofs.Common.{◌≡◌, ℕ, Bool, true, false, cond, List, [], ◌∷◌, ◌++◌, Some, None, Vec, refl, ap}
use Rattle.std.specs.Str.{bytes_eq}
use Rattle.std.specs.declared.alloc.Global.{Global}
use Rattle.std.specs.Map.{lookup as find}
use Rattle.indexmap.specs.IndexMap.{insert_entry}
use Rattle.halide_pipeline.specs.declared.expressions.Source.{Source}
use Rattle.halide_pipeline.specs.Pipelines.{lookup, pairs_of}

abbrev Entries : Type 0
Entries = List (Vec ℕ Global × Source)

abbrev same : Vec ℕ Global → Vec ℕ Global → Bool
same a b = bytes_eq a.items b.items

pub found : (name : List ℕ) (entries : Entries) → find (λ key. bytes_eq name key.items) entries ≡ lookup name (pairs_of entries)
found name [] = refl
found name (entry ∷ entries) = ap (cond (bytes_eq name entry.0.items) (Some entry.1)) (found name entries)

-- a name that is not there is appended
pub added : (key : Vec ℕ Global) (source : Source) (entries : Entries) → lookup key.items (pairs_of entries) ≡ None
    → pairs_of (insert_entry same entries key source) ≡ pairs_of entries ++ (key.items, source) ∷ []
added key source [] none = refl
added key source (entry ∷ entries) none = by (added key source entries) (bytes_eq key.items entry.0.items) refl
  where
    by : (lookup key.items (pairs_of entries) ≡ None → pairs_of (insert_entry same entries key source) ≡ pairs_of entries ++ (key.items, source) ∷ [])
        → (b : Bool) → bytes_eq key.items entry.0.items ≡ b → pairs_of (insert_entry same (entry ∷ entries) key source) ≡ pairs_of (entry ∷ entries)
        ++ (key.items, source) ∷ []
    by later true is = let found_it : Some entry.1 ≡ None = rw is at none in cc
    by later false is =
        let others : lookup key.items (pairs_of entries) ≡ None = rw is at none in
        rw (is, later others) refl

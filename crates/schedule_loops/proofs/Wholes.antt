-- What a body makes of values of whole variables, it makes of those that a nest visits.
use Rattle.std.proofs.Common.{◌≡◌, ℕ, zero, suc, Bool, true, false, cond, List, [], ◌∷◌, ◌++◌, map, refl, sym, ap, ◌∙◌}
use Rattle.std.specs.Prelude.{nat_lt}
use Rattle.schedule_lines.specs.declared.stages.Loop.{Loop}
use Rattle.schedule_lines.specs.declared.stages.Split.{Split}
use Rattle.schedule_loops.specs.declared.extents.Extents.{Extents}
use Rattle.schedule_loops.specs.Visits.{Values, with, more_counts, whole_counts, counts, upto, nest, whole_of, split_body, split_bodies, over_loops, visit_of}
use Rattle.schedule_loops.specs.Reach.{wholes}
use Rattle.schedule_loops.proofs.Nesting.{nest_same}

map_append : {A B : Type 0} (f : A → B) (xs ys : List A) → map f (xs ++ ys) ≡ map f xs ++ map f ys
map_append f [] ys = refl
map_append {A} {B} f (x ∷ xs) ys = ap (λ (zs : List B). f x ∷ zs) (map_append f xs ys)

map_upto : {A B : Type 0} (f : A → B) (n : ℕ) (list : ℕ → List A) → map f (upto n list) ≡ upto n (λ iteration. map f (list iteration))
unfolding upto
map_upto f zero list = refl
map_upto {A} {B} f (suc n) list = map_append f (upto n list) (list n) ∙ ap (λ (xs : List B). xs ++ map f (list n)) (map_upto f n list)

pub map_nest : {A B : Type 0} (f : A → B) (counts : Values) (loops : List Loop) (body : Values → List A) (iterations : Values)
    → map f (nest counts loops body iterations) ≡ nest counts loops (λ values. map f (body values)) iterations
map_nest f counts [] body iterations = refl
map_nest f counts (own ∷ outside) body iterations =
    map_nest f counts outside (λ outer. upto (counts own.id) (λ iteration. body (with own.id iteration outer))) iterations
    ∙ nest_same counts outside (λ outer. map f (upto (counts own.id) (λ iteration. body (with own.id iteration outer)))) (λ outer. upto (counts own.id)
    (λ iteration. map f (body (with own.id iteration outer))))
    (λ outer in_range. map_upto f (counts own.id) (λ iteration. body (with own.id iteration outer))) iterations

map_cond : {A B : Type 0} (f : A → B) (test : Bool) (xs : List A) → map f (cond test xs []) ≡ cond test (map f xs) []
map_cond f true xs = refl
map_cond f false xs = refl

-- bodies that map one to another do so after splits
pub map_bodies : {A B : Type 0} (f : A → B) (splits : List Split) (counts : Values) (place : ℕ) (body : Values → List A) (other : Values → List B)
    → ((values : Values) → map f (body values) ≡ other values)
    → (values : Values) → map f (split_bodies counts place splits body values) ≡ split_bodies counts place splits other values
map_bodies f [] counts place body other same = same
map_bodies {A} {B} f (split ∷ splits) counts place body other same =
    map_bodies f splits (more_counts counts place split) (suc place) (split_body counts place split body) (split_body counts place split other)
    (λ values. map_cond f (nat_lt (whole_of counts place split values) (counts split.of)) (body (with split.of (whole_of counts place split values) values))
    ∙ ap (λ (xs : List B). cond (nat_lt (whole_of counts place split values) (counts split.of)) xs []) (same (with split.of (whole_of counts place split values)
    values)))

pub visits_of_wholes : (extents : Extents) (splits : List Split) (inside : List Loop) (iterations : Values)
    → nest (counts extents splits) inside (over_loops extents splits (λ whole. visit_of extents whole ∷ [])) iterations
    ≡ map (visit_of extents) (wholes extents splits inside iterations)
visits_of_wholes extents splits inside iterations =
    sym (map_nest (visit_of extents) (counts extents splits) inside (over_loops extents splits (λ whole. whole ∷ [])) iterations
    ∙ nest_same (counts extents splits) inside (λ values. map (visit_of extents) (over_loops extents splits (λ whole. whole ∷ []) values))
    (over_loops extents splits (λ whole. visit_of extents whole ∷ []))
    (λ values in_range. map_bodies (visit_of extents) splits (whole_counts extents) 0 (λ whole. whole ∷ []) (λ whole. visit_of extents whole ∷ [])
    (λ whole. refl) values) iterations)

-- Loops that take their places anew are the same loops.
use Rattle.std.proofs.Common.{◌≡◌, ℕ, suc, ◌+◌, Bool, true, false, cond, List, [], ◌∷◌, length, Option, Some, None, refl, ap, ◌∙◌, arith}
use Rattle.std.specs.Prelude.{◌||◌, is_some}
use Rattle.std.specs.Str.{bytes_eq}
use Rattle.std.proofs.lemmas.Bool.{and_parts, or_parts}
use Rattle.schedule_lines.specs.declared.stages.Loop.{Loop}
use Rattle.schedule_lines.specs.Directives.{find, are_known, is_among, is_twice_among, has_twice, or_else, find_or, reordered_from, reordered, is_known}
use Rattle.schedule_lines.specs.Making.{total, has_name, Differ, SameLoops}
use Rattle.schedule_lines.proofs.Names.{swapped, total-append}
use Rattle.schedule_lines.proofs.Replacing.{IsBetween, between}

abbrev named : List (List ℕ) → (Loop → ℕ) → Loop → ℕ
named names value l = cond (is_among l.name names) (value l) 0

abbrev others_of : List (List ℕ) → (Loop → ℕ) → Loop → ℕ
others_of names value l = cond (is_among l.name names) 0 (value l)

-- what is added up over the loops with these names
abbrev value_of : (Loop → ℕ) → Option Loop → ℕ
value_of value None = 0
value_of value (Some l) = value l

abbrev chosen : List Loop → (Loop → ℕ) → List (List ℕ) → ℕ
chosen loops value [] = 0
chosen loops value (name ∷ names) = value_of value (find name loops) + chosen loops value names

parted_at : (test : Bool) (n a b c : ℕ) → c ≡ a + b → n + c ≡ cond test 0 n + a + (cond test n 0 + b)
parted_at true n a b c e = omega arith
parted_at false n a b c e = omega arith

parted : (names : List (List ℕ)) (value : Loop → ℕ) (loops : List Loop) → total value loops ≡ total (others_of names value) loops + total (named names value)
    loops
parted names value [] = refl
parted names value (first ∷ others) = parted_at (is_among first.name names) (value first) (total (others_of names value) others) (total (named names value)
    others) (total value others) (parted names value others)

-- the value of a loop that is found
found_value : (value : Loop → ℕ) (stage_loop : Option Loop) (other : Loop) → is_some stage_loop ≡ true → value (or_else other stage_loop) ≡ value_of value stage_loop
found_value value None other e = cc
found_value value (Some l) other e = refl

abbrev pub one : Loop → ℕ
one l = 1

-- Where as many loops are named as names are left, these stand in the places of the named ones.
abbrev Placed : List Loop → List (List ℕ) → (Loop → ℕ) → List (List ℕ) → List Loop → Type 0
Placed stage_loops names value left loops =
    are_known stage_loops left ≡ true → total (named names one) loops ≡ length left
    → total value (reordered_from stage_loops names left loops) ≡ total (others_of names value) loops + chosen
    stage_loops value left

-- no name is left
placed_none : (test : Bool) (loops : List Loop) (names : List (List ℕ)) (value : Loop → ℕ) (first : Loop) (others : List Loop) → is_among first.name names ≡ test
    → Placed loops names value [] others → Placed loops names value [] (first ∷ others)
placed_none true loops names value first others is later known count = let e : 1 + total (named names one) others ≡ 0 = rw is at count in absurd (omega arith)
placed_none false loops names value first others is later known count =
    let e : 0 + total (named names one) others ≡ 0 = rw is at count in
    let rest : total value (reordered_from loops names [] others) ≡ total (others_of names value) others + 0 = later refl (omega arith) in
    rw is (omega arith)

-- a name is left
placed_one : (test : Bool) (loops : List Loop) (names : List (List ℕ)) (value : Loop → ℕ) (name : List ℕ) (behind : List (List ℕ)) (first : Loop)
    (others : List Loop) → is_among first.name names ≡ test
    → Placed loops names value behind others → Placed loops names value (name ∷ behind) others → Placed loops names value (name ∷ behind) (first ∷ others)
placed_one true loops names value name behind first others is taken later known count =
    let parts = and_parts (is_known name loops) (are_known loops behind) known in
    let e : 1 + total (named names one) others ≡ suc (length behind) = rw is at count in
    let rest : total value (reordered_from loops names behind others) ≡ total (others_of names value) others + chosen loops value behind =
    taken parts.1 (omega arith) in
    let f : value (find_or name loops first) ≡ value_of value (find name loops) = found_value value (find name loops) first parts.0 in
    rw is (omega arith)
placed_one false loops names value name behind first others is taken later known count =
    let e : 0 + total (named names one) others ≡ length (name ∷ behind) = rw is at count in
    let rest : total value (reordered_from loops names (name ∷ behind) others) ≡ total (others_of names value) others + chosen loops value (name ∷ behind) =
    later known (omega arith) in
    rw is (omega arith)

placed : (stage_loops : List Loop) (names : List (List ℕ)) (value : Loop → ℕ) (left : List (List ℕ)) (loops : List Loop) → Placed stage_loops names value left loops
placed stage_loops names value [] [] known count = refl
placed stage_loops names value (name ∷ behind) [] known count = let e : 0 ≡ length (name ∷ behind) = count in absurd (omega arith)
placed stage_loops names value [] (first ∷ others) known count = placed_none (is_among first.name names) stage_loops names value first others refl (placed stage_loops names value []
    others) known count
placed stage_loops names value (name ∷ behind) (first ∷ others) known count =
    placed_one (is_among first.name names) stage_loops names value name behind first others refl (placed stage_loops names value behind others) (placed stage_loops names value (name
    ∷ behind) others) known count

-- ---- the loops that are named are those with the names

none_named : (value : Loop → ℕ) (loops : List Loop) → total (named [] value) loops ≡ 0
none_named value [] = refl
none_named value (first ∷ others) = omega (arith, none_named value others)

-- a name that none of the loops has
unused_at : (test : Bool) (name : List ℕ) (names : List (List ℕ)) (value : Loop → ℕ) (first : Loop) (others : List Loop) → bytes_eq first.name name ≡ test
    → total (has_name name) (first ∷ others) ≡ 0
    → (total (has_name name) others ≡ 0 → total (named (name ∷ names) value) others ≡ total (named names value) others)
    → total (named (name ∷ names) value) (first ∷ others) ≡ total (named names value) (first ∷ others)
unused_at true name names value first others is none later = let e : 1 + total (has_name name) others ≡ 0 = rw is at none in absurd (omega arith)
unused_at false name names value first others is none later =
    let e : 0 + total (has_name name) others ≡ 0 = rw is at none in
    let back : bytes_eq name first.name ≡ false = swapped name first.name ∙ is in
    rw back (ap (λ n. cond (is_among first.name names) (value first) 0 + n) (later (omega arith)))

unused : (name : List ℕ) (names : List (List ℕ)) (value : Loop → ℕ) (loops : List Loop) → total (has_name name) loops ≡ 0
    → total (named (name ∷ names) value) loops ≡ total (named names value) loops
unused name names value [] none = refl
unused name names value (first ∷ others) none = unused_at (bytes_eq first.name name) name names value first others refl none (unused name names value others)

-- no loop that is found is named twice
twice_at : (test : Bool) (name : List ℕ) (names : List (List ℕ)) (first : Loop) (others : List Loop) (stage_loop : Loop) → cond test (Some first) (find name others)
    ≡ Some stage_loop
    → is_twice_among first.name names ≡ false → (find name others ≡ Some stage_loop
    → is_twice_among stage_loop.name names ≡ false)
    → is_twice_among stage_loop.name names ≡ false
twice_at true name names first others stage_loop e once later = let same : first ≡ stage_loop = cc in rw (← same) once
twice_at false name names first others stage_loop e once later = later e

twice : (name : List ℕ) (names : List (List ℕ)) (loops : List Loop) (stage_loop : Loop) → has_twice loops names ≡ false → find name loops ≡ Some stage_loop
    → is_twice_among stage_loop.name names ≡ false
twice name names [] stage_loop none e = cc
twice name names (first ∷ others) stage_loop none e =
    let parts = or_parts (is_twice_among first.name names) (has_twice others names) none in
    twice_at (bytes_eq first.name name) name names first others stage_loop e parts.0
    (twice name names others stage_loop parts.1)

not_twice_at : (test : Bool) (name : List ℕ) (names : List (List ℕ)) → (test || is_among name names) ≡ false → (is_among name names ≡ false
    → is_twice_among name names ≡ false)
    → cond test (is_among name names) (is_twice_among name names) ≡ false
not_twice_at true name names none later = cc
not_twice_at false name names none later = later none

not_twice : (name : List ℕ) (names : List (List ℕ)) → is_among name names ≡ false → is_twice_among name names ≡ false
not_twice name [] none = refl
not_twice name (first ∷ others) none = not_twice_at (bytes_eq first name) name others none (not_twice name others)

fewer_at : (test : Bool) (name : List ℕ) (names : List (List ℕ)) → cond test (is_among name names) (is_twice_among name names) ≡ false
    → is_twice_among name names ≡ false
fewer_at true name names none = not_twice name names none
fewer_at false name names none = none

fewer : (name : List ℕ) (names : List (List ℕ)) (loops : List Loop) → has_twice loops (name ∷ names) ≡ false → has_twice loops names ≡ false
fewer name names [] none = refl
fewer name names (first ∷ others) none =
    let parts = or_parts (is_twice_among first.name (name ∷ names)) (has_twice others (name ∷ names)) none in
    rw (fewer_at (bytes_eq name first.name) first.name names parts.0) (fewer name names others parts.1)

-- A loop that is found, between others that haven't its name.
pub record IsAlone (name : List ℕ) (loops : List Loop) (stage_loop : Loop) : Type 0 where
  pub place : IsBetween name loops stage_loop
  pub none_before : total (has_name name) place.before ≡ 0
  pub none_after : total (has_name name) place.after ≡ 0

pub alone : (name : List ℕ) (loops : List Loop) (stage_loop : Loop) → Differ loops → find name loops ≡ Some stage_loop → IsAlone name loops stage_loop
alone name loops stage_loop differ e =
    let place = between name loops stage_loop e in
    let split : total (has_name name) loops ≡ total (has_name name) place.before + total (has_name name) (stage_loop ∷ place.after) =
    ap (total (has_name name)) place.loops_are ∙ total-append (has_name name) place.before (stage_loop ∷ place.after) in
    let itself_counts : has_name name stage_loop ≡ 1 = rw place.named refl in
    record {
      place = place;
      none_before = omega (arith, differ name);
      none_after = omega (arith, differ name);
    }

-- the loops with these names, by whether a loop has the first of them
chosen_by : (stage_loop : Option Loop) (loops : List Loop) (name : List ℕ) (names : List (List ℕ)) (value : Loop → ℕ) → find name loops ≡ stage_loop → is_some stage_loop ≡ true
    → Differ loops → has_twice loops (name ∷ names) ≡ false → total (named names value) loops ≡ chosen loops value names
    → total (named (name ∷ names) value) loops ≡ value_of value stage_loop + chosen loops value names
chosen_by None loops name names value e known differ once later = cc
chosen_by (Some l) loops name names value e known differ once later =
    let here = alone name loops l differ e in
    let before = here.place.before in
    let after = here.place.after in
    let back : bytes_eq name l.name ≡ true = swapped name l.name ∙ here.place.named in
    let single : is_twice_among l.name (name ∷ names) ≡ false = twice name (name ∷ names) loops l once e in
    let rest : is_among l.name names ≡ false = rw back at single in
    let whole : total (named (name ∷ names) value) loops ≡ total (named (name ∷ names) value) before + total (named (name ∷ names) value) (l ∷ after) =
    ap (total (named (name ∷ names) value)) here.place.loops_are ∙ total-append (named (name ∷ names) value) before (l ∷ after) in
    let less : total (named names value) loops ≡ total (named names value) before + total (named names value) (l ∷ after) =
    ap (total (named names value)) here.place.loops_are ∙ total-append (named names value) before (l ∷ after) in
    let at_own : named (name ∷ names) value l ≡ value l = rw back refl in
    let at_none : named names value l ≡ 0 = rw rest refl in
    let b = unused name names value before here.none_before in
    let a = unused name names value after here.none_after in
    omega (arith, whole, less, b, a, later)

chosen_are : (loops : List Loop) (names : List (List ℕ)) (value : Loop → ℕ) → Differ loops → are_known loops names ≡ true → has_twice loops names ≡ false
    → total (named names value) loops ≡ chosen loops value names
chosen_are loops [] value differ known once = none_named value loops
chosen_are loops (name ∷ names) value differ known once =
    let parts = and_parts (is_known name loops) (are_known loops names) known in
    chosen_by (find name loops) loops name names value refl parts.0 differ once (chosen_are loops names value differ parts.1 (fewer name names loops once))

-- ---- this many as there are names

one_of : (stage_loop : Option Loop) → is_some stage_loop ≡ true → value_of one stage_loop ≡ 1
one_of None e = cc
one_of (Some l) e = refl

ones : (loops : List Loop) (names : List (List ℕ)) → are_known loops names ≡ true
    → chosen loops one names ≡ length names
ones loops [] known = refl
ones loops (name ∷ names) known =
    let parts = and_parts (is_known name loops) (are_known loops names) known in
    omega (arith, one_of (find name loops) parts.0, ones loops names parts.1)

pub total-ones : (loops : List Loop) → total one loops ≡ length loops
total-ones [] = refl
total-ones (first ∷ others) = omega (arith, total-ones others)

-- Loops that are named once and take their places anew are the same loops.
pub same_loops : (loops : List Loop) (names : List (List ℕ)) → Differ loops → are_known loops names ≡ true → has_twice loops names ≡ false
    → SameLoops (reordered loops names) loops
same_loops loops names differ known once value =
    let count : total (named names one) loops ≡ length names = chosen_are loops names one differ known once ∙ ones loops names known in
    omega (arith, placed loops names value names loops known count, chosen_are loops names value differ known once, parted names value loops)

-- Names of loops: which there are, and that they differ.
use Rattle.std.proofs.Common.{◌≡◌, ℕ, ◌+◌, Bool, true, false, cond, List, [], ◌∷◌, ◌++◌, Some, refl, arith}
use Rattle.std.specs.Prelude.{is_some}
use Rattle.std.specs.Str.{bytes_eq}
use Rattle.std.proofs.lemmas.Slice.Eq.{bytes_eq-Decides}
use Rattle.schedule_lines.specs.declared.stages.Loop.{Loop}
use Rattle.schedule_lines.specs.Directives.{find, is_known}
use Rattle.schedule_lines.specs.Making.{total, has_name}

pub same_bytes : (xs ys : List ℕ) → bytes_eq xs ys ≡ true → xs ≡ ys
same_bytes xs ys is = (bytes_eq-Decides xs ys).0 is

pub itself : (xs : List ℕ) → bytes_eq xs xs ≡ true
itself xs = (bytes_eq-Decides xs xs).1 refl

-- a test of names that is swapped
swapped_by : (a b : Bool) (xs ys : List ℕ) → bytes_eq xs ys ≡ a → bytes_eq ys xs ≡ b → a ≡ b
swapped_by true true xs ys e d = refl
swapped_by false false xs ys e d = refl
swapped_by true false xs ys e d = let s : bytes_eq ys xs ≡ true = rw (same_bytes xs ys e) (itself ys) in cc
swapped_by false true xs ys e d = let s : bytes_eq xs ys ≡ true = rw (same_bytes ys xs d) (itself xs) in cc

pub swapped : (xs ys : List ℕ) → bytes_eq xs ys ≡ bytes_eq ys xs
swapped xs ys = swapped_by (bytes_eq xs ys) (bytes_eq ys xs) xs ys refl refl

pub total-append : (value : Loop → ℕ) (xs ys : List Loop) → total value (xs ++ ys) ≡ total value xs + total value ys
total-append value [] ys = omega arith
total-append value (x ∷ xs) ys = omega (arith, total-append value xs ys)

-- A name that is not known is no loop's.
unknown_by : (test : Bool) (name : List ℕ) (first : Loop) (others : List Loop) → bytes_eq first.name name ≡ test
    → is_some (cond test (Some first) (find name others)) ≡ false
    → (is_known name others ≡ false → total (has_name name) others ≡ 0)
    → total (has_name name) (first ∷ others) ≡ 0
unknown_by true name first others is e later = cc
unknown_by false name first others is e later = rw is (omega (arith, later e))

pub unknown : (name : List ℕ) (loops : List Loop) → is_known name loops ≡ false → total (has_name name) loops ≡ 0
unknown name [] e = refl
unknown name (first ∷ others) e = unknown_by (bytes_eq first.name name) name first others refl e (unknown name others)

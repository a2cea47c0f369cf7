-- Loops of which one is replaced.
use Rattle.std.proofs.Common.{◌≡◌, ℕ, Bool, true, false, cond, List, [], ◌∷◌, ◌++◌, Some, refl, ap}
use Rattle.std.specs.Str.{bytes_eq}
use Rattle.schedule_lines.specs.declared.stages.Loop.{Loop}
use Rattle.schedule_lines.specs.Directives.{find, replaced}

-- The loop with a name is between others.
pub record IsBetween (name : List ℕ) (loops : List Loop) (stage_loop : Loop) : Type 0 where
  pub before : List Loop
  pub after : List Loop
  pub loops_are : loops ≡ before ++ stage_loop ∷ after
  pub named : bytes_eq stage_loop.name name ≡ true
  pub replaced_are : (new : List Loop) → replaced name new loops ≡ before ++ (new ++ after)

found_at : (test : Bool) (name : List ℕ) (first : Loop) (others : List Loop) (stage_loop : Loop) → bytes_eq first.name name ≡ test
    → cond test (Some first) (find name others) ≡ Some stage_loop
    → (find name others ≡ Some stage_loop → IsBetween name others stage_loop)
    → IsBetween name (first ∷ others) stage_loop
found_at true name first others stage_loop is e later =
    let same : first ≡ stage_loop = cc in
    record {
      before = [];
      after = others;
      loops_are = ap (λ (l : Loop). l ∷ others) same;
      named = rw (← same) is;
      replaced_are = λ new. rw is refl;
    }
found_at false name first others stage_loop is e later =
    let rest = later e in
    record {
      before = first ∷ rest.before;
      after = rest.after;
      loops_are = ap (λ (ls : List Loop). first ∷ ls) rest.loops_are;
      named = rest.named;
      replaced_are = λ new. rw is (ap (λ (ls : List Loop). first ∷ ls) (rest.replaced_are new));
    }

pub between : (name : List ℕ) (loops : List Loop) (stage_loop : Loop) → find name loops ≡ Some stage_loop
    → IsBetween name loops stage_loop
between name [] stage_loop e = cc
between name (first ∷ others) stage_loop e = found_at (bytes_eq first.name name) name first others stage_loop refl e (between name others stage_loop)

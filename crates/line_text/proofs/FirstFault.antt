-- The line that is named is the first that is refused.
use Rattle.std.proofs.Common.{◌≡◌, ℕ, ◌+◌, List, [], ◌∷◌, Result, Ok, Err, refl, sym, ap, ◌∙◌, arith}
use Rattle.line_text.specs.Lines.{IsFirstFault, located, taken_from}

module _ {S F : Type 0} (takes : S → List ℕ → Result S F) where
  -- by what the first line gives
  fault_behind : (given : Result S F) (first : ℕ) (state : S) (line : List ℕ) (lines : List (List ℕ)) (number : ℕ) (fault : F)
      → takes state line ≡ given
      → ((next : S) → taken_from takes (first + 1) next lines ≡ Err (number, fault) → IsFirstFault takes (first + 1) next lines number fault)
      → located first given (λ next. taken_from takes (first + 1) next lines) ≡ Err (number, fault) → IsFirstFault takes first state (line ∷ lines) number fault
  unfolding taken_from
  fault_behind (Ok next) first state line lines number fault is later e =
      let rest = later next e in
      record {
        before = line ∷ rest.before;
        line = rest.line;
        after = rest.after;
        reached = rest.reached;
        lines_are = ap (λ (ls : List (List ℕ)). line ∷ ls) rest.lines_are;
        number_is = omega (arith, rest.number_is);
        taken = rw is rest.taken;
        refused = rest.refused;
      }
  fault_behind (Err at) first state line lines number fault is later e =
      let same : (first, at) ≡ (number, fault) = cc in
      record {
        before = [];
        line = line;
        after = lines;
        reached = state;
        lines_are = refl;
        number_is = omega (arith, ap (λ (p : ℕ × F). p.0) (sym same));
        taken = refl;
        refused = is ∙ ap (λ (p : ℕ × F). Err p.1) same;
      }

  pub first_fault : (first : ℕ) (state : S) (lines : List (List ℕ)) (number : ℕ) (fault : F) → taken_from takes first state lines ≡ Err (number, fault)
      → IsFirstFault takes first state lines number fault
  unfolding taken_from
  first_fault first state [] number fault e = cc
  first_fault first state (line ∷ lines) number fault e =
      fault_behind (takes state line) first state line lines number fault refl (λ next. first_fault (first + 1) next lines number fault) e

-- A stack that is kept with its top at the end.
use Rattle.std.proofs.Common.{◌≡◌, ◌==◌, false, List, [], ◌∷◌, ◌++◌, length, Option, Some, None, MatchOption, refl, sym, ap, ◌∙◌, arith}
use Rattle.std.proofs.lemmas.Bool.Decides.{nat_tests}
use Rattle.halide_parser_syntax.specs.inner.Reversed.{on_top}
use Rattle.halide_parser_syntax.specs.inner.Machine.{is_empty}

module _ {A : Type 0} where
  pub pushed : (items : List A) (item : A) → on_top (items ++ item ∷ []) ≡ item ∷ on_top items
  pushed [] item = refl
  pushed (other ∷ others) item = ap (λ (l : List A). l ++ other ∷ []) (pushed others item)

  not_empty : (items : List A) (item : A) → is_empty (items ++ item ∷ []) ≡ false
  not_empty [] item = refl
  not_empty (other ∷ others) item = refl

  pub empty : (items : List A) → is_empty (on_top items) ≡ (length items == 0)
  empty [] = refl
  empty (item ∷ items) = let some : (length (item ∷ items) == 0) ≡ false = grind (arith, nat_tests) in not_empty (on_top items) item ∙ sym some

  pub popped : (top : Option A) (old new : List A) → MatchOption top ((old ≡ []) × (new ≡ [])) (λ item. old ≡ new ++ item ∷ [])
      → MatchOption top ((on_top old ≡ []) × (on_top new ≡ [])) (λ item. on_top old ≡ item ∷ on_top new)
  popped None old new h = (ap on_top h.0, ap on_top h.1)
  popped (Some item) old new h = ap on_top h ∙ pushed new item

-- An update joins the last Func.
use Rattle.std.proofs.Common.{◌≡◌, List, [], ◌∷◌, ◌++◌, refl, ap, ◌∙◌}
use Rattle.halide_pipeline.specs.declared.definitions.Func.{Func}
use Rattle.halide_pipeline.specs.declared.definitions.Update.{Update}
use Rattle.halide_parser.specs.Meaning.{with_update}

updates_last : (funcs : List Func) (f : Func) (update : Update)
    → with_update (funcs ++ f ∷ []) update ≡ funcs ++ record {
      first_argument = f.first_argument;
      second_argument = f.second_argument;
      pure = f.pure;
      updates =
          f.updates ++ update ∷ [];
    } ∷ []
unfolding with_update
updates_last [] f update = refl
updates_last (g ∷ []) f update = refl
updates_last (g ∷ h ∷ funcs) f update = ap (λ (fs : List Func). g ∷ fs) (updates_last (h ∷ funcs) f update)

pub updates_by : (funcs : List Func) (f g : Func) (update : Update) → with_update (f ∷ []) update ≡ g ∷ [] → with_update (funcs ++ f ∷ []) update ≡ funcs ++ g
    ∷ []
unfolding with_update
updates_by funcs f g update e = updates_last funcs f update ∙ ap (λ (fs : List Func). funcs ++ fs) e

pub updates_none : (update : Update) → with_update [] update ≡ []
unfolding with_update
updates_none update = refl

-- The output's picture in an image.
use Rattle.std.proofs.Common.{◌≡◌, ℕ, List, Option, Some, None, Bor, refl, sym, ap, subst, ◌∙◌}
use Rattle.std.specs.Prelude.{slice_get, slice_index}
use Rattle.std.specs.Option.{IsSome, option_copied}
use Rattle.std.proofs.lemmas.Option.{get_or_from_slice_get}
use Rattle.halide_pipeline.specs.declared.definitions.Output.{Output}
use Rattle.bounds.specs.declared.boxes.SourceBox.{SourceBox}
use Rattle.bounds.specs.Extents.{box_in}
use Rattle.loader.specs.declared.outputs.Output.{Output as Placed}
use Rattle.hrv_compiler.specs.Compiled.{CompiledContents, output_in, output_of}
use Rattle.hrv_compiler.specs.Verdict.{IsCompiled}
use Rattle.hrv_compiler.specs.Outputs.{Holds}
use Rattle.hrv_compiler.proofs.OutputBox.{OutputBox, output_box}

some_copied : {A : Type 0} (found : Option (Bor A)) (x : A) → option_copied found ≡ Some x → IsSome found
some_copied None x e = absurd cc
some_copied (Some b) x e = refl

copied_is : {A : Type 0} (found : Option (Bor A)) (b : Bor A) (x : A) → option_copied found ≡ Some x → found ≡ Some b → b.now ≡ x
copied_is found b x e s = let k : Some b.now ≡ Some x = sym (ap option_copied s) ∙ e in cc

module _ (compiled_contents : CompiledContents) (rules : IsCompiled compiled_contents) where
  pub box : OutputBox compiled_contents.pipeline compiled_contents.boxes
  box = output_box compiled_contents.pipeline compiled_contents.schedule compiled_contents.boxes rules.well_formed
      rules.accepted rules.inferred_is

  pub root_is : (output : Output) (found : Option (Bor ℕ)) → output ≡ compiled_contents.pipeline.output → option_copied found ≡ slice_get compiled_contents.boxes.layout.roots output.func
      → option_copied found ≡ Some box.at
  root_is output found e v = v ∙ (ap (λ (o : Output). slice_get compiled_contents.boxes.layout.roots o.func) e ∙
      box.at_is)

  pub own_is : (output : Output) (found : Option (Bor SourceBox)) (boxes : List (Option SourceBox)) → output ≡ compiled_contents.pipeline.output → boxes ≡ compiled_contents.boxes.funcs
      → option_copied found ≡ box_in (slice_get boxes output.func) → option_copied found ≡ Some box.own
  own_is output found boxes e b v =
      v ∙ (ap (λ (o : Output). box_in (slice_get boxes o.func)) e ∙ (ap (λ (l : List (Option SourceBox)). box_in (slice_get l compiled_contents.pipeline.output.func)) b
      ∙ ap box_in box.is))

  pub root_there : (output : Output) (found : Option (Bor ℕ)) → output ≡ compiled_contents.pipeline.output
      → option_copied found ≡ slice_get compiled_contents.boxes.layout.roots output.func → IsSome found
  root_there output found e v = some_copied found box.at (root_is output found e v)

  pub own_there : (output : Output) (found : Option (Bor SourceBox)) (boxes : List (Option SourceBox)) → output ≡ compiled_contents.pipeline.output → boxes ≡ compiled_contents.boxes.funcs
      → option_copied found ≡ box_in (slice_get boxes output.func) → IsSome found
  own_there output found boxes e b v = some_copied found box.own (own_is output found boxes e b v)

  module _ (output : Output) (e : output ≡ compiled_contents.pipeline.output) (found : Option (Bor ℕ)) (at : Bor ℕ) (v : option_copied found
      ≡ slice_get compiled_contents.boxes.layout.roots output.func) (s : found ≡ Some at)
      (one : Option (Bor SourceBox)) (placed : Bor SourceBox) (boxes : List (Option SourceBox)) (b : boxes ≡ compiled_contents.boxes.funcs) (w : option_copied one
      ≡ box_in (slice_get boxes output.func)) (t : one ≡ Some placed) where
    at_same : at.now ≡ box.at
    at_same = copied_is found at box.at (root_is output found e v) s

    own_same : placed.now ≡ box.own
    own_same = copied_is one placed box.own (own_is output one boxes e b w) t

    pub holds : Holds at.now placed.now output.width output.height
    holds =
        subst (λ (n : ℕ). Holds n placed.now output.width output.height) (sym at_same)
        (subst (λ (o : SourceBox). Holds box.at o output.width output.height) (sym own_same) (subst (λ (o : Output). Holds box.at box.own o.width o.height)
        (sym e) box.holds))

    pub is_output : (new_placed : Placed) → Some new_placed ≡ output_in at.now (Some placed.now) output.width output.height → Some new_placed ≡ output_of compiled_contents.pipeline compiled_contents.boxes
    is_output new_placed is =
        is ∙ (ap (λ (o : Output). output_in at.now (Some placed.now) o.width o.height) e
        ∙ (ap (λ (n : ℕ). output_in n (Some placed.now) compiled_contents.pipeline.output.width
        compiled_contents.pipeline.output.height) (at_same
        ∙ sym (get_or_from_slice_get compiled_contents.boxes.layout.roots compiled_contents.pipeline.output.func box.at
        0 box.at_is))
        ∙ ap (λ (o : Option SourceBox). output_in (slice_index compiled_contents.boxes.layout.roots compiled_contents.pipeline.output.func) o compiled_contents.pipeline.output.width
        compiled_contents.pipeline.output.height) (ap Some own_same ∙ sym (ap box_in box.is))))

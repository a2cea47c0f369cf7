-- Texts that are compiled, and such that aren't.
use Rattle.std.proofs.Common.{◌≡◌, ◌∙◌, ℕ, ap, subst, sym, inl, inr, List}
use Rattle.std.specs.Prelude.{IsErrAnd, None, Ok, Result, Some, option_map}
use Rattle.std.specs.declared.alloc.Global.{Global}
use Rattle.halide_pipeline.specs.Contents.{PictureContents}
use Rattle.picture.specs.Evaluated.{judged}
use Rattle.picture.specs.declared.faults.EvalError.{EvalError}
use Rattle.picture.specs.declared.faults.EvalError.TheVariants as eval
use Rattle.loader.specs.Image.{IsImage}
use Rattle.loader.specs.Spelling.{spelled}
use Rattle.loader.specs.declared.formats.Format.TheVariants.{Hrv2}
use Rattle.hrv_compiler.specs.Assigned.{IsAssigned}
use Rattle.hrv_compiler.specs.Compiled.{CompiledContents}
use Rattle.hrv_compiler.specs.Verdict.{IsCompiled, Means}
use Rattle.hrv_compiler.specs.Correct.{Correct}
use Rattle.hrv_compiler.specs.Images.{image_of, IsRefusedInput}
use Rattle.hrv_compiler.specs.Runs.{WritesWholeRuns}
use Rattle.hrv_engines.specs.declared.faults.Refusal.{Refusal}
use Rattle.hrv_engines.specs.declared.faults.Refusal.TheVariants.{Input}
use Rattle.hrv_engines.specs.declared.faults.Fault.{Fault}
use Rattle.hrv_engines.specs.declared.faults.Fault.TheVariants.{Memory}
use Rattle.hrv_engines.specs.Compile.{IsCompilation, IsRefusedCompilation, RefusesInputs, Texts, first_fault}
use Rattle.hrv_engines.specs.Drawing.{pictures_of, with_pictures}
use Rattle.hrv_engines.specs.Engine.{Judges, Unmeant}
use Rattle.hrv_engines.specs.Refusals.{fault_of_input}
use Rattle.hrv_engines.proofs.Steps.{judges_not, passed}

-- what is compiled, from pictures that were read
pub compiled : (alloc : Global) (texts : Texts) (own : CompiledContents) (pictures : List PictureContents) (bytes : List ℕ) → first_fault alloc texts ≡ None
    → Means alloc texts.0.0 texts.0.1 own → IsCompiled own → pictures_of texts.1 ≡ Ok pictures → judged own.pipeline.inputs pictures ≡ None
    → IsImage (image_of own pictures) → Correct own.pipeline pictures own.boxes.layout.phases (image_of own pictures)
    → IsAssigned own.pipeline own.schedule own.boxes pictures (image_of own pictures) → WritesWholeRuns own (image_of own pictures)
    → bytes ≡ spelled Hrv2 (image_of own pictures) → IsCompilation alloc texts bytes
compiled alloc texts own pictures bytes faultless means rules read asked passes correct assigned runs spells = record {
  program = own;
  pictures = pictures;
  is_faultless = faultless;
  is_program = means;
  is_compiled = rules;
  are_inputs = read;
  are_asked_for = asked;
  is_image = passes;
  is_correct = correct;
  is_assigned = assigned;
  writes_runs = runs;
  is_spelled = spells;
}

-- pictures that aren't those that are asked for
pub wrong_inputs : {X : Type 0} (value : X → List ℕ) (alloc : Global) (texts : Texts) (own : CompiledContents) (pictures : List PictureContents)
    (r : Result X Fault) (error : EvalError)
    → IsErrAnd r (λ f. f ≡ fault_of_input error) → first_fault alloc texts ≡ None → Means alloc texts.0.0 texts.0.1 own → pictures_of texts.1 ≡ Ok pictures
    → IsRefusedInput (judged own.pipeline.inputs pictures) error → Judges value (IsCompilation alloc) (IsRefusedCompilation alloc) texts r
wrong_inputs value alloc texts own pictures r error is faultless means given p =
    judges_not value (IsCompilation alloc) (IsRefusedCompilation alloc) texts r (passed (Unmeant (IsRefusedCompilation alloc) texts) r (fault_of_input error) is
    (unmeant error p))
  where
    refuses : (e : EvalError) → judged own.pipeline.inputs pictures ≡ Some e → RefusesInputs alloc texts (Input e)
    refuses e wanted = record {
      pipeline = own.pipeline;
      is_faultless = faultless;
      is_algorithm = means.algorithm_is;
      are_refused = ap (with_pictures own.pipeline) given ∙ ap (option_map Input) wanted;
    }

    unmeant : (e : EvalError) → IsRefusedInput (judged own.pipeline.inputs pictures) e → Unmeant (IsRefusedCompilation alloc) texts (fault_of_input e)
    unmeant e (inr memory) = subst (λ f. Unmeant (IsRefusedCompilation alloc) texts (fault_of_input f)) (sym memory) tt
    unmeant eval.InputCount (inl wanted) = inr (refuses eval.InputCount wanted)
    unmeant eval.InputSize (inl wanted) = inr (refuses eval.InputSize wanted)
    unmeant eval.InputByte (inl wanted) = inr (refuses eval.InputByte wanted)
    unmeant eval.OutOfMemory (inl wanted) = tt

-- want of memory
pub no_memory : {I X : Type 0} (value : X → List ℕ) (means : I → List ℕ → Type 0) (refuses : I → Refusal → Type 0) (inputs : I) (r : Result X Fault)
    → IsErrAnd r (λ f. f ≡ Memory) → Judges value means refuses inputs r
no_memory value means refuses inputs r is = judges_not value means refuses inputs r (passed (Unmeant refuses inputs) r Memory is tt)

-- The pictures of texts, one after the other.
use Rattle.std.proofs.Common.{◌≡◌, ◌∙◌, ℕ, refl, sym, ap, append_assoc, List, [], ◌∷◌, ◌++◌}
use Rattle.std.specs.Prelude.{IsErrAnd, Result, Ok, Err, Some}
use Rattle.std.specs.declared.alloc.Global.{Global}
use Rattle.line_text.specs.Lines.{◌>>=◌}
use Rattle.halide_pipeline.specs.Pipelines.{Pipeline}
use Rattle.halide_parser.specs.Parsing.{parsed}
use Rattle.picture.specs.declared.faults.PictureFault.{PictureFault}
use Rattle.halide_pipeline.specs.Contents.{PictureContents}
use Rattle.hrv_engines.specs.declared.faults.Fault.{Fault}
use Rattle.hrv_engines.specs.declared.faults.Fault.TheVariants.{Refused, File, Memory, Thread}
use Rattle.hrv_engines.specs.Drawing.{IsDrawing, IsRefusedDrawing, RefusesPictures, refusal_of, with_pictures, with_pipeline}
use Rattle.hrv_engines.specs.Engine.{Judges, Unmeant}
use Rattle.hrv_engines.proofs.Steps.{judges_not, passed}

-- these pictures and those that come
abbrev pub with_front : List PictureContents → Result (List PictureContents) PictureFault → Result (List PictureContents) PictureFault
with_front front (Ok pictures) = Ok (front ++ pictures)
with_front front (Err fault) = Err fault

pub front_moved : (front : List PictureContents) (picture : PictureContents) (rest : Result (List PictureContents) PictureFault)
    → with_front (front ++ picture ∷ []) rest ≡ with_front front (rest >>= λ pictures. Ok (picture ∷ pictures))
front_moved front picture (Ok pictures) = ap (λ all. Ok all) (append_assoc front (picture ∷ []) pictures)
front_moved front picture (Err fault) = refl

-- texts that are no pictures, where the algorithm is one
pub no_pictures : {X : Type 0} (value : X → List ℕ) (alloc : Global) (texts : List ℕ × List (List ℕ)) (pipeline : Pipeline) (r : Result X Fault) (fault : Fault)
    → IsErrAnd r (λ f. f ≡ fault) → parsed alloc texts.0 ≡ Ok pipeline → Unmeant RefusesPictures texts.1 fault
    → Judges value (IsDrawing alloc) (IsRefusedDrawing alloc) texts r
unfolding refusal_of
no_pictures value alloc texts pipeline r fault is given p =
    judges_not value (IsDrawing alloc) (IsRefusedDrawing alloc) texts r (passed (Unmeant (IsRefusedDrawing alloc) texts) r fault is (unmeant fault p))
  where
    unmeant : (f : Fault) → Unmeant RefusesPictures texts.1 f → Unmeant (IsRefusedDrawing alloc) texts f
    unmeant (Refused refusal) q = ap (λ found. with_pipeline found texts.1) given ∙ ap (with_pictures pipeline) q.2 ∙ ap (λ x. Some x) (sym q.1)
    unmeant (File path) q = q
    unmeant Memory q = q
    unmeant Thread q = q

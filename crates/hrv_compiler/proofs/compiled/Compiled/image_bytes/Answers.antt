use Rattle.std.proofs.Common.{◌≡◌, ◌<◌, ◌^◌, ◌++◌, ℕ, List, Option, Some, None, refl, sym, ap, subst, ◌∙◌}
use Rattle.std.specs.List.{All}
use Rattle.std.specs.Prelude.{IfSome}
use Rattle.halide_pipeline.specs.Contents.{PictureContents}
use Rattle.halide_pipeline.specs.declared.definitions.Input.{Input}
use Rattle.loader.specs.Image.{IsInWords}
use Rattle.loader.specs.Parts.{image_with}
use Rattle.loader.specs.Spelling.{spelled}
use Rattle.loader.specs.declared.formats.Format.TheVariants.{Hrv2}
use Rattle.loader.specs.declared.outputs.Output.{Output}
use Rattle.loader.specs.declared.parts.ImageParts.{ImageParts}
use Rattle.memory.specs.Access.{text_start}
use Rattle.picture.specs.Evaluated.{judged}
use Rattle.hrv_compiler.specs.Assigned.{IsAssigned}
use Rattle.hrv_compiler.specs.Compiled.{CompiledContents, output_of}
use Rattle.hrv_compiler.specs.Images.{ArePictures, data_front, image_of}
use Rattle.hrv_compiler.specs.inner.Held.{IsHeld}
use Rattle.hrv_compiler.proofs.Correct.{correct, is-assigned, stages-counted}
use Rattle.hrv_compiler.proofs.Images.{are-parts, image-with, is-image}
use Rattle.hrv_compiler.proofs.Low.{lies_low}
use Rattle.hrv_compiler.proofs.Runs.{writes-whole-runs}
use Rattle.hrv_compiler.proofs.compiled.Compiled.image_bytes.Goals as goal

pub data_front-requires-clause-low : goal.data_front-requires-clause-low
data_front-requires-clause-low c = lies_low c.self.inside.pipeline c.self.inside.schedule c.self.inside.boxes c.self.invariant.compiled.inferred_is

pub store_parts-requires : goal.store_parts-requires
store_parts-requires c =
    let own : CompiledContents = record {
      pipeline = c.self.inside.pipeline;
      schedule = c.self.inside.schedule;
      boxes = c.self.inside.boxes;
      words = c.self.inside.words.items;
      ends = c.self.inside.ends.items;
      stages = c.self.inside.stages.items;
    } in
    let none =
    ap (λ (inputs : List Input). judged inputs c.args.pictures.items) (sym c.inputs.ensures.value)
    ∙ (ap (λ (pictures : List PictureContents). judged c.inputs.result.now pictures) (sym c.deref.ensures.value) ∙ (sym c.judge.ensures ∙ c.in_default.is)) in
    let are = subst ArePictures c.deref-2.ensures.value c.in_ok-front.ensures.rules in
    let front =
    c.as_slice-2.ensures.value
    ∙ (c.in_ok-front.ensures.is
    ∙ (ap (λ (inputs : List Input). data_front own.boxes.layout inputs c.deref-2.result.now) c.inputs-2.ensures.value
    ∙ ap (λ (pictures : List PictureContents). data_front own.boxes.layout own.pipeline.inputs pictures) c.deref-2.ensures.value)) in
    let size = subst (λ (own : CompiledContents). c.size.result ≡ own.boxes.layout.size) (sym c.self.view_is) c.size.ensures in
    are-parts own c.self.invariant c.args.pictures.items none are _ c.as_slice-words.ensures.value front size

pub returns-clause-is : goal.returns-clause-is
returns-clause-is c =
    let own : CompiledContents = record {
      pipeline = c.self.inside.pipeline;
      schedule = c.self.inside.schedule;
      boxes = c.self.inside.boxes;
      words = c.self.inside.words.items;
      ends = c.self.inside.ends.items;
      stages = c.self.inside.stages.items;
    } in
    let front =
    c.as_slice-2.ensures.value
    ∙ (c.in_ok-front.ensures.is
    ∙ (ap (λ (inputs : List Input). data_front own.boxes.layout inputs c.deref-2.result.now) c.inputs-2.ensures.value
    ∙ ap (λ (pictures : List PictureContents). data_front own.boxes.layout own.pipeline.inputs pictures) c.deref-2.ensures.value)) in
    let output = subst (λ (own : CompiledContents). Some c.output-output.result ≡ output_of own.pipeline own.boxes) (sym c.self.view_is) c.output-output.ensures in
    let size = subst (λ (own : CompiledContents). c.size.result ≡ own.boxes.layout.size) (sym c.self.view_is) c.size.ensures in
    let parts : ImageParts = record {
      entry = text_start;
      words = c.as_slice-words.result;
      front = c.as_slice-2.result;
      size = c.size.result;
      output = Some c.output-output.result;
    } in
    subst (λ (own : CompiledContents). c.store_parts.new.out.items ≡ spelled Hrv2 (image_of own c.args.pictures.items)) c.self.view_is
    (c.in_ok-store_parts.ensures.ok
    ∙ (ap (λ (items : List ℕ). items ++ spelled Hrv2 (image_with parts)) c.new-bytes.ensures.items
    ∙ ap (spelled Hrv2) (image-with own c.args.pictures.items parts refl c.as_slice-words.ensures.value front size output)))

pub returns-clause-rules : goal.returns-clause-rules
returns-clause-rules c =
    let held = subst IsHeld c.self.view_is c.self.invariant in
    let none =
    subst (λ (own : CompiledContents). judged own.pipeline.inputs c.args.pictures.items ≡ None) c.self.view_is
    (ap (λ (inputs : List Input). judged inputs c.args.pictures.items) (sym c.inputs.ensures.value)
    ∙ (ap (λ (pictures : List PictureContents). judged c.inputs.result.now pictures) (sym c.deref.ensures.value) ∙ (sym c.judge.ensures ∙ c.in_default.is))) in
    let are = subst ArePictures c.deref-2.ensures.value c.in_ok-front.ensures.rules in
    let words =
    subst (λ (own : CompiledContents). All (λ word. word < 2 ^ 32) own.words) c.self.view_is
    (subst (All (λ word. word < 2 ^ 32)) c.as_slice-words.ensures.value c.numbers_fit.ensures.words) in
    let front =
    subst (λ (own : CompiledContents). c.as_slice.result.now ≡ data_front own.boxes.layout own.pipeline.inputs c.args.pictures.items) c.self.view_is
    (c.as_slice.ensures.value
    ∙ (c.in_ok-front.ensures.is
    ∙ (ap (λ (inputs : List Input). data_front c.self.inside.boxes.layout inputs c.deref-2.result.now) c.inputs-2.ensures.value
    ∙ ap (λ (pictures : List PictureContents). data_front c.self.inside.boxes.layout c.self.inside.pipeline.inputs pictures) c.deref-2.ensures.value))) in
    is-image c.args.self.now held c.args.pictures.items none are words (subst (All (λ byte. byte < 256)) front c.numbers_fit.ensures.front)
    (subst (λ (output : Option Output). IfSome output IsInWords) c.output-output.ensures c.numbers_fit.ensures.output)

pub returns-clause-correct : goal.returns-clause-correct
returns-clause-correct c =
    let held = subst IsHeld c.self.view_is c.self.invariant in
    let none =
    subst (λ (own : CompiledContents). judged own.pipeline.inputs c.args.pictures.items ≡ None) c.self.view_is
    (ap (λ (inputs : List Input). judged inputs c.args.pictures.items) (sym c.inputs.ensures.value)
    ∙ (ap (λ (pictures : List PictureContents). judged c.inputs.result.now pictures) (sym c.deref.ensures.value) ∙ (sym c.judge.ensures ∙ c.in_default.is))) in
    correct c.args.self.now held c.args.pictures.items none (subst ArePictures c.deref-2.ensures.value c.in_ok-front.ensures.rules)

pub returns-clause-assigned : goal.returns-clause-assigned
returns-clause-assigned c =
    let held = subst IsHeld c.self.view_is c.self.invariant in
    let none =
    subst (λ (own : CompiledContents). judged own.pipeline.inputs c.args.pictures.items ≡ None) c.self.view_is
    (ap (λ (inputs : List Input). judged inputs c.args.pictures.items) (sym c.inputs.ensures.value)
    ∙ (ap (λ (pictures : List PictureContents). judged c.inputs.result.now pictures) (sym c.deref.ensures.value) ∙ (sym c.judge.ensures ∙ c.in_default.is))) in
    is-assigned c.args.self.now held c.args.pictures.items none (subst ArePictures c.deref-2.ensures.value c.in_ok-front.ensures.rules)

pub returns-clause-stages : goal.returns-clause-stages
returns-clause-stages c =
    let held = subst IsHeld c.self.view_is c.self.invariant in
    let none =
    subst (λ (own : CompiledContents). judged own.pipeline.inputs c.args.pictures.items ≡ None) c.self.view_is
    (ap (λ (inputs : List Input). judged inputs c.args.pictures.items) (sym c.inputs.ensures.value)
    ∙ (ap (λ (pictures : List PictureContents). judged c.inputs.result.now pictures) (sym c.deref.ensures.value) ∙ (sym c.judge.ensures ∙ c.in_default.is))) in
    stages-counted c.args.self.now held c.args.pictures.items none (subst ArePictures c.deref-2.ensures.value c.in_ok-front.ensures.rules)

pub returns-clause-runs : goal.returns-clause-runs
returns-clause-runs c =
    let held = subst IsHeld c.self.view_is c.self.invariant in
    let none =
    subst (λ (own : CompiledContents). judged own.pipeline.inputs c.args.pictures.items ≡ None) c.self.view_is
    (ap (λ (inputs : List Input). judged inputs c.args.pictures.items) (sym c.inputs.ensures.value)
    ∙ (ap (λ (pictures : List PictureContents). judged c.inputs.result.now pictures) (sym c.deref.ensures.value) ∙ (sym c.judge.ensures ∙ c.in_default.is))) in
    writes-whole-runs c.args.self.now held c.args.pictures.items none (subst ArePictures c.deref-2.ensures.value c.in_ok-front.ensures.rules)

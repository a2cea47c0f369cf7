use Rattle.std.proofs.Common.{◌≡◌, ◌≤◌, ◌+◌, ◌*◌, ℕ, List, Some, None, ◌++◌, map, sym, ap, subst, ◌∙◌}
use Rattle.halide_pipeline.specs.declared.definitions.Input.{Input}
use Rattle.bounds.specs.Layout.{input_bytes, total}
use Rattle.picture.specs.Evaluated.{judged}
use Rattle.hrv_compiler.specs.Assigned.{IsAssigned}
use Rattle.hrv_compiler.specs.Compiled.{CompiledContents, output_of}
use Rattle.hrv_compiler.specs.inner.Held.{IsHeld}
use Rattle.hrv_compiler.specs.Correct.{Correct}
use Rattle.hrv_compiler.specs.Images.{image_data, image_of}
use Rattle.hrv_compiler.specs.Runs.{WritesWholeRuns}
use Rattle.hrv_compiler.proofs.Correct.{correct, is-assigned, stages-counted}
use Rattle.hrv_compiler.proofs.Images.{is_ok, ok_is, parts_pass}
use Rattle.hrv_compiler.proofs.Low.{inputs_fit, lies_low}
use Rattle.hrv_compiler.proofs.Runs.{writes-whole-runs}
use Rattle.hrv_compiler.proofs.compiled.Compiled.image.Goals as goal

pub image_data-requires-clause-low : goal.image_data-requires-clause-low
image_data-requires-clause-low c = lies_low c.self.inside.pipeline c.self.inside.schedule c.self.inside.boxes c.self.invariant.compiled.inferred_is

pub image_data-requires-clause-room : goal.image_data-requires-clause-room
image_data-requires-clause-room c =
    subst (λ (inputs : List Input). 8 * c.self.inside.boxes.layout.phases + total (map input_bytes inputs) ≤ c.self.inside.boxes.layout.size)
    (sym c.inputs-2.ensures.value)
    (inputs_fit c.self.inside.pipeline c.self.inside.schedule c.self.inside.boxes c.self.invariant.compiled.inferred_is)

pub unwrap-requires : goal.unwrap-requires
unwrap-requires c =
    let own : CompiledContents = record {
      pipeline = c.self.inside.pipeline;
      schedule = c.self.inside.schedule;
      boxes = c.self.inside.boxes;
      words =
          c.self.inside.words.items;
      ends = c.self.inside.ends.items;
      stages = c.self.inside.stages.items;
    } in
    is_ok c.new.result (image_of own c.args.pictures.now)
    (c.new.ensures.exact
    ∙ parts_pass own c.self.invariant c.args.pictures.now (ap (λ (inputs : List Input). judged inputs c.args.pictures.now) (sym c.inputs.ensures.value)
    ∙ (sym c.judge.ensures ∙ c.in_default.is)) c.in_ok-data.ensures.rules c.extend_from_slice.new.self.items c.in_ok-data.data.items
    (Some c.output-output.result)
    (c.in_ok-extend_from_slice.ensures.items ∙ (ap (λ (l : List ℕ). l ++ c.as_slice.result.now) c.new-words.ensures.items ∙ c.as_slice.ensures.value))
    (c.in_ok-data.ensures.is ∙ ap (λ (inputs : List Input). image_data c.self.inside.boxes.layout inputs c.args.pictures.now) c.inputs-2.ensures.value)
    (subst (λ (own : CompiledContents). Some c.output-output.result ≡ output_of own.pipeline own.boxes) (sym c.self.view_is) c.output-output.ensures))

pub returns-clause-is : goal.returns-clause-is
returns-clause-is c =
    let own : CompiledContents = record {
      pipeline = c.self.inside.pipeline;
      schedule = c.self.inside.schedule;
      boxes = c.self.inside.boxes;
      words =
          c.self.inside.words.items;
      ends = c.self.inside.ends.items;
      stages = c.self.inside.stages.items;
    } in
    subst (λ (own : CompiledContents). c.unwrap.result ≡ image_of own c.args.pictures.now) c.self.view_is
    (ok_is c.new.result (image_of own c.args.pictures.now) c.unwrap.result
    (c.new.ensures.exact
    ∙ parts_pass own c.self.invariant c.args.pictures.now (ap (λ (inputs : List Input). judged inputs c.args.pictures.now) (sym c.inputs.ensures.value)
    ∙ (sym c.judge.ensures ∙ c.in_default.is)) c.in_ok-data.ensures.rules c.extend_from_slice.new.self.items c.in_ok-data.data.items
    (Some c.output-output.result)
    (c.in_ok-extend_from_slice.ensures.items ∙ (ap (λ (l : List ℕ). l ++ c.as_slice.result.now) c.new-words.ensures.items ∙ c.as_slice.ensures.value))
    (c.in_ok-data.ensures.is ∙ ap (λ (inputs : List Input). image_data c.self.inside.boxes.layout inputs c.args.pictures.now) c.inputs-2.ensures.value)
    (subst (λ (own : CompiledContents). Some c.output-output.result ≡ output_of own.pipeline own.boxes) (sym c.self.view_is) c.output-output.ensures))
    c.unwrap.ensures)

pub returns-clause-correct : goal.returns-clause-correct
returns-clause-correct c =
    let rules = subst IsHeld c.self.view_is c.self.invariant in
    let none =
    subst (λ (own : CompiledContents). judged own.pipeline.inputs c.args.pictures.now ≡ None) c.self.view_is
    (ap (λ (inputs : List Input). judged inputs c.args.pictures.now) (sym c.inputs.ensures.value) ∙ (sym c.judge.ensures ∙ c.in_default.is)) in
    subst (Correct c.args.self.now.pipeline c.args.pictures.now c.args.self.now.boxes.layout.phases) (sym (returns-clause-is c))
    (correct c.args.self.now rules c.args.pictures.now none c.in_ok-data.ensures.rules)

pub returns-clause-assigned : goal.returns-clause-assigned
returns-clause-assigned c =
    let rules = subst IsHeld c.self.view_is c.self.invariant in
    let none =
    subst (λ (own : CompiledContents). judged own.pipeline.inputs c.args.pictures.now ≡ None) c.self.view_is
    (ap (λ (inputs : List Input). judged inputs c.args.pictures.now) (sym c.inputs.ensures.value) ∙ (sym c.judge.ensures ∙ c.in_default.is)) in
    subst (IsAssigned c.args.self.now.pipeline c.args.self.now.schedule c.args.self.now.boxes c.args.pictures.now) (sym (returns-clause-is c))
    (is-assigned c.args.self.now rules c.args.pictures.now none c.in_ok-data.ensures.rules)

pub returns-clause-stages : goal.returns-clause-stages
returns-clause-stages c =
    let rules = subst IsHeld c.self.view_is c.self.invariant in
    let none =
    subst (λ (own : CompiledContents). judged own.pipeline.inputs c.args.pictures.now ≡ None) c.self.view_is
    (ap (λ (inputs : List Input). judged inputs c.args.pictures.now) (sym c.inputs.ensures.value) ∙ (sym c.judge.ensures ∙ c.in_default.is)) in
    stages-counted c.args.self.now rules c.args.pictures.now none c.in_ok-data.ensures.rules

pub returns-clause-runs : goal.returns-clause-runs
returns-clause-runs c =
    let rules = subst IsHeld c.self.view_is c.self.invariant in
    let none =
    subst (λ (own : CompiledContents). judged own.pipeline.inputs c.args.pictures.now ≡ None) c.self.view_is
    (ap (λ (inputs : List Input). judged inputs c.args.pictures.now) (sym c.inputs.ensures.value) ∙ (sym c.judge.ensures ∙ c.in_default.is)) in
    subst (WritesWholeRuns c.args.self.now) (sym (returns-clause-is c)) (writes-whole-runs c.args.self.now rules c.args.pictures.now none
    c.in_ok-data.ensures.rules)

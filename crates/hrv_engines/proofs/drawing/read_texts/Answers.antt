use Rattle.std.proofs.Common.{arith, ap, get_or, ◌∙◌, ◌<◌, ◌∷◌, [], length}
use Rattle.std.specs.Prelude.{map}
use Rattle.std.specs.String.{string_bytes}
use Rattle.std.proofs.lemmas.List.{map-append}
use Rattle.std.proofs.lemmas.Option.{slice_get-get_or}
use Rattle.hrv_engines.proofs.Sources.{all_gave, all_well, next_gave, next_well, none_gave, reads_no_texts, texts_lost}
use Rattle.hrv_engines.proofs.drawing.read_texts.Goals as goal

pub loop-source-init : goal.loop-source-init
loop-source-init g c = record {
  gave = rw c.new-texts.ensures.items (none_gave _ c.args.sources.now);
  well = all_well g.S.Source.failed c.args.sources.now;
}

pub returns-in_err-text : goal.returns-in_err-text
returns-in_err-text g c =
    let l = c.loop-source in
    let item = get_or l.sources l.source-index c.source-item.result in
    let in_range : l.source-index < length l.sources = omega arith in
    let here = slice_get-get_or l.sources l.source-index c.source-item.result in_range in
    reads_no_texts g.S.Source.place g.S.Source.failed g.S.Source.gave g.S.Source.ended (λ texts. map string_bytes texts.items) c.from_residual.result
    c.args.sources.now (map string_bytes l.texts.items) l.sources l.source-index item c.read_picture_text.new.source c.in_err-text.field-0.0
    c.from_residual.ensures.1
    l.invariant.gave l.invariant.well here c.in_err-text.ensures

pub returns-in_err-push : goal.returns-in_err-push
returns-in_err-push g c =
    let l = c.loop-source in
    let item = get_or l.sources l.source-index c.source-item.result in
    let in_range : l.source-index < length l.sources = omega arith in
    let here = slice_get-get_or l.sources l.source-index c.source-item.result in_range in
    texts_lost g.S.Source.place g.S.Source.failed g.S.Source.gave g.S.Source.ended (λ texts. map string_bytes texts.items) c.from_residual-in_err-push.result
    c.args.sources.now _ c.from_residual-in_err-push.ensures.1
    (next_well g.S.Source.failed c.args.sources.now l.sources l.source-index item c.read_picture_text.new.source l.invariant.well here c.in_ok-text.ensures.1)

pub loop-source-preserved : goal.loop-source-preserved
loop-source-preserved g c =
    let l = c.loop-source in
    let item = get_or l.sources l.source-index c.source-item.result in
    let in_range : l.source-index < length l.sources = omega arith in
    let here = slice_get-get_or l.sources l.source-index c.source-item.result in_range in
    let text = c.in_ok-text.text in
    let items = ap (map string_bytes) c.in_ok-push.ensures.items ∙ map-append string_bytes l.texts.items (text ∷ []) in
    record {
      gave = next_gave _ c.args.sources.now (map string_bytes l.texts.items) _ l.sources l.source-index item c.read_picture_text.new.source (string_bytes text)
          items
          l.invariant.gave here c.in_ok-text.ensures.0;
      well = next_well g.S.Source.failed c.args.sources.now l.sources l.source-index item c.read_picture_text.new.source l.invariant.well here
          c.in_ok-text.ensures.1;
    }

pub returns : goal.returns
returns g c =
    let l = c.loop-source in (
      all_gave _ c.args.sources.now (map string_bytes l.texts.items) l.sources l.source-index l.invariant.gave c.loop-source-test.false l.auto.source-index-end,
      l.invariant.well,
    )

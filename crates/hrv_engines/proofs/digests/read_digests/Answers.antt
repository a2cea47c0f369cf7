use Rattle.std.proofs.Common.{arith, ap, get_or, ◌∙◌, ◌<◌, ◌∷◌, [], length}
use Rattle.std.specs.Prelude.{map}
use Rattle.std.specs.String.{string_bytes}
use Rattle.std.proofs.lemmas.List.{map-append}
use Rattle.std.proofs.lemmas.Option.{slice_get-get_or}
use Rattle.hrv_engines.proofs.DigestedFiles.{digests_lost, reads_no_digests}
use Rattle.hrv_engines.proofs.Sources.{all_gave, all_well, next_gave, next_well, none_gave}
use Rattle.hrv_engines.proofs.digests.read_digests.Goals as goal

pub loop-file-init : goal.loop-file-init
loop-file-init g c = record {
  gave = rw c.new-digests.ensures.items (none_gave _ c.args.files.now);
  well = all_well g.S.Source.failed c.args.files.now;
}

pub returns-in_err-digest : goal.returns-in_err-digest
returns-in_err-digest g c =
    let l = c.loop-file in
    let item = get_or l.files l.file-index c.file-item.result in
    let in_range : l.file-index < length l.files = omega arith in
    let here = slice_get-get_or l.files l.file-index c.file-item.result in_range in
    reads_no_digests g.S.Source.place g.S.Source.failed g.S.Source.gave g.S.Source.ended (λ digests. digests.items) c.from_residual.result
    c.args.files.now l.digests.items l.files l.file-index item c.read_digest.new.file c.in_err-digest.field-0.0
    c.from_residual.ensures.1
    l.invariant.gave l.invariant.well here c.in_err-digest.ensures

pub returns-in_err-push : goal.returns-in_err-push
returns-in_err-push g c =
    let l = c.loop-file in
    let item = get_or l.files l.file-index c.file-item.result in
    let in_range : l.file-index < length l.files = omega arith in
    let here = slice_get-get_or l.files l.file-index c.file-item.result in_range in
    digests_lost g.S.Source.place g.S.Source.failed g.S.Source.gave g.S.Source.ended (λ digests. digests.items) c.from_residual-in_err-push.result
    c.args.files.now _ c.from_residual-in_err-push.ensures.1
    (next_well g.S.Source.failed c.args.files.now l.files l.file-index item c.read_digest.new.file l.invariant.well here c.in_ok-digest.ensures.1)

pub loop-file-preserved : goal.loop-file-preserved
loop-file-preserved g c =
    let l = c.loop-file in
    let item = get_or l.files l.file-index c.file-item.result in
    let in_range : l.file-index < length l.files = omega arith in
    let here = slice_get-get_or l.files l.file-index c.file-item.result in_range in
    let digest = c.in_ok-digest.digest in
    let items = c.in_ok-push.ensures.items in
    record {
      gave = next_gave _ c.args.files.now l.digests.items _ l.files l.file-index item c.read_digest.new.file digest
          items
          l.invariant.gave here c.in_ok-digest.ensures.0;
      well = next_well g.S.Source.failed c.args.files.now l.files l.file-index item c.read_digest.new.file l.invariant.well here
          c.in_ok-digest.ensures.1;
    }

pub returns : goal.returns
returns g c =
    let l = c.loop-file in (
      all_gave _ c.args.files.now l.digests.items l.files l.file-index l.invariant.gave c.loop-file-test.false l.auto.file-index-end,
      l.invariant.well,
    )

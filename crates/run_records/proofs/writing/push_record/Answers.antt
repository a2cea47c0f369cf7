use Rattle.std.proofs.Common.{◌++◌, ◌∷◌, [], codes, refl}
use Rattle.std.specs.Fmt.{decimal}
use Rattle.hex.specs.Hex.{encode_lower}
use Rattle.run_records.specs.RecordText.{contents_of, ending_text}
use Rattle.run_records.proofs.Pushing.{all_pushed, line_further}
use Rattle.run_records.proofs.writing.push_record.Goals as goal

pub returns : goal.returns
returns c =
    let r = contents_of c.args.record.now in
    let ending = codes "ending " ++ ending_text r.ending in
    let limit = codes "limit " ++ decimal r.limit in
    let harts = codes "harts " ++ decimal r.harts in
    let log = codes "log " ++ encode_lower r.log in
    let image = codes "image " ++ encode_lower r.image in
    let logic = codes "logic " ++ r.logic in
    let version = codes "version " ++ r.version in
    let heading = codes "record 1" in
    all_pushed _ _ (line_further _ _ _ ending [] c.in_ok-push_ending.ensures
    (line_further _ _ _ limit (ending ∷ []) c.in_ok-push_number-2.ensures
    (line_further _ _ _ harts (limit ∷ ending ∷ []) c.in_ok-push_number.ensures
    (line_further _ _ _ log (harts ∷ limit ∷ ending ∷ []) c.in_ok-push_digest-2.ensures
    (line_further _ _ _ image (log ∷ harts ∷ limit ∷ ending ∷ []) c.in_ok-push_digest.ensures
    (line_further _ _ _ logic (image ∷ log ∷ harts ∷ limit ∷ ending ∷ []) c.in_ok-push_item-2.ensures
    (line_further _ _ _ version (logic ∷ image ∷ log ∷ harts ∷ limit ∷ ending ∷ []) c.in_ok-push_item.ensures
    (line_further _ _ _ heading (version ∷ logic ∷ image ∷ log ∷ harts ∷ limit ∷ ending ∷ []) c.in_ok-extend_from_slice.ensures.items
    refl))))))))

use Rattle.std.proofs.Common.{◌≡◌, ◌∙◌, ◌++◌, [], ap, arith, append_assoc, drop, length, subst, sym, take}
use Rattle.std.specs.Str.{IsUtf8}
use Rattle.std.proofs.lemmas.List.{length-drop, take-append-drop}
use Rattle.std.proofs.lemmas.Str.{IsUtf8-append}
use Rattle.hrv_engines.specs.inner.Fronts.{IsLongestText, Keeps}
use Rattle.hrv_engines.proofs.TextFronts.{left_none, none_behind}
use Rattle.hrv_engines.proofs.texts.Reading.take.Goals as goal

pub returns-then-len-valid-gt3-clause-took : goal.returns-then-len-valid-gt3-clause-took
returns-then-len-valid-gt3-clause-took c all so_far =
    let old = c.args.self.now.unended.items in
    let bytes = old ++ c.args.piece.now in
    let same : c.deref.result.now ≡ bytes = c.deref.ensures.value ∙ c.in_ok-extend_from_slice.ensures.items in
    let longest : IsLongestText bytes c.valid_len-valid.result = subst (λ all. IsLongestText all c.valid_len-valid.result) same c.valid_len-valid.ensures in
    none_behind so_far.passed old c.args.piece.now all c.valid_len-valid.result so_far.parts so_far.is_text longest
    (omega (arith, c.if-len-valid-gt3.true, c.len.ensures, ap length c.in_ok-extend_from_slice.ensures.items, longest.within))

pub returns-clause-took : goal.returns-clause-took
returns-clause-took c all so_far =
    let old = c.args.self.now.unended.items in
    let bytes = old ++ c.args.piece.now in
    let count = c.valid_len-valid.result in
    let same : c.deref.result.now ≡ bytes = c.deref.ensures.value ∙ c.in_ok-extend_from_slice.ensures.items in
    let longest : IsLongestText bytes count = subst (λ all. IsLongestText all count) same c.valid_len-valid.ensures in
    let whole : c.deref-2.result.now ≡ bytes = c.deref-2.ensures.value ∙ c.in_ok-extend_from_slice.ensures.items in
    let front = ap (take count) whole in
    let back = c.in_ok-rest.ensures.items ∙ c.split_at.ensures.back ∙ ap (drop count) whole in
    record {
      passed = so_far.passed ++ take count bytes;
      parts = ap (λ rest. (so_far.passed ++ take count bytes) ++ rest) back ∙ append_assoc so_far.passed (take count bytes) (drop count bytes)
          ∙ ap (λ both. so_far.passed ++ both) (take-append-drop count bytes)
          ∙ sym (append_assoc so_far.passed old c.args.piece.now)
          ∙ ap (λ front. front ++ c.args.piece.now) so_far.parts;
      is_text = IsUtf8-append so_far.passed (take count bytes) so_far.is_text longest.front;
      kept = subst (λ (front : _). Keeps c.push.new.self (so_far.passed ++ front)) (c.split_at.ensures.front ∙ front)
          (c.in_ok-push.ensures.keeps so_far.passed so_far.kept (subst IsUtf8 (sym (c.split_at.ensures.front ∙ front)) longest.front));
      few = omega (
        arith,
        c.if-len-valid-gt3.false,
        c.len.ensures,
        ap length c.in_ok-extend_from_slice.ensures.items,
        ap length back,
        length-drop count bytes,
      );
      unended = subst (λ rest. (rest ≡ [] → ⊥) → IsUtf8 rest → ⊥) (sym back) (left_none bytes count longest);
    }

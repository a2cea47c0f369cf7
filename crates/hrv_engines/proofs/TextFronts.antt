-- Texts that come in pieces: where a text begins with bytes, all but three of these at most are a text.
use Rattle.std.proofs.Common.{◌≡◌, ◌∙◌, ◌<◌, ◌≤◌, ◌+◌, ◌⊎◌, ℕ, Bool, true, false, List, [], ◌∷◌, ◌++◌, length, take, drop, arith, refl, sym, ap, cond, subst, inl, inr}
use Rattle.std.proofs.Common.{append_assoc}
use Rattle.std.specs.Prelude.{◌&&◌, ◌≢◌, Result, Ok, Err, nat_eq}
use Rattle.std.specs.List.{prefix_len}
use Rattle.std.specs.Str.{IsUtf8, encode_utf8_all, all_scalars}
use Rattle.std.specs.Char.{encode_utf8}
use Rattle.std.specs.String.{string_bytes}
use lib.Utf8.{scalar}
use Rattle.std.proofs.Math.Seq.{drop-append_seam, take-add, take-append_seam}
use Rattle.std.proofs.Common.{true≢false}
use Rattle.std.proofs.lemmas.Bool.{and_parts, cases_lt, eq-eqb, eqb-true}
use Rattle.std.proofs.lemmas.List.Sums.{prefix_len-le-length}
use Rattle.std.proofs.lemmas.List.{append-nil, drop-append-le, length-append, length-drop, take-append-drop, take-append-le, take_all}
use Rattle.std.proofs.lemmas.List.Folds.{prefix_len-append}
use Rattle.std.proofs.lemmas.Str.{IsCharBoundary-from_take, IsUtf8-append, IsUtf8-drop, IsUtf8-encode, IsUtf8-nil, len_utf8_bounds, length-encode}
use Rattle.hrv_engines.specs.declared.faults.Fault.{Fault}
use Rattle.hrv_engines.specs.declared.faults.Fault.TheVariants.{Refused, File, Memory, Thread}
use Rattle.hrv_engines.specs.declared.texts.Extent.{Extent}
use Rattle.hrv_engines.specs.declared.texts.KeptFront.{KeptFront}
use Rattle.hrv_engines.specs.declared.texts.Extent.TheVariants.{All}
use Rattle.hrv_engines.specs.Devices.{BeginsNoText, text_of}
use Rattle.hrv_engines.specs.Engine.{Reads}
use Rattle.hrv_engines.specs.inner.Fronts.{Decides, IsLineTold, IsLongestText, KeepsIf, KeepsOf, is_of_tokens, kept_text_of}

-- a front of the bytes that is a text, without three of them at most
record HasFront (bytes : List ℕ) : Type 0 where
  count : ℕ
  within : count ≤ length bytes
  near : length bytes ≤ count + 3
  front : IsUtf8 (take count bytes)

by_chars : (cs bytes rest : List ℕ) → all_scalars cs ≡ true → encode_utf8_all cs ≡ bytes ++ rest → HasFront bytes
by_chars [] [] rest ok e = record { count = 0; within = omega arith; near = omega arith; front = IsUtf8-nil }
by_chars [] (byte ∷ bytes) rest ok e = absurd cc
by_chars (c ∷ cs) bytes rest ok e = elim (cases_lt (length bytes) (length (encode_utf8 c))) [
  | inl short ↦
      record { count = 0; within = omega arith; near = omega (arith, short, length-encode c, (len_utf8_bounds c).1); front = IsUtf8-nil }
  | inr whole ↦
      let parts = and_parts (scalar c) (all_scalars cs) ok in
      let count = length (encode_utf8 c) in
      let first : take count bytes ≡ encode_utf8 c = sym (take-append-le count bytes rest whole) ∙ ap (take count) (sym e)
      ∙ take-append_seam (encode_utf8 c) (encode_utf8_all cs) in
      let later : encode_utf8_all cs ≡ drop count bytes ++ rest = sym (drop-append_seam (encode_utf8 c) (encode_utf8_all cs)) ∙ ap (drop count) e
      ∙ drop-append-le count bytes rest whole in
      let found = by_chars cs (drop count bytes) rest parts.1 later in
      let left = length-drop count bytes in
      record {
        count = count + found.count;
        within = omega (arith, found.within, left, whole);
        near = omega (arith, found.near, left, whole);
        front = subst IsUtf8 (sym (take-add count found.count bytes ∙ ap (λ front. front ++ take found.count (drop count bytes)) first))
            (IsUtf8-append (encode_utf8 c) (take found.count (drop count bytes)) (IsUtf8-encode c parts.0) found.front);
      }
]

begins_none : (bytes : List ℕ) (count : ℕ) → IsLongestText bytes count → count + 3 < length bytes → BeginsNoText bytes
begins_none bytes count is long rest text =
    let found = by_chars text.0 bytes rest text.1.0 text.1.1 in
    is.longest found.count (omega (arith, found.near, long)) found.within found.front

-- after a text is a text, where both are one
pub behind_text : (front rest : List ℕ) → IsUtf8 front → IsUtf8 (front ++ rest) → IsUtf8 rest
behind_text front rest is whole =
    let taken : IsUtf8 (take (length front) (front ++ rest)) = subst IsUtf8 (sym (take-append_seam front rest)) is in
    let within : length front ≤ length (front ++ rest) = omega (arith, length-append front rest) in
    subst IsUtf8 (drop-append_seam front rest)
    (IsUtf8-drop (front ++ rest) (length front) whole (IsCharBoundary-from_take (front ++ rest) (length front) whole within taken))

-- what comes after a text begins none
pub none_behind : (passed unended piece all : List ℕ) (count : ℕ) → passed ++ unended ≡ all → IsUtf8 passed → IsLongestText (unended ++ piece) count
    → count + 3 < length (unended ++ piece) → BeginsNoText (all ++ piece)
none_behind passed unended piece all count parts is longest long rest text =
    let whole : (all ++ piece) ++ rest ≡ passed ++ ((unended ++ piece) ++ rest) = ap (λ front. (front ++ piece) ++ rest) (sym parts)
    ∙ ap (λ front. front ++ rest) (append_assoc passed unended piece)
    ∙ append_assoc passed (unended ++ piece) rest in
    begins_none (unended ++ piece) count longest long rest (behind_text passed ((unended ++ piece) ++ rest) is (subst IsUtf8 whole text))

-- what is left after the longest text is none
pub left_none : (bytes : List ℕ) (count : ℕ) → IsLongestText bytes count → drop count bytes ≢ [] → IsUtf8 (drop count bytes) → ⊥
left_none bytes count is some text =
    let whole : IsUtf8 bytes = subst IsUtf8 (take-append-drop count bytes) (IsUtf8-append (take count bytes) (drop count bytes) is.front text) in
    elim (cases_lt count (length bytes)) [
      | inl short ↦
          is.longest (length bytes) short (omega arith) (subst IsUtf8 (sym (take_all (length bytes) bytes (omega arith))) whole)
      | inr all ↦ some (none_left count bytes all)
    ]
  where
    empty : (ys : List ℕ) → length ys ≡ 0 → ys ≡ []
    empty [] e = refl
    empty (y ∷ ys) e = cc

    none_left : (n : ℕ) (xs : List ℕ) → length xs ≤ n → drop n xs ≡ []
    none_left n xs le = empty (drop n xs) (omega (arith, length-drop n xs, le))

-- ---- bytes of an algorithm's first line

-- more bytes after it leave it told
pub still_told : (text more : List ℕ) → IsLineTold text → IsLineTold (text ++ more)
still_told text more told = by (nat_eq (prefix_len is_of_tokens text) (length text)) refl
  where
    by : (all : Bool) → nat_eq (prefix_len is_of_tokens text) (length text) ≡ all → IsLineTold (text ++ more)
    by true is = absurd (omega (arith, told, eqb-true _ _ is))
    by false is =
        let same : prefix_len is_of_tokens (text ++ more) ≡ prefix_len is_of_tokens text = prefix_len-append is_of_tokens text more ∙ rw is refl in
        omega (arith, same, told, length-append text more)

pub told_behind : (text more : List ℕ) → IsLineTold more → IsLineTold (text ++ more)
told_behind text more told = by (nat_eq (prefix_len is_of_tokens text) (length text)) refl
  where
    by : (all : Bool) → nat_eq (prefix_len is_of_tokens text) (length text) ≡ all → IsLineTold (text ++ more)
    by true is =
        let same : prefix_len is_of_tokens (text ++ more) ≡ length text + prefix_len is_of_tokens more = prefix_len-append is_of_tokens text more ∙ rw is refl in
        omega (arith, same, told, length-append text more)
    by false is =
        let same : prefix_len is_of_tokens (text ++ more) ≡ prefix_len is_of_tokens text = prefix_len-append is_of_tokens text more ∙ rw is refl in
        let short : prefix_len is_of_tokens text ≤ length text = prefix_len-le-length is_of_tokens text in
        let other : prefix_len is_of_tokens text ≡ length text → ⊥ = λ e. differ is (eq-eqb _ _ e) in
        omega (arith, same, short, length-append text more, told)
      where
        differ : nat_eq (prefix_len is_of_tokens text) (length text) ≡ false → nat_eq (prefix_len is_of_tokens text) (length text) ≡ true → ⊥
        differ differing same = true≢false (sym same ∙ differing)

-- ---- a front that is kept

pub kept_if : (kept : KeptFront) (text : List ℕ) → kept.bytes.items ≡ text → (kept.is_enough ≡ true → Decides kept.extent kept.bytes.items)
    → KeepsIf kept.is_enough kept text
kept_if kept text whole decides = by kept.is_enough refl
  where
    by : (enough : Bool) → kept.is_enough ≡ enough → KeepsIf enough kept text
    by true is = (decides is, ([], append-nil kept.bytes.items ∙ whole))
    by false is = whole

pub all_so_far : (kept : KeptFront) (text : List ℕ) → kept.is_enough ≡ false → KeepsIf kept.is_enough kept text → kept.bytes.items ≡ text
all_so_far kept text is keeps = subst (λ enough. KeepsIf enough kept text) is keeps

-- ---- a text of which all is kept

module _ {S : Type 0} (place_of : S → List ℕ) (failures : S → ℕ) (gave : S → List ℕ → S → Type 0) (ended : S → Type 0) (before after : S) where
  pub all_kept : {X : Type 0} (value : X → List ℕ) (r : Result X Fault) → Reads value (kept_text_of All place_of failures gave ended before after) r
      → Reads value (text_of place_of failures gave ended before after) r
  all_kept value (Ok x) p = (given (value x) p.0.0 p.0.1 (p.0.2, p.0.3, p.0.4), p.1)
    where
      given : (kept text : List ℕ) → KeepsOf All kept text → (IsUtf8 text × gave before text after × ended after)
          → IsUtf8 kept × gave before kept after × ended after
      given kept text (inl same) is = subst (λ t. IsUtf8 t × gave before t after × ended after) (sym same) is
      given kept text (inr none) is = absurd none.0
  all_kept value (Err (Refused refusal)) p = p
  all_kept value (Err (File path)) p = p
  all_kept value (Err Memory) p = p
  all_kept value (Err Thread) p = p

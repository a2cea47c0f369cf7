-- Rows of pictures and of tables, as far as they are known.
use Rattle.std.proofs.Common.{◌≡◌, ◌-◌, inl, inr, ◌∙◌, ℕ, ◌+◌, ◌*◌, ◌^◌, ◌<◌, ◌≤◌, Some, List, [], ◌∷◌, ◌++◌, zero, suc, Vec, length, refl, take, drop, get_or}
use Rattle.std.proofs.Common.{sym, ap, subst, arith}
use Rattle.std.proofs.lemmas.Bool.{lt-ltb, cases_lt}
use Rattle.std.proofs.lemmas.List.{length-append, get_or-append_right}
use Rattle.std.proofs.Math.ListN.{get_or-append}
use Rattle.std.specs.Prelude.{nat_lt, true}
use Rattle.std.specs.Vec.{with_items}
use Rattle.std.specs.declared.alloc.Global.{Global}
use Rattle.halide_pipeline.specs.Words as word
use Rattle.halide_pipeline.specs.Contents.{PictureContents, pixel_at}
use Rattle.halide_pipeline.specs.Pixel.{Plane, input_plane}
use Rattle.picture.specs.declared.scenes.Table.{Table}
use Rattle.picture.specs.inner.Evaluation.{IsTable}
use Rattle.picture.proofs.Tables.{pixel_at_place}
use Rattle.picture_rows.specs.Rows.{AreValues, IsRow, IsWindow}
use Rattle.picture_rows.specs.declared.rows.Row.TheVariants as rows
use Rattle.picture_rows.specs.declared.windows.Window.{Window}

-- a window of one row is a window of any that answers the same
pub window-of-same : (says other : ℕ → ℕ) (window : Window) → ((x : ℕ) → says x ≡ other x) → IsWindow says window → IsWindow other window
window-of-same says other window same is = record {
  few = is.few;
  each = λ at less. is.each at less ∙ same (word.add window.first at);
}

-- values that are written down are a row's
pub written-row : (width : ℕ) (says : ℕ → ℕ) (written : List ℕ) (values : Vec ℕ Global) → values.items ≡ written → AreValues width says written
    → IsRow width says (rows.Each values)
written-row width says written values same are =
    let all : AreValues width says values.items = subst (λ (items : List ℕ). AreValues width says items) (sym same) are in
    record { len = all.len; each = all.each }

refilled-to : (n : ℕ) (words others : List ℕ) → n ≡ length words → take n (words ++ others) ≡ words
refilled-to zero [] others few = refl
refilled-to zero (word ∷ words) others few = absurd (omega arith)
refilled-to (suc n) [] others few = absurd (omega arith)
refilled-to (suc n) (word ∷ words) others few = ap (λ (rest : List ℕ). word ∷ rest) (refilled-to n words others (omega arith))

pub refilled : (values : Vec ℕ Global) (words : List ℕ) → length words ≡ length values.items → (with_items values words).items ≡ words
refilled values words long = refilled-to values.len words (drop (length words) values.items) (omega (arith, long, values.ok))

-- words in place of columns
pub fetched-row : (width : ℕ) (says : ℕ → ℕ) (columns before words : List ℕ) (values : Vec ℕ Global) → before ≡ columns → length columns ≡ width
    → values.items ≡ words
    → AreValues (length before) (λ at. says (get_or before at 0)) words → IsRow width (λ at. says (get_or columns at 0)) (rows.Each values)
fetched-row width says columns before words values same long are_words are =
    let all : AreValues (length columns) (λ at. says (get_or columns at 0)) words = subst (λ (items : List ℕ). AreValues (length items)
    (λ at. says (get_or items at 0)) words) same are in
    let wide : AreValues width (λ at. says (get_or columns at 0)) words = subst (λ (n : ℕ). AreValues n (λ at. says (get_or columns at 0)) words) long all in
    written-row width (λ at. says (get_or columns at 0)) words values are_words wide

-- ---- pictures

from-zero : (at : ℕ) → at < 2 ^ 32 → word.add 0 at ≡ at
unfolding word.add
from-zero at small = omega arith

inside : (picture : PictureContents) (x y : ℕ) → x < picture.width → y < picture.height → input_plane (Some picture) x y ≡ pixel_at picture x y
inside picture x y wide high =
    let left : nat_lt x picture.width ≡ true = lt-ltb x picture.width wide in
    let top : nat_lt y picture.height ≡ true = lt-ltb y picture.height high in
    rw (left, top)

pub picture-row : (picture : PictureContents) (y : ℕ) (window : Window) → y < picture.height → picture.width ≤ 2 ^ 32 → window.first ≡ 0
    → AreValues picture.width (λ at. get_or picture.pixels (y * picture.width + at) 0) window.values.now → IsWindow (λ x. input_plane (Some picture) x y) window
picture-row picture y window high few first are = record {
  few = omega (arith, are.len);
  each = λ at less.
      let wide : at < picture.width = omega (arith, are.len, less) in
      let here : word.add window.first at ≡ at = ap (λ (n : ℕ). word.add n at) first ∙ from-zero at (omega arith) in
      are.each at wide ∙ sym (ap (λ (x : ℕ). input_plane (Some picture) x y) here ∙ inside picture at y wide high);
}

-- ---- tables

back-from : (left at : ℕ) → left < 2 ^ 32 → at < 2 ^ 32 → at ≡ word.subtract (word.add left at) left
unfolding word.add word.subtract
back-from left at low small = omega arith

pub is-word : (x y : ℕ) → word.add x y < 2 ^ 32
unfolding word.add
is-word x y = omega arith

pub table-row : (plane : Plane) (table : Table) (y row from : ℕ) (window : Window) → IsTable plane table → y < 2 ^ 32 → table.left < 2 ^ 32 → table.top < 2 ^ 32
    → table.width < 2 ^ 32 → row ≡ word.subtract y table.top → row < table.height → from ≡ row * table.pitch → window.first ≡ table.left
    → AreValues table.width (λ at. get_or table.pixels.items (from + at) 0) window.values.now → IsWindow (λ x. plane x y) window
table-row plane table y row from window is small_y small_left small_top small_width row_is high from_is first are = record {
  few = omega (arith, are.len);
  each = λ at less.
      let wide : at < table.width = omega (arith, are.len, less) in
      let there = pixel_at_place table plane (word.add table.left at) y at row (from + at) is (is-word table.left at) small_y small_left small_top
      (back-from table.left at small_left (omega arith)) row_is wide high (ap (λ (n : ℕ). n + at) from_is) in
      are.each at wide ∙ there.1 ∙ ap (λ (n : ℕ). plane (word.add n at) y) (sym first);
}

-- ---- stretches

goes-further : (left from k : ℕ) → word.add (word.add left from) k ≡ word.add left (from + k)
unfolding word.add
goes-further left from k = omega arith

-- a stretch after what is from a column on
pub one-more-stretch : (plane : Plane) (left y from count whole : ℕ) (pixels stretch next : List ℕ) → AreValues from (λ at. plane (word.add left at) y) pixels
    → AreValues count (λ at. plane (word.add (word.add left from) at) y) stretch → next ≡ pixels ++ stretch → whole ≡ from + count
    → AreValues whole (λ at. plane (word.add left at) y) next
one-more-stretch plane left y from count whole pixels stretch next are more joined whole_is =
    subst (λ (all : List ℕ). AreValues whole (λ at. plane (word.add left at) y) all) (sym joined) (record { len = len; each = each })
  where
    len : length (pixels ++ stretch) ≡ whole
    len = omega (arith, length-append pixels stretch, are.len, more.len, whole_is)

    each : (at : ℕ) → at < whole → get_or (pixels ++ stretch) at 0 ≡ plane (word.add left at) y
    each at less = elim (cases_lt at (length pixels)) [
      | inl before ↦ get_or-append pixels stretch 0 at before ∙ are.each at (omega (arith, before, are.len))
      | inr behind ↦
          let place : from + (at - length pixels) ≡ at = omega (arith, are.len, behind) in
          get_or-append_right pixels stretch (length pixels) at 0 refl behind ∙ more.each (at - length pixels) (omega (arith, less, whole_is, are.len, behind))
          ∙ ap (λ (x : ℕ). plane x y) (goes-further left from (at - length pixels) ∙ ap (word.add left) place)
    ]

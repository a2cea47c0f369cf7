-- Stores of pixels that stand equally far apart in a table.
use Rattle.std.proofs.Common.{◌≡◌, ℕ, zero, suc, ◌+◌, ◌-◌, ◌*◌, ◌^◌, ◌<◌, ◌≤◌, List, ◌++◌, length, get_or, set, inl, inr, refl, sym, ap, ◌∙◌, arith}
use Rattle.std.proofs.lemmas.Bool.{cases_lt}
use Rattle.std.proofs.lemmas.List.{length-append, length-set, get_or-append_right, get_or-set_same, get_or-set_other}
use Rattle.std.proofs.Math.ListN.{get_or-append}
use Rattle.std.proofs.Math.Nat.{mul-le-mul_right}
use Rattle.halide_pipeline.specs.Words as word
use Rattle.halide_pipeline.specs.Pixel.{Plane}
use Rattle.picture.specs.declared.scenes.Table.{Table}
use Rattle.picture.specs.declared.together.StoreRow.{StoreRow}
use Rattle.picture.specs.inner.Apart.{stored, AreBelow, AreBeside, IsOffset}
use Rattle.picture.specs.inner.Evaluation.{ArePixels, IsAt, IsNumberedRow, IsTable}
use Rattle.picture.specs.inner.Together.{with_stores}
use Rattle.picture.proofs.Along.{is-word}
use Rattle.picture.proofs.Tables.{pixel_at_place}
use Rattle.picture.proofs.SideBySide.{pixels-same, put-pixel, with_pixel}
use Rattle.picture_rows.specs.Rows.{value_at, AreValues}

-- ---- offsets

-- words up to the last one
pub last-within : (len from apart count at last : ℕ) → at < count → last ≡ (count - 1) * apart → from + last < len → from + at * apart < len
last-within len from apart count at last less last_is within =
    let up : at * apart ≤ (count - 1) * apart = mul-le-mul_right apart (omega (arith, less)) in
    omega (arith, up, last_is, within)

further : (first corner at : ℕ) → first < 2 ^ 32 → corner < 2 ^ 32 → word.subtract first corner + at < 2 ^ 32
    → word.subtract (word.add first at) corner ≡ word.subtract first corner + at
unfolding word.add word.subtract
further first corner at fits corner_fits small = omega (arith, fits, corner_fits, small)

pub beside : (table : Table) (column line count from left top : ℕ) → column < 2 ^ 32 → line < 2 ^ 32 → table.left < 2 ^ 32 → table.top < 2 ^ 32
    → table.width < 2 ^ 32 → table.height < 2 ^ 32
    → left ≡ word.subtract column table.left → top ≡ word.subtract line table.top → left + count ≤ table.width → top < table.height
    → from ≡ top * table.pitch + left → ((at : ℕ) → at < count → from + at * 1 < length table.pixels.items) → AreBeside table column line count from
beside table column line count from left top fits_x fits_y fits_left fits_top fits_width fits_height left_is top_is wide high from_is within = record {
  each = λ at less.
      let on : word.subtract (word.add column at) table.left ≡ word.subtract column table.left + at =
      further column table.left at fits_x fits_left (omega (arith, left_is, wide, less, fits_width)) in
      let lines : top * table.pitch ≡ word.subtract line table.top * table.pitch = ap (λ (n : ℕ). n * table.pitch) top_is in
      record {
        x_fits = is-word column at;
        y_fits = fits_y;
        left_fits = fits_left;
        top_fits = fits_top;
        width_fits = omega (arith, fits_width);
        height_fits = omega (arith, fits_height);
        wide = omega (arith, on, left_is, wide, less);
        high = omega (arith, top_is, high);
        is = omega (arith, on, lines, from_is, left_is);
        within = within at less;
      };
}

pub below : (table : Table) (column line count from left top : ℕ) → column < 2 ^ 32 → line < 2 ^ 32 → table.left < 2 ^ 32 → table.top < 2 ^ 32
    → table.width < 2 ^ 32 → table.height < 2 ^ 32
    → left ≡ word.subtract column table.left → top ≡ word.subtract line table.top → left < table.width → top + count ≤ table.height
    → from ≡ top * table.pitch + left → ((at : ℕ) → at < count → from + at * table.pitch < length table.pixels.items) → AreBelow table column line count from
below table column line count from left top fits_x fits_y fits_left fits_top fits_width fits_height left_is top_is wide high from_is within = record {
  each = λ at less.
      let on : word.subtract (word.add line at) table.top ≡ word.subtract line table.top + at =
      further line table.top at fits_y fits_top (omega (arith, top_is, high, less, fits_height)) in
      let row : word.subtract (word.add line at) table.top ≡ top + at = omega (arith, on, top_is) in
      let lines : word.subtract (word.add line at) table.top * table.pitch ≡ (top + at) * table.pitch = ap (λ (n : ℕ). n * table.pitch) row in
      let split : (top + at) * table.pitch ≡ top * table.pitch + at * table.pitch = omega arith in
      record {
        x_fits = fits_x;
        y_fits = is-word line at;
        left_fits = fits_left;
        top_fits = fits_top;
        width_fits = omega (arith, fits_width);
        height_fits = omega (arith, fits_height);
        wide = omega (arith, left_is, wide);
        high = omega (arith, row, high, less);
        is = omega (arith, lines, split, from_is, left_is);
        within = within at less;
      };
}

-- the pixels of a column, fetched
pub column-of : (plane : Plane) (table : Table) (column line width from apart len : ℕ) (words values written : List ℕ) → IsTable plane table
    → AreBelow table column line width from
    → AreValues len (λ at. get_or words (from + at * apart) 0) written → words ≡ table.pixels.items → apart ≡ table.pitch → len ≡ width → values ≡ written
    → AreValues width (λ at. plane column (word.add line at)) values
column-of plane table column line width from apart len words values written is offsets are words_are apart_is len_is values_are = record {
  len = ap length values_are ∙ are.len ∙ len_is;
  each = λ at less.
      let offset = offsets.each at less in
      ap (λ (all : List ℕ). get_or all at 0) values_are ∙ are.each at (omega (arith, less, len_is))
      ∙ ap (λ (all : List ℕ). get_or all (from + at * apart) 0) words_are ∙ ap (λ (n : ℕ). get_or table.pixels.items (from + at * n) 0) apart_is
      ∙ (pixel_at_place table plane column (word.add line at) (word.subtract column table.left) (word.subtract (word.add line at) table.top)
      (from + at * table.pitch) is offset.x_fits offset.y_fits offset.left_fits offset.top_fits refl refl offset.wide offset.high offset.is).1;
}

-- ---- stores

pub none-stored : (values : List ℕ) (from apart : ℕ) (words : List ℕ) → words ≡ stored values from apart 0 words
unfolding stored
none-stored values from apart words = refl

pub one-more-store : (values : List ℕ) (from apart count : ℕ) (words now next : List ℕ) → now ≡ stored values from apart count words
    → next ≡ set now (from + count * apart) (get_or values count 0) → next ≡ stored values from apart (count + 1) words
unfolding stored
one-more-store values from apart count words now next now_is next_is =
    let e : suc count ≡ count + 1 = omega arith in
    next_is ∙ ap (λ (all : List ℕ). set all (from + count * apart) (get_or values count 0)) now_is ∙ ap (λ (n : ℕ). stored values from apart n words) e

pub length-stored : (values : List ℕ) (from apart count : ℕ) (words : List ℕ) → length (stored values from apart count words) ≡ length words
unfolding stored
length-stored values from apart zero words = refl
length-stored values from apart (suc count) words =
    length-set (stored values from apart count words) (from + count * apart) (get_or values count 0) ∙ length-stored values from apart count words

-- the stores of a line are those of its points, one after the other
pub stores-in : (row : StoreRow) (plane : Plane) (table : Table) (from apart : ℕ) (values : List ℕ)
    → ArePixels plane table.left table.top table.width table.pitch table.height table.pixels.items → (count : ℕ)
    → ((at : ℕ) → at < count → IsOffset table (value_at row.x at) (value_at row.y at) (from + at * apart))
    → ((at : ℕ) → at < count → value_at row.value at ≡ get_or values at 0)
    → ArePixels (with_stores row count plane) table.left table.top table.width table.pitch table.height (stored values from apart count table.pixels.items)
unfolding stored with_stores
stores-in row plane table from apart values are zero offsets values_are =
    pixels-same plane (with_stores row 0 plane) table.left table.top table.width table.pitch table.height table.pixels.items (λ column line wide high. refl) are
stores-in row plane table from apart values are (suc count) offsets values_are =
    let before = stored values from apart count table.pixels.items in
    let at = from + count * apart in
    let offset = offsets count (omega arith) in
    let x = value_at row.x count in
    let y = value_at row.y count in
    let within : at < length before = omega (arith, offset.within, length-stored values from apart count table.pixels.items) in
    let others = stores-in row plane table from apart values are count (λ k less. offsets k (omega (arith, less)))
    (λ k less. values_are k (omega (arith, less))) in
    pixels-same (with_pixel x y (value_at row.value count) (with_stores row count plane)) (with_stores row (suc count) plane) table.left table.top table.width
    table.pitch table.height (set before at (get_or values count 0)) (λ column line wide high. refl)
    (put-pixel (with_stores row count plane) table.left table.top table.width table.pitch table.height before (set before at (get_or values count 0)) x y
    (value_at row.value count) (word.subtract x table.left) (word.subtract y table.top) at others offset.width_fits offset.height_fits offset.x_fits offset.y_fits offset.left_fits offset.top_fits refl
    refl offset.wide offset.is
    (length-set before at (get_or values count 0)) (get_or-set_same before at (get_or values count 0) 0 within ∙ sym (values_are count (omega arith)))
    (λ k other. get_or-set_other before at k (get_or values count 0) 0 other))

-- ---- rows of a box, each with what is between it and the next one

pub no-lines : (plane : Plane) (left top width pitch : ℕ) (pixels : List ℕ) → length pixels ≡ 0 → width ≤ pitch → ArePixels plane left top width pitch 0 pixels
no-lines plane left top width pitch pixels none narrow = record {
  len = omega (arith, none);
  wide = narrow;
  each = λ column row wide high. absurd (omega (arith, high));
}

pub one-more-line : (plane : Plane) (left top width pitch number : ℕ) (pixels added gap next : List ℕ) → ArePixels plane left top width pitch number pixels
    → IsNumberedRow plane left top width number added → width + length gap ≡ pitch → next ≡ (pixels ++ added) ++ gap
    → ArePixels plane left top width pitch (number + 1) next
one-more-line plane left top width pitch number pixels added gap next are is whole joined = record {
  len =
      let more : pitch * (number + 1) ≡ pitch * number + pitch = omega arith in
      ap length joined ∙ omega (arith, length-append (pixels ++ added) gap, length-append pixels added, are.len, is.len, whole, more);
  wide = are.wide;
  each = λ column row wide high.
      ap (λ (all : List ℕ). get_or all (row * pitch + column) 0) joined ∙ elim (cases_lt row number) [
        | inl before ↦
            let more : suc row * pitch ≤ number * pitch = mul-le-mul_right pitch before in
            let one : suc row * pitch ≡ row * pitch + pitch = omega arith in
            let turned : pitch * number ≡ number * pitch = omega arith in
            let within : row * pitch + column < length pixels = omega (arith, are.len, are.wide, wide, more, one, turned) in
            get_or-append (pixels ++ added) gap 0 (row * pitch + column) (omega (arith, within, length-append pixels added))
            ∙ get_or-append pixels added 0 (row * pitch + column) within ∙ are.each column row wide before
        | inr past ↦
            let same : row ≡ number = omega (arith, past, high) in
            let lines : row * pitch ≡ number * pitch = ap (λ (n : ℕ). n * pitch) same in
            let turned : pitch * number ≡ number * pitch = omega arith in
            let behind : length pixels ≤ row * pitch + column = omega (arith, lines, turned, are.len) in
            let at : row * pitch + column - length pixels ≡ column = omega (arith, lines, turned, are.len) in
            get_or-append (pixels ++ added) gap 0 (row * pitch + column) (omega (arith, behind, at, wide, is.len, length-append pixels added))
            ∙ get_or-append_right pixels added (length pixels) (row * pitch + column) 0 refl behind
            ∙ ap (λ (n : ℕ). get_or added n 0) at ∙ is.each column wide ∙ ap (λ (n : ℕ). plane (word.add left column) (word.add top n)) (sym same)
      ];
}

-- what stores at such offsets leave in a table
pub stored-table : (row : StoreRow) (plane : Plane) (old new : Table) (from apart width : ℕ) (values : List ℕ) → IsTable plane old
    → ((at : ℕ) → at < width → IsOffset old (value_at row.x at) (value_at row.y at) (from + at * apart))
    → ((at : ℕ) → value_at row.value at ≡ get_or values at 0) → IsAt old.left old.top old.width old.height new → new.pitch ≡ old.pitch
    → length values ≡ width → new.pixels.items ≡ stored values from apart (length values) old.pixels.items → IsTable (with_stores row width plane) new
stored-table row plane old new from apart width values is offsets values_are at pitch_is long items =
    let are = stores-in row plane old from apart values is.are width offsets (λ k less. values_are k) in
    record {
      are = rw (at.left_is, at.top_is, at.width_is, at.height_is, pitch_is, items ∙ ap (λ (n : ℕ). stored values from apart n old.pixels.items) long) are;
    }

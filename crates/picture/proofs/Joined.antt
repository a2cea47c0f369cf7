-- Rows of a box, one after the other.
use Rattle.std.proofs.Common.{◌≡◌, ◌∙◌, ℕ, zero, suc, ◌+◌, ◌*◌, ◌/◌, ◌%◌, ◌-◌, ◌^◌, ◌<◌, ◌≤◌, inl, inr, List, [], ◌∷◌, ◌++◌, Vec, Some, length, get_or, refl, sym}
use Rattle.std.proofs.Common.{ap, subst, arith}
use Rattle.std.specs.Prelude.{slice_get}
use Rattle.std.specs.List.{AllZip, range_with_len}
use Rattle.std.specs.declared.alloc.Global.{Global}
use Rattle.std.proofs.lemmas.List.{length-append, get_or-append_right}
use Rattle.std.proofs.lemmas.Nat.{div-mul-add, div-add-mod'}
use Rattle.std.proofs.Math.Nat.{mul-le-mul_right}
use Rattle.std.proofs.Math.ListN.{get_or-append}
use Rattle.std.proofs.lemmas.Bool.{cases_lt}
use Rattle.halide_pipeline.specs.Words as word
use Rattle.halide_pipeline.specs.Pixel.{Plane}
use Rattle.picture.specs.declared.scenes.Table.{Table}
use Rattle.picture.specs.inner.Evaluation.{IsNumberedRow, AreNumberedRows, AreNumbered, IsTable, numbered_pixel}

pub no-rows : (plane : Plane) (left top width : ℕ) (pixels : List ℕ) → pixels ≡ [] → AreNumbered plane left top width 0 pixels
no-rows plane left top width pixels none = record {
  len = ap length none ∙ omega arith;
  each = λ at less. absurd (omega (arith, less, ap length none));
}

in-row : (plane : Plane) (left top width number at : ℕ) → at < width
    → numbered_pixel plane left top width (number * width + at) ≡ plane (word.add left at) (word.add top number)
unfolding numbered_pixel
in-row plane left top width number at within =
    let quotient : (number * width + at) / width ≡ number = div-mul-add number width at within in
    let whole : (number * width + at) / width * width + (number * width + at) % width ≡ number * width + at = div-add-mod' (number * width + at) width in
    let rows : (number * width + at) / width * width ≡ number * width = ap (λ (n : ℕ). n * width) quotient in
    let remainder : (number * width + at) % width ≡ at = omega (arith, whole, rows) in
    ap (λ (n : ℕ). plane (word.add left n) (word.add top ((number * width + at) / width))) remainder
    ∙ ap (λ (n : ℕ). plane (word.add left at) (word.add top n)) quotient

pub one-more-row : (plane : Plane) (left top width number : ℕ) (pixels added next : List ℕ) → AreNumbered plane left top width number pixels
    → IsNumberedRow plane left top width number added → next ≡ pixels ++ added → AreNumbered plane left top width (number + 1) next
one-more-row plane left top width number pixels added next are is joined =
    let one : suc number ≡ number + 1 = omega arith in
    subst (λ (n : ℕ). AreNumbered plane left top width n next) one
    (subst (λ (all : List ℕ). AreNumbered plane left top width (suc number) all) (sym joined) (record { len = len; each = each }))
  where
    so_many : length pixels ≡ number * width
    so_many = omega (arith, are.len)

    len : length (pixels ++ added) ≡ width * suc number
    len =
        let more : suc number * width ≡ number * width + width = omega arith in
        let turned : width * suc number ≡ suc number * width = omega arith in
        omega (arith, length-append pixels added, so_many, is.len, more, turned)

    each : (at : ℕ) → at < length (pixels ++ added) → get_or (pixels ++ added) at 0 ≡ numbered_pixel plane left top width at
    each at less = elim (cases_lt at (length pixels)) [
      | inl before ↦ get_or-append pixels added 0 at before ∙ are.each at before
      | inr behind ↦
          let place : number * width + (at - length pixels) ≡ at = omega (arith, so_many, behind) in
          let within : at - length pixels < width = omega (arith, length-append pixels added, is.len, behind, less) in
          get_or-append_right pixels added (length pixels) at 0 refl behind ∙ is.each (at - length pixels) within
          ∙ sym (in-row plane left top width number (at - length pixels) within) ∙ ap (numbered_pixel plane left top width) place
    ]

pub adds-rest : (first at : ℕ) → word.add first (at % 2 ^ 32) ≡ word.add first at
unfolding word.add
adds-rest first at = omega arith

-- rows that are zipped with their numbers
zipped-rows : (R : ℕ → Vec ℕ Global → Type 0) (from count : ℕ) (rows : List (Vec ℕ Global)) → AllZip R (range_with_len from count) rows
    → (length rows ≡ count) × ((at : ℕ) (row : Vec ℕ Global) → slice_get rows at ≡ Some row → R (from + at) row)
zipped-rows R from zero [] zip = (refl, λ at row is. absurd cc)
zipped-rows R from zero (first ∷ rows) zip = absurd zip
zipped-rows R from (suc count) [] zip = absurd zip
zipped-rows R from (suc count) (first ∷ rows) zip =
    let rest = zipped-rows R (from + 1) count rows zip.1 in
    (ap suc rest.0, by_place R from first rows zip.0 rest.1)
  where
    by_place : (R : ℕ → Vec ℕ Global → Type 0) (from : ℕ) (first : Vec ℕ Global) (rows : List (Vec ℕ Global)) → R from first
        → ((at : ℕ) (row : Vec ℕ Global) → slice_get rows at ≡ Some row → R (from + 1 + at) row)
        → (at : ℕ) (row : Vec ℕ Global) → slice_get (first ∷ rows) at ≡ Some row → R (from + at) row
    by_place R from first rows own others zero row is =
        let same : first ≡ row = cc in
        let e : from + 0 ≡ from = omega arith in
        rw e (subst (R from) same own)
    by_place R from first rows own others (suc at) row is =
        let e : from + suc at ≡ from + 1 + at = omega arith in
        rw e (others at row is)

pub are-numbered : (plane : Plane) (left top width height : ℕ) (rows : List (Vec ℕ Global))
    → AllZip (λ number row. IsNumberedRow plane left top width number row.items) (range_with_len 0 height) rows → AreNumberedRows plane left top width rows
are-numbered plane left top width height rows zip = record {
  each = λ number row is.
      let e : 0 + number ≡ number = omega arith in
      subst (λ (n : ℕ). IsNumberedRow plane left top width n row.items) e ((zipped-rows (λ n own. IsNumberedRow plane left top width n own.items) 0 height rows
      zip).1 number row is);
}

pub table-of : (plane : Plane) (height : ℕ) (rows : List (Vec ℕ Global)) (table : Table)
    → AllZip (λ number row. IsNumberedRow plane table.left table.top table.width number row.items) (range_with_len 0 height) rows → table.height ≡ height
    → table.pitch ≡ table.width → AreNumbered plane table.left table.top table.width (length rows) table.pixels.items → IsTable plane table
table-of plane height rows table zip high close are =
    let count : length rows ≡ height = (zipped-rows (λ n own. IsNumberedRow plane table.left table.top table.width n own.items) 0 height rows zip).0 in
    let w = table.width in
    record {
      are = record {
        len = are.len ∙ ap (λ (n : ℕ). w * n) (count ∙ sym high) ∙ ap (λ (n : ℕ). n * table.height) (sym close);
        wide = omega (arith, close);
        each = λ column row wide low.
            let more : suc row * w ≤ table.height * w = mul-le-mul_right w low in
            let one : suc row * w ≡ row * w + w = omega arith in
            let turned : w * length rows ≡ table.height * w = ap (λ (n : ℕ). w * n) (count ∙ sym high) ∙ omega arith in
            ap (λ (n : ℕ). get_or table.pixels.items (row * n + column) 0) close
            ∙ are.each (row * w + column) (omega (arith, are.len, more, one, turned, wide)) ∙ in-row plane table.left table.top w row column wide;
      };
    }

pub row-is : (rows : List (Vec ℕ Global)) (at : ℕ) (row : Vec ℕ Global) → row ≡ get_or rows at row → at < length rows → slice_get rows at ≡ Some row
row-is [] at row is less = absurd (omega arith)
row-is (first ∷ rows) zero row is less = cc
row-is (first ∷ rows) (suc at) row is less = row-is rows at row is (omega arith)

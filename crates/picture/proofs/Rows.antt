-- The rows of a picture as one sequence of pixels, each with what is after it.
use Rattle.std.proofs.Common.{◌≡◌, ℕ, zero, suc, ◌+◌, ◌-◌, ◌≤◌, ◌*◌, ◌%◌, ◌<◌, false, List, [], ◌∷◌, ◌++◌, length, get_or, take, drop, map, refl, sym, ap, ◌∙◌}
use Rattle.std.proofs.Common.{append_assoc, arith}
use Rattle.std.specs.Prelude.{◌==◌, codes}
use Rattle.std.specs.List.{join_with_byte}
use Rattle.std.proofs.lemmas.Bool.{ne_eqb}
use Rattle.std.proofs.lemmas.List.{take-append-drop, length-take, length-drop, length-append, drop_all, append-nil}
use Rattle.std.proofs.Math.Seq.{drop-cons}
use Rattle.std.proofs.Math.Nat.{mul-mod_left, mul-add-mod_self_right, mod-eq_of_lt}
use Rattle.picture.specs.Reading.{number_text, row_text, rows_text, separator}

unfoldable pub pixels_text : ℕ → List ℕ → List ℕ
pixels_text width [] = []
pixels_text width (pixel ∷ pixels) = number_text pixel ++ (separator width (length pixels) ++ pixels_text width pixels)

-- after this many rows a pixel is the last of its row, or not
ends_row : (width rows : ℕ) → separator width (rows * width) ≡ codes "\n"
ends_row width rows = rw (mul-mod_left rows width) refl

within_row : (width rows more : ℕ) → suc more < width → separator width (rows * width + suc more) ≡ codes " "
within_row width rows more few =
    let e : (rows * width + suc more) % width ≡ suc more = mul-add-mod_self_right rows width (suc more) ∙ mod-eq_of_lt few in
    let apart : ((rows * width + suc more) % width == 0) ≡ false = ap (λ (k : ℕ). k == 0) e ∙ ne_eqb (suc more) 0 (λ z. absurd (omega arith)) in
    rw apart refl

-- a row, in front of others
row_flat : (width : ℕ) (first : ℕ) (row others : List ℕ) (rows : ℕ) → length row < width → length others ≡ rows * width
    → pixels_text width ((first ∷ row) ++ others) ≡ row_text (first ∷ row) ++ pixels_text width others
unfolding pixels_text
row_flat width first [] others rows few len =
    rw (len, ends_row width rows) (sym (append_assoc (number_text first) (codes "\n") (pixels_text width others)))
row_flat width first (second ∷ row) others rows few len =
    let n : length ((second ∷ row) ++ others) ≡ rows * width + suc (length row) = length-append (second ∷ row) others ∙ omega arith in
    let sep : separator width (length ((second ∷ row) ++ others)) ≡ codes " " = ap (λ (left : ℕ). separator width left) n
    ∙ within_row width rows (length row) few in
    let later = row_flat width second row others rows (omega arith) len in
    let text = join_with_byte 32 (map number_text (second ∷ row)) in
    ap (λ (between : List ℕ). number_text first ++ (between ++ pixels_text width ((second ∷ row) ++ others))) sep
    ∙ ap (λ (rest : List ℕ). number_text first ++ (32 ∷ rest)) later
    ∙ regrouped (number_text first) text (codes "\n") (pixels_text width others)
  where
    regrouped : (a b c d : List ℕ) → a ++ (32 ∷ ((b ++ c) ++ d)) ≡ ((a ++ (32 ∷ b)) ++ c) ++ d
    regrouped a b c d = simp append_assoc

-- all rows
pub rows_flat : (width rows : ℕ) (pixels : List ℕ) → 0 < width → length pixels ≡ rows * width → rows_text width rows pixels ≡ pixels_text width pixels
unfolding rows_text pixels_text
rows_flat width zero [] wide len = refl
rows_flat width zero (pixel ∷ pixels) wide len = absurd (omega arith)
rows_flat width (suc rows) pixels wide len =
    let full : suc rows * width ≡ rows * width + width = omega arith in
    let front_len : length (take width pixels) ≡ width = omega (arith, length-take width pixels, len, full) in
    let rest_len : length (drop width pixels) ≡ rows * width = omega (arith, length-drop width pixels, len, full) in
    ap (λ (rest : List ℕ). row_text (take width pixels) ++ rest) (rows_flat width rows (drop width pixels) wide rest_len)
    ∙ by_front width rows (take width pixels) (drop width pixels) wide front_len rest_len
    ∙ ap (λ (all : List ℕ). pixels_text width all) (take-append-drop width pixels)
  where
    by_front : (width rows : ℕ) (front rest : List ℕ) → 0 < width → length front ≡ width → length rest ≡ rows * width → row_text front ++ pixels_text width rest
        ≡ pixels_text width (front ++ rest)
    by_front width rows [] rest wide len rest_len = absurd (omega arith)
    by_front width rows (first ∷ row) rest wide len rest_len = sym (row_flat width first row rest rows (omega arith) rest_len)

-- ---- rows, written one pixel after the other

-- what is written and what is left to write are the whole
pub record Wrote (width : ℕ) (pixels before now : List ℕ) (done : ℕ) : Type 0 where
  pub whole : now ++ pixels_text width (drop done pixels) ≡ before ++ pixels_text width pixels

pub wrote_more : (width : ℕ) (pixels before now with_number next : List ℕ) (done : ℕ) → done < length pixels → Wrote width pixels before now done
    → with_number ≡ now ++ number_text (get_or pixels done 0) → next ≡ with_number ++ separator width (length pixels - 1 - done)
    → Wrote width pixels before next (done + 1)
unfolding pixels_text
wrote_more width pixels before now with_number next done more wrote number_is separator_is = record {
  whole =
      let rest = drop (done + 1) pixels in
      let next_is : suc done ≡ done + 1 = omega arith in
      let cut : drop done pixels ≡ get_or pixels done 0 ∷ rest = drop-cons pixels done 0 more ∙ ap (λ (n : ℕ). get_or pixels done 0 ∷ drop n pixels) next_is in
      let len : length rest ≡ length pixels - 1 - done = omega (arith, length-drop (done + 1) pixels) in
      ap (λ (xs : List ℕ). xs ++ pixels_text width rest) (separator_is ∙ ap (λ (xs : List ℕ). xs ++ separator width (length pixels - 1 - done)) number_is)
      ∙ ap (λ (n : ℕ). ((now ++ number_text (get_or pixels done 0)) ++ separator width n) ++ pixels_text width rest) (sym len)
      ∙ regrouped now (number_text (get_or pixels done 0)) (separator width (length rest)) (pixels_text width rest)
      ∙ ap (λ (xs : List ℕ). now ++ pixels_text width xs) (sym cut)
      ∙ wrote.whole;
}
  where
    regrouped : (a b c d : List ℕ) → ((a ++ b) ++ c) ++ d ≡ a ++ (b ++ (c ++ d))
    regrouped a b c d = simp append_assoc

pub wrote_all : (width height : ℕ) (pixels before now : List ℕ) (done : ℕ) → 0 < width → length pixels ≡ height * width → length pixels ≤ done
    → Wrote width pixels before now done → now ≡ before ++ rows_text width height pixels
unfolding pixels_text
wrote_all width height pixels before now done wide whole all wrote =
    let none : drop done pixels ≡ [] = drop_all done pixels all in
    sym (append-nil now) ∙ ap (λ (xs : List ℕ). now ++ pixels_text width xs) (sym none) ∙ wrote.whole
    ∙ ap (λ (xs : List ℕ). before ++ xs) (sym (rows_flat width height pixels wide whole))

-- Pixels read one after the other, as a loop does.
use Rattle.std.proofs.Common.{◌≡◌, ℕ, zero, suc, cond, codes, ◌+◌, ◌-◌, ◌*◌, ◌/◌, ◌%◌, ◌<◌, List, [], ◌∷◌, ◌++◌, Ok, Err, refl, sym, ap, ◌∙◌, append_assoc, arith}
use Rattle.std.specs.Prelude.{◌==◌}
use Rattle.std.proofs.lemmas.List.{append-nil}
use Rattle.std.proofs.lemmas.Nat.{div-add-mod', mod-mul-add}
use Rattle.std.proofs.Math.Nat.{suc-mul}
use Rattle.line_text.specs.Lines.{◌>>=◌}
use Rattle.picture.specs.declared.faults.PictureFault.{PictureFault}
use Rattle.picture.specs.Reading.{Read, pixels_at, pixel_then, separator}

-- pixels that were read before, in front of others
abbrev pub onto : List ℕ → Read (List ℕ) → Read (List ℕ)
onto front others = others >>= λ read. Ok (front ++ read.0, read.1)

onto_onto : (front : List ℕ) (pixel : ℕ) (others : Read (List ℕ)) → onto front (others >>= λ read. Ok (pixel ∷ read.0, read.1))
    ≡ onto (front ++ pixel ∷ []) others
onto_onto front pixel (Ok read) = rw (append_assoc front (pixel ∷ []) read.0) refl
onto_onto front pixel (Err fault) = refl

onto_none : (others : Read (List ℕ)) → onto [] others ≡ others
onto_none (Ok read) = refl
onto_none (Err fault) = refl

-- pixels in front of those that are left are all pixels
pub record Left (width count : ℕ) (text front : List ℕ) (left : ℕ) (rest : List ℕ) : Type 0 where
  pub total : onto front (pixels_at width left rest) ≡ pixels_at width count text

pub starts : (width count : ℕ) (text front : List ℕ) → front ≡ [] → Left width count text front count text
starts width count text front e = record { total = rw e (onto_none (pixels_at width count text)) }

-- one pixel further
pub goes_on : (width count : ℕ) (text front : List ℕ) (left : ℕ) (rest : List ℕ) (pixel : ℕ) (after next : List ℕ) → Left width count text front (suc left) rest
    → pixel_then (separator width left) rest ≡ Ok (pixel, after) → next ≡ front ++ pixel ∷ [] → Left width count text next left after
unfolding pixels_at
goes_on width count text front left rest pixel after next l read e = record {
  total = rw e (sym (onto_onto front pixel (pixels_at width left after))) ∙ (rw read at l.total);
}

-- the pixel that is faulty
pub refused : (width count : ℕ) (text front : List ℕ) (left : ℕ) (rest : List ℕ) (fault : PictureFault) → Left width count text front (suc left) rest
    → pixel_then (separator width left) rest ≡ Err fault → pixels_at width count text ≡ Err fault
unfolding pixels_at
refused width count text front left rest fault l read = sym (rw read at l.total)

-- no pixel is left
pub is_done : (width count : ℕ) (text front : List ℕ) (left : ℕ) (rest : List ℕ) → Left width count text front left rest → left ≡ 0
    → pixels_at width count text ≡ Ok (front, rest)
unfolding pixels_at
is_done width count text front zero rest l e = sym l.total ∙ rw (append-nil front) refl
is_done width count text front (suc left) rest l e = absurd (omega arith)

-- how many are left in a row, counted down
pub mod_down : (left width : ℕ) → 0 < width → suc left % width ≡ 0 → left % width ≡ width - 1
mod_down left width some whole =
    let parts : suc left / width * width + suc left % width ≡ suc left = div-add-mod' (suc left) width in
    by_rows (suc left / width) refl parts
  where
    by_rows : (rows : ℕ) → suc left / width ≡ rows → suc left / width * width + suc left % width ≡ suc left → left % width ≡ width - 1
    by_rows zero e parts = absurd (omega (arith, rw e at parts, whole))
    by_rows (suc rows) e parts =
        let whole_rows : suc rows * width + suc left % width ≡ suc left = rw e at parts in
        let split : suc rows * width ≡ rows * width + width = suc-mul rows width in
        let is : left ≡ rows * width + (width - 1) = omega (arith, whole_rows, split, whole, some) in
        rw is (mod-mul-add rows width (width - 1) (omega arith))

pub mod_less : (left width : ℕ) → 0 < width → 0 < suc left % width → left % width ≡ suc left % width - 1
mod_less left width some part =
    let parts : suc left / width * width + suc left % width ≡ suc left = div-add-mod' (suc left) width in
    let low : suc left % width < width = omega arith in
    let is : left ≡ suc left / width * width + (suc left % width - 1) = omega (arith, parts, part) in
    ap (λ (n : ℕ). n % width) is ∙ mod-mul-add (suc left / width) width (suc left % width - 1) (omega (arith, low, part))

pub separator_is : (width left ahead : ℕ) (word : List ℕ) → word ≡ cond (ahead == 0) (codes "\n") (codes " ") → ahead ≡ left % width
    → word ≡ separator width left
separator_is width left ahead word is e = is ∙ ap (λ (n : ℕ). cond (n == 0) (codes "\n") (codes " ")) e

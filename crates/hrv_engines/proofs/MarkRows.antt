-- Rows of marks, and where the marks of pixels stand.
use Rattle.std.proofs.Common.{◌≡◌, ◌∙◌, ℕ, zero, suc, ◌+◌, ◌-◌, ◌*◌, ◌/◌, ◌<◌, ◌≤◌, List, [], ◌∷◌, ◌++◌, length, refl, sym, ap, arith, add-one}
use Rattle.std.proofs.Math.Dec.{eqb-suc-zero}
use Rattle.std.proofs.Math.Nat.{mul-le-mul_right}
use Rattle.std.proofs.lemmas.Bool.Decides.{nat_tests}
use Rattle.std.proofs.lemmas.List.{map-append}
use Rattle.std.specs.List.{join_with_byte}
use Rattle.std.specs.Prelude.{IsTrue, map, codes, ◌==◌, if◌then◌else◌, Some, None, Option}
use Rattle.memory.specs.Access.{data_start, most_bytes}
use Rattle.loader.specs.Image.{is_output, is_output_or_none}
use Rattle.loader.specs.declared.outputs.Output.{Output}
use Rattle.multi_hart.specs.Run.{State}
use Rattle.picture.specs.Reading.{heading, number_text, row_text}
use Rattle.debugger_blame.specs.Marks.{AreMarks, mark_at}
use Rattle.debugger_blame.specs.declared.marks.Marking.{Marking}
use Rattle.hrv_engines.specs.Blame.{marks_row, marks_rows, marks_text}
use Rattle.hrv_engines.specs.BlameQuestions.{LiesInData}
use Rattle.hrv_engines.specs.Dump.{pixel_address}
use Rattle.hrv_engines.specs.inner.MarkRows.{mark_in, row_in, rows_in}
use Rattle.hrv_engines.proofs.Pixels.{lies}
use Rattle.hrv_engines.proofs.Printing.{joined-more, separator, separator-more}

-- ---- one mark more, one row more

row_in-none : (marks : List ℕ) (output : Output) (y : ℕ) → row_in marks output y 0 ≡ []
unfolding row_in
row_in-none marks output y = refl

row_in-more : (marks : List ℕ) (output : Output) (y x : ℕ) → row_in marks output y (suc x) ≡ row_in marks output y x ++ mark_in marks output x y ∷ []
unfolding row_in
row_in-more marks output y x = refl

separator-row_in : (marks : List ℕ) (output : Output) (y x : ℕ) → separator (map number_text (row_in marks output y x)) ≡ (if x == 0 then [] else codes " ")
separator-row_in marks output y zero = ap (λ pixels. separator (map number_text pixels)) (row_in-none marks output y)
separator-row_in marks output y (suc x) =
    ap (λ pixels. separator (map number_text pixels)) (row_in-more marks output y x)
    ∙ separator-more (row_in marks output y x) (mark_in marks output x y)
    ∙ ap (λ is_first. if is_first then [] else codes " ") (sym (eqb-suc-zero x))

-- the numbers of the first this many marks of a row
abbrev pub numbers_in : List ℕ → Output → ℕ → ℕ → List ℕ
numbers_in marks output y x = join_with_byte 32 (map number_text (row_in marks output y x))

pub numbers_in-none : (marks : List ℕ) (output : Output) (y : ℕ) → numbers_in marks output y 0 ≡ []
numbers_in-none marks output y = ap (λ pixels. join_with_byte 32 (map number_text pixels)) (row_in-none marks output y)

pub numbers_in-more : (marks : List ℕ) (output : Output) (y x : ℕ)
    → numbers_in marks output y (x + 1) ≡ numbers_in marks output y x ++ ((if x == 0 then [] else codes " ") ++ number_text (mark_in marks output x y))
unfolding row_in
numbers_in-more marks output y x = rw add-one
    (ap (join_with_byte 32) (map-append number_text (row_in marks output y x) (mark_in marks output x y ∷ []))
    ∙ joined-more (map number_text (row_in marks output y x)) (number_text (mark_in marks output x y))
    ∙ ap (λ between. numbers_in marks output y x ++ (between ++ number_text (mark_in marks output x y))) (separator-row_in marks output y x))

pub rows_in-none : (marks : List ℕ) (output : Output) → rows_in marks output 0 ≡ []
unfolding rows_in
rows_in-none marks output = refl

pub rows_in-more : (marks : List ℕ) (output : Output) (y : ℕ) → rows_in marks output (y + 1) ≡ rows_in marks output y
    ++ row_text (row_in marks output y output.width)
unfolding rows_in
rows_in-more marks output y = rw add-one refl

-- ---- where marks stand

-- what is known of an output that lies in data
pub record Bounds (output : Output) : Type 0 where
  pub whole : output.stride ≡ 4 * (output.stride / 4)
  pub wide : 1 ≤ output.width
  pub tall : 1 ≤ output.height
  pub pixels : 4 * output.width ≤ output.stride
  pub end : output.address + (output.height - 1) * output.stride + 4 * output.width ≤ data_start + most_bytes

pub bounds : (output : Output) → LiesInData output → Bounds output
bounds output l =
    let there = lies l.bytes output l.fits in
    let stride = there.stride in
    let high = there.high in
    let few = l.few in
    record {
      whole = omega (arith, stride);
      wide = wide l.bytes l.fits;
      tall = tall l.bytes l.fits;
      pixels = pixels l.bytes l.fits;
      end = omega (arith, high, few);
    }
  where
    wide : (bytes : ℕ) → IsTrue (is_output bytes output) → 1 ≤ output.width
    wide bytes h = grind (arith, nat_tests)

    tall : (bytes : ℕ) → IsTrue (is_output bytes output) → 1 ≤ output.height
    tall bytes h = grind (arith, nat_tests)

    pixels : (bytes : ℕ) → IsTrue (is_output bytes output) → 4 * output.width ≤ output.stride
    pixels bytes h = grind (arith, nat_tests)

-- rows as words
pub scaled : (output : Output) (y : ℕ) → Bounds output → y * output.stride ≡ 4 * (y * (output.stride / 4))
scaled output y b =
    let e : y * output.stride ≡ y * (4 * (output.stride / 4)) = ap (λ s. y * s) b.whole in
    omega (arith, e)

-- a pixel's mark is one of the marks
pub mark_within : (output : Output) (count x y : ℕ) → Bounds output → count ≡ (output.height - 1) * (output.stride / 4) + output.width → x < output.width
    → y < output.height → y * (output.stride / 4) + x < count
mark_within output count x y b is below_x below_y =
    let rows : y * (output.stride / 4) ≤ (output.height - 1) * (output.stride / 4) = mul-le-mul_right (output.stride / 4) (omega (arith, below_y)) in
    omega (arith, rows, is, below_x)

-- there are no more marks than words that can be addressed
pub few_marks : (output : Output) → Bounds output → (output.height - 1) * (output.stride / 4) + output.width ≤ data_start + most_bytes
few_marks output b = omega (arith, scaled output (output.height - 1) b, b.end)

-- ---- marks of pixels

module _ (marking : Marking) (begin : State) (turns marks : List ℕ) (output : Output) (l : LiesInData output)
    (count : length marks ≡ (output.height - 1) * (output.stride / 4) + output.width) (are : AreMarks marking output.address begin turns marks) where
  one_mark : (x y : ℕ) → x < output.width → y < output.height → mark_in marks output x y ≡ mark_at marking begin turns (pixel_address output x y)
  one_mark x y below_x below_y =
      let b = bounds output l in
      let place : ℕ = y * (output.stride / 4) + x in
      let there : output.address + 4 * place ≡ pixel_address output x y = omega (arith, scaled output y b) in
      are.each place (mark_within output (length marks) x y b count below_x below_y) ∙ ap (mark_at marking begin turns) there

  row_marks : (y x : ℕ) → x ≤ output.width → y < output.height → row_in marks output y x ≡ marks_row marking begin turns output y x
  unfolding row_in marks_row
  row_marks y zero within below = refl
  row_marks y (suc x) within below =
      ap (λ row. row ++ mark_in marks output x y ∷ []) (row_marks y x (omega (arith, within)) below)
      ∙ ap (λ mark. marks_row marking begin turns output y x ++ mark ∷ []) (one_mark x y (omega (arith, within)) below)

  rows_marks : (y : ℕ) → y ≤ output.height → rows_in marks output y ≡ marks_rows marking begin turns output y
  unfolding rows_in marks_rows
  rows_marks zero within = refl
  rows_marks (suc y) within =
      ap (λ rows. rows ++ row_text (row_in marks output y output.width)) (rows_marks y (omega (arith, within)))
      ∙ ap (λ row. marks_rows marking begin turns output y ++ row_text row) (row_marks y output.width (omega arith) (omega (arith, within)))

  pub text_marks : heading output.width output.height ++ rows_in marks output output.height ≡ marks_text marking begin turns output
  unfolding marks_text
  text_marks = ap (λ rows. heading output.width output.height ++ rows) (rows_marks output.height (omega arith))

-- ---- the output of an image

output_fits : (bytes : ℕ) (o : Option Output) (output : Output) → o ≡ Some output → IsTrue (is_output_or_none bytes o) → IsTrue (is_output bytes output)
output_fits bytes None output is fits = absurd cc
output_fits bytes (Some other) output is fits = (let same : other ≡ output = cc in ap (is_output bytes) (sym same) ∙ fits)

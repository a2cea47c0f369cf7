-- What the laws of phases are used with.
use Rattle.std.proofs.Common.{◌≡◌, ℕ, zero, suc, ◌+◌, ◌*◌, ◌^◌, ◌<◌, ◌≤◌, Bool, true, false, cond, List, [], ◌∷◌, ◌++◌, length, Option, Some, None, refl, ap}
use Rattle.std.proofs.Common.{◌∙◌, arith, inl, inr}
use Rattle.std.specs.Prelude.{◌==◌, ◌&&◌, nat_lt, slice_get}
use Rattle.std.specs.List.{All}
use Rattle.std.proofs.lemmas.Bool.{and_parts, cases_eq, eq-eqb, ne_eqb, eqb-true, ltb-true}
use Rattle.std.proofs.Math.Nat.{mul-le-mul}
use Rattle.halide_pipeline.specs.declared.definitions.Func.{Func}
use Rattle.halide_pipeline.specs.declared.definitions.Input.{Input}
use Rattle.halide_pipeline.specs.declared.expressions.Source.{Source}
use Rattle.halide_pipeline.specs.declared.expressions.Source.TheVariants as sources
use Rattle.halide_pipeline.specs.WellFormed.{is_width, is_height}
use Rattle.halide_pipeline.specs.Picture.{IsPicture}
use Rattle.halide_pipeline.specs.Contents.{PictureContents, pixel_at}
use Rattle.halide_pipeline.specs.Pixel.{Planes, input_plane, input_planes, reads_of, pixels}
use Rattle.schedule_loops.specs.Visits.{times}
use Rattle.bounds.specs.Extents.{extent}
use Rattle.loop_ir.specs.Running.{iterated}
use Rattle.lowering.specs.Phases.{Done, Nothing, Task}
use Rattle.lowering.specs.Using.{numbers_below, RisingIsAnOrder, BuffersHaveBoxPoints, AreInputs, PicturesAnswerWords}

-- ---- an order

times_more : (n : ℕ) (xs ys : List ℕ) → times n (xs ++ ys) ≡ times n xs + times n ys
times_more n [] ys = omega arith
times_more n (x ∷ xs) ys = let rest = times_more n xs ys in omega (arith, rest)

times_one : (n last : ℕ) → times n (last ∷ []) ≡ cond (last == n) 1 0
times_one n last = omega arith

above_never : (count n : ℕ) → count ≤ n → times n (numbers_below count) ≡ 0
above_never zero n l = refl
above_never (suc count) n l =
    let parts = times_more n (numbers_below count) (count ∷ []) in
    let before = above_never count n (omega (arith, l)) in
    let last : ◌≡◌ {A = ℕ} (cond (count == n) 1 0) 0 = ap (λ (b : Bool). cond b 1 0) (ne_eqb count n (λ (e : count ≡ n). omega (arith, e, l))) in
    omega (arith, parts, before, times_one n count, last)

below_once : (count n : ℕ) → n < count → times n (numbers_below count) ≡ 1
below_once zero n l = absurd (omega (arith, l))
below_once (suc count) n l = elim (cases_eq count n) [
  | inl e ↦
      let parts = times_more n (numbers_below count) (count ∷ []) in
      let before = above_never count n (omega (arith, e)) in
      let last : ◌≡◌ {A = ℕ} (cond (count == n) 1 0) 1 = ap (λ (b : Bool). cond b 1 0) (eq-eqb count n e) in
      omega (arith, parts, before, times_one n count, last)
  | inr d ↦
      let parts = times_more n (numbers_below count) (count ∷ []) in
      let before = below_once count n (omega (arith, l, d)) in
      let last : ◌≡◌ {A = ℕ} (cond (count == n) 1 0) 0 = ap (λ (b : Bool). cond b 1 0) (ne_eqb count n d) in
      omega (arith, parts, before, times_one n count, last)
]

pub rising_is_an_order : RisingIsAnOrder
rising_is_an_order count = record { once = below_once count; no_other = above_never count }

-- ---- tasks

module _ (is_private : ℕ → Bool) (tasks : ℕ → Planes → Planes) where
  one_more : (order : List ℕ) (last : ℕ) (funcs between : Planes) → Done is_private tasks order funcs between
      → Done is_private tasks (order ++ (last ∷ [])) funcs (tasks last between)
  one_more _ last _ between (Nothing _) = Task last [] between between (tasks last between) (λ place x y e. refl) (Nothing (tasks last between))
  one_more _ last _ between (Task first others funcs before _ same done) = Task first (others ++ (last ∷ [])) funcs before (tasks last between) same
      (one_more others last (tasks first before) between done)

  pub iterations_are_done : (count : ℕ) (funcs : Planes) → Done is_private tasks (numbers_below count) funcs (iterated count tasks funcs)
  unfolding iterated
  iterations_are_done zero funcs = Nothing funcs
  iterations_are_done (suc count) funcs = one_more (numbers_below count) count funcs (iterated count tasks funcs) (iterations_are_done count funcs)

-- ---- buffers

no_column : (x y width height : ℕ) → width ≡ 0 → (nat_lt x width && nat_lt y height) ≡ false
no_column x y width height none = by_test (nat_lt x width) refl
  where
    by_test : (test : Bool) → nat_lt x width ≡ test → (test && nat_lt y height) ≡ false
    by_test false e = refl
    by_test true e = absurd (omega (arith, none, ltb-true x width e))

pub buffers_have_box_points : BuffersHaveBoxPoints
buffers_have_box_points [] [] are place x y = refl
buffers_have_box_points [] (buffer ∷ buffers) are place x y = absurd are
buffers_have_box_points (own ∷ boxes) [] are place x y = absurd are
buffers_have_box_points (None ∷ boxes) (buffer ∷ buffers) are zero x y = no_column x y buffer.width buffer.height are.0
buffers_have_box_points (Some own ∷ boxes) (buffer ∷ buffers) are zero x y =
    ap (λ (n : ℕ). nat_lt x n && nat_lt y buffer.height) are.0.0 ∙ ap (λ (n : ℕ). nat_lt x (extent own.x) && nat_lt y n) are.0.1
buffers_have_box_points (None ∷ boxes) (buffer ∷ buffers) are (suc place) x y = buffers_have_box_points boxes buffers are.1 place x y
buffers_have_box_points (Some own ∷ boxes) (buffer ∷ buffers) are (suc place) x y = buffers_have_box_points boxes buffers are.1 place x y

-- ---- pictures

within_rows : (x y width height : ℕ) → x < width → y < height → y * width + x < width * height
within_rows x y width height lx ly =
    let rows : (y + 1) * width ≤ height * width = mul-le-mul (omega (arith, ly)) (omega arith) in
    omega (arith, rows, lx)

module _ (bound : ℕ) (some : 0 < bound) (picture : PictureContents) (is : IsPicture picture) (all : All (λ pixel. pixel < bound) picture.pixels) (x y : ℕ) where
  full : length picture.pixels ≡ picture.width * picture.height
  full =
      eqb-true (length picture.pixels) (picture.width * picture.height)
      (and_parts (is_width picture.width && is_height picture.width picture.height) (length picture.pixels == picture.width * picture.height) is.limits).1

  by_test : (test : Bool) → (nat_lt x picture.width && nat_lt y picture.height) ≡ test → cond test (pixel_at picture x y) 0 < bound
  by_test false e = some
  by_test true e =
      let p = and_parts (nat_lt x picture.width) (nat_lt y picture.height) e in
      all (y * picture.width + x) 0 (omega (
        arith,
        full,
        within_rows x y picture.width picture.height (ltb-true x picture.width p.0) (ltb-true y picture.height
            p.1),
      ))

  pub plane_below : input_plane (Some picture) x y < bound
  plane_below = by_test (nat_lt x picture.width && nat_lt y picture.height) refl

module _ (inputs : List Input) (funcs : List Func) (pictures : List PictureContents) (are : AreInputs inputs pictures) where
  word_by : (func_index x y : ℕ) (picture_contents : Option PictureContents) → slice_get pictures func_index ≡ picture_contents → input_plane picture_contents x y < 2 ^ 32
  word_by func_index x y None e = omega arith
  word_by func_index x y (Some picture) e = let is = are.each func_index picture e in plane_below (2 ^ 32) (omega arith) picture is is.words x y

  word : (s : Source) (x y : ℕ) → reads_of (input_planes pictures) (pixels funcs (input_planes pictures) 0) s x y < 2 ^ 32
  unfolding pixels
  word (sources.Input func_index) x y = word_by func_index x y (slice_get pictures func_index) refl
  word (sources.Func func_index) x y = omega arith

  byte_by : (func_index x y : ℕ) (input : Input) → slice_get inputs func_index ≡ Some input → input.is_bytes ≡ true → (picture_contents : Option PictureContents)
      → slice_get pictures func_index ≡ picture_contents → input_plane picture_contents x y < 256
  byte_by func_index x y input there is_bytes None e = omega arith
  byte_by func_index x y input there is_bytes (Some picture) e = plane_below 256 (omega arith) picture (are.each func_index picture e) (are.bytes func_index input picture
      there e is_bytes) x y

pub pictures_answer_words : PicturesAnswerWords
pictures_answer_words inputs funcs pictures are = record {
  words = λ s x y lx ly. word inputs funcs pictures are s x y;
  bytes = λ place input there is_bytes x y. byte_by inputs funcs pictures are place x y input there is_bytes (slice_get pictures place) refl;
}

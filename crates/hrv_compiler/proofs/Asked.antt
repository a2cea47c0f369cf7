-- Pictures that are asked for answer words, and those of inputs of bytes bytes.
use Rattle.std.proofs.Common.{◌≡◌, ℕ, zero, suc, ◌<◌, Bool, true, false, List, [], ◌∷◌, Some, None, ap, sym, ◌∙◌, arith}
use Rattle.std.specs.Prelude.{◌||◌, nat_lt, not, slice_get}
use Rattle.std.specs.List.{All, list_all}
use Rattle.std.proofs.lemmas.Bool.{and_parts, ltb-true}
use Rattle.halide_pipeline.specs.declared.definitions.Func.{Func}
use Rattle.halide_pipeline.specs.declared.definitions.Input.{Input}
use Rattle.halide_pipeline.specs.Picture.{IsPicture}
use Rattle.halide_pipeline.specs.Contents.{PictureContents}
use Rattle.halide_pipeline.specs.Pixel.{input_planes, reads_of, pixels}
use Rattle.bounds_ranges.specs.Laws.{AnswerWords}
use Rattle.picture.specs.Evaluated.{holds_bytes, hold_bytes, judged}
use Rattle.lowering.specs.Using.{AreInputs}
use Rattle.lowering.proofs.Using.{pictures_answer_words}
use Rattle.hrv_compiler.specs.Images.{ArePictures}
use Rattle.hrv_compiler.proofs.Images.{asked_for}

each-is : (pictures : List PictureContents) → ArePictures pictures → (func_index : ℕ) (picture : PictureContents) → slice_get pictures func_index ≡ Some picture
    → IsPicture picture
each-is [] are func_index picture e = absurd cc
each-is (first ∷ pictures) are zero picture e = let same : first ≡ picture = cc in rw (sym same) are.0
each-is (first ∷ pictures) are (suc func_index) picture e = each-is pictures are.1 func_index picture e

all-below : (pixels : List ℕ) → list_all (λ pixel. nat_lt pixel 256) pixels ≡ true → All (λ pixel. pixel < 256) pixels
all-below [] e i d l = absurd (omega (arith, l))
all-below (pixel ∷ pixels) e zero d l = ltb-true pixel 256 (and_parts (nat_lt pixel 256) (list_all (λ other. nat_lt other 256) pixels) e).0
all-below (pixel ∷ pixels) e (suc i) d l = all-below pixels (and_parts (nat_lt pixel 256) (list_all (λ other. nat_lt other 256) pixels) e).1 i d
    (omega (arith, l))

where-bytes : (is_bytes test : Bool) → is_bytes ≡ true → (not is_bytes || test) ≡ true → test ≡ true
where-bytes true test b e = e
where-bytes false test b e = absurd cc

bytes-held : (inputs : List Input) (pictures : List PictureContents) → hold_bytes inputs pictures ≡ true
    → (func_index : ℕ) (input : Input) (picture : PictureContents) → slice_get inputs func_index ≡ Some input → slice_get pictures func_index ≡ Some picture
    → input.is_bytes ≡ true
    → All (λ pixel. pixel < 256) picture.pixels
bytes-held [] pictures h func_index input picture e f b = absurd cc
bytes-held (one ∷ inputs) [] h func_index input picture e f b = absurd cc
bytes-held (one ∷ inputs) (first ∷ pictures) h zero input picture e f b =
    let same : one ≡ input = cc in
    let like : first ≡ picture = cc in
    let holds = (and_parts (holds_bytes one first) (hold_bytes inputs pictures) h).0 in
    let kind : one.is_bytes ≡ true = ap (λ (i : Input). i.is_bytes) same ∙ b in
    rw (sym like) (all-below first.pixels (where-bytes one.is_bytes (list_all (λ pixel. nat_lt pixel 256) first.pixels) kind holds))
bytes-held (one ∷ inputs) (first ∷ pictures) h (suc func_index) input picture e f b =
    bytes-held inputs pictures (and_parts (holds_bytes one first) (hold_bytes inputs pictures) h).1 func_index input picture e f b

pub answer-words : (inputs : List Input) (funcs : List Func) (pictures : List PictureContents) → judged inputs pictures ≡ None → ArePictures pictures
    → AnswerWords inputs (reads_of (input_planes pictures) (pixels funcs (input_planes pictures) 0))
answer-words inputs funcs pictures none are =
    let asked = asked_for inputs pictures none in
    let held : AreInputs inputs pictures = record { each = each-is pictures are; bytes = bytes-held inputs pictures asked.bytes } in
    pictures_answer_words inputs funcs pictures held

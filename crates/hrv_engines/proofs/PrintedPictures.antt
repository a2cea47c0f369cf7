-- The picture in the dump of a compiled image is the one that is drawn of its texts.
use Rattle.std.proofs.Common.{◌≡◌, ℕ, zero, suc, ◌+◌, ◌*◌, ◌^◌, ◌<◌, ◌≤◌, List, [], ◌∷◌, ◌++◌, length, take, drop, get_or, Option, Some, None, Bool, true, ◌-◌, ◌/◌, ◌%◌}
use Rattle.std.proofs.Common.{refl, sym, ap, ◌∙◌, subst, arith, inl, inr}
use Rattle.std.specs.Prelude.{slice_get, slice_index, IsTrue, ◌&&◌, ◌==◌, Ok, nat_lt, false}
use Rattle.std.specs.List.{All, AllByRecursion}
use Rattle.std.specs.Int.{w32, from_le_bytes}
use Rattle.std.specs.declared.alloc.Global.{Global}
use Rattle.std.proofs.lemmas.Bool.{cases_lt}
use Rattle.std.proofs.lemmas.Bool.Decides.{nat_tests}
use Rattle.std.proofs.lemmas.List.{append_assoc, append-nil, length-append, length-drop, take-append-le, drop-append-le, get_or_append_left}
use Rattle.std.proofs.lemmas.List.Elements.{All-append, All-from_recursion, recursion_from_All}
use Rattle.std.proofs.Math.Nat.{mul-le-mul_left, mul-suc, suc-mul}
use Rattle.std.proofs.Math.Seq.{get_or-append_right, take-length}
use Rattle.memory.specs.Access.{data_start, text_start, byte_at, put, AreBytes, word_at, written_by}
use Rattle.memory.proofs.StaysBytes.{put-bytes, spread-bytes}
use Rattle.hart_core.specs.HartState.{HartState}
use Rattle.hart_core.specs.Turn.{Next, Rests, Traps, Does, made, next_of, numbers_read}
use Rattle.hart_core.specs.Scalar.{kind_of, accesses, stored}
use Rattle.multi_hart.specs.Run.{State, turn, turned, run, all_finished}
use Rattle.turn_log.specs.TurnLog.{LogState}
use Rattle.turn_log.specs.LogSpelling.{log_of}
use Rattle.loader.specs.declared.outputs.Output.{Output}
use Rattle.loader.specs.Image.{ImageContents}
use Rattle.loader.specs.Loading.{machine_of}
use Rattle.loader.specs.Spelling as reading
use Rattle.loader.specs.declared.formats.Format.TheVariants.{Hrv2}
use Rattle.loader.proofs.Laws.{image_of-spelled}
use Rattle.halide_pipeline.specs.Pipelines.{Pipeline}
use Rattle.halide_pipeline.specs.Contents.{PictureContents}
use Rattle.halide_pipeline.specs.Picture.{is_picture}
use Rattle.halide_pipeline.specs.WellFormed.{IsWellFormed, is_width, is_height}
use Rattle.halide_parser.proofs.KeptTexts.{parsed_keeps}
use Rattle.picture.specs.Reading.{rows_text, row_text, heading, spelled}
use Rattle.picture.specs.Evaluated.{IsOutput}
use Rattle.hrv_compiler.specs.Compiled.{CompiledContents}
use Rattle.hrv_compiler.specs.Correct.{ShowsPixels, ShowsOutput}
use Rattle.hrv_compiler.specs.Images.{image_of}
use Rattle.hrv_engines.specs.Compile.{IsCompilation, Texts}
use Rattle.hrv_engines.specs.Dump.{row, rows, pixel, picture_text, picture_part, dumped, hart_texts}
use Rattle.hrv_engines.specs.PrintedPictures.{EndsFinished, EndsWithDrawing}
use Rattle.hrv_engines.specs.Replay.{IsReplay, answer, with_image, with_log, dump_of, replayed}

-- ---- data stay bytes

made-keeps : (text memory : List ℕ) (hart : HartState) (next : Next) → AreBytes memory
    → AreBytes (put memory (made text memory hart next).places (made text memory hart next).bytes)
made-keeps text memory hart Rests b = b
made-keeps text memory hart (Traps trap) b = b
made-keeps text memory hart (Does insn) b =
    put-bytes memory _ _ b (spread-bytes (written_by (kind_of insn) (accesses insn hart)) (stored insn hart (numbers_read text memory hart insn)))

turned-keeps : (state : State) (hart : ℕ) (one : Option HartState) → AreBytes state.memory → AreBytes (turned state hart one).memory
turned-keeps state hart None b = b
turned-keeps state hart (Some one) b = made-keeps state.text state.memory one (next_of state.text (length state.memory) one) b

run-keeps : (turns : List ℕ) (state : State) → AreBytes state.memory → AreBytes (run state turns).memory
run-keeps [] state b = b
run-keeps (hart ∷ turns) state b = run-keeps turns (turn state hart) (turned-keeps state hart (slice_get state.harts hart) b)

each-byte : (bytes : List ℕ) → AllByRecursion (λ byte. byte < 256) bytes → AreBytes bytes
each-byte [] h i = omega arith
each-byte (byte ∷ bytes) h zero = h.0
each-byte (byte ∷ bytes) h (suc i) = each-byte bytes h.1 i

-- ---- a word of bytes is below 2^32

remainder-below : (n : ℕ) → n % 256 < 256
remainder-below n = omega arith

byte-below : (text memory : List ℕ) (a : ℕ) → AreBytes memory → byte_at text memory a < 256
byte-below text memory a b = elim (cases_lt a data_start) [
  | inl l ↦
      let t : nat_lt a data_start ≡ true = grind (arith, nat_tests) in
      rw t (remainder-below (slice_index text ((a - text_start) / 4) / 256 ^ ((a - text_start) % 4)))
  | inr l ↦
      let t : nat_lt a data_start ≡ false = grind (arith, nat_tests) in
      rw t (b (a - data_start))
]

four-small : (x y z w : ℕ) → x < 256 → y < 256 → z < 256 → w < 256 → from_le_bytes w32 (x ∷ y ∷ z ∷ w ∷ []) < 2 ^ 32
four-small x y z w a b c d = omega (arith, a, b, c, d)

word-below : (text memory : List ℕ) (a : ℕ) → AreBytes memory → word_at text memory a < 2 ^ 32
word-below text memory a b =
    four-small (byte_at text memory a) (byte_at text memory (a + 1)) (byte_at text memory (a + 2)) (byte_at text memory (a + 3))
    (byte-below text memory a b) (byte-below text memory (a + 1) b) (byte-below text memory (a + 2) b) (byte-below text memory (a + 3) b)

-- ---- the rows of a dump are those of a picture

row-length : (state : State) (output : Output) (y n : ℕ) → length (row state output y n) ≡ n
unfolding row
row-length state output y zero = refl
row-length state output y (suc n) =
    let e = length-append (row state output y n) (pixel state output n y ∷ []) in
    let h = row-length state output y n in
    omega (arith, e, h)

row-at : (state : State) (output : Output) (y n x : ℕ) → x < n → get_or (row state output y n) x 0 ≡ pixel state output x y
unfolding row
row-at state output y zero x l = absurd (omega (arith, l))
row-at state output y (suc n) x l =
    let long = row-length state output y n in
    elim (cases_lt x n) [
      | inl before ↦
          get_or_append_left (row state output y n) (pixel state output n y ∷ []) 0 x (subst (λ k. x < k) (sym long) before)
          ∙ row-at state output y n x before
      | inr past ↦
          let here : x ≡ n = omega (arith, l, past) in
          let left : x - length (row state output y n) ≡ 0 = omega (arith, here, long) in
          get_or-append_right (row state output y n) (pixel state output n y ∷ []) x 0 (omega (arith, here, long))
          ∙ ap (λ k. get_or (pixel state output n y ∷ []) k 0) left
          ∙ ap (λ k. pixel state output k y) (sym here)
    ]

-- the pixels of the first this many rows
abbrev flat : State → Output → ℕ → List ℕ
flat state output zero = []
flat state output (suc y) = flat state output y ++ row state output y output.width

flat-length : (state : State) (output : Output) (n : ℕ) → length (flat state output n) ≡ n * output.width
flat-length state output zero = omega arith
flat-length state output (suc n) =
    length-append (flat state output n) (row state output n output.width)
    ∙ ap (λ k. k + length (row state output n output.width)) (flat-length state output n)
    ∙ ap (λ k. n * output.width + k) (row-length state output n output.width)
    ∙ one-more n output.width
  where
    one-more : (n w : ℕ) → n * w + w ≡ suc n * w
    one-more n w = grind arith

flat-at : (state : State) (output : Output) (n x y : ℕ) → x < output.width → y < n
    → get_or (flat state output n) (y * output.width + x) 0 ≡ pixel state output x y
flat-at state output zero x y wide high = absurd (omega (arith, high))
flat-at state output (suc n) x y wide high =
    let long = flat-length state output n in
    elim (cases_lt y n) [
      | inl before ↦
          get_or_append_left (flat state output n) (row state output n output.width) 0 (y * output.width + x)
          (subst (λ k. y * output.width + x < k) (sym long) (inside y n output.width x before wide))
          ∙ flat-at state output n x y wide before
      | inr past ↦
          let here : y ≡ n = omega (arith, high, past) in
          let there : y * output.width ≡ n * output.width = ap (λ k. k * output.width) here in
          let left : y * output.width + x - length (flat state output n) ≡ x = omega (arith, there, long) in
          get_or-append_right (flat state output n) (row state output n output.width) (y * output.width + x) 0 (omega (arith, there, long))
          ∙ ap (λ k. get_or (row state output n output.width) k 0) left
          ∙ row-at state output n output.width x wide
          ∙ ap (pixel state output x) (sym here)
    ]
  where
    inside : (y n w x : ℕ) → y < n → x < w → y * w + x < n * w
    inside y n w x l m =
        let less : w * suc y ≤ w * n = mul-le-mul_left w (omega (arith, l)) in
        let more = mul-suc w y in
        omega (arith, less, more, m)

rows_text-more : (width n : ℕ) (xs last : List ℕ) → length xs ≡ n * width → length last ≡ width
    → rows_text width (suc n) (xs ++ last) ≡ rows_text width n xs ++ row_text last
unfolding rows_text
rows_text-more width zero [] last long wide =
    let whole : take width last ≡ last = subst (λ k. take k last ≡ last) wide (take-length last) in
    append-nil (row_text (take width last)) ∙ ap row_text whole
rows_text-more width zero (x ∷ xs) last long wide = absurd (omega (arith, long))
rows_text-more width (suc n) xs last long wide =
    let product = suc-mul n width in
    let room : width ≤ length xs = omega (arith, long, product) in
    let left : length (drop width xs) ≡ n * width = let e = length-drop width xs in omega (arith, e, long, product) in
    ap (λ r. row_text r ++ rows_text width (suc n) (drop width (xs ++ last))) (take-append-le width xs last room)
    ∙ ap (λ r. row_text (take width xs) ++ rows_text width (suc n) r) (drop-append-le width xs last room)
    ∙ ap (λ r. row_text (take width xs) ++ r) (rows_text-more width n (drop width xs) last left wide)
    ∙ sym (append_assoc (row_text (take width xs)) (rows_text width n (drop width xs)) (row_text last))

no-rows : (width : ℕ) → [] ≡ rows_text width zero []
unfolding rows_text
no-rows width = refl

rows-are : (state : State) (output : Output) (n : ℕ) → rows state output n ≡ rows_text output.width n (flat state output n)
unfolding rows
rows-are state output zero = no-rows output.width
rows-are state output (suc n) =
    ap (λ r. r ++ row_text (row state output n output.width)) (rows-are state output n)
    ∙ sym (rows_text-more output.width n (flat state output n) (row state output n output.width) (flat-length state output n)
    (row-length state output n output.width))

-- ---- the picture

row-below : (state : State) (output : Output) (y n : ℕ) → AreBytes state.memory → All (λ pixel. pixel < 2 ^ 32) (row state output y n)
unfolding row
row-below state output y zero b = All-from_recursion (λ pixel. pixel < 2 ^ 32) [] tt
row-below state output y (suc n) b =
    All-append (λ pixel. pixel < 2 ^ 32) (row state output y n) (pixel state output n y ∷ []) (row-below state output y n b)
    (All-from_recursion (λ pixel. pixel < 2 ^ 32) (pixel state output n y ∷ []) (word-below state.text state.memory _ b, tt))

flat-below : (state : State) (output : Output) (n : ℕ) → AreBytes state.memory → All (λ pixel. pixel < 2 ^ 32) (flat state output n)
flat-below state output zero b = All-from_recursion (λ pixel. pixel < 2 ^ 32) [] tt
flat-below state output (suc n) b =
    All-append (λ pixel. pixel < 2 ^ 32) (flat state output n) (row state output n output.width) (flat-below state output n b)
    (row-below state output n output.width b)

-- what the output's words are, as a picture
abbrev picture : State → Output → PictureContents
picture state output = record { width = output.width; height = output.height; pixels = flat state output output.height }

text-is : (state : State) (output : Output) → picture_text state output ≡ spelled (picture state output)
unfolding picture_text spelled
text-is state output = ap (λ r. heading output.width output.height ++ r) (rows-are state output output.height)

and-true : (t c : Bool) → IsTrue t → c ≡ true → IsTrue (t && c)
and-true true c h e = subst IsTrue (sym e) h
and-true false c h e = h

limits : (state : State) (output : Output) (width height : ℕ) → output.width ≡ width → output.height ≡ height
    → IsTrue (is_width width && is_height width height) → IsTrue (is_picture (picture state output))
limits state output width height same-width same-height h =
    let sizes : IsTrue (is_width output.width && is_height output.width output.height) =
    subst (λ w. IsTrue (is_width w && is_height w output.height)) (sym same-width)
    (subst (λ k. IsTrue (is_width width && is_height width k)) (sym same-height) h) in
    let long = flat-length state output output.height in
    let count : length (flat state output output.height) ≡ output.width * output.height = omega (arith, long) in
    and-true _ _ sizes (eqb-from (length (flat state output output.height)) (output.width * output.height) count)
  where
    eqb-from : (m n : ℕ) → m ≡ n → (m == n) ≡ true
    eqb-from m n e = grind (arith, nat_tests)

is-output : (pipeline : Pipeline) (pictures : List PictureContents) (state : State) (output : Output) → AreBytes state.memory → IsWellFormed pipeline
    → ShowsPixels pipeline pictures state output → IsOutput pipeline pictures (picture state output)
is-output pipeline pictures state output bytes rules shows = record {
  width = shows.width;
  height = shows.height;
  pixels = λ x y wide high. flat-at state output output.height x y wide high ∙ shows.pixels x y wide high;
  rules = record {
    limits = limits state output pipeline.output.width pipeline.output.height shows.width shows.height rules.output;
    words = flat-below state output output.height bytes;
  };
}

-- ---- a dump

part-is : (state : State) (output : Output) → all_finished state ≡ true → picture_part state (Some output) ≡ picture_text state output
unfolding picture_part
part-is state output finished = rw finished refl

module _ (alloc : Global) (texts : Texts) (bytes : List ℕ) (c : IsCompilation alloc texts bytes) where
  abbrev own : CompiledContents
  own = c.program

  abbrev compiled : ImageContents
  compiled = image_of own c.pictures

  rules : IsWellFormed own.pipeline
  rules = parsed_keeps alloc texts.0.0 own.pipeline c.is_program.algorithm_is

  with-output : (state : State) (front : List ℕ) (output : Option Output) → AreBytes state.memory → all_finished state ≡ true
      → ShowsOutput own.pipeline c.pictures state output → EndsWithDrawing alloc (texts.0.0, texts.1) front (front ++ picture_part state output)
  with-output state front None b finished shows = absurd shows
  with-output state front (Some output) b finished shows = record {
    drawing = spelled (picture state output);
    is_drawing = record {
      pipeline = own.pipeline;
      pictures = c.pictures;
      picture = picture state output;
      is_algorithm = c.is_program.algorithm_is;
      are_inputs = c.are_inputs;
      are_asked_for = c.are_asked_for;
      is_output = is-output own.pipeline c.pictures state output b rules shows;
      is_spelled = refl;
    };
    is_text = ap (λ r. front ++ r) (part-is state output finished ∙ text-is state output);
  }

  compiled-ends : (log : LogState) → 1 ≤ log.harts → log.harts ≤ 8 → all_finished (replayed compiled log) ≡ true
      → EndsWithDrawing alloc (texts.0.0, texts.1) (hart_texts (replayed compiled log) log.turns (length (replayed compiled log).harts)) (dump_of compiled log)
  unfolding dumped
  compiled-ends log some few finished =
      let correct = c.is_correct log.harts some few in
      let bytes-keep = run-keeps log.turns (machine_of compiled log.harts)
      (each-byte compiled.bytes (recursion_from_All (λ byte. byte < 256) compiled.bytes c.is_image.bytes_fit)) in
      with-output (replayed compiled log) (hart_texts (replayed compiled log) log.turns (length (replayed compiled log).harts)) compiled.output bytes-keep
      finished (correct.leaves_pixels log.turns finished)

  same-image : (image : ImageContents) → reading.image_of bytes ≡ Ok image → image ≡ compiled
  same-image image read =
      let again : reading.image_of bytes ≡ Ok compiled = ap reading.image_of c.is_spelled ∙ image_of-spelled Hrv2 compiled c.is_image in
      cc

answered : (bytes log_bytes text : List ℕ) (image : ImageContents) (log : LogState) → reading.image_of bytes ≡ Ok image → log_of log_bytes ≡ Ok log
    → IsReplay (bytes, log_bytes) text → dump_of image log ≡ text
unfolding answer
answered bytes log_bytes text image log is-image is-log replay =
    let one : with_image (reading.image_of bytes) log_bytes ≡ with_log image (log_of log_bytes) = ap (λ r. with_image r log_bytes) is-image in
    let two : with_log image (log_of log_bytes) ≡ Ok (dump_of image log) = ap (with_log image) is-log in
    let all : Ok (dump_of image log) ≡ Ok text = sym (one ∙ two) ∙ replay in
    cc

pub printed_ends : (alloc : Global) (texts : Texts) (bytes log_bytes text : List ℕ) (image : ImageContents) (log : LogState) → IsCompilation alloc texts bytes
    → EndsFinished bytes log_bytes image log → IsReplay (bytes, log_bytes) text
    → EndsWithDrawing alloc (texts.0.0, texts.1) (hart_texts (replayed image log) log.turns (length (replayed image log).harts)) text
printed_ends alloc texts bytes log_bytes text image log c end replay =
    let dump : dump_of image log ≡ text = answered bytes log_bytes text image log end.is_image end.is_log replay in
    let same = same-image alloc texts bytes c image end.is_image in
    let ends = compiled-ends alloc texts bytes c log end.rules.some_hart end.rules.few_harts
    (subst (λ i. all_finished (replayed i log) ≡ true) same end.finished) in
    subst (EndsWithDrawing alloc (texts.0.0, texts.1) (hart_texts (replayed image log) log.turns (length (replayed image log).harts))) dump
    (subst (λ i. EndsWithDrawing alloc (texts.0.0, texts.1) (hart_texts (replayed i log) log.turns (length (replayed i log).harts)) (dump_of i log))
    (sym same) ends)

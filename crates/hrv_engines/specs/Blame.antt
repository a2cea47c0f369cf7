-- What an image, a log of turns and a question about them mean: who wrote a word of data last, or who wrote each pixel.
-- This project's own.
use Rattle.std.specs.Prelude.{◌≡◌, ℕ, zero, suc, List, [], ◌∷◌, ◌++◌, codes, option_map, slice_get, take, unwrap_or, Option, Some, None, Result, Ok, Err}
use Rattle.std.specs.Fmt.{decimal}
use Rattle.memory.specs.Access.{fetched}
use Rattle.multi_hart.specs.Run.{State, hart_at, run, turn}
use Rattle.turn_log.specs.TurnLog.{LogState}
use Rattle.turn_log.specs.LogSpelling.{log_of}
use Rattle.turn_log.specs.declared.log_faults.LogFault.{LogFault}
use Rattle.loader.specs.Image.{ImageContents}
use Rattle.loader.specs.Spelling.{image_of}
use Rattle.loader.specs.Loading.{machine_of}
use Rattle.loader.specs.declared.faults.LoadFault.{LoadFault}
use Rattle.loader.specs.declared.outputs.Output.{Output}
use Rattle.disassembler.specs.Listing.{listed}
use Rattle.picture.specs.Reading as spelling
use Rattle.debugger_blame.specs.LastWrites.{held, last_turn_of_word}
use Rattle.debugger_blame.specs.Marks.{mark_at}
use Rattle.debugger_blame.specs.declared.marks.Marking.{Marking}
use Rattle.debugger_blame.specs.declared.writes.Write.{Write}
use Rattle.hrv_engines.specs.BlameQuestions.{Given, wanted_of}
use Rattle.hrv_engines.specs.Dump.{hex_word, newline, pixel_address}
use Rattle.hrv_engines.specs.declared.questions.BlameFault.{BlameFault}
use Rattle.hrv_engines.specs.declared.questions.BlameQuestion.{BlameQuestion}
use Rattle.hrv_engines.specs.declared.questions.BlameQuestion.TheVariants.{Word, Pixels}
use Rattle.hrv_engines.specs.declared.faults.Refusal.{Refusal}
use Rattle.hrv_engines.specs.declared.faults.Refusal.TheVariants.{Load, Log, Blame}

-- ---- one word

-- `turn N hart H pc 0xPPPPPPPP ` and the instruction; `before N`; `after N`
unfoldable pub write_text : List ℕ → Write → List ℕ
write_text text w =
    codes "turn " ++ decimal w.turn ++ codes " hart " ++ decimal w.hart ++ codes " pc " ++ hex_word w.pc ++ codes " "
    ++ listed (unwrap_or (fetched text w.pc) 0)
    ++ codes "before " ++ spelling.number_text w.before ++ newline
    ++ codes "after " ++ spelling.number_text w.after ++ newline

-- the write that the turn of a number made, which is one of the turns
abbrev pub write_at : State → List ℕ → ℕ → ℕ → Write
write_at begin turns word number =
    let hart = unwrap_or (slice_get turns number) 0 in
    let before = run begin (take number turns) in
    record {
      turn = number;
      hart = hart;
      pc = (hart_at before hart).pc;
      before = held before word;
      after = held (turn before hart) word;
    }

-- what a last write is told by, where there is one
abbrev pub last_text : List ℕ → Option Write → List ℕ
last_text text None = codes "never written" ++ newline
last_text text (Some w) = write_text text w

-- the last turn that writes a byte of the word, or that none does
abbrev pub word_text : State → List ℕ → ℕ → List ℕ
word_text begin turns word = last_text begin.text (option_map (write_at begin turns word) (last_turn_of_word word begin turns))

-- ---- all pixels

-- the marks of the first this many pixels of a row
unfoldable pub marks_row : Marking → State → List ℕ → Output → ℕ → ℕ → List ℕ
marks_row marking begin turns output y zero = []
marks_row marking begin turns output y (suc x) =
    marks_row marking begin turns output y x ++ mark_at marking begin turns (pixel_address output x y) ∷ []

-- of the first this many rows
unfoldable pub marks_rows : Marking → State → List ℕ → Output → ℕ → List ℕ
marks_rows marking begin turns output zero = []
marks_rows marking begin turns output (suc y) =
    marks_rows marking begin turns output y ++ spelling.row_text (marks_row marking begin turns output y output.width)

-- a picture of the output's size, whose pixels are marks
unfoldable pub marks_text : Marking → State → List ℕ → Output → List ℕ
marks_text marking begin turns output = spelling.heading output.width output.height ++ marks_rows marking begin turns output output.height

-- ---- the answer

abbrev pub answer_to : State → List ℕ → BlameQuestion → List ℕ
answer_to begin turns (Word address) = word_text begin turns address
answer_to begin turns (Pixels output marking) = marks_text marking begin turns output

abbrev pub blame_of : ImageContents → LogState → BlameQuestion → List ℕ
blame_of image log wanted = answer_to (machine_of image log.harts) log.turns wanted

abbrev pub with_wanted : ImageContents → LogState → Result BlameQuestion BlameFault → Result (List ℕ) Refusal
with_wanted image log (Ok wanted) = Ok (blame_of image log wanted)
with_wanted image log (Err fault) = Err (Blame fault)

abbrev pub with_log : ImageContents → Given → Result LogState LogFault → Result (List ℕ) Refusal
with_log image given (Ok log) = with_wanted image log (wanted_of image given)
with_log image given (Err fault) = Err (Log fault)

abbrev pub with_image : Given → Result ImageContents LoadFault → List ℕ → Result (List ℕ) Refusal
with_image given (Ok image) log_bytes = with_log image given (log_of log_bytes)
with_image given (Err fault) log_bytes = Err (Load fault)

-- the answer to the bytes of an image and of a log: the image is judged first, then the log, then what is asked
unfoldable pub answer : Given → List ℕ → List ℕ → Result (List ℕ) Refusal
answer given image_bytes log_bytes = with_image given (image_of image_bytes) log_bytes

abbrev pub IsBlame : Given → List ℕ × List ℕ → List ℕ → Type 0
IsBlame given files text = answer given files.0 files.1 ≡ Ok text

-- why they are refused
abbrev pub IsRefusedBlame : Given → List ℕ × List ℕ → Refusal → Type 0
IsRefusedBlame given files refusal = answer given files.0 files.1 ≡ Err refusal

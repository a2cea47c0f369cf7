-- What an image, a log of turns and words of data mean when it is asked where two harts race first: the first place at which they do outside
-- these words, or the first refusal. This project's own.
use Rattle.std.specs.Prelude.{◌≡◌, ℕ, if◌then◌else◌, List, [], ◌∷◌, length, map, Option, Some, None, Result, Ok, Err}
use Rattle.std.specs.Borrow.{Bor}
use Rattle.turn_log.specs.TurnLog.{LogState}
use Rattle.turn_log.specs.LogSpelling.{log_of}
use Rattle.turn_log.specs.declared.log_faults.LogFault.{LogFault}
use Rattle.loader.specs.Image.{ImageContents}
use Rattle.loader.specs.Spelling.{image_of}
use Rattle.loader.specs.Loading.{machine_of}
use Rattle.loader.specs.declared.faults.LoadFault.{LoadFault}
use Rattle.race_reports.specs.RaceText.{races_text}
use Rattle.hrv_engines.specs.BlameQuestions.{is_data_word}
use Rattle.hrv_engines.specs.Commands.{number_of}
use Rattle.hrv_engines.specs.declared.questions.BlameFault.{BlameFault}
use Rattle.hrv_engines.specs.declared.questions.BlameFault.TheVariants.{Number, NoDataWord}
use Rattle.hrv_engines.specs.declared.faults.Refusal.{Refusal}
use Rattle.hrv_engines.specs.declared.faults.Refusal.TheVariants.{Load, Log, Blame}

-- ---- the words that are left out

-- the texts after references
abbrev pub texts_of : List (Bor (List ℕ)) → List (List ℕ)
texts_of = map (λ text. text.now)

-- a word of data, of which there are this many bytes, by its address
abbrev pub left_out : ℕ → Option ℕ → Result ℕ BlameFault
left_out bytes None = Err Number
left_out bytes (Some address) = if is_data_word bytes address then Ok address else Err NoDataWord

abbrev pub and_more : Result ℕ BlameFault → Result (List ℕ) BlameFault → Result (List ℕ) BlameFault
and_more (Err fault) more = Err fault
and_more (Ok word) (Err fault) = Err fault
and_more (Ok word) (Ok words) = Ok (word ∷ words)

-- several of them, or the first fault
abbrev pub all_left_out : ℕ → List (List ℕ) → Result (List ℕ) BlameFault
all_left_out bytes [] = Ok []
all_left_out bytes (text ∷ texts) = and_more (left_out bytes (number_of text)) (all_left_out bytes texts)

-- the same, as the command refuses it
abbrev pub or_refused : Result (List ℕ) BlameFault → Result (List ℕ) Refusal
or_refused (Ok words) = Ok words
or_refused (Err fault) = Err (Blame fault)

abbrev pub AreLeftOut : ℕ → List (List ℕ) → List ℕ → Type 0
AreLeftOut bytes texts words = or_refused (all_left_out bytes texts) ≡ Ok words

abbrev pub AreRefusedWords : ℕ → List (List ℕ) → Refusal → Type 0
AreRefusedWords bytes texts refusal = or_refused (all_left_out bytes texts) ≡ Err refusal

-- ---- the answer

-- the first race of the log's turns, from the image's start
abbrev pub races_of : ImageContents → LogState → List ℕ → List ℕ
races_of image log words = races_text words (machine_of image log.harts) log.turns

abbrev pub with_words : ImageContents → LogState → Result (List ℕ) Refusal → Result (List ℕ) Refusal
with_words image log (Ok words) = Ok (races_of image log words)
with_words image log (Err refusal) = Err refusal

abbrev pub with_log : ImageContents → List (List ℕ) → Result LogState LogFault → Result (List ℕ) Refusal
with_log image texts (Ok log) = with_words image log (or_refused (all_left_out (length image.bytes) texts))
with_log image texts (Err fault) = Err (Log fault)

abbrev pub with_image : List (List ℕ) → Result ImageContents LoadFault → List ℕ → Result (List ℕ) Refusal
with_image texts (Ok image) log_bytes = with_log image texts (log_of log_bytes)
with_image texts (Err fault) log_bytes = Err (Load fault)

-- the answer to the bytes of an image and of a log: the image is judged first, then the log, then the words that are left out
unfoldable pub answer : List (List ℕ) → List ℕ → List ℕ → Result (List ℕ) Refusal
answer texts image_bytes log_bytes = with_image texts (image_of image_bytes) log_bytes

-- the first race of an image and a log
abbrev pub AreRaces : List (List ℕ) → List ℕ × List ℕ → List ℕ → Type 0
AreRaces texts files text = answer texts files.0 files.1 ≡ Ok text

-- why they are refused
abbrev pub AreRefusedRaces : List (List ℕ) → List ℕ × List ℕ → Refusal → Type 0
AreRefusedRaces texts files refusal = answer texts files.0 files.1 ≡ Err refusal

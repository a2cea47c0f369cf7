-- What the words of a command line ask for.
use Rattle.std.specs.Prelude.{◌≡◌, ◌≢◌, ◌⊎◌, ◌≤◌, ◌^◌, ℕ, Bool, false, true, List, [], ◌∷◌, ◌++◌, Option, Some, None, codes, if◌then◌else◌}
use Rattle.std.specs.Prelude.{is_some, option_and_then, option_map}
use Rattle.std.specs.Str.{bytes_eq}
use Rattle.std.specs.Str.Parse.{digits_value, without_leading_plus}
use Rattle.hrv_refusals.specs.Explanations.{is_explained}
use Rattle.clap.specs.Lexer.{long_of, strip_byte}
use Rattle.clap.specs.Walk.{texts}
use Rattle.clap.specs.Words.{IsAmong, Text, fault_of, kind_of}
use Rattle.clap.specs.ValueTests.{accepts}
use Rattle.clap.specs.declared.builder.value_parser.ValueParser.TheVariants.{Unsigned}
use Rattle.clap.specs.declared.error.Error.{Error}
use Rattle.hrv_command_line.specs.Commands.{Shape, commands, hrv_app, most_every, most_hart, most_harts, most_number, most_turns}
use Rattle.hrv_command_line.specs.declared.command_lines.Invocation.{Invocation}
use Rattle.hrv_command_line.specs.declared.command_lines.Invocation.TheVariants.{Asm, Blame, Compile, Debug, Digest, Dis, DisAddresses, Explain, MakeLog, Map, Picture, PrintLog}
use Rattle.hrv_command_line.specs.declared.command_lines.Invocation.TheVariants.{Profile, Races, Trace, Renew, Replay, Resume, Run, RunDrawn, Verify, Version}
use Rattle.hrv_command_line.specs.declared.faults.CommandLineFault.{CommandLineFault}
use Rattle.hrv_command_line.specs.declared.faults.CommandLineFault.TheVariants.{Refused, Memory, Uncombined, Unexplained}
use Rattle.hrv_command_line.specs.declared.table.OptionKind.{OptionKind}
use Rattle.hrv_command_line.specs.declared.table.OptionKind.TheVariants.{Flag}

-- what the program may be asked for
pub data Asked : Type 0 where
  Draws : (algorithm : List ℕ) → (inputs : List (List ℕ)) → Asked
  Compiles : (algorithm schedule image : List ℕ) → (inputs : List (List ℕ)) → Asked
  Maps : (algorithm schedule : List ℕ) → Asked
  Runs : (image log : List ℕ) → (recorded : Option (List ℕ)) → (harts turns : ℕ) → Asked
  Resumes : (image log : List ℕ) → (recorded : Option (List ℕ)) → (old : List ℕ) → (turns : ℕ) → Asked
  RunsDrawn : (image log : List ℕ) → (recorded : Option (List ℕ)) → (harts turns seed every : ℕ) → Asked
  Replays : (image log : List ℕ) → Asked
  Debugs : (image log : List ℕ) → Asked
  Blames : (image log : List ℕ) → (x y address : Option (List ℕ)) → (with_turns : Bool) → Asked
  Profiles : (image log : List ℕ) → Asked
  Traces : (image log : List ℕ) → (from to : ℕ) → (hart : Option ℕ) → (address : Option (List ℕ)) → Asked
  FindsRaces : (image log : List ℕ) → (but : List (List ℕ)) → Asked
  PrintsLog : (log : List ℕ) → Asked
  MakesLog : (text log : List ℕ) → Asked
  Digests : (files : List (List ℕ)) → Asked
  Verifies : (recorded image log : List ℕ) → Asked
  Assembles : (source image : List ℕ) → Asked
  Lists : (image : List ℕ) → Asked
  ListsAddresses : (image : List ℕ) → Asked
  Renews : (old new : List ℕ) → Asked
  Explains : (family code : List ℕ) → Asked
  TellsVersion : Asked

abbrev pub asked_by : Invocation → Asked
asked_by (Picture algorithm inputs) = Draws algorithm.now (texts inputs.items)
asked_by (Compile algorithm schedule image inputs) = Compiles algorithm.now schedule.now image.now (texts inputs.items)
asked_by (Map algorithm schedule) = Maps algorithm.now schedule.now
asked_by (Run image log recorded harts turns) = Runs image.now log.now (option_map (λ s. s.now) recorded) harts turns
asked_by (Resume image log recorded old turns) = Resumes image.now log.now (option_map (λ s. s.now) recorded) old.now turns
asked_by (RunDrawn image log recorded draws) =
    RunsDrawn image.now log.now (option_map (λ s. s.now) recorded) draws.harts draws.turns draws.seed draws.every
asked_by (Replay image log) = Replays image.now log.now
asked_by (Debug image log) = Debugs image.now log.now
asked_by (Blame image log words) =
    Blames image.now log.now (option_map (λ s. s.now) words.x) (option_map (λ s. s.now) words.y) (option_map (λ s. s.now) words.address) words.with_turns
asked_by (Profile image log) = Profiles image.now log.now
asked_by (Trace image log words) = Traces image.now log.now words.from words.to words.hart (option_map (λ s. s.now) words.address)
asked_by (Races image log but) = FindsRaces image.now log.now (texts but.items)
asked_by (PrintLog log) = PrintsLog log.now
asked_by (MakeLog text log) = MakesLog text.now log.now
asked_by (Digest files) = Digests (texts files.items)
asked_by (Verify recorded image log) = Verifies recorded.now image.now log.now
asked_by (Asm source image) = Assembles source.now image.now
asked_by (Dis image) = Lists image.now
asked_by (DisAddresses image) = ListsAddresses image.now
asked_by (Renew old new) = Renews old.now new.now
asked_by (Explain family code) = Explains family.now code.now
asked_by Version = TellsVersion

-- 1 to 8 harts, of 1 to 2^40 turns each
pub record AreWithinLimits (harts turns : ℕ) : Type 0 where
  pub some : 1 ≤ harts
  pub few : harts ≤ 8
  pub one : 1 ≤ turns
  pub most : turns ≤ 2 ^ 40

abbrev pub IsWithinLimits : Asked → Type 0
IsWithinLimits (Runs image log recorded harts turns) = AreWithinLimits harts turns
IsWithinLimits (Resumes image log recorded old turns) = (1 ≤ turns) × (turns ≤ 2 ^ 40)
IsWithinLimits (RunsDrawn image log recorded harts turns seed every) = AreWithinLimits harts turns × (1 ≤ every) × (every ≤ 4096)
IsWithinLimits _ = Unit {0}

-- ---- words after a command's name

-- a word that is taken as it is: it begins with no `-` (45), unless that is all of it
abbrev pub is_plain : Text → Bool
is_plain word = if is_some (strip_byte 45 word) then bytes_eq word (codes "-") else true

-- the kind of the option of a name
abbrev pub kind_named : Text → List (Text × OptionKind) → Option OptionKind
kind_named name [] = None
kind_named name (choice ∷ choices) = if bytes_eq choice.0 name then Some choice.1 else kind_named name choices

-- What a word is: the mark after which all words are values; a value; an option whose text is the next word; an option with its text, which of a flag is
-- empty; or nothing that the command has.
pub data Meaning : Type 0 where
  Marks : Meaning
  Gives : Meaning
  Awaits : (name : Text) → Meaning
  Chooses : (name text : Text) → Meaning
  Strays : Meaning

-- `--name`, or `--name=text`
abbrev pub chosen_by : Text → Option Text → Option OptionKind → Meaning
chosen_by name text None = Strays
chosen_by name None (Some Flag) = Chooses name []
chosen_by name (Some text) (Some Flag) = Strays
chosen_by name None (Some _) = Awaits name
chosen_by name (Some text) (Some _) = Chooses name text

abbrev pub meaning_by : List (Text × OptionKind) → Option (Text × Option Text) → Text → Meaning
meaning_by choices (Some long) word = chosen_by long.0 long.1 (kind_named long.0 choices)
meaning_by choices None word = if is_plain word then Gives else Strays

-- of a word after an option that awaits its text, and of any other one
abbrev pub meaning_of : List (Text × OptionKind) → Option Text → Text → Meaning
meaning_of choices (Some name) word = if is_plain word then Chooses name word else Strays
meaning_of choices None word = if bytes_eq word (codes "--") then Marks else meaning_by choices (long_of word) word

-- what words give: values in their order, and options with their texts
pub record Given : Type 0 where
  pub values : List Text
  pub choices : List (Text × Text)

abbrev pub nothing_given : Given
nothing_given = record { values = []; choices = [] }

-- the text of an option, if it is given
abbrev pub text_of : Text → List (Text × Text) → Option Text
text_of name [] = None
text_of name (choice ∷ choices) = if bytes_eq choice.0 name then Some choice.1 else text_of name choices

abbrev pub with_values : Given → List Text → Given
with_values given words = record { values = given.values ++ words; choices = given.choices }

abbrev pub with_choice : Given → Text → Text → Given
with_choice given name text = record { values = given.values; choices = given.choices ++ (name, text) ∷ [] }

-- an option is given once
abbrev pub choose : (Given → Option Given) → Bool → Text → Text → Given → Option Given
choose onward true name text given = None
choose onward false name text given = onward (with_choice given name text)

-- how reading goes on after a word, by what the word is
abbrev pub further : (Option Text → Given → Option Given) → Meaning → Text → List Text → Given → Option Given
further onward Marks word rest given = Some (with_values given rest)
further onward Gives word rest given = onward None (with_values given (word ∷ []))
further onward (Awaits name) word rest given = onward (Some name) given
further onward (Chooses name text) word rest given = choose (onward None) (is_some (text_of name given.choices)) name text given
further onward Strays word rest given = None

-- no option is left without its text
abbrev pub ended : Option Text → Given → Option Given
ended None given = Some given
ended (Some name) given = None

-- what is given once all words are read
unfoldable pub read : List (Text × OptionKind) → Option Text → List Text → Given → Option Given
read choices awaited [] given = ended awaited given
read choices awaited (word ∷ rest) given =
    further (λ next more. read choices next rest more) (meaning_of choices awaited word) word rest given

-- ---- what they ask for

-- the number that an option's text means, where that is one from 1 to a greatest one; where there is no text, the number that stands for
-- none
abbrev pub number_or : ℕ → ℕ → Option Text → Option ℕ
number_or none most None = Some none
number_or none most (Some text) =
    if accepts false (Unsigned 1 most) text then Some (digits_value 10 (without_leading_plus text)) else None

abbrev pub picture_of : List Text → Option Asked
picture_of (algorithm ∷ inputs) = Some (Draws algorithm inputs)
picture_of _ = None

abbrev pub compile_of : List Text → Option Asked
compile_of (algorithm ∷ schedule ∷ image ∷ inputs) = Some (Compiles algorithm schedule image inputs)
compile_of _ = None

-- a run that goes on from a log has as many harts as the log has, whatever number is asked for
abbrev pub run_from : Option Text → Text → Text → Option Text → ℕ → ℕ → Asked
run_from None image log recorded harts turns = Runs image log recorded harts turns
run_from (Some old) image log recorded harts turns = Resumes image log recorded old turns

-- the seed that an option's text means
abbrev pub number_in : Text → Option ℕ
number_in text = if accepts false (Unsigned 0 most_number) text then Some (digits_value 10 (without_leading_plus text)) else None

-- Turns are drawn where a seed is given, from the image's start; else the threads say which come next, and how many at once.
abbrev pub run_by : Option Text → List (Text × Text) → Text → Text → ℕ → ℕ → Option Asked
run_by None choices image log harts turns =
    if is_some (text_of (codes "every") choices) then None
    else Some (run_from (text_of (codes "from") choices) image log (text_of (codes "record") choices) harts turns)
run_by (Some seed) choices image log harts turns =
    if is_some (text_of (codes "from") choices) then None
    else option_and_then (λ s. option_map (RunsDrawn image log (text_of (codes "record") choices) harts turns s)
    (number_or 1 most_every (text_of (codes "every") choices))) (number_in seed)

-- one hart, and all turns that a log may have, where no option says another number
abbrev pub run_of : List (Text × Text) → List Text → Option Asked
run_of choices (image ∷ log ∷ []) =
    option_and_then (λ harts. option_and_then (λ turns. run_by (text_of (codes "seed") choices) choices image log harts turns)
    (number_or most_turns most_turns (text_of (codes "turns") choices)))
    (number_or 1 most_harts (text_of (codes "harts") choices))
run_of choices _ = None

-- which words go together, the command judges
abbrev pub blame_of : List (Text × Text) → List Text → Option Asked
blame_of choices (image ∷ log ∷ []) =
    Some (Blames image log None None (text_of (codes "address") choices) (is_some (text_of (codes "turns") choices)))
blame_of choices (image ∷ log ∷ x ∷ []) =
    Some (Blames image log (Some x) None (text_of (codes "address") choices) (is_some (text_of (codes "turns") choices)))
blame_of choices (image ∷ log ∷ x ∷ y ∷ []) =
    Some (Blames image log (Some x) (Some y) (text_of (codes "address") choices) (is_some (text_of (codes "turns") choices)))
blame_of choices _ = None

-- the turn that an option's text names, and the one that stands for none
abbrev pub turn_or : ℕ → Option Text → Option ℕ
turn_or none None = Some none
turn_or none (Some text) = number_in text

abbrev pub hart_in : Text → Option ℕ
hart_in text = if accepts false (Unsigned 0 most_hart) text then Some (digits_value 10 (without_leading_plus text)) else None

-- the hart that an option's text names, if it is given
abbrev pub hart_of : Option Text → Option (Option ℕ)
hart_of None = Some None
hart_of (Some text) = option_map Some (hart_in text)

-- from the first turn to the last, where no option says another one
abbrev pub trace_of : List (Text × Text) → List Text → Option Asked
trace_of choices (image ∷ log ∷ []) =
    option_and_then (λ from. option_and_then (λ to. option_map
    (λ hart. Traces image log from to hart (text_of (codes "address") choices))
    (hart_of (text_of (codes "hart") choices)))
    (turn_or most_number (text_of (codes "to") choices)))
    (turn_or 0 (text_of (codes "from") choices))
trace_of choices _ = None

-- the words of data that are left out follow
abbrev pub races_of : List Text → Option Asked
races_of (image ∷ log ∷ but) = Some (FindsRaces image log but)
races_of _ = None

-- a log, or a text and the log that is made of it
abbrev pub log_of : List Text → Option Asked
log_of (log ∷ []) = Some (PrintsLog log)
log_of (text ∷ log ∷ []) = Some (MakesLog text log)
log_of _ = None

-- files, one at least
abbrev pub digest_of : List Text → Option Asked
digest_of [] = None
digest_of (file ∷ files) = Some (Digests (file ∷ files))

abbrev pub verify_of : List Text → Option Asked
verify_of (recorded ∷ image ∷ log ∷ []) = Some (Verifies recorded image log)
verify_of _ = None

abbrev pub listing_of : Text → Bool → Asked
listing_of image true = ListsAddresses image
listing_of image false = Lists image

abbrev pub dis_of : List (Text × Text) → List Text → Option Asked
dis_of choices (image ∷ []) = Some (listing_of image (is_some (text_of (codes "addresses") choices)))
dis_of choices _ = None

-- two files
abbrev pub files_of : (Text → Text → Asked) → List Text → Option Asked
files_of made (first ∷ second ∷ []) = Some (made first second)
files_of made _ = None

-- a family and a code, or a family alone; after them may stand where in a text the fault is
abbrev pub family_in : Text → List Text → Option (Text × Text)
family_in family [] = Some (family, [])
family_in family (code ∷ []) = Some (family, code)
family_in family (code ∷ line ∷ number ∷ []) = if bytes_eq line (codes "line") then Some (family, code) else None
family_in family _ = None

-- after `refused` a file's path may be of any words
abbrev pub printed_in : List Text → Option (Text × Text)
printed_in [] = None
printed_in (family ∷ rest) = if bytes_eq family (codes "file") then Some (family, []) else family_in family rest

-- no refusal, or one by its family and code or as it is printed
abbrev pub refusal_in : List Text → Option (Text × Text)
refusal_in [] = Some ([], [])
refusal_in (word ∷ rest) = if bytes_eq word (codes "refused") then printed_in rest else family_in word rest

-- only refusals that there are can be explained
abbrev pub if_known : Text × Text → Option Asked
if_known refusal = if is_explained refusal.0 refusal.1 then Some (Explains refusal.0 refusal.1) else None

-- without a word all families are told
abbrev pub explain_of : List Text → Option Asked
explain_of [] = Some (Explains [] [])
explain_of (word ∷ rest) = option_and_then if_known (refusal_in (word ∷ rest))

abbrev pub version_of : List Text → Option Asked
version_of [] = Some TellsVersion
version_of _ = None

-- by the command's name and what it is given
abbrev pub asked_of : Text → Given → Option Asked
asked_of name given = if bytes_eq name (codes "picture") then picture_of given.values
    else (if bytes_eq name (codes "compile") then compile_of given.values
    else (if bytes_eq name (codes "map") then files_of Maps given.values
    else (if bytes_eq name (codes "run") then run_of given.choices given.values
    else (if bytes_eq name (codes "replay") then files_of Replays given.values
    else (if bytes_eq name (codes "debug") then files_of Debugs given.values
    else (if bytes_eq name (codes "blame") then blame_of given.choices given.values
    else (if bytes_eq name (codes "profile") then files_of Profiles given.values
    else (if bytes_eq name (codes "trace") then trace_of given.choices given.values
    else (if bytes_eq name (codes "races") then races_of given.values
    else (if bytes_eq name (codes "log") then log_of given.values
    else (if bytes_eq name (codes "digest") then digest_of given.values
    else (if bytes_eq name (codes "verify") then verify_of given.values
    else (if bytes_eq name (codes "asm") then files_of Assembles given.values
    else (if bytes_eq name (codes "dis") then dis_of given.choices given.values
    else (if bytes_eq name (codes "renew") then files_of Renews given.values
    else (if bytes_eq name (codes "explain") then explain_of given.values
    else (if bytes_eq name (codes "version") then version_of given.values else None)))))))))))))))))

-- the command of a name
abbrev pub command_named : Text → List Shape → Option Shape
command_named name [] = None
command_named name (shape ∷ shapes) = if bytes_eq shape.name name then Some shape else command_named name shapes

-- the first word is a command's name
abbrev pub named_in : List Text → Option Asked
named_in [] = None
named_in (name ∷ words) = option_and_then
    (λ (shape : Shape). option_and_then (asked_of name) (read shape.choices None words nothing_given))
    (command_named name commands)

-- the one word `--version`
abbrev pub is_version_flag : List Text → Bool
is_version_flag (word ∷ []) = bytes_eq word (codes "--version")
is_version_flag _ = false

-- what these words name
abbrev pub named : List Text → Option Asked
named words = if is_version_flag words then Some TellsVersion else named_in words

-- why words name nothing that `clap` finds nothing in: options of a run that don't go together, or no refusal of a family and a code
abbrev pub fault_beyond : List Text → CommandLineFault
fault_beyond [] = Unexplained
fault_beyond (name ∷ words) = if bytes_eq name (codes "run") then Uncombined else Unexplained

-- Memory was refused, or the error is of a kind that `clap` finds in the words, or it finds none.
abbrev pub IsRefusal : List Text → CommandLineFault → Type 0
IsRefusal words fault = (fault ≡ Memory)
    ⊎ ((error : Error) × (fault ≡ Refused error) × IsAmong (kind_of error) (fault_of hrv_app words))
    ⊎ ((fault ≡ fault_beyond words) × (fault_of hrv_app words ≡ []))

-- ---- the same in plain words

-- the words without the first `--`
abbrev pub unmarked : List Text → List Text
unmarked [] = []
unmarked (word ∷ rest) = if bytes_eq word (codes "--") then rest else word ∷ unmarked rest

abbrev pub IsPlainWord : Text → Type 0
IsPlainWord (byte ∷ next ∷ rest) = byte ≢ 45
IsPlainWord _ = Unit {0}

-- but for a first `--`, the words are the command's name and what it is given
abbrev pub IsSpelled : List Text → Asked → Type 0
IsSpelled words (Replays image log) = unmarked words ≡ codes "replay" ∷ image ∷ log ∷ []
IsSpelled words (Debugs image log) = unmarked words ≡ codes "debug" ∷ image ∷ log ∷ []
IsSpelled words (Profiles image log) = unmarked words ≡ codes "profile" ∷ image ∷ log ∷ []
IsSpelled words (FindsRaces image log but) = unmarked words ≡ codes "races" ∷ image ∷ log ∷ but
IsSpelled words (PrintsLog log) = unmarked words ≡ codes "log" ∷ log ∷ []
IsSpelled words (MakesLog text log) = unmarked words ≡ codes "log" ∷ text ∷ log ∷ []
IsSpelled words (Digests files) = unmarked words ≡ codes "digest" ∷ files
IsSpelled words (Verifies recorded image log) = unmarked words ≡ codes "verify" ∷ recorded ∷ image ∷ log ∷ []
IsSpelled words (Assembles source image) = unmarked words ≡ codes "asm" ∷ source ∷ image ∷ []
IsSpelled words (Lists image) = unmarked words ≡ codes "dis" ∷ image ∷ []
IsSpelled words (Explains family code) = (rest : List Text) × (unmarked words ≡ codes "explain" ∷ rest) × (refusal_in rest ≡ Some (family, code))
IsSpelled words TellsVersion = (unmarked words ≡ codes "version" ∷ []) ⊎ (words ≡ codes "--version" ∷ [])
IsSpelled words (Renews old new) = unmarked words ≡ codes "renew" ∷ old ∷ new ∷ []
IsSpelled words (Draws algorithm inputs) = unmarked words ≡ codes "picture" ∷ algorithm ∷ inputs
IsSpelled words (Compiles algorithm schedule image inputs) = unmarked words ≡ codes "compile" ∷ algorithm ∷ schedule ∷ image ∷ inputs
IsSpelled words (Maps algorithm schedule) = unmarked words ≡ codes "map" ∷ algorithm ∷ schedule ∷ []
-- options may stand anywhere: what they are, `named` alone says
IsSpelled words (Blames image log x y address with_turns) = (rest : List Text) × (words ≡ codes "blame" ∷ rest)
IsSpelled words (Traces image log from to hart address) = (rest : List Text) × (words ≡ codes "trace" ∷ rest)
IsSpelled words (ListsAddresses image) = (rest : List Text) × (words ≡ codes "dis" ∷ rest)
IsSpelled words (Runs image log recorded harts turns) = (rest : List Text) × (words ≡ codes "run" ∷ rest)
IsSpelled words (Resumes image log recorded old turns) = (rest : List Text) × (words ≡ codes "run" ∷ rest)
IsSpelled words (RunsDrawn image log recorded harts turns seed every) = (rest : List Text) × (words ≡ codes "run" ∷ rest)

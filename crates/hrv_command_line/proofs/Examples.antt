-- Which words name each command.
use Rattle.std.proofs.Common.{◌≡◌, ◌∙◌, ◌≤◌, ◌<◌, ℕ, arith, Bool, true, false, length, refl, sym, ap, ap₂, subst, List, [], ◌∷◌}
use Rattle.std.proofs.Common.{Option, Some, None, append-nil, append_assoc, codes}
use Rattle.std.specs.Prelude.{if◌then◌else◌, is_some, option_and_then, option_map}
use Rattle.std.specs.Char.{digit_value}
use Rattle.std.specs.Str.Parse.{digits_value, without_leading_plus}
use Rattle.std.specs.List.{AllByRecursion}
use Rattle.std.specs.Str.{bytes_eq}
use Rattle.hrv_refusals.specs.Explanations.{is_explained}
use Rattle.clap.proofs.ValueTestLemmas.{accepts-Accepts}
use Rattle.clap.specs.Lexer.{usize_max}
use Rattle.clap.specs.ValueTests.{accepts}
use Rattle.clap.specs.Words.{Text}
use Rattle.clap.specs.declared.builder.value_parser.ValueParser.TheVariants.{Unsigned}
use Rattle.hrv_command_line.specs.CommandLine.{Asked, Assembles, Blames, Compiles, Debugs, Digests, Draws, Explains, FindsRaces, Given, IsPlainWord, Lists, ListsAddresses, MakesLog, Maps}
use Rattle.hrv_command_line.specs.CommandLine.{PrintsLog, Profiles, Renews, Replays, Resumes, Runs, RunsDrawn, TellsVersion, Traces, Verifies, asked_of, choose, further, hart_in, if_known, named, nothing_given, number_or, printed_in, read, number_in, text_of, with_choice, with_values}
use Rattle.hrv_command_line.specs.Commands.{most_every, most_hart, most_harts, most_number, most_turns}
use Rattle.hrv_command_line.specs.declared.table.OptionKind.{OptionKind}
use Rattle.hrv_command_line.specs.declared.table.OptionKind.TheVariants.{Every, Flag, Hart, Harts, Seed, Turn, Turns, Word}
use Rattle.hrv_command_line.proofs.Spelling.{chooses, gives, some_none}

abbrev Choices : Type 0
Choices = List (Text × OptionKind)

-- ---- words that are read

-- a plain word is a value
value_on : (choices : Choices) (word : Text) (rest : List Text) (given : Given) → IsPlainWord word
    → read choices None (word ∷ rest) given ≡ read choices None rest (with_values given (word ∷ []))
unfolding read
value_on choices word rest given is = ap (λ m. further (λ next more. read choices next rest more) m word rest given) (gives choices word is)

-- or the text of an option
text_on : (choices : Choices) (name word : Text) (rest : List Text) (given : Given) → IsPlainWord word
    → read choices (Some name) (word ∷ rest) given
    ≡ choose (λ more. read choices None rest more) (is_some (text_of name given.choices)) name word given
unfolding read
text_on choices name word rest given is = ap (λ m. further (λ next more. read choices next rest more) m word rest given) (chooses choices name word is)

-- plain words are values
all_on : (choices : Choices) (words : List Text) (given : Given) → AllByRecursion IsPlainWord words
    → read choices None words given ≡ Some (with_values given words)
unfolding read
all_on choices [] given all = ap (λ vs. Some (record { values = vs; choices = given.choices })) (sym (append-nil given.values))
all_on choices (word ∷ rest) given all =
    value_on choices word rest given all.0 ∙ all_on choices rest (with_values given (word ∷ [])) all.1
    ∙ ap (λ vs. Some (record { values = vs; choices = given.choices })) (append_assoc given.values (word ∷ []) rest)

-- so are all words after the mark
marked_on : (choices : Choices) (words : List Text) → read choices None (codes "--" ∷ words) nothing_given ≡ Some (with_values nothing_given words)
unfolding read
marked_on choices words = refl

-- what a command is asked for by what is read
abbrev asks : Text → Option Given → Option Asked
asks name given = option_and_then (asked_of name) given

-- ---- commands without options

pub plain_picture : (algorithm : Text) (inputs : List Text) → AllByRecursion IsPlainWord (algorithm ∷ inputs) → length inputs ≤ usize_max
    → named (codes "picture" ∷ algorithm ∷ inputs) ≡ Some (Draws algorithm inputs)
plain_picture algorithm inputs all few = ap (asks (codes "picture")) (all_on [] (algorithm ∷ inputs) nothing_given all)

pub marked_picture : (algorithm : Text) (inputs : List Text) → length inputs ≤ usize_max
    → named (codes "picture" ∷ codes "--" ∷ algorithm ∷ inputs) ≡ Some (Draws algorithm inputs)
marked_picture algorithm inputs few = ap (asks (codes "picture")) (marked_on [] (algorithm ∷ inputs))

pub plain_compile : (algorithm schedule image : Text) (inputs : List Text) → AllByRecursion IsPlainWord (algorithm ∷ schedule ∷ image ∷ inputs)
    → length inputs ≤ usize_max
    → named (codes "compile" ∷ algorithm ∷ schedule ∷ image ∷ inputs) ≡ Some (Compiles algorithm schedule image inputs)
plain_compile algorithm schedule image inputs all few =
    ap (asks (codes "compile")) (all_on [] (algorithm ∷ schedule ∷ image ∷ inputs) nothing_given all)

pub marked_compile : (algorithm schedule image : Text) (inputs : List Text) → length inputs ≤ usize_max
    → named (codes "compile" ∷ codes "--" ∷ algorithm ∷ schedule ∷ image ∷ inputs) ≡ Some (Compiles algorithm schedule image inputs)
marked_compile algorithm schedule image inputs few = ap (asks (codes "compile")) (marked_on [] (algorithm ∷ schedule ∷ image ∷ inputs))

pub plain_races : (image log : Text) (but : List Text) → AllByRecursion IsPlainWord (image ∷ log ∷ but) → length but ≤ usize_max
    → named (codes "races" ∷ image ∷ log ∷ but) ≡ Some (FindsRaces image log but)
plain_races image log but all few = ap (asks (codes "races")) (all_on [] (image ∷ log ∷ but) nothing_given all)

pub marked_races : (image log : Text) (but : List Text) → length but ≤ usize_max
    → named (codes "races" ∷ codes "--" ∷ image ∷ log ∷ but) ≡ Some (FindsRaces image log but)
marked_races image log but few = ap (asks (codes "races")) (marked_on [] (image ∷ log ∷ but))

pub plain_map : (a b : Text) → IsPlainWord a → IsPlainWord b → named (codes "map" ∷ a ∷ b ∷ []) ≡ Some (Maps a b)
plain_map a b a_plain b_plain = ap (asks (codes "map")) (all_on [] (a ∷ b ∷ []) nothing_given (a_plain, (b_plain, tt)))

pub marked_map : (a b : Text) → named (codes "map" ∷ codes "--" ∷ a ∷ b ∷ []) ≡ Some (Maps a b)
marked_map a b = ap (asks (codes "map")) (marked_on [] (a ∷ b ∷ []))

pub plain_replay : (a b : Text) → IsPlainWord a → IsPlainWord b → named (codes "replay" ∷ a ∷ b ∷ []) ≡ Some (Replays a b)
plain_replay a b a_plain b_plain = ap (asks (codes "replay")) (all_on [] (a ∷ b ∷ []) nothing_given (a_plain, (b_plain, tt)))

pub marked_replay : (a b : Text) → named (codes "replay" ∷ codes "--" ∷ a ∷ b ∷ []) ≡ Some (Replays a b)
marked_replay a b = ap (asks (codes "replay")) (marked_on [] (a ∷ b ∷ []))

pub plain_debug : (a b : Text) → IsPlainWord a → IsPlainWord b → named (codes "debug" ∷ a ∷ b ∷ []) ≡ Some (Debugs a b)
plain_debug a b a_plain b_plain = ap (asks (codes "debug")) (all_on [] (a ∷ b ∷ []) nothing_given (a_plain, (b_plain, tt)))

pub marked_debug : (a b : Text) → named (codes "debug" ∷ codes "--" ∷ a ∷ b ∷ []) ≡ Some (Debugs a b)
marked_debug a b = ap (asks (codes "debug")) (marked_on [] (a ∷ b ∷ []))

pub plain_profile : (a b : Text) → IsPlainWord a → IsPlainWord b → named (codes "profile" ∷ a ∷ b ∷ []) ≡ Some (Profiles a b)
plain_profile a b a_plain b_plain = ap (asks (codes "profile")) (all_on [] (a ∷ b ∷ []) nothing_given (a_plain, (b_plain, tt)))

pub marked_profile : (a b : Text) → named (codes "profile" ∷ codes "--" ∷ a ∷ b ∷ []) ≡ Some (Profiles a b)
marked_profile a b = ap (asks (codes "profile")) (marked_on [] (a ∷ b ∷ []))

pub plain_log : (log : Text) → IsPlainWord log → named (codes "log" ∷ log ∷ []) ≡ Some (PrintsLog log)
plain_log log is = ap (asks (codes "log")) (all_on [] (log ∷ []) nothing_given (is, tt))

pub marked_log : (log : Text) → named (codes "log" ∷ codes "--" ∷ log ∷ []) ≡ Some (PrintsLog log)
marked_log log = ap (asks (codes "log")) (marked_on [] (log ∷ []))

pub plain_made_log : (a b : Text) → IsPlainWord a → IsPlainWord b → named (codes "log" ∷ a ∷ b ∷ []) ≡ Some (MakesLog a b)
plain_made_log a b a_plain b_plain = ap (asks (codes "log")) (all_on [] (a ∷ b ∷ []) nothing_given (a_plain, (b_plain, tt)))

pub marked_made_log : (a b : Text) → named (codes "log" ∷ codes "--" ∷ a ∷ b ∷ []) ≡ Some (MakesLog a b)
marked_made_log a b = ap (asks (codes "log")) (marked_on [] (a ∷ b ∷ []))

pub plain_digest : (file : Text) (files : List Text) → AllByRecursion IsPlainWord (file ∷ files)
    → named (codes "digest" ∷ file ∷ files) ≡ Some (Digests (file ∷ files))
plain_digest file files all = ap (asks (codes "digest")) (all_on [] (file ∷ files) nothing_given all)

pub marked_digest : (file : Text) (files : List Text) → named (codes "digest" ∷ codes "--" ∷ file ∷ files) ≡ Some (Digests (file ∷ files))
marked_digest file files = ap (asks (codes "digest")) (marked_on [] (file ∷ files))

pub no_digest : named (codes "digest" ∷ []) ≡ None
unfolding read
no_digest = refl

pub plain_verify : (a b c : Text) → IsPlainWord a → IsPlainWord b → IsPlainWord c → named (codes "verify" ∷ a ∷ b ∷ c ∷ []) ≡ Some (Verifies a b c)
plain_verify a b c a_plain b_plain c_plain = ap (asks (codes "verify")) (all_on [] (a ∷ b ∷ c ∷ []) nothing_given (a_plain, (b_plain, (c_plain, tt))))

pub marked_verify : (a b c : Text) → named (codes "verify" ∷ codes "--" ∷ a ∷ b ∷ c ∷ []) ≡ Some (Verifies a b c)
marked_verify a b c = ap (asks (codes "verify")) (marked_on [] (a ∷ b ∷ c ∷ []))

pub plain_asm : (a b : Text) → IsPlainWord a → IsPlainWord b → named (codes "asm" ∷ a ∷ b ∷ []) ≡ Some (Assembles a b)
plain_asm a b a_plain b_plain = ap (asks (codes "asm")) (all_on [] (a ∷ b ∷ []) nothing_given (a_plain, (b_plain, tt)))

pub marked_asm : (a b : Text) → named (codes "asm" ∷ codes "--" ∷ a ∷ b ∷ []) ≡ Some (Assembles a b)
marked_asm a b = ap (asks (codes "asm")) (marked_on [] (a ∷ b ∷ []))

pub plain_renew : (a b : Text) → IsPlainWord a → IsPlainWord b → named (codes "renew" ∷ a ∷ b ∷ []) ≡ Some (Renews a b)
plain_renew a b a_plain b_plain = ap (asks (codes "renew")) (all_on [] (a ∷ b ∷ []) nothing_given (a_plain, (b_plain, tt)))

pub marked_renew : (a b : Text) → named (codes "renew" ∷ codes "--" ∷ a ∷ b ∷ []) ≡ Some (Renews a b)
marked_renew a b = ap (asks (codes "renew")) (marked_on [] (a ∷ b ∷ []))

pub tells_version : named (codes "version" ∷ []) ≡ Some TellsVersion
unfolding read
tells_version = refl

-- ---- explanations

explained : (family code : Text) (b : Bool) → is_explained family code ≡ b → if_known (family, code) ≡ (if b then Some (Explains family code) else None)
explained family code b is = ap (λ x. if x then Some (Explains family code) else None) is

abbrev behind : Bool → Option (Text × Text) → Option (Text × Text) → Option Asked
behind is_printed printed plain = option_and_then if_known (if is_printed then printed else plain)

two_explained : (family code : Text) (b : Bool) → IsPlainWord family → IsPlainWord code → is_explained family code ≡ b
    → bytes_eq family (codes "refused") ≡ false
    → named (codes "explain" ∷ family ∷ code ∷ []) ≡ (if b then Some (Explains family code) else None)
two_explained family code b family_plain code_plain is other =
    ap (asks (codes "explain")) (all_on [] (family ∷ code ∷ []) nothing_given (family_plain, (code_plain, tt)))
    ∙ ap (λ x. behind x (printed_in (code ∷ [])) (Some (family, code))) other ∙ explained family code b is

pub explains_both : (family code : Text) → IsPlainWord family → IsPlainWord code → is_explained family code ≡ true
    → bytes_eq family (codes "refused") ≡ false → named (codes "explain" ∷ family ∷ code ∷ []) ≡ Some (Explains family code)
explains_both family code = two_explained family code true

pub explains_no_other : (family code : Text) → IsPlainWord family → IsPlainWord code → is_explained family code ≡ false
    → bytes_eq family (codes "refused") ≡ false → named (codes "explain" ∷ family ∷ code ∷ []) ≡ None
explains_no_other family code = two_explained family code false

pub explains_alone : (family : Text) → IsPlainWord family → is_explained family [] ≡ true → bytes_eq family (codes "refused") ≡ false
    → named (codes "explain" ∷ family ∷ []) ≡ Some (Explains family [])
explains_alone family family_plain is other =
    ap (asks (codes "explain")) (all_on [] (family ∷ []) nothing_given (family_plain, tt))
    ∙ ap (λ x. behind x None (Some (family, []))) other ∙ explained family [] true is

pub explains_printed : (family code line : Text) → IsPlainWord family → IsPlainWord code → IsPlainWord line → is_explained family code ≡ true
    → bytes_eq family (codes "file") ≡ false
    → named (codes "explain" ∷ codes "refused" ∷ family ∷ code ∷ codes "line" ∷ line ∷ []) ≡ Some (Explains family code)
explains_printed family code line family_plain code_plain line_plain is other =
    let refused_plain : IsPlainWord (codes "refused") = λ e. absurd (omega (arith, e)) in
    let line_word : IsPlainWord (codes "line") = λ e. absurd (omega (arith, e)) in
    ap (asks (codes "explain")) (all_on [] (codes "refused" ∷ family ∷ code ∷ codes "line" ∷ line ∷ []) nothing_given
    (refused_plain, (family_plain, (code_plain, (line_word, (line_plain, tt))))))
    ∙ ap (λ x. behind x (Some (family, [])) (Some (family, code))) other ∙ explained family code true is

pub explains_all : named (codes "explain" ∷ []) ≡ Some (Explains [] [])
unfolding read
explains_all = refl

-- ---- listings

abbrev listing : Choices
listing = (codes "addresses", Flag) ∷ []

pub plain_dis : (image : Text) → IsPlainWord image → named (codes "dis" ∷ image ∷ []) ≡ Some (Lists image)
plain_dis image is = ap (asks (codes "dis")) (all_on listing (image ∷ []) nothing_given (is, tt))

pub marked_dis : (image : Text) → named (codes "dis" ∷ codes "--" ∷ image ∷ []) ≡ Some (Lists image)
marked_dis image = ap (asks (codes "dis")) (marked_on listing (image ∷ []))

pub addresses_behind : (image : Text) → IsPlainWord image → named (codes "dis" ∷ image ∷ codes "--addresses" ∷ []) ≡ Some (ListsAddresses image)
unfolding read
addresses_behind image is = ap (asks (codes "dis")) (value_on listing image (codes "--addresses" ∷ []) nothing_given is)

pub addresses_before : (image : Text) → IsPlainWord image → named (codes "dis" ∷ codes "--addresses" ∷ image ∷ []) ≡ Some (ListsAddresses image)
unfolding read
addresses_before image is =
    ap (asks (codes "dis")) (value_on listing image [] (with_choice nothing_given (codes "addresses") []) is)

-- ---- who wrote data

abbrev blaming : Choices
blaming = (codes "address", Word) ∷ (codes "turns", Flag) ∷ []

files_on : (choices : Choices) (image log : Text) (rest : List Text) → IsPlainWord image → IsPlainWord log
    → read choices None (image ∷ log ∷ rest) nothing_given ≡ read choices None rest (with_values nothing_given (image ∷ log ∷ []))
files_on choices image log rest image_plain log_plain =
    value_on choices image (log ∷ rest) nothing_given image_plain
    ∙ value_on choices log rest (with_values nothing_given (image ∷ [])) log_plain

pub plain_blame : (image log : Text) → IsPlainWord image → IsPlainWord log
    → named (codes "blame" ∷ image ∷ log ∷ []) ≡ Some (Blames image log None None None false)
plain_blame image log i l = ap (asks (codes "blame")) (all_on blaming (image ∷ log ∷ []) nothing_given (i, (l, tt)))

pub turns_blame : (image log : Text) → IsPlainWord image → IsPlainWord log
    → named (codes "blame" ∷ image ∷ log ∷ codes "--turns" ∷ []) ≡ Some (Blames image log None None None true)
unfolding read
turns_blame image log i l = ap (asks (codes "blame")) (files_on blaming image log (codes "--turns" ∷ []) i l)

pub pixel_blame : (image log x y : Text) → IsPlainWord image → IsPlainWord log → IsPlainWord x → IsPlainWord y
    → named (codes "blame" ∷ image ∷ log ∷ x ∷ y ∷ []) ≡ Some (Blames image log (Some x) (Some y) None false)
pixel_blame image log x y i l x_plain y_plain =
    ap (asks (codes "blame")) (all_on blaming (image ∷ log ∷ x ∷ y ∷ []) nothing_given (i, (l, (x_plain, (y_plain, tt)))))

pub address_blame : (image log address : Text) → IsPlainWord image → IsPlainWord log → IsPlainWord address
    → named (codes "blame" ∷ image ∷ log ∷ codes "--address" ∷ address ∷ []) ≡ Some (Blames image log None None (Some address) false)
unfolding read
address_blame image log address i l plain =
    ap (asks (codes "blame")) (files_on blaming image log (codes "--address" ∷ address ∷ []) i l
    ∙ text_on blaming (codes "address") address [] (with_values nothing_given (image ∷ log ∷ [])) plain)

-- ---- runs

abbrev running : Choices
running = (codes "harts", Harts) ∷ (codes "turns", Turns) ∷ (codes "from", Word) ∷ (codes "seed", Seed) ∷ (codes "every", Every)
    ∷ (codes "record", Word) ∷ []

pub plain_run : (image log : Text) → IsPlainWord image → IsPlainWord log → named (codes "run" ∷ image ∷ log ∷ []) ≡ Some (Runs image log None 1 most_turns)
plain_run image log i l = ap (asks (codes "run")) (all_on running (image ∷ log ∷ []) nothing_given (i, (l, tt)))

pub marked_run : (image log : Text) → named (codes "run" ∷ codes "--" ∷ image ∷ log ∷ []) ≡ Some (Runs image log None 1 most_turns)
marked_run image log = ap (asks (codes "run")) (marked_on running (image ∷ log ∷ []))

pub resumed_run : (image log old : Text) → IsPlainWord image → IsPlainWord log → IsPlainWord old
    → named (codes "run" ∷ image ∷ log ∷ codes "--from" ∷ old ∷ []) ≡ Some (Resumes image log None old most_turns)
unfolding read
resumed_run image log old i l plain =
    ap (asks (codes "run")) (files_on running image log (codes "--from" ∷ old ∷ []) i l
    ∙ text_on running (codes "from") old [] (with_values nothing_given (image ∷ log ∷ [])) plain)

pub recorded_run : (image log file : Text) → IsPlainWord image → IsPlainWord log → IsPlainWord file
    → named (codes "run" ∷ image ∷ log ∷ codes "--record" ∷ file ∷ []) ≡ Some (Runs image log (Some file) 1 most_turns)
unfolding read
recorded_run image log file i l plain =
    ap (asks (codes "run")) (files_on running image log (codes "--record" ∷ file ∷ []) i l
    ∙ text_on running (codes "record") file [] (with_values nothing_given (image ∷ log ∷ [])) plain)

pub resumed_recorded : (image log old file : Text) → IsPlainWord image → IsPlainWord log → IsPlainWord old → IsPlainWord file
    → named (codes "run" ∷ image ∷ log ∷ codes "--from" ∷ old ∷ codes "--record" ∷ file ∷ []) ≡ Some (Resumes image log (Some file) old most_turns)
unfolding read
resumed_recorded image log old file i l old_plain plain =
    let given = with_values nothing_given (image ∷ log ∷ []) in
    ap (asks (codes "run")) (files_on running image log (codes "--from" ∷ old ∷ codes "--record" ∷ file ∷ []) i l
    ∙ text_on running (codes "from") old (codes "--record" ∷ file ∷ []) given old_plain
    ∙ text_on running (codes "record") file [] (with_choice given (codes "from") old) plain)

-- a number's text is a plain word
number_plain : (none most n : ℕ) (text : Text) → number_or none most (Some text) ≡ Some n → IsPlainWord text
number_plain none most n [] e = tt
number_plain none most n (byte ∷ []) e = tt
number_plain none most n (byte ∷ next ∷ rest) e = λ hyphen. accepted hyphen (accepts false (Unsigned 1 most) (byte ∷ next ∷ rest)) refl e
  where
    accepted : byte ≡ 45 → (b : Bool) → accepts false (Unsigned 1 most) (byte ∷ next ∷ rest) ≡ b → (if b then Some (digits_value 10 (without_leading_plus (byte ∷ next ∷ rest))) else None) ≡ Some n → ⊥
    accepted hyphen false is e = some_none e
    accepted hyphen true is e =
        let fits = accepts-Accepts false (Unsigned 1 most) (45 ∷ next ∷ rest) (subst (λ b. accepts false (Unsigned 1 most) (b ∷ next ∷ rest) ≡ true) hyphen is) in
        let digit : digit_value 45 < 10 = fits.0.1.0 in
        absurd (omega arith)

pub options_run : (image log harts turns : Text) (h t : ℕ) → IsPlainWord image → IsPlainWord log → number_or 1 most_harts (Some harts) ≡ Some h
    → number_or 1 most_turns (Some turns) ≡ Some t
    → named (codes "run" ∷ image ∷ log ∷ codes "--harts" ∷ harts ∷ codes "--turns" ∷ turns ∷ []) ≡ Some (Runs image log None h t)
unfolding read
options_run image log harts turns h t i l hs ts =
    let given = with_values nothing_given (image ∷ log ∷ []) in
    ap (asks (codes "run")) (files_on running image log (codes "--harts" ∷ harts ∷ codes "--turns" ∷ turns ∷ []) i l
    ∙ text_on running (codes "harts") harts (codes "--turns" ∷ turns ∷ []) given (number_plain 1 most_harts h harts hs)
    ∙ text_on running (codes "turns") turns [] (with_choice given (codes "harts") harts) (number_plain 1 most_turns t turns ts))
    ∙ ap₂ (λ a b. option_and_then (λ x. option_and_then (λ y. Some (Runs image log None x y)) b) a) hs ts

-- so is that of a seed or of a turn's number
plain_number : (s : ℕ) (text : Text) → number_in text ≡ Some s → IsPlainWord text
plain_number s [] e = tt
plain_number s (byte ∷ []) e = tt
plain_number s (byte ∷ next ∷ rest) e = λ hyphen. accepted hyphen (accepts false (Unsigned 0 most_number) (byte ∷ next ∷ rest)) refl e
  where
    accepted : byte ≡ 45 → (b : Bool) → accepts false (Unsigned 0 most_number) (byte ∷ next ∷ rest) ≡ b → (if b then Some (digits_value 10 (without_leading_plus (byte ∷ next ∷ rest))) else None) ≡ Some s → ⊥
    accepted hyphen false is e = some_none e
    accepted hyphen true is e =
        let fits = accepts-Accepts false (Unsigned 0 most_number) (45 ∷ next ∷ rest) (subst (λ b. accepts false (Unsigned 0 most_number) (b ∷ next ∷ rest) ≡ true) hyphen is) in
        let digit : digit_value 45 < 10 = fits.0.1.0 in
        absurd (omega arith)

pub drawn_plain : (image log seed : Text) (s : ℕ) → IsPlainWord image → IsPlainWord log → number_in seed ≡ Some s
    → named (codes "run" ∷ image ∷ log ∷ codes "--seed" ∷ seed ∷ []) ≡ Some (RunsDrawn image log None 1 most_turns s 1)
unfolding read
drawn_plain image log seed s i l is =
    let given = with_values nothing_given (image ∷ log ∷ []) in
    ap (asks (codes "run")) (files_on running image log (codes "--seed" ∷ seed ∷ []) i l
    ∙ text_on running (codes "seed") seed [] given (plain_number s seed is))
    ∙ ap (λ o. option_and_then (λ x. Some (RunsDrawn image log None 1 most_turns x 1)) o) is

pub drawn_every : (image log seed every : Text) (s k : ℕ) → IsPlainWord image → IsPlainWord log → number_in seed ≡ Some s
    → number_or 1 most_every (Some every) ≡ Some k
    → named (codes "run" ∷ image ∷ log ∷ codes "--seed" ∷ seed ∷ codes "--every" ∷ every ∷ []) ≡ Some (RunsDrawn image log None 1 most_turns s k)
unfolding read
drawn_every image log seed every s k i l is ks =
    let given = with_values nothing_given (image ∷ log ∷ []) in
    ap (asks (codes "run")) (files_on running image log (codes "--seed" ∷ seed ∷ codes "--every" ∷ every ∷ []) i l
    ∙ text_on running (codes "seed") seed (codes "--every" ∷ every ∷ []) given (plain_number s seed is)
    ∙ text_on running (codes "every") every [] (with_choice given (codes "seed") seed) (number_plain 1 most_every k every ks))
    ∙ ap₂ (λ a b. option_and_then (λ x. option_map (RunsDrawn image log None 1 most_turns x) b) a) is ks

-- ---- traces

abbrev tracing : Choices
tracing = (codes "from", Turn) ∷ (codes "to", Turn) ∷ (codes "hart", Hart) ∷ (codes "address", Word) ∷ []

pub plain_trace : (image log : Text) → IsPlainWord image → IsPlainWord log
    → named (codes "trace" ∷ image ∷ log ∷ []) ≡ Some (Traces image log 0 most_number None None)
plain_trace image log i l = ap (asks (codes "trace")) (all_on tracing (image ∷ log ∷ []) nothing_given (i, (l, tt)))

pub turns_trace : (image log first last : Text) (f t : ℕ) → IsPlainWord image → IsPlainWord log → number_in first ≡ Some f → number_in last ≡ Some t
    → named (codes "trace" ∷ image ∷ log ∷ codes "--from" ∷ first ∷ codes "--to" ∷ last ∷ []) ≡ Some (Traces image log f t None None)
unfolding read
turns_trace image log first last f t i l fs ts =
    let given = with_values nothing_given (image ∷ log ∷ []) in
    ap (asks (codes "trace")) (files_on tracing image log (codes "--from" ∷ first ∷ codes "--to" ∷ last ∷ []) i l
    ∙ text_on tracing (codes "from") first (codes "--to" ∷ last ∷ []) given (plain_number f first fs)
    ∙ text_on tracing (codes "to") last [] (with_choice given (codes "from") first) (plain_number t last ts))
    ∙ ap₂ (λ a b. option_and_then (λ x. option_and_then (λ y. Some (Traces image log x y None None)) b) a) fs ts

-- a hart's text is a plain word
hart_plain : (h : ℕ) (text : Text) → hart_in text ≡ Some h → IsPlainWord text
hart_plain h [] e = tt
hart_plain h (byte ∷ []) e = tt
hart_plain h (byte ∷ next ∷ rest) e = λ hyphen. accepted hyphen (accepts false (Unsigned 0 most_hart) (byte ∷ next ∷ rest)) refl e
  where
    accepted : byte ≡ 45 → (b : Bool) → accepts false (Unsigned 0 most_hart) (byte ∷ next ∷ rest) ≡ b
        → (if b then Some (digits_value 10 (without_leading_plus (byte ∷ next ∷ rest))) else None) ≡ Some h → ⊥
    accepted hyphen false is e = some_none e
    accepted hyphen true is e =
        let fits = accepts-Accepts false (Unsigned 0 most_hart) (45 ∷ next ∷ rest) (subst (λ b. accepts false (Unsigned 0 most_hart) (b ∷ next ∷ rest) ≡ true) hyphen is) in
        let digit : digit_value 45 < 10 = fits.0.1.0 in
        absurd (omega arith)

pub hart_trace : (image log hart : Text) (h : ℕ) → IsPlainWord image → IsPlainWord log → hart_in hart ≡ Some h
    → named (codes "trace" ∷ image ∷ log ∷ codes "--hart" ∷ hart ∷ []) ≡ Some (Traces image log 0 most_number (Some h) None)
unfolding read
hart_trace image log hart h i l hs =
    let given = with_values nothing_given (image ∷ log ∷ []) in
    ap (asks (codes "trace")) (files_on tracing image log (codes "--hart" ∷ hart ∷ []) i l
    ∙ text_on tracing (codes "hart") hart [] given (hart_plain h hart hs))
    ∙ ap (λ o. option_map (λ x. Traces image log 0 most_number x None) (option_map Some o)) hs

pub address_trace : (image log address : Text) → IsPlainWord image → IsPlainWord log → IsPlainWord address
    → named (codes "trace" ∷ image ∷ log ∷ codes "--address" ∷ address ∷ []) ≡ Some (Traces image log 0 most_number None (Some address))
unfolding read
address_trace image log address i l plain =
    ap (asks (codes "trace")) (files_on tracing image log (codes "--address" ∷ address ∷ []) i l
    ∙ text_on tracing (codes "address") address [] (with_values nothing_given (image ∷ log ∷ [])) plain)

-- What each command is asked for: by which words, and within which limits.
use Rattle.std.proofs.Common.{◌≡◌, ◌∙◌, ◌≤◌, ℕ, arith, Bool, true, false, true≢false, refl, sym, ap, subst, List, [], ◌∷◌, Option, Some, None, codes, inl, inr}
use Rattle.std.specs.Prelude.{if◌then◌else◌, is_some, option_and_then, option_map, unwrap_or}
use Rattle.std.specs.Str.{bytes_eq}
use Rattle.std.specs.Str.Parse.{digits_value, without_leading_plus}
use Rattle.std.proofs.lemmas.Slice.Eq.{bytes_eq-Decides}
use Rattle.hrv_refusals.specs.Explanations.{is_explained}
use Rattle.clap.proofs.ValueTestLemmas.{accepts-Accepts}
use Rattle.clap.specs.ValueTests.{accepts}
use Rattle.clap.specs.Words.{Text}
use Rattle.clap.specs.declared.builder.value_parser.ValueParser.TheVariants.{Unsigned}
use Rattle.hrv_command_line.specs.CommandLine.{Asked, Assembles, Compiles, Debugs, Digests, Draws, Explains, FindsRaces, Given, IsSpelled, IsWithinLimits, MakesLog}
use Rattle.hrv_command_line.specs.CommandLine.{Maps, PrintsLog, Profiles, Renews, Replays, TellsVersion, asked_of, blame_of, command_named, compile_of, digest_of, dis_of, explain_of, files_of, races_of}
use Rattle.hrv_command_line.specs.CommandLine.{if_known, is_version_flag, listing_of, log_of, named, named_in, nothing_given, number_or, picture_of, read, refusal_in}
use Rattle.hrv_command_line.specs.CommandLine.{RunsDrawn, Traces, Verifies, hart_of, number_in, run_by, run_from, run_of, text_of, trace_of, turn_or, unmarked, verify_of, version_of}
use Rattle.hrv_command_line.specs.Commands.{Shape, commands, most_every, most_harts, most_number, most_turns}
use Rattle.hrv_command_line.specs.declared.table.OptionKind.TheVariants.{Flag}
use Rattle.hrv_command_line.specs.declared.table.ValueCount.TheVariants.{Always}
use Rattle.hrv_command_line.proofs.Spelling.{no_options, option_left, some_none, tell}

-- ---- numbers

bounded : (none most n : ℕ) (text : Option Text) → 1 ≤ none → none ≤ most → number_or none most text ≡ Some n → (1 ≤ n) × (n ≤ most)
bounded none most n None low high e = subst (λ m. (1 ≤ m) × (m ≤ most)) (ap (λ o. unwrap_or o none) e) (low, high)
bounded none most n (Some text) low high e = go (accepts false (Unsigned 1 most) text) refl e
  where
    go : (b : Bool) → accepts false (Unsigned 1 most) text ≡ b → (if b then Some (digits_value 10 (without_leading_plus text)) else None) ≡ Some n
        → (1 ≤ n) × (n ≤ most)
    go true accepted e =
        let fits = accepts-Accepts false (Unsigned 1 most) text accepted in
        subst (λ m. (1 ≤ m) × (m ≤ most)) (ap (λ o. unwrap_or o n) e) (fits.2, fits.3)
    go false refused e = some_none e

-- ---- what a command is asked for is in the words, and within the limits

abbrev Holds : List Text → Asked → Type 0
Holds words asked = IsSpelled words asked × IsWithinLimits asked

one_is : {made asked : Asked} (C : Asked → Type 0) → Some made ≡ Some asked → C made → C asked
one_is {made} {asked} C e holds = subst C (ap (λ o. unwrap_or o made) e) holds

files : (made : Text → Text → Asked) (words values : List Text) (asked : Asked) → ((a b : Text) → values ≡ a ∷ b ∷ [] → Holds words (made a b))
    → files_of made values ≡ Some asked → Holds words asked
files made words [] asked holds e = some_none e
files made words (a ∷ []) asked holds e = some_none e
files made words (a ∷ b ∷ []) asked holds e = one_is (Holds words) e (holds a b refl)
files made words (a ∷ b ∷ c ∷ more) asked holds e = some_none e

logged : (words values : List Text) (asked : Asked) → ((a : Text) → values ≡ a ∷ [] → Holds words (PrintsLog a))
    → ((a b : Text) → values ≡ a ∷ b ∷ [] → Holds words (MakesLog a b)) → log_of values ≡ Some asked → Holds words asked
logged words [] asked prints makes e = some_none e
logged words (a ∷ []) asked prints makes e = one_is (Holds words) e (prints a refl)
logged words (a ∷ b ∷ []) asked prints makes e = one_is (Holds words) e (makes a b refl)
logged words (a ∷ b ∷ c ∷ more) asked prints makes e = some_none e

drawn : (words values : List Text) (asked : Asked) → ((a : Text) (is : List Text) → values ≡ a ∷ is → Holds words (Draws a is))
    → picture_of values ≡ Some asked → Holds words asked
drawn words [] asked holds e = some_none e
drawn words (a ∷ is) asked holds e = one_is (Holds words) e (holds a is refl)

digested : (words values : List Text) (asked : Asked) → ((a : Text) (is : List Text) → values ≡ a ∷ is → Holds words (Digests (a ∷ is)))
    → digest_of values ≡ Some asked → Holds words asked
digested words [] asked holds e = some_none e
digested words (a ∷ is) asked holds e = one_is (Holds words) e (holds a is refl)

verified : (words values : List Text) (asked : Asked) → ((r i l : Text) → values ≡ r ∷ i ∷ l ∷ [] → Holds words (Verifies r i l))
    → verify_of values ≡ Some asked → Holds words asked
verified words [] asked holds e = some_none e
verified words (r ∷ []) asked holds e = some_none e
verified words (r ∷ i ∷ []) asked holds e = some_none e
verified words (r ∷ i ∷ l ∷ []) asked holds e = one_is (Holds words) e (holds r i l refl)
verified words (r ∷ i ∷ l ∷ m ∷ more) asked holds e = some_none e

raced : (words values : List Text) (asked : Asked) → ((i l : Text) (bs : List Text) → values ≡ i ∷ l ∷ bs → Holds words (FindsRaces i l bs))
    → races_of values ≡ Some asked → Holds words asked
raced words [] asked holds e = some_none e
raced words (i ∷ []) asked holds e = some_none e
raced words (i ∷ l ∷ bs) asked holds e = one_is (Holds words) e (holds i l bs refl)

compiled : (words values : List Text) (asked : Asked) → ((a s i : Text) (is : List Text) → values ≡ a ∷ s ∷ i ∷ is → Holds words (Compiles a s i is))
    → compile_of values ≡ Some asked → Holds words asked
compiled words [] asked holds e = some_none e
compiled words (a ∷ []) asked holds e = some_none e
compiled words (a ∷ s ∷ []) asked holds e = some_none e
compiled words (a ∷ s ∷ i ∷ is) asked holds e = one_is (Holds words) e (holds a s i is refl)

blamed : (rest : List Text) (choices : List (Text × Text)) (values : List Text) (asked : Asked) → blame_of choices values ≡ Some asked
    → Holds (codes "blame" ∷ rest) asked
blamed rest choices [] asked e = some_none e
blamed rest choices (i ∷ []) asked e = some_none e
blamed rest choices (i ∷ l ∷ []) asked e = one_is (Holds (codes "blame" ∷ rest)) e ((rest, refl), tt)
blamed rest choices (i ∷ l ∷ x ∷ []) asked e = one_is (Holds (codes "blame" ∷ rest)) e ((rest, refl), tt)
blamed rest choices (i ∷ l ∷ x ∷ y ∷ []) asked e = one_is (Holds (codes "blame" ∷ rest)) e ((rest, refl), tt)
blamed rest choices (i ∷ l ∷ x ∷ y ∷ z ∷ more) asked e = some_none e

traced : (rest : List Text) (choices : List (Text × Text)) (values : List Text) (asked : Asked) → trace_of choices values ≡ Some asked
    → Holds (codes "trace" ∷ rest) asked
traced rest choices [] asked e = some_none e
traced rest choices (i ∷ []) asked e = some_none e
traced rest choices (i ∷ l ∷ m ∷ more) asked e = some_none e
traced rest choices (i ∷ l ∷ []) asked e =
    go (turn_or 0 (text_of (codes "from") choices)) (turn_or most_number (text_of (codes "to") choices)) (hart_of (text_of (codes "hart") choices)) e
  where
    go : (from to : Option ℕ) (hart : Option (Option ℕ))
        → option_and_then (λ f. option_and_then (λ t. option_map (λ h. Traces i l f t h (text_of (codes "address") choices)) hart) to) from ≡ Some asked
        → Holds (codes "trace" ∷ rest) asked
    go None to hart e = some_none e
    go (Some f) None hart e = some_none e
    go (Some f) (Some t) None e = some_none e
    go (Some f) (Some t) (Some h) e = one_is (Holds (codes "trace" ∷ rest)) e ((rest, refl), tt)

listed : (rest : List Text) (choices : List (Text × Text)) (values : List Text) (asked : Asked)
    → (is_some (text_of (codes "addresses") choices) ≡ false → values ≡ unmarked rest) → dis_of choices values ≡ Some asked → Holds (codes "dis" ∷ rest) asked
listed rest choices [] asked spelled e = some_none e
listed rest choices (i ∷ j ∷ more) asked spelled e = some_none e
listed rest choices (i ∷ []) asked spelled e =
    one_is (Holds (codes "dis" ∷ rest)) e (go (is_some (text_of (codes "addresses") choices)) refl)
  where
    go : (b : Bool) → is_some (text_of (codes "addresses") choices) ≡ b → Holds (codes "dis" ∷ rest) (listing_of i b)
    go true given = ((rest, refl), tt)
    go false left = (ap (λ ws. codes "dis" ∷ ws) (sym (spelled left)), tt)

ran : (rest : List Text) (choices : List (Text × Text)) (values : List Text) (asked : Asked) → run_of choices values ≡ Some asked
    → Holds (codes "run" ∷ rest) asked
ran rest choices [] asked e = some_none e
ran rest choices (i ∷ []) asked e = some_none e
ran rest choices (i ∷ l ∷ m ∷ more) asked e = some_none e
ran rest choices (i ∷ l ∷ []) asked e =
    by_harts (number_or 1 most_harts (text_of (codes "harts") choices)) (number_or most_turns most_turns (text_of (codes "turns") choices)) refl refl e
  where
    by_from : (o : Option Text) (h t : ℕ) → (1 ≤ h) × (h ≤ most_harts) → (1 ≤ t) × (t ≤ most_turns) → Holds (codes "run" ∷ rest) (run_from o i l (text_of (codes "record") choices) h t)
    by_from None h t hs ts = ((rest, refl), record { some = hs.0; few = hs.1; one = ts.0; most = ts.1 })
    by_from (Some old) h t hs ts = ((rest, refl), ts)

    threaded : (h t : ℕ) (every : Bool) → (1 ≤ h) × (h ≤ most_harts) → (1 ≤ t) × (t ≤ most_turns)
        → (if every then None else Some (run_from (text_of (codes "from") choices) i l (text_of (codes "record") choices) h t)) ≡ Some asked → Holds (codes "run" ∷ rest) asked
    threaded h t true hs ts e = some_none e
    threaded h t false hs ts e = one_is (Holds (codes "run" ∷ rest)) e (by_from (text_of (codes "from") choices) h t hs ts)

    drawn_so : (h t : ℕ) (from : Bool) (seed ks : Option ℕ) → (1 ≤ h) × (h ≤ most_harts) → (1 ≤ t) × (t ≤ most_turns)
        → number_or 1 most_every (text_of (codes "every") choices) ≡ ks
        → (if from then None else option_and_then (λ s. option_map (RunsDrawn i l (text_of (codes "record") choices) h t s) ks) seed) ≡ Some asked → Holds (codes "run" ∷ rest) asked
    drawn_so h t true seed ks hs ts k_is e = some_none e
    drawn_so h t false None ks hs ts k_is e = some_none e
    drawn_so h t false (Some s) None hs ts k_is e = some_none e
    drawn_so h t false (Some s) (Some k) hs ts k_is e =
        let within = bounded 1 most_every k (text_of (codes "every") choices) (omega arith) (omega arith) k_is in
        one_is (Holds (codes "run" ∷ rest)) e
        ((rest, refl), (record { some = hs.0; few = hs.1; one = ts.0; most = ts.1 }, within.0, within.1))

    by_seed : (o : Option Text) (h t : ℕ) → (1 ≤ h) × (h ≤ most_harts) → (1 ≤ t) × (t ≤ most_turns) → run_by o choices i l h t ≡ Some asked
        → Holds (codes "run" ∷ rest) asked
    by_seed None h t hs ts e = threaded h t (is_some (text_of (codes "every") choices)) hs ts e
    by_seed (Some seed) h t hs ts e =
        drawn_so h t (is_some (text_of (codes "from") choices)) (number_in seed) (number_or 1 most_every (text_of (codes "every") choices)) hs ts refl e

    by_harts : (hs ts : Option ℕ) → number_or 1 most_harts (text_of (codes "harts") choices) ≡ hs
        → number_or most_turns most_turns (text_of (codes "turns") choices) ≡ ts
        → option_and_then (λ h. option_and_then (λ t. run_by (text_of (codes "seed") choices) choices i l h t) ts) hs ≡ Some asked
        → Holds (codes "run" ∷ rest) asked
    by_harts None ts h_is t_is e = some_none e
    by_harts (Some h) None h_is t_is e = some_none e
    by_harts (Some h) (Some t) h_is t_is e =
        by_seed (text_of (codes "seed") choices) h t (bounded 1 most_harts h (text_of (codes "harts") choices) (omega arith) (omega arith) h_is)
        (bounded most_turns most_turns t (text_of (codes "turns") choices) (omega arith) (omega arith) t_is) e

told : (rest values : List Text) (asked : Asked) → values ≡ unmarked rest → explain_of values ≡ Some asked → Holds (codes "explain" ∷ rest) asked
told rest [] asked same e =
    one_is (Holds (codes "explain" ∷ rest)) e (([], ap (λ ws. codes "explain" ∷ ws) (sym same), refl), tt)
told rest (word ∷ others) asked same e = go (refusal_in (word ∷ others)) refl e
  where
    known : (r : Text × Text) (b : Bool) → refusal_in (word ∷ others) ≡ Some r → (if b then Some (Explains r.0 r.1) else None) ≡ Some asked
        → Holds (codes "explain" ∷ rest) asked
    known r true is e = one_is (Holds (codes "explain" ∷ rest)) e ((word ∷ others, ap (λ ws. codes "explain" ∷ ws) (sym same), is), tt)
    known r false is e = some_none e

    go : (o : Option (Text × Text)) → refusal_in (word ∷ others) ≡ o → option_and_then if_known o ≡ Some asked → Holds (codes "explain" ∷ rest) asked
    go None is e = some_none e
    go (Some r) is e = known r (is_explained r.0 r.1) is e

versions : (rest values : List Text) (asked : Asked) → values ≡ unmarked rest → version_of values ≡ Some asked → Holds (codes "version" ∷ rest) asked
versions rest [] asked same e = one_is (Holds (codes "version" ∷ rest)) e (inl (ap (λ ws. codes "version" ∷ ws) (sym same)), tt)
versions rest (v ∷ values) asked same e = some_none e

-- ---- whichever it is

-- what the command of a name is asked for, if it has no options
record Asks (name : Text) (rest : List Text) (asked : Asked) : Type 0 where
  pub shape : Shape
  pub given : Given
  pub is : command_named name commands ≡ Some shape
  pub reads : read shape.choices None rest nothing_given ≡ Some given
  pub asks : asked_of name given ≡ Some asked

-- the name is this one
at : (own name : Text) (rest : List Text) (asked : Asked) → bytes_eq name own ≡ true → (Asks own rest asked → Holds (own ∷ rest) asked) → Asks name rest asked
    → Holds (name ∷ rest) asked
at own name rest asked same holds =
    subst (λ n. Asks n rest asked → Holds (n ∷ rest) asked) (sym ((bytes_eq-Decides name own).0 same)) holds

-- of these words, by this shape
plainly : (own : Text) (shape : Shape) (rest : List Text) (asked : Asked) (a : Asks own rest asked) → command_named own commands ≡ Some shape → shape.choices ≡ []
    → a.given.values ≡ unmarked rest
plainly own shape rest asked a is none =
    let same : shape ≡ a.shape = ap (λ o. unwrap_or o shape) (sym is ∙ a.is) in
    no_options rest a.given (subst (λ cs. read cs None rest nothing_given ≡ Some a.given) (ap (λ (s : Shape). s.choices) (sym same) ∙ none) a.reads)

at_picture : (rest : List Text) (asked : Asked) → Asks (codes "picture") rest asked → Holds (codes "picture" ∷ rest) asked
at_picture rest asked a =
    drawn (codes "picture" ∷ rest) a.given.values asked
    (λ i is e. (ap (λ ws. codes "picture" ∷ ws) (sym (plainly (codes "picture") _ rest asked a refl refl) ∙ e), tt)) a.asks

at_compile : (rest : List Text) (asked : Asked) → Asks (codes "compile") rest asked → Holds (codes "compile" ∷ rest) asked
at_compile rest asked a =
    compiled (codes "compile" ∷ rest) a.given.values asked
    (λ al sc i is e. (ap (λ ws. codes "compile" ∷ ws) (sym (plainly (codes "compile") _ rest asked a refl refl) ∙ e), tt)) a.asks

at_map : (rest : List Text) (asked : Asked) → Asks (codes "map") rest asked → Holds (codes "map" ∷ rest) asked
at_map rest asked a =
    files Maps (codes "map" ∷ rest) a.given.values asked
    (λ i l e. (ap (λ ws. codes "map" ∷ ws) (sym (plainly (codes "map") _ rest asked a refl refl) ∙ e), tt)) a.asks

at_replay : (rest : List Text) (asked : Asked) → Asks (codes "replay") rest asked → Holds (codes "replay" ∷ rest) asked
at_replay rest asked a =
    files Replays (codes "replay" ∷ rest) a.given.values asked
    (λ i l e. (ap (λ ws. codes "replay" ∷ ws) (sym (plainly (codes "replay") _ rest asked a refl refl) ∙ e), tt)) a.asks

at_debug : (rest : List Text) (asked : Asked) → Asks (codes "debug") rest asked → Holds (codes "debug" ∷ rest) asked
at_debug rest asked a =
    files Debugs (codes "debug" ∷ rest) a.given.values asked
    (λ i l e. (ap (λ ws. codes "debug" ∷ ws) (sym (plainly (codes "debug") _ rest asked a refl refl) ∙ e), tt)) a.asks

at_profile : (rest : List Text) (asked : Asked) → Asks (codes "profile") rest asked → Holds (codes "profile" ∷ rest) asked
at_profile rest asked a =
    files Profiles (codes "profile" ∷ rest) a.given.values asked
    (λ i l e. (ap (λ ws. codes "profile" ∷ ws) (sym (plainly (codes "profile") _ rest asked a refl refl) ∙ e), tt)) a.asks

at_races : (rest : List Text) (asked : Asked) → Asks (codes "races") rest asked → Holds (codes "races" ∷ rest) asked
at_races rest asked a =
    raced (codes "races" ∷ rest) a.given.values asked
    (λ i l bs e. (ap (λ ws. codes "races" ∷ ws) (sym (plainly (codes "races") _ rest asked a refl refl) ∙ e), tt)) a.asks

at_log : (rest : List Text) (asked : Asked) → Asks (codes "log") rest asked → Holds (codes "log" ∷ rest) asked
at_log rest asked a =
    logged (codes "log" ∷ rest) a.given.values asked
    (λ l e. (ap (λ ws. codes "log" ∷ ws) (sym (plainly (codes "log") _ rest asked a refl refl) ∙ e), tt))
    (λ t l e. (ap (λ ws. codes "log" ∷ ws) (sym (plainly (codes "log") _ rest asked a refl refl) ∙ e), tt)) a.asks

at_digest : (rest : List Text) (asked : Asked) → Asks (codes "digest") rest asked → Holds (codes "digest" ∷ rest) asked
at_digest rest asked a =
    digested (codes "digest" ∷ rest) a.given.values asked
    (λ f is e. (ap (λ ws. codes "digest" ∷ ws) (sym (plainly (codes "digest") _ rest asked a refl refl) ∙ e), tt)) a.asks

at_verify : (rest : List Text) (asked : Asked) → Asks (codes "verify") rest asked → Holds (codes "verify" ∷ rest) asked
at_verify rest asked a =
    verified (codes "verify" ∷ rest) a.given.values asked
    (λ r i l e. (ap (λ ws. codes "verify" ∷ ws) (sym (plainly (codes "verify") _ rest asked a refl refl) ∙ e), tt)) a.asks

at_asm : (rest : List Text) (asked : Asked) → Asks (codes "asm") rest asked → Holds (codes "asm" ∷ rest) asked
at_asm rest asked a =
    files Assembles (codes "asm" ∷ rest) a.given.values asked
    (λ i l e. (ap (λ ws. codes "asm" ∷ ws) (sym (plainly (codes "asm") _ rest asked a refl refl) ∙ e), tt)) a.asks

at_renew : (rest : List Text) (asked : Asked) → Asks (codes "renew") rest asked → Holds (codes "renew" ∷ rest) asked
at_renew rest asked a =
    files Renews (codes "renew" ∷ rest) a.given.values asked
    (λ i l e. (ap (λ ws. codes "renew" ∷ ws) (sym (plainly (codes "renew") _ rest asked a refl refl) ∙ e), tt)) a.asks

at_run : (rest : List Text) (asked : Asked) → Asks (codes "run") rest asked → Holds (codes "run" ∷ rest) asked
at_run rest asked a =
    ran rest a.given.choices a.given.values asked a.asks

at_blame : (rest : List Text) (asked : Asked) → Asks (codes "blame") rest asked → Holds (codes "blame" ∷ rest) asked
at_blame rest asked a =
    blamed rest a.given.choices a.given.values asked a.asks

at_trace : (rest : List Text) (asked : Asked) → Asks (codes "trace") rest asked → Holds (codes "trace" ∷ rest) asked
at_trace rest asked a =
    traced rest a.given.choices a.given.values asked a.asks

at_dis : (rest : List Text) (asked : Asked) → Asks (codes "dis") rest asked → Holds (codes "dis" ∷ rest) asked
at_dis rest asked a =
    listed rest a.given.choices a.given.values asked
    (λ left. option_left (codes "addresses") Flag rest a.given
    (subst (λ (s : Shape). read s.choices None rest nothing_given ≡ Some a.given) (sym (ap (λ o. unwrap_or o a.shape) (own_shape ∙ a.is))) a.reads) left)
    a.asks
  where
    own_shape : Some (record { name = codes "dis"; values = (codes "IMAGE", Always) ∷ []; choices = (codes "addresses", Flag) ∷ [] })
        ≡ command_named (codes "dis") commands
    own_shape = refl

at_explain : (rest : List Text) (asked : Asked) → Asks (codes "explain") rest asked → Holds (codes "explain" ∷ rest) asked
at_explain rest asked a =
    told rest a.given.values asked (plainly (codes "explain") _ rest asked a refl refl) a.asks

at_version : (rest : List Text) (asked : Asked) → Asks (codes "version") rest asked → Holds (codes "version" ∷ rest) asked
at_version rest asked a =
    versions rest a.given.values asked (plainly (codes "version") _ rest asked a refl refl) a.asks

by_name : (name : Text) (rest : List Text) (asked : Asked) → Asks name rest asked → Holds (name ∷ rest) asked
by_name name rest asked a =
    tell (bytes_eq name (codes "picture")) (λ same. at (codes "picture") name rest asked same (at_picture rest asked) a) (λ no_picture.
    tell (bytes_eq name (codes "compile")) (λ same. at (codes "compile") name rest asked same (at_compile rest asked) a) (λ no_compile.
    tell (bytes_eq name (codes "map")) (λ same. at (codes "map") name rest asked same (at_map rest asked) a) (λ no_map.
    tell (bytes_eq name (codes "run")) (λ same. at (codes "run") name rest asked same (at_run rest asked) a) (λ no_run.
    tell (bytes_eq name (codes "replay")) (λ same. at (codes "replay") name rest asked same (at_replay rest asked) a) (λ no_replay.
    tell (bytes_eq name (codes "debug")) (λ same. at (codes "debug") name rest asked same (at_debug rest asked) a) (λ no_debug.
    tell (bytes_eq name (codes "blame")) (λ same. at (codes "blame") name rest asked same (at_blame rest asked) a) (λ no_blame.
    tell (bytes_eq name (codes "profile")) (λ same. at (codes "profile") name rest asked same (at_profile rest asked) a) (λ no_profile.
    tell (bytes_eq name (codes "trace")) (λ same. at (codes "trace") name rest asked same (at_trace rest asked) a) (λ no_trace.
    tell (bytes_eq name (codes "races")) (λ same. at (codes "races") name rest asked same (at_races rest asked) a) (λ no_races.
    tell (bytes_eq name (codes "log")) (λ same. at (codes "log") name rest asked same (at_log rest asked) a) (λ no_log.
    tell (bytes_eq name (codes "digest")) (λ same. at (codes "digest") name rest asked same (at_digest rest asked) a) (λ no_digest.
    tell (bytes_eq name (codes "verify")) (λ same. at (codes "verify") name rest asked same (at_verify rest asked) a) (λ no_verify.
    tell (bytes_eq name (codes "asm")) (λ same. at (codes "asm") name rest asked same (at_asm rest asked) a) (λ no_asm.
    tell (bytes_eq name (codes "dis")) (λ same. at (codes "dis") name rest asked same (at_dis rest asked) a) (λ no_dis.
    tell (bytes_eq name (codes "renew")) (λ same. at (codes "renew") name rest asked same (at_renew rest asked) a) (λ no_renew.
    tell (bytes_eq name (codes "explain")) (λ same. at (codes "explain") name rest asked same (at_explain rest asked) a) (λ no_explain.
    tell (bytes_eq name (codes "version")) (λ same. at (codes "version") name rest asked same (at_version rest asked) a) (λ no_version.
    some_none (rw (
      no_picture,
      no_compile,
      no_map,
      no_run,
      no_replay,
      no_debug,
      no_blame,
      no_profile,
      no_trace,
      no_races,
      no_log,
      no_digest,
      no_verify,
      no_asm,
      no_dis,
      no_renew,
      no_explain,
      no_version,
    ) at a.asks)))))))))))))))))))

-- words that name something begin with a command's name
in_command : (words : List Text) (asked : Asked) → named_in words ≡ Some asked → Holds words asked
in_command [] asked e = some_none e
in_command (name ∷ rest) asked e = by_shape (command_named name commands) refl e
  where
    by_shape : (o : Option Shape) → command_named name commands ≡ o
        → option_and_then (λ (s : Shape). option_and_then (asked_of name) (read s.choices None rest nothing_given)) o ≡ Some asked → Holds (name ∷ rest) asked
    by_shape None is e = some_none e
    by_shape (Some shape) is e = by_given (read shape.choices None rest nothing_given) refl e
      where
        by_given : (o : Option Given) → read shape.choices None rest nothing_given ≡ o → option_and_then (asked_of name) o ≡ Some asked
            → Holds (name ∷ rest) asked
        by_given None reads e = some_none e
        by_given (Some given) reads e = by_name name rest asked (record { shape = shape; given = given; is = is; reads = reads; asks = e })

-- the one word `--version`
the_flag : (words : List Text) → is_version_flag words ≡ true → words ≡ codes "--version" ∷ []
the_flag [] e = absurd (true≢false (sym e))
the_flag (word ∷ []) e = ap (λ w. w ∷ []) ((bytes_eq-Decides word (codes "--version")).0 e)
the_flag (word ∷ next ∷ rest) e = absurd (true≢false (sym e))

-- what is named is spelled, and within the limits
pub named_holds : (words : List Text) (asked : Asked) → named words ≡ Some asked → Holds words asked
named_holds words asked is = go (is_version_flag words) refl is
  where
    go : (b : Bool) → is_version_flag words ≡ b → (if b then Some TellsVersion else named_in words) ≡ Some asked → Holds words asked
    go true flag is = one_is (Holds words) is (inr (the_flag words flag), tt)
    go false flag is = in_command words asked is
